use Rattle.std.proofs.Common.{◌≡◌, arith, sym, subst}
use Rattle.std.proofs.lemmas.Grind.{common_steps}
use Rattle.tri_atlas.specs.Arena.{EdgeHandle, IsArena, IsEdgeIn, edge_after}
use Rattle.tri_atlas.proofs.Arenas.{edge_carried}
use Rattle.tri_atlas.proofs.atlas.Atlas.edge_after.Goals as goal

pub returns-clause-here : goal.returns-clause-here
returns-clause-here c =
    let after : EdgeHandle = record { tri = c.target.result; label = c.label_after.result } in
    let value : after ≡ edge_after c.args.self.now c.args.m c.args.e = grind (arith, common_steps) in
    subst (IsEdgeIn c.args.self.now) (sym value)
    (edge_carried c.map_laws.ensures.moves c.args.self.now c.args.m c.args.e
    (subst IsArena c.self.view_is c.self.invariant.arena)
    c.requires.here c.requires.edge c.requires.source)
