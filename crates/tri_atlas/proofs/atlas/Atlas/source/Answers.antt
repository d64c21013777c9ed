use Rattle.std.proofs.Common.{arith, ◌≡◌, sym, subst}
use Rattle.std.proofs.lemmas.Grind.{common_steps}
use Rattle.tri_atlas.specs.Arena.{IsArena, IsTriIn, source_of}
use Rattle.tri_atlas.proofs.Arenas.{ends_in}
use Rattle.tri_atlas.proofs.atlas.Atlas.source.Goals as goal

pub returns-then-m-clause-here : goal.returns-then-m-clause-here
returns-then-m-clause-here c =
    let value : c.index-kept.result.now.target ≡ source_of c.args.self.now c.args.m = grind (arith, common_steps) in
    subst (IsTriIn c.args.self.now) (sym value)
    (ends_in c.args.self.now c.args.m (subst IsArena c.self.view_is c.self.invariant.arena) c.requires).0

pub returns-else-m-clause-here : goal.returns-else-m-clause-here
returns-else-m-clause-here c =
    let value : c.index-kept.result.now.source ≡ source_of c.args.self.now c.args.m = grind (arith, common_steps) in
    subst (IsTriIn c.args.self.now) (sym value)
    (ends_in c.args.self.now c.args.m (subst IsArena c.self.view_is c.self.invariant.arena) c.requires).0
