use Rattle.std.proofs.Common.{◌≡◌, ◌∙◌, ◌<◌, ℕ, sym, ap, subst, length, get_or, map}
use Rattle.tri_atlas.specs.Arena.{Arena, MoveHandle, IsMoveIn}
use Rattle.tri_atlas.specs.inside.Fields.{entry_of}
use Rattle.tri_atlas.proofs.Kept.{step_bijective}
use Rattle.tri_atlas.proofs.atlas.Atlas.step.Goals as goal

pub backwards-requires-clause-bijective : goal.backwards-requires-clause-bijective
backwards-requires-clause-bijective c =
    let number : c.m.inside.number ≡ c.args.m.number = ap (λ (m : MoveHandle). m.number) c.m.view_is in
    let here : c.args.m.number < length (map (entry_of c.self.inside.edges) c.self.inside.moves.items) =
    subst (λ (a : Arena). IsMoveIn a c.args.m) (sym c.self.view_is) c.requires in
    step_bijective c.relabelling_laws.ensures c.self.inside.edges c.args.m.number c.self.inside.triangulations.items
    c.self.inside.moves.items c.index-kept.result.now here (c.self.invariant.arena.moves c.args.m.number here)
    (c.index-kept.ensures ∙ ap (λ (k : ℕ). get_or c.self.inside.moves.items k c.index-kept.result.now) number)
