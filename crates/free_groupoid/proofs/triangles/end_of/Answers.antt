use Rattle.std.proofs.Common.{◌≡◌, ◌∙◌, ℕ, ℤ, List, sym, ap, subst, arith}
use Rattle.ideal_tri.specs.Labels.{inverse}
use Rattle.ideal_tri.specs.Triangulations.{IsLabel, IsWalk, triangle_of}
use Rattle.free_groupoid.proofs.Walks.{walk_to_end}
use Rattle.free_groupoid.proofs.triangles.end_of.Goals as goal
use Rattle.free_groupoid.proofs.triangles.end_of.Goals.{In-Some}

-- the last letter, as it was read
ends : (c : In-Some) (t : ℕ) → IsWalk c.args.tri.now c.args.walk.now.start c.args.walk.now.letters t
    → IsLabel c.args.tri.now (inverse c.in-Some.x.now) × (triangle_of c.args.tri.now (inverse c.in-Some.x.now) ≡ t)
ends c t h =
    let inside = rw (← c.walk.view_is) at h in
    walk_to_end c.label_laws.ensures _ _ t _ c.in-Some.x.now (subst (λ (w : List ℤ). IsWalk c.args.tri.now c.walk.inside.start w t) (sym
    c.deref.ensures.value) inside)
    (omega (arith, c.in-Some.ensures.item.3.0)) c.in-Some.ensures.item.1

pub place-requires : goal.place-requires
place-requires c =
    let (t, h) = c.requires in
    subst (IsLabel c.args.tri.now) (sym c.inverse.ensures) (ends (goal.at.place-requires c).In-Some t h).0

pub returns-in-Some : goal.returns-in-Some
returns-in-Some c = λ t h.
    c.place.ensures.triangle ∙ ap (triangle_of c.args.tri.now) c.inverse.ensures
    ∙ (ends (goal.at.returns-in-Some c).In-Some t h).1
