use Rattle.std.proofs.Common.{◌+◌, ◌∙◌, ℕ, sym, ap, subst, rules, take}
use Rattle.ideal_tri.specs.Triangulations.{IsLabel, IsWalk, triangle_of}
use Rattle.free_groupoid.proofs.Walks.{walk_more}
use Rattle.free_groupoid.proofs.walk.Walk.new.Goals as goal

pub loop-i-preserved : goal.loop-i-preserved
loop-i-preserved c =
    let label : IsLabel c.args.tri.now c.index-letters-i.result = search rules in
    subst (λ (t : ℕ). IsWalk c.args.tri.now c.args.start (take (c.loop-i.i + 1) c.args.letters.now) t)
    (sym (c.place-stand.ensures.triangle ∙ ap (triangle_of c.args.tri.now) c.inverse.ensures))
    (walk_more _ _ _ _ _ _ c.loop-i.invariant c.loop-i-test.true c.index-letters-i.is label (sym
    c.place.ensures.triangle ∙ c.if-place-stand.false))
