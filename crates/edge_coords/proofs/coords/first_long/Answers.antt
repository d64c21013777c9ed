use Rattle.std.proofs.Common.{refl, subst, ℕ, ◌<◌, arith, All}
use Rattle.std.specs.Prelude.{IsTrue, false}
use Rattle.ideal_tri.specs.Labels.{edge_of}
use Rattle.ideal_tri.specs.Vectors.{HasNoLongSide}
use Rattle.edge_coords.proofs.Triangles.{pass_next, least_failing, all_pass}
use Rattle.edge_coords.proofs.coords.first_long.Goals as goal

pub has_no_long_side-requires-clause-sides : goal.has_no_long_side-requires-clause-sides
has_no_long_side-requires-clause-sides c =
    subst (λ (n : ℕ). All (λ x. edge_of x < n) c.triple.result) (omega arith) c.triple.ensures.labels

pub returns-then-not-has_no_long_side-clause-some : goal.returns-then-not-has_no_long_side-clause-some
returns-then-not-has_no_long_side-clause-some c =
    least_failing (HasNoLongSide c.args.w.now) c.args.tri.now c.triple.result c.loop-t.t (omega arith)
    c.triple.ensures.triple
    c.loop-t.invariant (λ here. let t : IsTrue false = c.if-not-has_no_long_side.ensures.1 here in grind arith)

pub loop-t-preserved : goal.loop-t-preserved
loop-t-preserved c =
    pass_next (HasNoLongSide c.args.w.now) c.args.tri.now c.triple.result c.loop-t.t c.triple.ensures.triple
    c.loop-t.invariant
    (c.if-not-has_no_long_side.ensures.0 refl)

pub returns-clause-none : goal.returns-clause-none
returns-clause-none c = all_pass (HasNoLongSide c.args.w.now) c.args.tri.now c.loop-t.t (omega arith) c.loop-t.invariant
