use Rattle.std.proofs.Common.{◌≡◌, ◌≢◌, sym, ◌∙◌, arith}
use Rattle.std.proofs.lemmas.Bool.Decides.{Decides-int_eq, not_from_Decides}
use Rattle.ideal_tri.specs.Labels.{inverse}
use Rattle.free_groupoid.proofs.Ends.{one_more_stripped, ends_apart, all_stripped}
use Rattle.free_groupoid.proofs.word.matching_ends.Goals as goal

pub loop-ends-preserved : goal.loop-ends-preserved
loop-ends-preserved c =
    let opposite : c.index-letters-count.result ≡ inverse c.index-letters-ends.result =
    (Decides-int_eq c.index-letters-count.result c.inverse.result).0 (sym c.eq.ensures ∙ c.if-eq.true)
    ∙ c.inverse.ensures in
    one_more_stripped _ _ _ _ c.loop-ends.invariant (omega arith) c.index-letters-ends.is c.index-letters-count.is
    opposite

pub returns-else-eq-clause-between : goal.returns-else-eq-clause-between
returns-else-eq-clause-between c =
    let apart : c.index-letters-count.result ≢ inverse c.index-letters-ends.result =
    λ e. not_from_Decides _ (Decides-int_eq c.index-letters-count.result c.inverse.result) (sym c.eq.ensures
    ∙ c.if-eq.false) (e ∙ sym c.inverse.ensures) in
    ends_apart c.label_laws.ensures _ _ _ _ c.loop-ends.invariant (omega arith) c.index-letters-ends.is c.index-letters-count.is apart

pub returns-after-loop-ends-clause-between : goal.returns-after-loop-ends-clause-between
returns-after-loop-ends-clause-between c = all_stripped _ _ c.loop-ends.invariant (omega arith)
