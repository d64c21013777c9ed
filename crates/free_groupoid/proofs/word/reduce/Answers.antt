use Rattle.std.proofs.Common.{◌≡◌, ◌≢◌, sym, ◌∙◌, arith}
use Rattle.std.proofs.lemmas.Bool.Decides.{Decides-int_eq, not_from_Decides}
use Rattle.ideal_tri.specs.Labels.{inverse}
use Rattle.free_groupoid.proofs.InPlace.{cancelled, pushed_first, pushed_on, at_end}
use Rattle.free_groupoid.proofs.word.reduce.Goals as goal
use Rattle.free_groupoid.proofs.word.reduce.Goals.{then-top-gt0+then-eq, else-top-gt0}
use Rattle.free_groupoid.proofs.word.reduce.Goals.{else-top-gt0-via-then-top-gt0+else-eq, else-top-gt0-via-else-top-gt0}

pub loop-i-preserved : goal.loop-i-preserved
loop-i-preserved c =
    elim c.if-top-gt0.branch [
      | then-top-gt0+then-eq w ↦
          (let opposite : w.index.result.now ≡ inverse c.index-x.result.now =
          (Decides-int_eq w.index.result.now w.inverse.result).0 (sym w.eq.ensures ∙ w.if-eq.true)
          ∙ w.inverse.ensures in
          rw (w.letters-is, w.top-is)
          (cancelled c.label_laws.ensures c.word_laws.ensures.reduction c.letter_laws.ensures _ _ _ _ _ _ c.loop-i.invariant (omega arith) (omega arith)
          c.index-x.ensures w.index.ensures opposite))
      | else-top-gt0 w ↦
          rw (w.letters-is, w.top-is)
          (elim w.else-top-gt0.branch [
            | else-top-gt0-via-then-top-gt0+else-eq w' ↦
                (let apart : w'.index.result.now ≢ inverse c.index-x.result.now =
                λ e. not_from_Decides _ (Decides-int_eq w'.index.result.now w'.inverse.result) (sym w'.eq.ensures
                ∙ w'.if-eq.false)
                (e ∙ sym w'.inverse.ensures) in
                pushed_on c.label_laws.ensures c.word_laws.ensures.reduction c.letter_laws.ensures _ _ _ _ _ _ c.loop-i.invariant (omega arith) (omega arith) c.index-x.ensures w'.index.ensures
                apart)
            | else-top-gt0-via-else-top-gt0 w' ↦
                pushed_first c.letter_laws.ensures _ _ _ _ _ c.loop-i.invariant (omega arith) c.index-x.ensures (omega arith)
          ])
    ]

pub returns : goal.returns
returns c = c.truncate.ensures.items ∙ at_end c.word_laws.ensures.reduction _ _ _ _ c.loop-i.invariant (omega arith)
