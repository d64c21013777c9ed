use Rattle.std.proofs.Common.{IsTrue, arith}
use Rattle.tri_atlas.specs.Maps.{flip_image}
use Rattle.free_groupoid.specs.inside.Images.{IsOnSide}
use Rattle.free_groupoid.proofs.Flipping.{letter_stays, part_reduced, one_stays, one_changes, all_rewritten}
use Rattle.free_groupoid.proofs.images.flipped_word.Goals as goal
use Rattle.free_groupoid.proofs.images.flipped_word.Goals.{then-is_on_side+in_ok-append_reduced+in_ok-push_flip_image}
use Rattle.free_groupoid.proofs.images.flipped_word.Goals.{else-is_on_side}

pub append_reduced-requires-clause-more : goal.append_reduced-requires-clause-more
append_reduced-requires-clause-more c =
    part_reduced c.word_laws.ensures.reduction c.args.word.now c.loop-i.start c.loop-i.i c.requires

pub append_reduced-requires-2-clause-more : goal.append_reduced-requires-2-clause-more
append_reduced-requires-2-clause-more c =
    part_reduced c.word_laws.ensures.reduction c.args.word.now c.loop-i.start _ c.requires

pub loop-i-preserved : goal.loop-i-preserved
loop-i-preserved c =
    elim c.if-is_on_side.branch [
      | then-is_on_side+in_ok-append_reduced+in_ok-push_flip_image w ↦
          rw (w.moved-is, w.start-is)
          (one_changes c.word_laws.ensures.reduction (flip_image c.args.e c.args.b c.args.d) c.args.word.now _ _ _ _ _
          c.index-word-i.result c.loop-i.invariant c.loop-i-test.true c.index-word-i.is w.in_ok-append_reduced.ensures
          w.in_ok-push_flip_image.ensures)
      | else-is_on_side w ↦
          (let off : ¬ (IsOnSide c.args.b c.args.d c.index-word-i.result) =
          λ h. let on : IsTrue c.is_on_side.result = c.is_on_side.ensures.1 h in grind arith in
          rw (w.moved-is, w.start-is)
          (one_stays (flip_image c.args.e c.args.b c.args.d) c.args.word.now _ _ _ c.index-word-i.result
          c.loop-i.invariant c.loop-i-test.true c.index-word-i.is
          (letter_stays c.label_laws.ensures c.args.e c.args.b c.args.d c.index-word-i.result off)))
    ]

pub returns : goal.returns
returns c =
    all_rewritten c.word_laws.ensures.reduction (flip_image c.args.e c.args.b c.args.d) c.args.word.now _ _ _ _
    c.loop-i.invariant c.loop-i.auto.i-end c.loop-i-test.false c.in_ok-append_reduced-2.ensures
