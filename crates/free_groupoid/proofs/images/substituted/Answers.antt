use Rattle.std.proofs.Common.{◌<◌, ◌≤ℤ◌, ◌<ℤ◌, pos, length, sym, subst, ap, ◌∙◌, rules}
use Rattle.ideal_tri.specs.Words.{inverse_word, IsReduced}
use Rattle.free_groupoid.specs.GroupoidMaps.{substitution}
use Rattle.free_groupoid.specs.inside.Images.{words_of}
use Rattle.free_groupoid.proofs.Appending.{next, images_on}
use Rattle.free_groupoid.proofs.Lists.{image_on, image_back, held_by_word}
use Rattle.free_groupoid.proofs.images.substituted.Goals as goal
use Rattle.free_groupoid.proofs.images.substituted.Goals.{then-get-ge0+in_ok-append_reduced}
use Rattle.free_groupoid.proofs.images.substituted.Goals.{else-get-ge0+in_ok-append_inverse_reduced}

pub append_reduced-requires-clause-more : goal.append_reduced-requires-clause-more
append_reduced-requires-clause-more c =
    let inside : c.edge.result < length c.args.words.now = search rules in
    subst IsReduced (sym c.deref.ensures.value)
    (held_by_word IsReduced _ _ c.edge.result c.requires.reduced inside c.index-words-edge.is)

pub append_inverse_reduced-requires-clause-more : goal.append_inverse_reduced-requires-clause-more
append_inverse_reduced-requires-clause-more c =
    let inside : c.edge.result < length c.args.words.now = search rules in
    subst IsReduced (sym c.deref-else-get-ge0.ensures.value)
    (held_by_word IsReduced _ _ c.edge.result c.requires.reduced inside c.index-words-edge.is)

pub loop-x-preserved : goal.loop-x-preserved
loop-x-preserved c =
    let inside : c.edge.result < length c.args.words.now = search rules in
    elim c.if-get-ge0.branch [
      | then-get-ge0+in_ok-append_reduced w ↦
          (let high : pos 0 ≤ℤ c.x-item.result = search rules in
          rw (w.image-is)
          (next c.word_laws.ensures.reduction _ _ _ _ _ c.loop-x.invariant w.in_ok-append_reduced.ensures
          (images_on (substitution (words_of c.args.words.now)) c.args.word.now c.loop-x.x-index c.x-item.result _
          c.loop-x-test.true c.x-item.is
          (w.deref.ensures.value
          ∙ image_on c.args.words.now c.index-words-edge.result c.x-item.result c.edge.result high c.edge.ensures inside
          c.index-words-edge.is))))
      | else-get-ge0+in_ok-append_inverse_reduced w ↦
          (let low : c.x-item.result <ℤ pos 0 = search rules in
          rw (w.image-is)
          (next c.word_laws.ensures.reduction _ _ _ _ _ c.loop-x.invariant w.in_ok-append_inverse_reduced.ensures
          (images_on (substitution (words_of c.args.words.now)) c.args.word.now c.loop-x.x-index c.x-item.result _
          c.loop-x-test.true c.x-item.is
          (ap inverse_word w.deref-else-get-ge0.ensures.value
          ∙ image_back c.args.words.now c.index-words-edge.result c.x-item.result c.edge.result low c.edge.ensures
          inside c.index-words-edge.is))))
    ]
