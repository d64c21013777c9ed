use Rattle.std.proofs.Common.{length, sym, subst, ap, ◌∙◌}
use Rattle.free_groupoid.specs.GroupoidMaps.{substitution, reduced_image}
use Rattle.free_groupoid.specs.inside.Images.{words_of, IsBelow}
use Rattle.free_groupoid.proofs.Lists.{held_by_word, one_more_word, all_words}
use Rattle.free_groupoid.proofs.images.composed_words.Goals as goal

pub substituted-requires-clause-below : goal.substituted-requires-clause-below
substituted-requires-clause-below c =
    subst (IsBelow (length c.args.others.now)) (sym c.deref.ensures.value)
    (held_by_word (IsBelow (length c.args.others.now)) _ _ c.loop-word.word-index c.requires.below c.loop-word-test.true
    c.word-item.is)

pub loop-word-preserved : goal.loop-word-preserved
loop-word-preserved c =
    ap words_of c.in_ok-push.ensures.ok
    ∙ one_more_word (reduced_image (substitution (words_of c.args.others.now))) c.args.words.now
    c.loop-word.composed.items c.word-item.result
    c.in_ok-substituted.field-0 c.loop-word.word-index c.loop-word-test.true c.word-item.is
    (c.in_ok-substituted.ensures ∙ ap (reduced_image (substitution (words_of c.args.others.now))) c.deref.ensures.value)
    c.loop-word.invariant

pub returns : goal.returns
returns c =
    all_words (reduced_image (substitution (words_of c.args.others.now))) c.args.words.now c.loop-word.composed.items _
    c.loop-word-test.false c.loop-word.invariant
