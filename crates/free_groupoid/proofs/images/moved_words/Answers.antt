use Rattle.std.proofs.Common.{sym, subst, ap, ◌∙◌}
use Rattle.tri_atlas.specs.Maps.{image_of_letter}
use Rattle.tri_atlas.specs.Steps.{move_of}
use Rattle.ideal_tri.specs.Words.{IsReduced}
use Rattle.ideal_tri.specs.declared.tri.TheConstants.{EDGES}
use Rattle.free_groupoid.specs.GroupoidMaps.{reduced_image}
use Rattle.free_groupoid.specs.inside.Images.{IsBelow}
use Rattle.free_groupoid.proofs.Lists.{held_by_word}
use Rattle.free_groupoid.proofs.Rewriting.{words_none, words_more, words_all}
use Rattle.free_groupoid.proofs.images.moved_words.Goals as goal

pub loop-word-init : goal.loop-word-init
loop-word-init c = words_none _ _ _ c.new-moved.ensures.items

pub moved_word-requires-clause-below : goal.moved_word-requires-clause-below
moved_word-requires-clause-below c =
    subst (IsBelow EDGES) (sym c.deref.ensures.value)
    (held_by_word (IsBelow EDGES) _ _ c.loop-word.word-index c.requires.below c.loop-word-test.true c.word-item.is)

pub moved_word-requires-clause-reduced : goal.moved_word-requires-clause-reduced
moved_word-requires-clause-reduced c =
    subst IsReduced (sym c.deref.ensures.value)
    (held_by_word IsReduced _ _ c.loop-word.word-index c.requires.reduced c.loop-word-test.true c.word-item.is)

pub loop-word-preserved : goal.loop-word-preserved
loop-word-preserved c =
    words_more _ _ _ _ c.word-item.result c.in_ok-moved_word.field-0 _ c.loop-word.invariant c.loop-word-test.true
    c.word-item.is
    c.in_ok-push.ensures.ok
    (λ n below. c.in_ok-moved_word.ensures n (subst (IsBelow n) (sym c.deref.ensures.value) below)
    ∙ ap (reduced_image (image_of_letter (move_of n c.args.step.now))) c.deref.ensures.value)

pub returns : goal.returns
returns c = λ n below. words_all _ _ _ _ n c.loop-word.invariant c.loop-word-test.false below
