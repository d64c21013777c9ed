use Rattle.std.proofs.Common.{◌++◌, ◌∙◌, List, ℤ, ap}
use Rattle.ideal_tri.specs.Words.{reduce}
use Rattle.free_groupoid.proofs.Appending.{letter_between}
use Rattle.free_groupoid.proofs.letter.push_flip_image.Goals as goal

pub returns : goal.returns
returns c =
    letter_between c.word_laws.ensures.reduction c.args.word.now.items _ _ _ _ _ c.args.x
    (c.in_ok-push_if_any.ensures.value ∙ ap (λ (z : List ℤ). reduce (c.args.word.now.items ++ z)) c.step_before.ensures)
    c.in_ok-push_reduced.ensures.value
    (c.in_ok-push_if_any-2.ensures.value ∙ ap (λ (z : List ℤ). reduce (c.push_reduced.new.word.items ++ z))
    c.step_after.ensures)
