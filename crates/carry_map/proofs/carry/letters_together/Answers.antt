use Rattle.std.proofs.Common.{sym, ◌∙◌, ap, length, List, take_all}
use Rattle.free_groupoid.specs.Walks.{DualWalk}
use Rattle.free_groupoid.specs.MapRefusals.{told}
use Rattle.train_track.specs.Branches.{words_of}
use Rattle.carry_map.specs.AnchorAnswers.{letters_together}
use Rattle.carry_map.proofs.WalkLists.{letters_more, told_more}
use Rattle.carry_map.proofs.carry.letters_together.Goals as goal

pub loop-walk-preserved : goal.loop-walk-preserved
loop-walk-preserved c =
    c.saturating_add-letters.ensures
    ∙ told_more _ (length c.walk-item.result.letters) c.loop-walk.letters c.len.result c.loop-walk.invariant
    (c.len.ensures ∙ c.walk.inside.letters.ok.0 ∙ ap (λ (w : DualWalk). length w.letters) c.walk.view_is)
    ∙ ap told (sym (letters_more c.args.walks.now c.loop-walk.walk-index c.walk-item.result c.loop-walk-test.true
    c.walk-item.is))

pub returns : goal.returns
returns c =
    c.loop-walk.invariant
    ∙ ap (λ (walks : List DualWalk). told (letters_together (words_of walks)))
    (take_all c.loop-walk.walk-index c.args.walks.now c.loop-walk-test.false)
