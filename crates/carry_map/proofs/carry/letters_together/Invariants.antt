use Rattle.std.proofs.Common.{◌≡◌, take}
use Rattle.free_groupoid.specs.MapRefusals.{told}
use Rattle.train_track.specs.Branches.{words_of}
use Rattle.carry_map.specs.AnchorAnswers.{letters_together}
use Rattle.carry_map.proofs.carry.letters_together.Given as goal

abbrev pub invariant-loop-walk : goal.invariant-loop-walk
invariant-loop-walk l = l.letters ≡ told (letters_together (words_of (take l.walk-index l.walks)))
