use Rattle.std.proofs.Common.{◌≡◌}
use Rattle.tri_atlas.specs.Maps.{letters_below}
use Rattle.free_groupoid.specs.GroupoidMaps.{substitution}
use Rattle.free_groupoid.specs.inside.Images.{words_of}
use Rattle.free_groupoid.specs.MapRefusals.{told}
use Rattle.free_groupoid.proofs.images.letters_in.Given as goal

abbrev pub invariant-loop-word : goal.invariant-loop-word
invariant-loop-word l = l.letters ≡ told (letters_below l.word-index (substitution (words_of l.words)))
