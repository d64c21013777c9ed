use Rattle.std.proofs.Common.{take}
use Rattle.std.specs.List.{flat_map}
use Rattle.free_groupoid.specs.GroupoidMaps.{substitution}
use Rattle.free_groupoid.specs.inside.Images.{words_of}
use Rattle.free_groupoid.proofs.Appending.{Reduces}
use Rattle.free_groupoid.proofs.images.substituted.Given as goal

abbrev pub invariant-loop-x : goal.invariant-loop-x
invariant-loop-x l = Reduces (flat_map (substitution (words_of l.words)) (take l.x-index l.word)) l.image.items
