use Rattle.std.proofs.Common.{◌≡◌, map, take}
use Rattle.free_groupoid.specs.GroupoidMaps.{substitution, reduced_image}
use Rattle.free_groupoid.specs.inside.Images.{words_of}
use Rattle.free_groupoid.proofs.images.composed_words.Given as goal

abbrev pub invariant-loop-word : goal.invariant-loop-word
invariant-loop-word l =
    words_of l.composed.items ≡ map (reduced_image (substitution (words_of l.others))) (take l.word-index (words_of
    l.words))
