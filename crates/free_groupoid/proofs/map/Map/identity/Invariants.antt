use Rattle.std.proofs.Common.{◌≡◌, ◌∷◌, [], pos, map}
use Rattle.std.specs.List.{range_with_len}
use Rattle.free_groupoid.specs.inside.Images.{words_of}
use Rattle.free_groupoid.proofs.map.Map.identity.Given as goal

abbrev pub invariant-loop-n : goal.invariant-loop-n
invariant-loop-n l = words_of l.images.items ≡ map (λ n. pos n ∷ []) (range_with_len 0 l.n)
