use Rattle.std.proofs.Common.{◌≡◌}
use Rattle.std.specs.Prelude.{take}
use Rattle.std.specs.List.{flat_map}
use Rattle.carry_map.specs.inside.Rays.{words_in, longer}
use Rattle.carry_map.proofs.windows.all_longer.Given as goal

abbrev pub invariant-loop-word : goal.invariant-loop-word
invariant-loop-word l = words_in l.found.items ≡ flat_map (longer l.tri l.left_out l.u)
    (words_in (take l.word-index l.words))
