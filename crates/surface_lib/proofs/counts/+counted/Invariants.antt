use Rattle.std.proofs.Common.{◌≡◌, ◌+◌, ◌*◌}
use Rattle.std.specs.Option.{option_map}
use Rattle.surface_lib.specs.Words.{value_of_pieces, value_of_text}
use Rattle.surface_lib.specs.Surfaces.{names_of}
use Rattle.surface_lib.specs.inside.Cut.{parts_left, bytes_left}
use Rattle.surface_lib.specs.inside.Counted.{counted}
use Rattle.surface_lib.proofs.counts.+counted.Given as goal

abbrev pub decreases-count_piece : goal.decreases-count_piece
decreases-count_piece l = 2 * l.levels + 1

abbrev pub decreases-count_text : goal.decreases-count_text
decreases-count_text l = 2 * l.levels

abbrev pub invariant-count_text-loop-rest : goal.invariant-count_text-loop-rest
invariant-count_text-loop-rest l =
    value_of_pieces (counted l.s.atlas) (names_of l.s) (value_of_text (counted l.s.atlas) (names_of l.s)
    l.inner)
    l.counts (parts_left (option_map (λ r. r.now) l.rest))
    ≡ value_of_text (counted l.s.atlas) (names_of l.s) l.levels l.text

abbrev pub decreases-count_text-loop-rest : goal.decreases-count_text-loop-rest
decreases-count_text-loop-rest l = bytes_left (option_map (λ r. r.now) l.rest)
