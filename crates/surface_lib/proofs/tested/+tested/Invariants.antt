use Rattle.std.proofs.Common.{◌≡◌, ◌+◌, ◌*◌, ◌≤◌, length}
use Rattle.std.specs.Option.{option_map}
use Rattle.surface_lib.specs.Words.{test_pieces, test_text}
use Rattle.surface_lib.specs.Surfaces.{names_of}
use Rattle.surface_lib.specs.inside.Cut.{parts_left, bytes_left}
use Rattle.surface_lib.proofs.tested.+tested.Given as goal

abbrev pub decreases-test_piece : goal.decreases-test_piece
decreases-test_piece l = 2 * l.levels + 1

abbrev pub decreases-test_text : goal.decreases-test_text
decreases-test_text l = 2 * l.levels

abbrev pub invariant-test_text-loop-rest : goal.invariant-test_text-loop-rest
invariant-test_text-loop-rest l = record {
  left : test_pieces (names_of l.s) (test_text (names_of l.s) l.inner) l.next (parts_left (option_map (λ r.
      r.now) l.rest))
      ≡ test_text (names_of l.s) l.levels l.number l.text;
  room : l.next + bytes_left (option_map (λ r. r.now) l.rest) ≤ l.number + length l.text + 1;
}

abbrev pub decreases-test_text-loop-rest : goal.decreases-test_text-loop-rest
decreases-test_text-loop-rest l = bytes_left (option_map (λ r. r.now) l.rest)
