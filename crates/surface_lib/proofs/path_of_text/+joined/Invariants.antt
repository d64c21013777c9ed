use Rattle.std.proofs.Common.{◌≡◌, ◌+◌, ◌*◌}
use Rattle.std.specs.Option.{option_map}
use Rattle.tri_atlas.specs.Arena.{back}
use Rattle.surface_lib.specs.Words.{moves_written, value_of_pieces, value_of_text}
use Rattle.surface_lib.specs.Surfaces.{names_of, IsLoop}
use Rattle.surface_lib.specs.inside.Cut.{parts_left, bytes_left}
use Rattle.surface_lib.proofs.path_of_text.+joined.Given as goal

abbrev pub decreases-path_of_piece : goal.decreases-path_of_piece
decreases-path_of_piece l = 2 * l.levels + 1

abbrev pub decreases-path_of_text : goal.decreases-path_of_text
decreases-path_of_text l = 2 * l.levels

abbrev pub invariant-path_of_text-loop-rest : goal.invariant-path_of_text-loop-rest
invariant-path_of_text-loop-rest l = record {
  closed : IsLoop l.s.atlas l.path;
  left : value_of_pieces (moves_written back) (names_of l.s) (value_of_text (moves_written back) (names_of l.s) l.inner)
      l.path.moves (parts_left (option_map (λ r. r.now) l.rest))
      ≡ value_of_text (moves_written back) (names_of l.s) l.levels l.text;
}

abbrev pub decreases-path_of_text-loop-rest : goal.decreases-path_of_text-loop-rest
decreases-path_of_text-loop-rest l = bytes_left (option_map (λ r. r.now) l.rest)
