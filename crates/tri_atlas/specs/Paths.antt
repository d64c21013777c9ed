-- Paths of moves of an atlas, each starting where the one before ended.
use Rattle.std.specs.Prelude.{◌≡◌, ℕ, Bool, true, false, List, [], ◌∷◌, ◌++◌, map, reverse}
use Rattle.tri_atlas.specs.Moves.{Move, flip, unflip, relabel, triangle_image}
use Rattle.tri_atlas.specs.Arena.{Arena, MoveHandle, triangulation, IsTriIn, IsMoveIn, source_of}
use Rattle.tri_atlas.specs.Arena.{target_of, step_of, back}

-- the numbers of the triangulations where a path starts and ends, and its moves
pub record MovePath : Type 0 where
  pub start : ℕ
  pub end : ℕ
  pub moves : List MoveHandle

-- the moves are of the arena, and lead from s to t
abbrev pub Lead : Arena → ℕ → List MoveHandle → ℕ → Type 0
Lead arena s [] t = s ≡ t
Lead arena s (m ∷ moves) t =
    IsMoveIn arena m × (source_of arena m ≡ s) × Lead arena (target_of arena m) moves t

-- the path starts and ends at triangulations of the arena, and its moves lead from the one to the
-- other
pub record IsPathIn (arena : Arena) (path : MovePath) : Type 0 where
  pub start_in : IsTriIn arena path.start
  pub end_in : IsTriIn arena path.end
  pub moves_lead : Lead arena path.start path.moves path.end

-- what the moves do, one after another
abbrev pub moves_of : Arena → MovePath → List Move
moves_of arena path = map (step_of arena) path.moves

-- where a triangle goes across a move of the arena
abbrev pub triangle_across : Arena → MoveHandle → ℕ → ℕ
triangle_across arena m t =
    triangle_image (triangulation arena (source_of arena m))
    (triangulation arena (target_of arena m)) (step_of arena m) t

-- and along moves, one after another
abbrev pub triangle_along : Arena → List MoveHandle → ℕ → ℕ
triangle_along arena [] t = t
triangle_along arena (m ∷ moves) t = triangle_along arena moves (triangle_across arena m t)

-- the path that stays where it starts
abbrev pub empty_path : ℕ → MovePath
empty_path t = record { start = t; end = t; moves = [] }

-- one more move at the end, which leads to t
abbrev pub then_move : MovePath → MoveHandle → ℕ → MovePath
then_move path m t = record { start = path.start; end = t; moves = path.moves ++ m ∷ [] }

-- the moves of the other path after those of the first
abbrev pub joined : MovePath → MovePath → MovePath
joined path other = record {
  start = path.start;
  end = other.end;
  moves = path.moves ++ other.moves;
}

-- the moves backwards, from the end to the start
abbrev pub inverse_path : MovePath → MovePath
inverse_path path = record {
  start = path.end;
  end = path.start;
  moves = reverse (map back path.moves);
}

-- the move is a flip, forwards or backwards
abbrev pub is_flip : Move → Bool
is_flip (flip e a b c d) = true
is_flip (unflip e a b c d) = true
is_flip (relabel images) = false
