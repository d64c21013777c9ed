-- What holds of atlases as they grow, of their moves, and of their paths.
use Rattle.std.specs.Prelude.{◌≡◌, ◌<◌, ℕ, ℤ, List, ◌++◌, length, map, take}
use Rattle.std.specs.List.{flat_map, repeat}
use Rattle.ideal_tri.specs.Words.{reduce}
use Rattle.ideal_tri.specs.Triangulations.{IsWalk}
use Rattle.tri_atlas.specs.Moves.{Move, IsMove, ArePath, back_of, back_along}
use Rattle.tri_atlas.specs.Maps.{IsMap, image_of_letter, path_map}
use Rattle.tri_atlas.specs.MapLaws.{RepeatLaws}
use Rattle.tri_atlas.specs.Arena.{Arena, EdgeHandle, MoveHandle, triangulation, source_of}
use Rattle.tri_atlas.specs.Arena.{target_of}
use Rattle.tri_atlas.specs.Arena.{step_of, back, IsTriIn, IsEdgeIn, IsMoveIn, IsArena, Grows}
use Rattle.tri_atlas.specs.Paths.{MovePath, IsPathIn, moves_of, triangle_across, triangle_along}
use Rattle.tri_atlas.specs.Paths.{joined, inverse_path}

-- what is of an atlas stays so, and means the same, as the atlas grows
pub record GrowthLaws : Type 0 where
  pub none : (arena : Arena) → Grows arena arena
  pub further : (first second third : Arena) → Grows first second → Grows second third
      → Grows first third
  pub tri_in : (old new : Arena) (t : ℕ) → Grows old new → IsTriIn old t → IsTriIn new t
  pub triangulation : (old new : Arena) (t : ℕ) → Grows old new → IsTriIn old t
      → triangulation new t ≡ triangulation old t
  pub edge_in : (old new : Arena) (e : EdgeHandle) → Grows old new → IsEdgeIn old e → IsEdgeIn new e
  pub move_in : (old new : Arena) (m : MoveHandle) → Grows old new → IsMoveIn old m → IsMoveIn new m
  pub source : (old new : Arena) (m : MoveHandle) → Grows old new → IsMoveIn old m
      → source_of new m ≡ source_of old m
  pub target : (old new : Arena) (m : MoveHandle) → Grows old new → IsMoveIn old m
      → target_of new m ≡ target_of old m
  pub step : (old new : Arena) (m : MoveHandle) → Grows old new → IsMoveIn old m
      → step_of new m ≡ step_of old m
  pub path_in : (old new : Arena) (path : MovePath) → Grows old new → IsPathIn old path
      → IsPathIn new path
  pub moves : (old new : Arena) (path : MovePath) → Grows old new → IsPathIn old path
      → moves_of new path ≡ moves_of old path
  pub triangles : (old new : Arena) (path : MovePath) (t : ℕ) → IsArena old → Grows old new
      → IsPathIn old path → triangle_along new path.moves t ≡ triangle_along old path.moves t

-- moves of an atlas lead from their start to their end, and their maps carry walks to walks
pub record HandleLaws : Type 0 where
  pub ends : (arena : Arena) (m : MoveHandle) → IsArena arena → IsMoveIn arena m
      → IsTriIn arena (source_of arena m) × IsTriIn arena (target_of arena m)
  pub leads : (arena : Arena) (m : MoveHandle) → IsArena arena → IsMoveIn arena m
      → IsMove (triangulation arena (source_of arena m)) (triangulation arena (target_of arena m))
      (step_of arena m)
  pub back_source : (arena : Arena) (m : MoveHandle) → source_of arena (back m) ≡ target_of arena m
  pub back_target : (arena : Arena) (m : MoveHandle) → target_of arena (back m) ≡ source_of arena m
  pub maps : (arena : Arena) (m : MoveHandle) → IsArena arena → IsMoveIn arena m
      → IsMap (triangulation arena (source_of arena m)) (triangulation arena (target_of arena m))
      (image_of_letter (step_of arena m)) (triangle_across arena m)
  pub back : (arena : Arena) (m : MoveHandle) → IsArena arena → IsMoveIn arena m
      → step_of arena (back m) ≡ back_of (step_of arena m)
  pub repeats : RepeatLaws MoveHandle
  pub repeated : (arena : Arena) (n : ℕ) (moves : List MoveHandle)
      → map (step_of arena) (repeat n moves) ≡ repeat n (map (step_of arena) moves)

-- so do paths, and theirs too
pub record WayLaws : Type 0 where
  pub leads : (arena : Arena) (path : MovePath) → IsArena arena → IsPathIn arena path
      → ArePath (triangulation arena path.start) (moves_of arena path)
      (triangulation arena path.end)
  pub join : (arena : Arena) (path other : MovePath)
      → moves_of arena (joined path other) ≡ moves_of arena path ++ moves_of arena other
  pub back : (arena : Arena) (path : MovePath) → IsArena arena → IsPathIn arena path
      → moves_of arena (inverse_path path) ≡ back_along (moves_of arena path)
  -- the first moves of a path, and a path from a triangulation to itself several times
  pub beginning : (arena : Arena) (path : MovePath) (i : ℕ) → IsArena arena → IsPathIn arena path
      → (end : ℕ)
      × IsPathIn arena (record { start = path.start; end = end; moves = take i path.moves })
  pub often : (arena : Arena) (path : MovePath) (n : ℕ) → IsArena arena → IsPathIn arena path
      → path.end ≡ path.start
      → IsPathIn arena (record {
        start = path.start;
        end = path.start;
        moves = repeat n path.moves;
      })
  pub repeats : RepeatLaws Move
  -- ---- maps
  pub maps : (arena : Arena) (path : MovePath) → IsArena arena → IsPathIn arena path
      → IsMap (triangulation arena path.start) (triangulation arena path.end)
      (path_map (moves_of arena path)) (triangle_along arena path.moves)
  pub walks : (arena : Arena) (path : MovePath) (s t : ℕ) (w : List ℤ)
      → IsArena arena → IsPathIn arena path → IsWalk (triangulation arena path.start) s w t
      → IsWalk (triangulation arena path.end) (triangle_along arena path.moves s)
      (reduce (flat_map (path_map (moves_of arena path)) w)) (triangle_along arena path.moves t)
  pub join_triangle : (arena : Arena) (path other : MovePath) (t : ℕ)
      → triangle_along arena (joined path other).moves t
      ≡ triangle_along arena other.moves (triangle_along arena path.moves t)
  pub undo_triangle : (arena : Arena) (path : MovePath) (t : ℕ)
      → IsArena arena → IsPathIn arena path → t < length (triangulation arena path.start)
      → triangle_along arena (inverse_path path).moves (triangle_along arena path.moves t) ≡ t

-- all of them
pub record AtlasLaws : Type 0 where
  pub growth : GrowthLaws
  pub handles : HandleLaws
  pub ways : WayLaws
