-- What holds of inner powers, and of what the calls on maps find of the map of a path.
use Rattle.std.specs.Prelude.{◌≡◌, ◌<◌, ℕ, ℤ, List, map}
use Rattle.std.specs.List.{repeat}
use Rattle.ideal_tri.specs.Triangulations.{IsTriangulation}
use Rattle.tri_atlas.specs.Arena.{Arena, IsArena, triangulation}
use Rattle.tri_atlas.specs.Maps.{letters_of, path_map}
use Rattle.tri_atlas.specs.Moves.{Move, ArePath}
use Rattle.tri_atlas.specs.Paths.{MovePath, IsPathIn, moves_of}
use Rattle.free_groupoid.specs.GroupoidLaws.{AlongLaws}
use Rattle.free_groupoid.specs.GroupoidMaps.{GroupoidMap, followed_along, identity_map, letters_in}
use Rattle.free_groupoid.specs.Inner.{IsKept}
use Rattle.free_groupoid.specs.InnerAnswers.{AreInnerPaths, IsFirstMoved}
use Rattle.free_groupoid.specs.InnerLaws.{IsReducedLoop}
use Rattle.free_groupoid.specs.MapRefusals.{StaysWithin, IsPathRefusal}
use Rattle.free_groupoid.specs.Periodic.{AreInnerWalks, IsFirstPast, IsFirstTest, IsInnerPath}
use Rattle.free_groupoid.specs.Periodic.{IsPeriodic, IsWithin}
use Rattle.free_groupoid.specs.Walks.{DualWalk}
use Rattle.free_groupoid.specs.declared.map.MapError.TheVariants.{CapPassed}

-- inner powers: by one list of reduced walks alone; an inner map keeps closed walks, so that a
-- closed walk that is moved rules a power out
pub record PeriodicLaws : Type 0 where
  pub only : (triples : List (List ℤ)) (moves : List Move) (walks others : List (List ℤ))
      → IsTriangulation triples → ArePath triples moves triples
      → AreInnerWalks triples moves walks → AreInnerWalks triples moves others → walks ≡ others
  pub kept : (triples : List (List ℤ)) (moves : List Move) (w : List ℤ) → IsTriangulation triples
      → IsInnerPath triples moves → IsReducedLoop triples w → IsKept (path_map moves) w
  pub least : (triples : List (List ℤ)) (moves : List Move) (order : ℕ) → IsTriangulation triples
      → 0 < order → IsInnerPath triples (repeat order moves)
      → ((j : ℕ) → 0 < j → j < order → (w : List ℤ) × IsReducedLoop triples w
      × ¬ IsKept (path_map (repeat j moves)) w)
      → IsPeriodic triples moves order

-- the map of a path of an atlas, move by move
abbrev pub map_along : Arena → MovePath → GroupoidMap
map_along arena path = followed_along arena (identity_map arena path.start) path.moves

-- maps followed along moves; and what the calls find of the map of a path is true of what the moves
-- do
pub record FoundLaws : Type 0 where
  pub along : AlongLaws
  pub letters : (arena : Arena) (path : MovePath) → IsArena arena → IsPathIn arena path
      → letters_in (map_along arena path).images
      ≡ letters_of (triangulation arena path.start) (path_map (moves_of arena path))
  pub within : (arena : Arena) (path : MovePath) (cap : ℕ) → IsArena arena → IsPathIn arena path
      → StaysWithin arena (identity_map arena path.start) path.moves cap
      → IsWithin (triangulation arena path.start) (moves_of arena path) cap
  pub past : (arena : Arena) (path : MovePath) (new : GroupoidMap) (cap letters : ℕ)
      → IsArena arena → IsPathIn arena path
      → IsPathRefusal arena (identity_map arena path.start) new path.moves cap (CapPassed letters)
      → (made : ℕ)
      × IsFirstPast (triangulation arena path.start) (moves_of arena path) cap made letters
  pub inner : (arena : Arena) (path : MovePath) (paths : List DualWalk) → IsArena arena
      → IsPathIn arena path → path.end ≡ path.start
      → AreInnerPaths (triangulation arena path.start) (map_along arena path) paths
      → AreInnerWalks (triangulation arena path.start) (moves_of arena path)
      (map (λ w. w.letters) paths)
  pub moved : (arena : Arena) (path : MovePath) (w : DualWalk) → IsArena arena
      → IsPathIn arena path → path.end ≡ path.start
      → IsFirstMoved (triangulation arena path.start) (map_along arena path) w
      → IsFirstTest (triangulation arena path.start) (path_map (moves_of arena path)) w.letters
