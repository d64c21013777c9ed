-- The steps to the track of a certificate and to the map of its path, in an arena.
use Rattle.std.specs.Prelude.{◌≡◌, ◌+◌, ◌++◌, ℕ, ℤ, List, length, map, reverse}
use Rattle.std.specs.List.{repeat}
use Rattle.tri_atlas.specs.Arena.{Arena, MoveHandle, triangulation, step_of, back}
use Rattle.tri_atlas.specs.FlipPaths.{CanBeFlipped, flips_along, flipped_along}
use Rattle.tri_atlas.specs.Paths.{MovePath, IsPathIn, moves_of}
use Rattle.free_groupoid.specs.GroupoidMaps.{GroupoidMap, followed_along, identity_map}
use Rattle.free_groupoid.specs.MapRefusals.{StaysWithin}
use Rattle.free_groupoid.specs.Periodic.{IsWithin}
use Rattle.cert_text.specs.Limits.{letter_cap}
use Rattle.cert_checker.specs.FirstFailing.{IsFirstFailing}
use Rattle.cert_checker.specs.TrackRules.{CanBeFlippedAt}

-- ---- the flips

-- the path starts at the base and makes these flips
pub record IsFlipPath (arena : Arena) (edges : List ℕ) (path : MovePath) : Type 0 where
  pub within : IsPathIn arena path
  pub start : path.start ≡ 0
  pub flippable : CanBeFlipped (triangulation arena 0) edges
  pub moves : moves_of arena path ≡ flips_along (triangulation arena 0) edges
  pub leads : triangulation arena path.end ≡ flipped_along (triangulation arena 0) edges

-- of the first flip that can't be made its number is told, from 1
abbrev pub IsNoFlip : List (List ℤ) → List ℕ → ℕ → Type 0
IsNoFlip triples edges place =
    (i : ℕ) × (place ≡ 1 + i) × IsFirstFailing (length edges) (CanBeFlippedAt triples edges) i

-- ---- the map

-- the map is that of these moves from a triangulation, and has no more letters than the cap after each
pub record IsMapAlong (arena : Arena) (start : ℕ) (moves : List MoveHandle) (f : GroupoidMap)
    : Type 0 where
  pub map : f ≡ followed_along arena (identity_map arena start) moves
  pub within : StaysWithin arena (identity_map arena start) moves letter_cap

-- a map goes on along these moves, and becomes the other
abbrev pub GoesOn : Arena → GroupoidMap → List MoveHandle → GroupoidMap → Type 0
GoesOn arena f moves g =
    (start : ℕ) (before : List MoveHandle) → IsMapAlong arena start before f
    → IsMapAlong arena start (before ++ moves) g

-- a path that goes on so doesn't stay within the cap
abbrev pub PassesOn : Arena → GroupoidMap → List MoveHandle → Type 0
PassesOn arena f moves =
    (start end : ℕ) (before rest : List MoveHandle) → IsMapAlong arena start before f
    → IsPathIn arena (record { start = start; end = end; moves = before ++ (moves ++ rest) })
    → ¬ IsWithin (triangulation arena start) (map (step_of arena) (before ++ (moves ++ rest)))
    letter_cap

-- the path from the end of the flips to itself: they backwards, the word so many times, and they
abbrev pub site_path : MovePath → MovePath → ℕ → MovePath
site_path word flips power = record {
  start = flips.end;
  end = flips.end;
  moves = reverse (map back flips.moves) ++ (repeat power word.moves ++ flips.moves);
}
