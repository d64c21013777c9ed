-- What the rules for certificates of periodic words leave to each other, for a map in an arena.
use Rattle.std.specs.Prelude.{◌≡◌, ◌+◌, ℕ, ℤ, List}
use Rattle.std.specs.List.{repeat}
use Rattle.ideal_tri.specs.Triangulations.{IsLabel}
use Rattle.tri_atlas.specs.Arena.{Arena, triangulation}
use Rattle.tri_atlas.specs.Maps.{path_map}
use Rattle.tri_atlas.specs.Moves.{Move}
use Rattle.free_groupoid.specs.GroupoidMaps.{GroupoidMap, IsMapIn, substitution}
use Rattle.free_groupoid.specs.Periodic.{IsWithin}
use Rattle.cert_text.specs.Limits.{letter_cap}
use Rattle.cert_checker.specs.FirstFailing.{IsFirstFailing}

-- the map of the moves taken so many times, from the base to the base, within the cap on letters
pub record IsPower (arena : Arena) (moves : List Move) (n : ℕ) (f : GroupoidMap) : Type 0 where
  pub here : IsMapIn arena f
  pub source : f.source ≡ 0
  pub target : f.target ≡ 0
  pub agrees : (x : ℤ) → IsLabel (triangulation arena 0) x
      → substitution f.images x ≡ path_map (repeat n moves) x
  pub within : IsWithin (triangulation arena 0) (repeat n moves) letter_cap

-- the tests belong to the numbers from 1 on, and that of the first which fails is told
abbrev pub IsFirstFailingFromOne : ℕ → (ℕ → Type 0) → ℕ → Type 0
IsFirstFailingFromOne count Passes place =
    (i : ℕ) × (place ≡ i + 1) × IsFirstFailing count Passes i
