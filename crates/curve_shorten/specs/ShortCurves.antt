-- What the descent of a curve answers.
use Rattle.std.specs.Prelude.{◌≡◌, ◌<◌, ◌≤◌, ℕ, ℤ, List, length, sum}
use Rattle.ideal_tri.specs.Drawings.{draw}
use Rattle.ideal_tri.specs.PeripheralParts.{HasFreeCorners}
use Rattle.tri_atlas.specs.Arena.{Arena, triangulation}
use Rattle.tri_atlas.specs.Paths.{IsPathIn, moves_of}
use Rattle.edge_coords.specs.Coordinates.{Coordinates, AreCoordinatesIn, total_of}
use Rattle.edge_coords.specs.MovedCoordinates.{moved_along}
use Rattle.curve_shorten.specs.Descents.{IsDescent}
use Rattle.tri_atlas.specs.FlipPaths.{flips_along}
use Rattle.curve_shorten.specs.declared.short.Short.{Short}
use Rattle.curve_shorten.specs.declared.short.ShortError.{ShortError}
use Rattle.curve_shorten.specs.declared.short.ShortError.TheVariants.{TotalOver, NotOneCurve, Peripheral, Stuck, Memory}

-- the largest total of a curve
abbrev pub total_limit : ℕ
total_limit = 4096

-- the three tests of a curve, in this order: its total, that it is one curve, and that it runs round
-- no vertex
abbrev pub IsSmall : List ℕ → Type 0
IsSmall numbers = total_of numbers ≤ total_limit

abbrev pub IsOneCurve : List (List ℤ) → List ℕ → Type 0
IsOneCurve triples numbers = length (draw triples numbers) ≡ 1

-- the curve passes the tests, its descent ends at the total 2, and this is its path
pub record IsShort (old new : Arena) (curve : Coordinates) (s : Short) : Type 0 where
  pub small : IsSmall curve.numbers
  pub one : IsOneCurve (triangulation old curve.tri) curve.numbers
  pub free : HasFreeCorners (triangulation old curve.tri) curve.numbers
  pub edges : List ℕ
  pub descent : IsDescent (triangulation old curve.tri) curve.numbers edges
      (triangulation new s.coords.tri) s.coords.numbers
  pub two : sum s.coords.numbers ≡ 2
  pub path : IsPathIn new s.path
  pub start : s.path.start ≡ curve.tri
  pub end : s.path.end ≡ s.coords.tri
  pub moves : moves_of new s.path ≡ flips_along (triangulation old curve.tri) edges
  pub here : AreCoordinatesIn new s.coords
  pub moved : s.coords ≡ moved_along new s.path curve
  -- none of the curves at the end runs round a vertex either
  pub end_free : HasFreeCorners (triangulation new s.coords.tri) s.coords.numbers

-- why a curve isn't made short: the first test that it fails; or it passes them, and the descent ends
-- at a total above 2, at these coordinates
abbrev pub IsRefusedFor : Arena → Arena → Coordinates → ShortError → Type 0
IsRefusedFor old new curve (TotalOver total) =
    (total ≡ total_of curve.numbers) × (total_limit < total)
IsRefusedFor old new curve NotOneCurve =
    IsSmall curve.numbers × ¬ IsOneCurve (triangulation old curve.tri) curve.numbers
IsRefusedFor old new curve Peripheral =
    IsSmall curve.numbers × IsOneCurve (triangulation old curve.tri) curve.numbers
    × ¬ HasFreeCorners (triangulation old curve.tri) curve.numbers
IsRefusedFor old new curve (Stuck at) =
    IsSmall curve.numbers × IsOneCurve (triangulation old curve.tri) curve.numbers
    × HasFreeCorners (triangulation old curve.tri) curve.numbers
    × AreCoordinatesIn new at
    × ((edges : List ℕ) × IsDescent (triangulation old curve.tri) curve.numbers edges
    (triangulation new at.tri) at.numbers)
    × (2 < sum at.numbers)
IsRefusedFor old new curve Memory = Unit {0}
