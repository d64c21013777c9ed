-- Coordinates: the numbers of a multicurve at a triangulation of an atlas (normal coordinates).
use Rattle.std.specs.Prelude.{◌<◌, ◌-◌, ◌^◌, ℕ, List, sum, min, All}
use Rattle.ideal_tri.specs.Vectors.{IsMulticurve}
use Rattle.tri_atlas.specs.Arena.{Arena, triangulation, IsTriIn}
use Rattle.edge_coords.specs.declared.coords.TheConstants.{COORDINATE_LIMIT}

-- the number of a triangulation, and one number for each of its edges
pub record Coordinates : Type 0 where
  pub tri : ℕ
  pub numbers : List ℕ

-- every number is below 2^126
abbrev pub AreSmall : List ℕ → Type 0
AreSmall numbers = All (λ n. n < COORDINATE_LIMIT) numbers

-- the numbers are those of a multicurve of a triangulation of the arena, and all below 2^126
pub record AreCoordinatesIn (arena : Arena) (c : Coordinates) : Type 0 where
  pub tri_in : IsTriIn arena c.tri
  pub multicurve : IsMulticurve (triangulation arena c.tri) c.numbers
  pub small : AreSmall c.numbers

-- the sum of the numbers, or 2^128 - 1 where it is greater
abbrev pub total_of : List ℕ → ℕ
total_of numbers = min (sum numbers) (2 ^ 128 - 1)
