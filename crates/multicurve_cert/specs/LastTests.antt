-- The last tests of a candidate for a multicurve that a word fixes, however it was made: something is
-- left of it without the curves round vertices, and the word's image of that is small and the same.
use Rattle.std.specs.Prelude.{◌≡◌, ◌≢◌, ℕ, ℤ, List}
use Rattle.ideal_tri.specs.PeripheralParts.{HasFreeCorners}
use Rattle.tri_atlas.specs.Arena.{Arena, triangulation}
use Rattle.tri_atlas.specs.MovedVectors.{OverflowsAt}
use Rattle.tri_atlas.specs.Moves.{Move}
use Rattle.edge_coords.specs.Coordinates.{Coordinates, AreCoordinatesIn}
use Rattle.edge_coords.specs.declared.coords.TheConstants.{COORDINATE_LIMIT}
use Rattle.edge_coords.specs.declared.lines.CurveLine.{CurveLine}
use Rattle.edge_coords.specs.declared.lines.CurveLine.TheVariants.{Overflow, NotMulticurve, Empty, Moved}
use Rattle.multicurve_cert.specs.Candidates.{image_vector, HasSmallImage, IsNothing}

-- it passes the last three tests
pub record PassesLast (triples : List (List ℤ)) (moves : List Move) (c : List ℕ) : Type 0 where
  pub some : ¬ IsNothing c
  pub small : HasSmallImage triples moves c
  pub fixed : image_vector triples moves c ≡ c

-- the first of the last three tests that fails
abbrev pub IsLastLine : List (List ℤ) → List Move → List ℕ → CurveLine → Type 0
IsLastLine triples moves c Overflow =
    (¬ IsNothing c) × ((k : ℕ) × OverflowsAt COORDINATE_LIMIT triples c moves k)
IsLastLine triples moves c NotMulticurve = ⊥
IsLastLine triples moves c Empty = IsNothing c
IsLastLine triples moves c Moved =
    (¬ IsNothing c) × HasSmallImage triples moves c × (image_vector triples moves c ≢ c)

-- coordinates at the base
pub record AreAtBase (arena : Arena) (c : Coordinates) : Type 0 where
  pub coordinates : AreCoordinatesIn arena c
  pub base : c.tri ≡ 0

-- and no curve runs round a vertex
pub record IsStripped (arena : Arena) (c : Coordinates) : Type 0 where
  pub at_base : AreAtBase arena c
  pub free : HasFreeCorners (triangulation arena 0) c.numbers
