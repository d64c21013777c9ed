-- How coordinates are laid out: in an array with one place for each of the most edges, with zeros
-- after the last.
use Rattle.std.specs.Prelude.{◌≡◌, ◌<◌, ◌≤◌, ◌-◌, ◌+◌, ◌++◌, ℕ, List, length, take, drop, replicate}
use Rattle.std.specs.Prelude.{All}
use Rattle.edge_coords.specs.Coordinates.{AreSmall}
use Rattle.ideal_tri.specs.declared.tri.TheConstants.{EDGES}

-- zeros
unfoldable pub spare_numbers : ℕ → List ℕ
spare_numbers n = replicate n 0

-- the fields hold `count` numbers below the limit, and zeros after them
pub record IsLaidOut (count : ℕ) (numbers : List ℕ) : Type 0 where
  pub fits : count ≤ EDGES
  pub room : length numbers ≡ EDGES
  pub spare : drop count numbers ≡ spare_numbers (EDGES - count)
  pub small : AreSmall (take count numbers)
