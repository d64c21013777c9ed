-- What a sink took between two moments.
use Rattle.std.specs.Prelude.{◌≡◌, ℕ, List, ◌++◌, Option, Some, take}

-- a sink that tells now told before, and just these bytes were added
pub record Took (before now : Option (List ℕ)) (bytes : List ℕ) : Type 0 where
  pub added : (all : List ℕ) → now ≡ Some all
      → (had : List ℕ) × (before ≡ Some had) × (all ≡ had ++ bytes)

-- the same with the first of these bytes
pub record TookPrefix (before now : Option (List ℕ)) (bytes : List ℕ) : Type 0 where
  pub count : ℕ
  pub took : Took before now (take count bytes)
