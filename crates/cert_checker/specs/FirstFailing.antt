-- Tests in order, and the first of them that fails.
use Rattle.std.specs.Prelude.{◌<◌, ℕ}

-- of the tests with the numbers from 0 to count - 1, the one with this number is the first that fails
pub record IsFirstFailing (count : ℕ) (Passes : ℕ → Type 0) (number : ℕ) : Type 0 where
  pub within : number < count
  pub fails : ¬ Passes number
  pub before : (k : ℕ) → k < number → Passes k

-- all of them pass
abbrev pub AllPass : ℕ → (ℕ → Type 0) → Type 0
AllPass count Passes = (k : ℕ) → k < count → Passes k
