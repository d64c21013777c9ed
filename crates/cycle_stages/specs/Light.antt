-- Numbers that are light beside a vector.
use Rattle.std.specs.Prelude.{◌≤◌, ◌*◌, ℕ, List, max}
use Rattle.std.specs.List.{fold}

-- the greatest number of a vector
abbrev pub greatest_of : List ℕ → ℕ
greatest_of w = fold max 0 w

-- x · x is at most the greatest number of w
abbrev pub IsLight : List ℕ → ℕ → Type 0
IsLight w x = x * x ≤ greatest_of w
