-- Tables of truth values, row after row, each row as the bits of some words, 64 to a word.
use Rattle.std.specs.Prelude.{◌≡◌, ◌<◌, ◌+◌, ◌*◌, ◌/◌, ◌%◌, ℕ, zero, suc, List, Bool, false, true}
use Rattle.std.specs.Prelude.{◌||◌, length, slice_index, nat_eq}
use Rattle.std.specs.Int.{bit_at}

-- the value in row i and column j, where each row has `width` words
abbrev pub bit : ℕ → List ℕ → ℕ → ℕ → Bool
bit width words i j = nat_eq (bit_at (slice_index words (i * width + j / 64)) (j % 64)) 1

-- one of p 0 to p (n - 1) is true
abbrev pub any_below : ℕ → (ℕ → Bool) → Bool
any_below zero p = false
any_below (suc n) p = any_below n p || p n

-- a table of n rows of n values, each row in `width` words
pub record IsTable (n width : ℕ) (words : List ℕ) : Type 0 where
  pub whole : length words ≡ n * width
  pub wide : n < width * 64
