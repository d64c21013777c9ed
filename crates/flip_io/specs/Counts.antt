-- Counts of 64 bits, which stay at their last value.
use Rattle.std.specs.Prelude.{◌≡◌, ℕ, ◌+◌, ◌-◌, ◌^◌, ◌≤◌, List, min}

-- one more, up to the last value
abbrev pub raised : ℕ → ℕ
raised count = min (count + 1) (2 ^ 64 - 1)

-- the count rose, or stands at its last value
abbrev pub Rose : ℕ → ℕ → Type 0
Rose before now = raised before ≤ now

-- no name's count changed
abbrev pub SameCounts : (before now : List ℕ → ℕ) → Type 0
SameCounts before now = (name : List ℕ) → now name ≡ before name
