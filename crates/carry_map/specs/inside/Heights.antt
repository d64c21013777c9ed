-- Heights at numbered labels: at each label some places stand in a row, as many as its count, and
-- its height is the number of one of them, from 0 on. A step leads from a label to the one behind
-- it on a branch, over a gap of so many switches, and has to leave room between their heights.
use Rattle.std.specs.Prelude.{◌≡◌, ◌⊎◌, ◌<◌, ◌≤◌, ◌+◌, ℕ, Bool, true, false, List, length}
use Rattle.std.specs.Prelude.{slice_index, sum, All}
use Rattle.carry_map.specs.declared.heights.Step.{Step}

-- from one of these labels to one of them
abbrev pub IsStepOver : List ℕ → Step → Type 0
IsStepOver counts step = (step.from < length counts) × (step.to < length counts)

-- the height at the start is 0; or with all the places at the end it is less than the height there
-- and the gap
abbrev pub LeavesRoomAt : List ℕ → List ℕ → Step → Type 0
LeavesRoomAt counts h step =
    (slice_index h step.from ≡ 0)
    ⊎ (slice_index h step.from + slice_index counts step.to < slice_index h step.to + step.gap)

-- a height for each label, below the number of its places, at which each step leaves room
pub record AreHeightsFor (counts : List ℕ) (steps : List Step) (h : List ℕ) : Type 0 where
  pub one_each : length h ≡ length counts
  pub within : (i : ℕ) → i < length counts → slice_index h i < slice_index counts i
  pub room : All (LeavesRoomAt counts h) steps

-- all heights at which each step leaves room are at most these
abbrev pub AreAbove : List ℕ → List Step → List ℕ → Type 0
AreAbove counts steps h =
    (g : List ℕ) → AreHeightsFor counts steps g → (i : ℕ) → i < length counts
    → slice_index g i ≤ slice_index h i

-- the greatest heights at which each step leaves room
pub record AreGreatestFor (counts : List ℕ) (steps : List Step) (h : List ℕ) : Type 0 where
  pub heights : AreHeightsFor counts steps h
  pub greatest : AreAbove counts steps h

-- ---- lowering

-- what is kept until each step leaves room
pub record AreHighEnough (counts : List ℕ) (steps : List Step) (h : List ℕ) : Type 0 where
  pub one_each : length h ≡ length counts
  pub within : (i : ℕ) → i < length counts → slice_index h i < slice_index counts i
  pub above : AreAbove counts steps h

-- the heights fell in sum; or they are as before, and these steps leave room
abbrev pub FellOrStayed : List ℕ → List Step → List ℕ → List ℕ → Bool → Type 0
FellOrStayed counts steps before after true = sum after < sum before
FellOrStayed counts steps before after false =
    (after ≡ before) × All (LeavesRoomAt counts before) steps
