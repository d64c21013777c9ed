-- What cutting a walk into branches rests on: the first two letters of a pass settle all its
-- letters.
use Rattle.std.specs.Prelude.{◌≡◌, ◌<◌, ◌≤◌, ℕ, ℤ, Bool, List, length, if◌then◌else◌, All}
use Rattle.ideal_tri.specs.Words.{inverse_word}
use Rattle.train_track.specs.Branches.{letter_at}
use Rattle.train_track.specs.Passes.{Pass, letters_of, ArePassesOf}

-- the word begins with these two letters
pub record BeginsWith (x y : ℤ) (w : List ℤ) : Type 0 where
  pub long : 2 ≤ length w
  pub first : letter_at w 0 ≡ x
  pub second : letter_at w 1 ≡ y

-- the word, or its inverse
abbrev pub directed : List ℤ → Bool → List ℤ
directed b forwards = if forwards then b else inverse_word b

-- it or its inverse begins with these two letters
abbrev pub BeginsSomeWay : ℤ → ℤ → List ℤ → Type 0
BeginsSomeWay x y b = (forwards : Bool) × BeginsWith x y (directed b forwards)

-- a branch does
abbrev pub IsBeginning : List (List ℤ) → ℤ → ℤ → ℕ → Type 0
IsBeginning branches x y k =
    (k < length branches)
    × ((forwards : Bool) × BeginsWith x y
    (letters_of branches (record { branch = k; forwards = forwards })))

-- the word can be cut into branches, and the first two letters of each tell which branch it is
pub record CanBeCutInto (branches : List (List ℤ)) (w : List ℤ) : Type 0 where
  pub some : 0 < length w
  pub long : All (λ b. 2 ≤ length b) branches
  pub settled : (p q : Pass) (x y : ℤ) → p.branch < length branches → q.branch < length branches
      → BeginsWith x y (letters_of branches p) → BeginsWith x y (letters_of branches q)
      → letters_of branches p ≡ letters_of branches q
  pub passes : List Pass
  pub cut : ArePassesOf branches passes w
