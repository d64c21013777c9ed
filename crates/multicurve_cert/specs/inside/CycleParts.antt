-- The parts of the search for cycles: tests of a word, and lists that grow.
use Rattle.std.specs.Prelude.{◌≡◌, ◌≢◌, ◌⊎◌, ◌<◌, ◌+◌, ◌++◌, ℕ, ℤ, List, [], length, map}
use Rattle.std.specs.Prelude.{slice_index_or}
use Rattle.std.specs.List.{All, Contains}
use Rattle.ideal_tri.specs.Curves.{IsSameCurve}
use Rattle.ideal_tri.specs.Labels.{inverse}
use Rattle.ideal_tri.specs.Triangulations.{IsLabel, triangle_of}
use Rattle.ideal_tri.specs.Vertices.{rank}
use Rattle.free_groupoid.specs.Walks.{DualWalk, walk_of_letters}
use Rattle.multicurve_cert.specs.Cycles.{IsBefore, IsCycle, letter_at}

-- ---- tests of a word

-- no word along the same curve comes before it
abbrev pub IsLeast : List ℤ → Type 0
IsLeast w = (v : List ℤ) → IsSameCurve w v → (w ≡ v) ⊎ IsBefore w v

-- some letter starts at triangle t
abbrev pub Visits : List (List ℤ) → List ℤ → ℕ → Type 0
Visits triples w t = (i : ℕ) × (i < length w) × (triangle_of triples (letter_at w i) ≡ t)

-- no two letters start at one triangle
abbrev pub VisitsOnce : List (List ℤ) → List ℤ → Type 0
VisitsOnce triples w =
    (i j : ℕ) → i < j → j < length w
    → triangle_of triples (letter_at w i) ≢ triangle_of triples (letter_at w j)

-- y may come after x in a walk with nothing to reduce
abbrev pub Follows : List (List ℤ) → ℤ → ℤ → Type 0
Follows triples x y = (triangle_of triples (inverse x) ≡ triangle_of triples y) × (y ≢ inverse x)

-- the two sides, in the order of labels, are those beside x in its triangle
pub record AreOtherSides (triples : List (List ℤ)) (x y z : ℤ) : Type 0 where
  pub order : rank y < rank z
  pub first : IsLabel triples y
  pub second : IsLabel triples z
  pub all : (s : ℤ) → IsLabel triples s → triangle_of triples s ≡ triangle_of triples x → s ≢ x
      → (s ≡ y) ⊎ (s ≡ z)

-- ---- lists

-- these are the words with a property, each once, in their order
pub record IsListOf (P : List ℤ → Type 0) (words : List (List ℤ)) : Type 0 where
  pub each : All P words
  pub all : (w : List ℤ) → P w → Contains words w
  pub rising : (i : ℕ) → i + 1 < length words
      → IsBefore (slice_index_or words i []) (slice_index_or words (i + 1) [])

-- the walks of these words were put behind others
pub record Adds (triples : List (List ℤ)) (P : List ℤ → Type 0) (old new : List DualWalk)
    : Type 0 where
  pub words : List (List ℤ)
  pub added : new ≡ old ++ map (walk_of_letters triples) words
  pub list : IsListOf P words

-- a cycle of n letters
pub record IsCycleOf (triples : List (List ℤ)) (n : ℕ) (w : List ℤ) : Type 0 where
  pub cycle : IsCycle triples w
  pub of_length : length w ≡ n

-- one that begins with these letters
pub record IsCycleFrom (triples : List (List ℤ)) (n : ℕ) (front : List ℤ) (w : List ℤ)
    : Type 0 where
  pub cycle : IsCycleOf triples n w
  pub rest : List ℤ
  pub begins : w ≡ front ++ rest
