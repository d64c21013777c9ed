-- Walks on the dual graph of a triangulation, each with the triangle where it starts.
use Rattle.std.specs.Prelude.{◌≡◌, ◌<◌, ℕ, ℤ, pos, List, [], ◌∷◌, length, take, slice_index_or}
use Rattle.ideal_tri.specs.Words.{reduce, cyclic_reduce}
use Rattle.ideal_tri.specs.Triangulations.{IsLabel, IsWalk, triangle_of}

-- a start triangle, and the letters crossed
pub record DualWalk : Type 0 where
  pub start : ℕ
  pub letters : List ℤ

-- the walk with this number
abbrev pub walk_at : List DualWalk → ℕ → DualWalk
walk_at walks n = slice_index_or walks n (record { start = 0; letters = [] })

-- it starts at a triangle, and each letter starts where the one before ended
pub record IsWalkOn (triples : List (List ℤ)) (w : DualWalk) : Type 0 where
  pub start_in : w.start < length triples
  pub end : ℕ
  pub leads : IsWalk triples w.start w.letters end

-- it starts at a triangle, and ends there
pub record IsClosedOn (triples : List (List ℤ)) (w : DualWalk) : Type 0 where
  pub start_in : w.start < length triples
  pub closed : IsWalk triples w.start w.letters w.start

-- the letter at this place is the first that is no label, or doesn't start where the walk stands
pub record IsFirstBreak (triples : List (List ℤ)) (w : DualWalk) (place : ℕ) : Type 0 where
  pub within : place < length w.letters
  pub stand : ℕ
  pub before : IsWalk triples w.start (take place w.letters) stand
  pub breaks : let x = slice_index_or w.letters place (pos 0) in ¬ (IsLabel triples x
      × (triangle_of triples x ≡ stand))

-- the walk without neighbours x, inverse x
abbrev pub reduced_walk : DualWalk → DualWalk
reduced_walk w = record { start = w.start; letters = reduce w.letters }

-- where a walk of these letters starts; without letters, at s
abbrev pub start_of : List (List ℤ) → ℕ → List ℤ → ℕ
start_of triples s [] = s
start_of triples s (x ∷ letters) = triangle_of triples x

-- the walk of these letters, from where the first starts
abbrev pub walk_of_letters : List (List ℤ) → List ℤ → DualWalk
walk_of_letters triples letters = record { start = start_of triples 0 letters; letters = letters }

-- the closed walk without such pairs, at its two ends too; it starts where the letters that are
-- left start
abbrev pub cyclically_reduced_walk : List (List ℤ) → DualWalk → DualWalk
cyclically_reduced_walk triples w =
    record {
      start = start_of triples w.start (cyclic_reduce w.letters);
      letters = cyclic_reduce
          w.letters;
    }
