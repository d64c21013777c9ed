-- The descent of a curve: flips that make its total smaller, as far as that goes.
use Rattle.std.specs.Prelude.{◌≡◌, ◌≢◌, ◌⊎◌, ◌<◌, ◌≤◌, ℕ, ℤ, pos, List, [], ◌∷◌, sum}
use Rattle.ideal_tri.specs.Flips.{flipped}
use Rattle.tri_atlas.specs.Arena.{flip_of}
use Rattle.tri_atlas.specs.FlipPaths.{IsFlippableEdge}
use Rattle.tri_atlas.specs.MovedVectors.{vector_after}

-- ---- one flip

-- the vector after the flip of an edge, and its total
abbrev pub vector_flipped : List (List ℤ) → List ℕ → ℕ → List ℕ
vector_flipped triples w e = vector_after (flip_of triples (pos e)) w

abbrev pub total_flipped : List (List ℤ) → List ℕ → ℕ → ℕ
total_flipped triples w e = sum (vector_flipped triples w e)

-- ---- one round

-- no flip lowers the total
abbrev pub HasNoLower : List (List ℤ) → List ℕ → Type 0
HasNoLower triples w = (e : ℕ) → IsFlippableEdge triples e → sum w ≤ total_flipped triples w e

-- the flip of e lowers the total most, and e is the least edge of which that is true
pub record IsBest (triples : List (List ℤ)) (w : List ℕ) (e : ℕ) : Type 0 where
  pub flippable : IsFlippableEdge triples e
  pub lowers : total_flipped triples w e < sum w
  pub most : (f : ℕ) → IsFlippableEdge triples f
      → total_flipped triples w e ≤ total_flipped triples w f
  pub first : (f : ℕ) → f < e → IsFlippableEdge triples f
      → total_flipped triples w e < total_flipped triples w f

-- the flip of e keeps the total, and after it some flip lowers it
pub record IsLevel (triples : List (List ℤ)) (w : List ℕ) (e : ℕ) : Type 0 where
  pub flippable : IsFlippableEdge triples e
  pub keeps : total_flipped triples w e ≡ sum w
  pub lowers : ¬ HasNoLower (flipped triples (pos e)) (vector_flipped triples w e)

-- no flip lowers the total, and e is the least such edge
pub record IsFirstLevel (triples : List (List ℤ)) (w : List ℕ) (e : ℕ) : Type 0 where
  pub none : HasNoLower triples w
  pub level : IsLevel triples w e
  pub first : (f : ℕ) → f < e → ¬ IsLevel triples w f

-- ---- the descent

-- the total is 2, or no flip lowers it, alone or behind one that keeps it
abbrev pub HasEnded : List (List ℤ) → List ℕ → Type 0
HasEnded triples w =
    (sum w ≡ 2) ⊎ (HasNoLower triples w × ((e : ℕ) → ¬ IsLevel triples w e))

-- from a triangulation and a vector, over the flips of these edges in order, to another triangulation
-- and vector. As long as the total isn't 2, a round flips the best edge; or, where no flip lowers the
-- total, the first edge whose flip keeps it and lets another lower it, and then the best edge
pub data IsDescent : List (List ℤ) → List ℕ → List ℕ → List (List ℤ) → List ℕ → Type 0 where
  ended : (triples : List (List ℤ)) (w : List ℕ) → HasEnded triples w
      → IsDescent triples w [] triples w
  lowered : (triples after : List (List ℤ)) (w v edges : List ℕ) (e : ℕ) → sum w ≢ 2
      → IsBest triples w e
      → IsDescent (flipped triples (pos e)) (vector_flipped triples w e) edges after v
      → IsDescent triples w (e ∷ edges) after v
  kept : (triples after : List (List ℤ)) (w v edges : List ℕ) (e f : ℕ) → sum w ≢ 2
      → IsFirstLevel triples w e
      → IsBest (flipped triples (pos e)) (vector_flipped triples w e) f
      → IsDescent (flipped (flipped triples (pos e)) (pos f))
      (vector_flipped (flipped triples (pos e)) (vector_flipped triples w e) f) edges after v
      → IsDescent triples w (e ∷ (f ∷ edges)) after v
