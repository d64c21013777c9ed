-- What holds of words and their inverses, of their reduction, and of closed words.
use Rattle.std.specs.Prelude.{◌≡◌, ◌≢◌, ◌<◌, ◌≤◌, ◌↔◌, ◌+◌, ◌-◌, ℕ, ℤ, List, [], ◌∷◌, ◌++◌}
use Rattle.std.specs.Prelude.{length, map, take, drop, Bool, true, false, not, All, slice_index_or}
use Rattle.std.specs.Ordering.{int_eq}
use Rattle.ideal_tri.specs.Triangulations.{IsLabel}
use Rattle.ideal_tri.specs.Words.{inverse_word, IsReduced, reduce, Deletes, DeletesAll, IsRotation}
use Rattle.ideal_tri.specs.Words.{IsCyclicallyReduced, cyclic_reduce, last_of}
use Rattle.ideal_tri.specs.Curves.{IsSameCurve, is_rotation, is_same_curve}

-- the way back along a word
pub record InverseLaws : Type 0 where
  pub append : (u v : List ℤ) → inverse_word (u ++ v) ≡ inverse_word v ++ inverse_word u
  pub twice : (w : List ℤ) → inverse_word (inverse_word w) ≡ w
  pub as_long : (w : List ℤ) → length (inverse_word w) ≡ length w
  pub labels : (triples : List (List ℤ)) (w : List ℤ) → All (IsLabel triples) w
      → All (IsLabel triples) (inverse_word w)

-- rotations of words are an equivalence, and go with inverses and maps of letters
pub record RotationLaws : Type 0 where
  pub same : (u : List ℤ) → IsRotation u u
  pub back : (u v : List ℤ) → IsRotation u v → IsRotation v u
  pub along : (u v w : List ℤ) → IsRotation u v → IsRotation v w → IsRotation u w
  pub as_long : (u v : List ℤ) → IsRotation u v → length u ≡ length v
  pub inverse : (u v : List ℤ) → IsRotation u v → IsRotation (inverse_word u) (inverse_word v)
  pub mapped : (f : ℤ → ℤ) (u v : List ℤ) → IsRotation u v → IsRotation (map f u) (map f v)

-- the free reduction is the one reduced word that deletions reach
pub record ReductionLaws : Type 0 where
  pub is_reduced : (w : List ℤ) → IsReduced (reduce w)
  pub fixed : (w : List ℤ) → IsReduced w → reduce w ≡ w
  -- parts of reduced words, words joined at a letter that ends the one and begins the other, and
  -- the way back
  pub front : (u v : List ℤ) → IsReduced (u ++ v) → IsReduced u
  pub back : (u v : List ℤ) → IsReduced (u ++ v) → IsReduced v
  pub glue : (u : List ℤ) (x : ℤ) (v : List ℤ) → IsReduced (u ++ (x ∷ [])) → IsReduced (x ∷ v)
      → IsReduced (u ++ (x ∷ v))
  pub turned : (w : List ℤ) → IsReduced w → IsReduced (inverse_word w)
  -- ---- equations
  pub twice : (w : List ℤ) → reduce (reduce w) ≡ reduce w
  pub append : (u v : List ℤ) → reduce (u ++ v) ≡ reduce (reduce u ++ reduce v)
  pub left : (u v b : List ℤ) → reduce u ≡ reduce v → reduce (u ++ b) ≡ reduce (v ++ b)
  pub right : (a u v : List ℤ) → reduce u ≡ reduce v → reduce (a ++ u) ≡ reduce (a ++ v)
  pub cancel : (a u b : List ℤ) → reduce (a ++ (u ++ (inverse_word u ++ b))) ≡ reduce (a ++ b)
  pub inverse : (w : List ℤ) → reduce (inverse_word w) ≡ inverse_word (reduce w)
  pub deletion : (v w : List ℤ) → Deletes v w → reduce v ≡ reduce w
  pub reached : (w : List ℤ) → DeletesAll w (reduce w)
  pub only : (v w : List ℤ) → DeletesAll v w → IsReduced w → w ≡ reduce v

-- the cyclic reduction of a closed word is fixed up to rotation
pub record CyclicLaws : Type 0 where
  pub is_reduced : (w : List ℤ) → IsCyclicallyReduced (cyclic_reduce w)
  pub word : (w : List ℤ) → IsCyclicallyReduced w → IsReduced w
  pub rotated : (u v : List ℤ) → IsRotation u v → IsCyclicallyReduced u → IsCyclicallyReduced v
  pub turned : (w : List ℤ) → IsCyclicallyReduced w → IsCyclicallyReduced (inverse_word w)
  pub no_longer : (w : List ℤ) → length (cyclic_reduce w) ≤ length w
  pub fixed : (w : List ℤ) → IsCyclicallyReduced w → cyclic_reduce w ≡ w
  pub shape : (w : List ℤ) → (p : List ℤ) × (reduce w ≡ p ++ (cyclic_reduce w ++ inverse_word p))
  pub conjugate : (q u v : List ℤ) → reduce (inverse_word q ++ (u ++ q)) ≡ reduce v
      → IsRotation (cyclic_reduce u) (cyclic_reduce v)
  pub conjugator : (u v : List ℤ) → IsRotation (cyclic_reduce u) (cyclic_reduce v)
      → (q : List ℤ) × (reduce (inverse_word q ++ (u ++ q)) ≡ reduce v)
  pub rotation : (u v : List ℤ) → IsRotation u v → IsRotation (cyclic_reduce u) (cyclic_reduce v)
  pub inverse : (w : List ℤ)
      → IsRotation (cyclic_reduce (inverse_word w)) (inverse_word (cyclic_reduce w))

-- to run along the same curve is an equivalence, and decided by a test
pub record CurveLaws : Type 0 where
  pub rotation_test : (u v : List ℤ) → (is_rotation u v ≡ true) ↔ IsRotation u v
  pub curve_test : (u v : List ℤ) → (is_same_curve u v ≡ true) ↔ IsSameCurve u v
  pub same : (u : List ℤ) → IsSameCurve u u
  pub back : (u v : List ℤ) → IsSameCurve u v → IsSameCurve v u
  pub along : (u v w : List ℤ) → IsSameCurve u v → IsSameCurve v w → IsSameCurve u w
  pub reduced : (u v : List ℤ) → IsSameCurve u v → IsSameCurve (cyclic_reduce u) (cyclic_reduce v)

-- all of them, and where the last letter stands
pub record WordLaws : Type 0 where
  pub inverses : InverseLaws
  pub rotations : RotationLaws
  pub reduction : ReductionLaws
  pub cyclic : CyclicLaws
  pub curves : CurveLaws
  pub last : (x : ℤ) (w : List ℤ) (d : ℤ) → last_of x w ≡ slice_index_or (x ∷ w) (length w) d

-- a letter x that is read in a word: the word from there on, and where it is the last letter; and
-- what a test r whether letters are different tells
pub record LetterLaws : Type 0 where
  pub next : (w : List ℤ) (i : ℕ) (x : ℤ) → i < length w → x ≡ slice_index_or w i x
      → drop i w ≡ x ∷ drop (i + 1) w
  pub parts : (w : List ℤ) (n : ℕ) (x : ℤ) → n ≡ length w → 0 < n → x ≡ slice_index_or w (n - 1) x
      → w ≡ take (n - 1) w ++ (x ∷ [])
  pub last : (x : ℤ) (w : List ℤ) (z : ℤ)
      → z ≡ slice_index_or (x ∷ w) (length (x ∷ w) - 1) z → z ≡ last_of x w
  pub differ : (x y : ℤ) (r : Bool) → r ≡ not (int_eq x y) → r ≡ true → x ≢ y
  pub agree : (x y : ℤ) (r : Bool) → r ≡ not (int_eq x y) → r ≡ false → x ≡ y
