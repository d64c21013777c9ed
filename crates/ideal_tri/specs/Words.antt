-- Words of labels, their free reduction, and the same words up to rotation.
use Rattle.std.specs.Prelude.{◌≡◌, ◌≢◌, ℤ, ℕ, zero, suc, List, [], ◌∷◌, ◌++◌, length, cond}
use Rattle.std.specs.Ordering.{int_eq}
use Rattle.ideal_tri.specs.Labels.{inverse}

-- the way back along a word
abbrev pub inverse_word : List ℤ → List ℤ
inverse_word [] = []
inverse_word (x ∷ w) = inverse_word w ++ (inverse x ∷ [])

-- ---- free reduction

-- no letter stands beside its inverse
abbrev pub IsReduced : List ℤ → Type 0
IsReduced [] = Unit {0}
IsReduced (x ∷ []) = Unit {0}
IsReduced (x ∷ (y ∷ w)) = (y ≢ inverse x) × IsReduced (y ∷ w)

-- x in front of a word; the two fall away where the word begins with the inverse of x
abbrev pub push : ℤ → List ℤ → List ℤ
push x [] = x ∷ []
push x (y ∷ w) = cond (int_eq y (inverse x)) w (x ∷ (y ∷ w))

-- the first word in front of the second, letter by letter from its right end on
abbrev pub act : List ℤ → List ℤ → List ℤ
act [] w = w
act (x ∷ u) w = push x (act u w)

-- the free reduction
abbrev pub reduce : List ℤ → List ℤ
reduce w = act w []

-- the second word is the first without one pair of neighbours x, inverse x
pub data Deletes : List ℤ → List ℤ → Type 0 where
  pair : (u : List ℤ) (x : ℤ) (v : List ℤ) → Deletes (u ++ (x ∷ (inverse x ∷ v))) (u ++ v)

-- the same with any number of such pairs, one after another
pub data DeletesAll : List ℤ → List ℤ → Type 0 where
  done : (w : List ℤ) → DeletesAll w w
  more : {u v w : List ℤ} → Deletes u v → DeletesAll v w → DeletesAll u w

-- ---- closed words

-- the second list is the first, begun at another of its places
abbrev pub IsRotation : {A : Type 0} → List A → List A → Type 0
IsRotation {A} u v = (a : List A) × (b : List A) × (u ≡ a ++ b) × (v ≡ b ++ a)

-- a closed word and its first letter once more
abbrev pub closed_up : List ℤ → List ℤ
closed_up [] = []
closed_up (x ∷ w) = x ∷ (w ++ (x ∷ []))

-- no letter stands beside its inverse, read round and round
abbrev pub IsCyclicallyReduced : List ℤ → Type 0
IsCyclicallyReduced w = IsReduced (closed_up w)

-- the last letter of x ∷ w
abbrev pub last_of : ℤ → List ℤ → ℤ
last_of x [] = x
last_of x (y ∷ w) = last_of y w

-- a word without its last letter
abbrev pub but_last : List ℤ → List ℤ
but_last [] = []
but_last (x ∷ []) = []
but_last (x ∷ (y ∷ w)) = x ∷ but_last (y ∷ w)

-- a word without its two ends as often as they are inverse to each other, at most n times
unfoldable pub strip : ℕ → List ℤ → List ℤ
strip zero w = w
strip (suc n) [] = []
strip (suc n) (x ∷ w) = cond (int_eq (last_of x w) (inverse x)) (strip n (but_last w)) (x ∷ w)

-- the cyclic reduction of a closed word
unfoldable pub cyclic_reduce : List ℤ → List ℤ
cyclic_reduce w = strip (length (reduce w)) (reduce w)
