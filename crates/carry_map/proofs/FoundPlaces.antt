-- The places that are found, switch by switch, and the first switch without one.
use Rattle.std.proofs.Common.{◌≡◌, ◌<◌, ◌≤◌, ℕ, zero, suc, ℤ, List, [], ◌∷◌, length, get_or, take}
use Rattle.std.proofs.Common.{refl, sym, ◌∙◌, subst, arith}
use Rattle.std.proofs.Common.{Bool, false, ◌==◌}
use Rattle.std.proofs.lemmas.Bool.{true≢false}
use Rattle.std.specs.List.{All}
use Rattle.std.proofs.lemmas.List.{take_all}
use Rattle.ideal_tri.specs.Triangulations.{triangle_of}
use Rattle.train_track.specs.Tracks.{switches_of}
use Rattle.train_track.specs.Branches.{letter_at}
use Rattle.carry_map.specs.Anchors.{Place, ArePlaces}
use Rattle.carry_map.specs.AnchorAnswers.{IsReachedFrom, IsAnchored, IsFirstWithout}
use Rattle.carry_map.specs.MiddleAnchors.{HavePlaces}
use Rattle.carry_map.specs.inside.Steps.{AreAllReached}

-- all places of the switch at k, some of them, and each is reached
pub record IsFound (ts : List (List ℤ)) (out : List ℤ) (f : ℤ → List ℤ) (triangles : ℕ → ℕ) (k : ℕ)
    (places : List Place) : Type 0 where
  pub are : ArePlaces ts out f (letter_at (switches_of ts out) k) places
  pub some : 0 < length places
  pub reached : All (IsReachedFrom ts out (triangles (triangle_of ts (letter_at (switches_of ts out) k)))) places

module _ (ts : List (List ℤ)) (out : List ℤ) (f : ℤ → List ℤ) (triangles : ℕ → ℕ) where
  pub have_found : (all : List (List Place)) → length all ≡ length (switches_of ts out)
      → ((k : ℕ) → k < length all → IsFound ts out f triangles k (get_or all k []))
      → HavePlaces ts out f all × AreAllReached ts out triangles all
  have_found all long found = (
    record {
      one_list_each = long;
      places = λ i less. (found i less).are;
      some = λ i less. (found i less).some;
    },
    λ i less. (found i less).reached,
  )

  -- a list of places that begins with a place
  some_anchor : (k : ℕ) (places : List Place) → ArePlaces ts out f (letter_at (switches_of ts out) k) places
      → 0 < length places → (p : Place) × IsAnchored ts out f k p
  some_anchor k [] _ some = absurd (omega arith)
  some_anchor k (p ∷ rest) are some = (p, (rest, are))

  pub first_empty : (all : List (List Place)) (i : ℕ) → i < length (switches_of ts out)
      → ((k : ℕ) → k < i → IsFound ts out f triangles k (get_or all k []))
      → ArePlaces ts out f (letter_at (switches_of ts out) i) [] → IsFirstWithout ts out f i
  first_empty all i within found none = record {
    within = within;
    without = none;
    before = λ k less. some_anchor k (get_or all k []) (found k less).are (found k less).some;
  }

-- a list with fewer elements than are taken is whole
pub all_taken : {A : Type 0} (n : ℕ) (all some : List A) → some ≡ take n all → length some < n → some ≡ all
all_taken {A} n all some is few = is ∙ take_all n all (short n all (subst (λ (xs : List A). length xs < n) is few))
  where
    short : {B : Type 0} (m : ℕ) (xs : List B) → length (take m xs) < m → length xs ≤ m
    short zero xs less = absurd (omega arith)
    short (suc m) [] less = omega arith
    short (suc m) (x ∷ xs) less = let rest = short m xs (omega arith) in omega arith

no_elements : {A : Type 0} (xs : List A) → length xs ≡ 0 → xs ≡ []
no_elements [] long = refl
no_elements (x ∷ xs) long = absurd (omega arith)

-- what is found of the switch s, which is at k: fewer than so many places, so all; none or some
pub found_none : (ts : List (List ℤ)) (out : List ℤ) (f : ℤ → List ℤ) (k : ℕ) (s : ℤ) (n : ℕ) (all found : List Place)
    → s ≡ letter_at (switches_of ts out) k → ArePlaces ts out f s all → found ≡ take n all → length found < n
    → length found ≡ 0 → ArePlaces ts out f (letter_at (switches_of ts out) k) []
found_none ts out f k s n all found e are is few none =
    subst (λ (x : ℤ). ArePlaces ts out f x []) e
    (subst (ArePlaces ts out f s) (sym (all_taken n all found is few) ∙ no_elements found none) are)

pub found_some : (ts : List (List ℤ)) (out : List ℤ) (f : ℤ → List ℤ) (triangles : ℕ → ℕ) (k : ℕ) (s : ℤ) (n : ℕ)
    (all found : List Place) → s ≡ letter_at (switches_of ts out) k → ArePlaces ts out f s all → found ≡ take n all
    → length found < n → 0 < length found → All (IsReachedFrom ts out (triangles (triangle_of ts s))) found
    → IsFound ts out f triangles k found
found_some ts out f triangles k s n all found e are is few some reached = record {
  are =
      subst (λ (x : ℤ). ArePlaces ts out f x found) e
      (subst (ArePlaces ts out f s) (sym (all_taken n all found is few)) are);
  some = some;
  reached = subst (λ (x : ℤ). All (IsReachedFrom ts out (triangles (triangle_of ts x))) found) e reached;
}

-- a test whether a number is 0 that fails
pub not_empty : (n : ℕ) (r : Bool) → r ≡ (n == 0) → r ≡ false → 0 < n
not_empty zero r is failed = absurd (true≢false (sym is ∙ failed))
not_empty (suc n) r is failed = omega arith
