-- A track has one list of branches: two lists that a strict order sorts, and that have the same members, are the same.
use Rattle.std.proofs.Common.{◌≡◌, ◌<◌, zero, suc, ℤ, true, false, List, [], ◌∷◌, ◌⊎◌, inl, inr, refl, sym, ◌∙◌, ap}
use Rattle.std.proofs.Common.{subst, arith}
use Rattle.std.specs.List.{AllPairs, Contains}
use Rattle.std.specs.Ordering.{int_eq}
use Rattle.std.proofs.lemmas.Bool.{true≢false, ltb-true, or_cases, and_parts}
use Rattle.std.proofs.lemmas.List.Elements.{All-contains}
use Rattle.ideal_tri.specs.LabelLaws.{LabelLaws}
use Rattle.ideal_tri.specs.Vertices.{rank}
use Rattle.ideal_tri.specs.Words.{inverse_word}
use Rattle.train_track.specs.Branches.{IsBranch, IsBranchList, are_before, is_before, letter_at}

-- ---- sorted lists with the same members

module _ {A : Type 0} (R : A → A → Type 0) (one_way : (x y : A) → R x y → R y x → ⊥) where
  same_head : (x y : A) (xs ys : List A) → AllPairs R (x ∷ xs) → AllPairs R (y ∷ ys) → Contains (y ∷ ys) x
      → Contains (x ∷ xs) y → x ≡ y
  same_head x y xs ys h k (zero, within, is) other = sym is
  same_head x y xs ys h k (suc i, within, is) (zero, inside, e) = e
  same_head x y xs ys h k (suc i, within, is) (suc j, inside, e) =
      absurd (one_way x y (subst (R x) e (h 0 (suc j) y (omega arith) inside))
      (subst (R y) is (k 0 (suc i) x (omega arith) within)))

  -- a later member of the one list is a later one of the other
  later : (x y z : A) (xs ys : List A) → x ≡ y → AllPairs R (x ∷ xs) → Contains xs z → Contains (y ∷ ys) z
      → Contains ys z
  later x y z xs ys same h (i, below, e) (zero, within, is) =
      let after : R x z = subst (R x) e (h 0 (suc i) z (omega arith) (omega arith)) in
      let itself : R x x = subst (R x) (sym is ∙ sym same) after in
      absurd (one_way x x itself itself)
  later x y z xs ys same h has (suc i, within, is) = (i, omega arith, is)

  there : (x z : A) (xs : List A) → Contains xs z → Contains (x ∷ xs) z
  there x z xs (i, within, is) = (suc i, omega arith, is)

  rest_pairs : (x : A) (xs : List A) → AllPairs R (x ∷ xs) → AllPairs R xs
  rest_pairs x xs h i j d less within = h (suc i) (suc j) d (omega arith) (omega arith)

  none_of_none : (z : A) → Contains [] z → ⊥
  none_of_none z (i, within, is) = omega arith

  first_of : (x : A) (xs : List A) → Contains (x ∷ xs) x
  first_of x xs = (0, omega arith, refl)

  pub same_sorted : (xs ys : List A) → AllPairs R xs → AllPairs R ys → ((z : A) → Contains xs z → Contains ys z)
      → ((z : A) → Contains ys z → Contains xs z) → xs ≡ ys
  same_sorted [] [] h k on back = refl
  same_sorted [] (y ∷ ys) h k on back = absurd (none_of_none y (back y (first_of y ys)))
  same_sorted (x ∷ xs) [] h k on back = absurd (none_of_none x (on x (first_of x xs)))
  same_sorted (x ∷ xs) (y ∷ ys) h k on back =
      let same : x ≡ y = same_head x y xs ys h k (on x (first_of x xs)) (back y (first_of y ys)) in
      let rest : xs ≡ ys =
      same_sorted xs ys (rest_pairs x xs h) (rest_pairs y ys k)
      (λ z has. later x y z xs ys same h has (on z (there x z xs has)))
      (λ z has. later y x z ys xs (sym same) k has (back z (there y z ys has))) in
      ap (λ (z : A). z ∷ xs) same ∙ ap (λ (zs : List A). y ∷ zs) rest

-- ---- the order of branches

module _ (labels : LabelLaws) where
  pub is_same : (x y : ℤ) → int_eq x y ≡ true → x ≡ y
  is_same x y e = elim (labels.same_or_not x y) [
    | inl same ↦ same
    | inr other ↦ absurd (true≢false (sym e ∙ labels.test_other x y other))
  ]

  before_parts : (x y u v : ℤ) → are_before x y u v ≡ true
      → (rank x < rank u) ⊎ ((rank x ≡ rank u) × (rank y < rank v))
  unfolding are_before
  before_parts x y u v e = elim (or_cases _ _ e) [
    | inl less ↦ inl (ltb-true _ _ less)
    | inr level ↦
        (let (same, less) = and_parts _ _ level in
        inr (ap rank (is_same x u same), ltb-true _ _ less))
  ]

  not_both : (x y u v : ℤ) → are_before x y u v ≡ true → are_before u v x y ≡ true → ⊥
  not_both x y u v e f = elim (before_parts x y u v e) [
    | inl less ↦ elim (before_parts u v x y f) [
      | inl more ↦ omega arith
      | inr (level, more) ↦ omega (arith, level)
    ]
    | inr (same, less) ↦ elim (before_parts u v x y f) [
      | inl more ↦ omega (arith, same)
      | inr (level, more) ↦ omega arith
    ]
  ]

  pub one_branch_list : (triples : List (List ℤ)) (left_out : List ℤ) (branches others : List (List ℤ))
      → IsBranchList triples left_out branches → IsBranchList triples left_out others → branches ≡ others
  one_branch_list triples left_out branches others h k =
      same_sorted (λ b c. is_before b c ≡ true)
      (λ b c. not_both (letter_at b 0) (letter_at b 1) (letter_at c 0) (letter_at c 1)) branches others h.order
      k.order (λ b has. listed branches others b h k has) (λ b has. listed others branches b k h has)
    where
      listed : (bs cs : List (List ℤ)) (b : List ℤ) → IsBranchList triples left_out bs
          → IsBranchList triples left_out cs → Contains bs b → Contains cs b
      listed bs cs b one other has =
          other.all b (All-contains (IsBranch triples left_out) bs b one.branch has)
          (All-contains (λ (a : List ℤ). is_before (inverse_word a) a ≡ false) bs b one.first has)
