-- Different entries of a vector are together at most its sum.
use Rattle.std.proofs.Common.{ℕ, zero, suc, List, [], ◌∷◌, ◌≡◌, ◌≢◌, ◌≤◌, ◌+◌, refl, ap, arith}
use Rattle.std.specs.List.{sum}
use Rattle.std.specs.Prelude.{slice_index}
use Rattle.std.proofs.lemmas.List.Sums.{sum_by-cons}

pub one_within : (w : List ℕ) (i : ℕ) → slice_index w i ≤ sum w
one_within [] i = omega arith
one_within (n ∷ w) zero = omega (arith, sum_by-cons (λ m. m) n w)
one_within (n ∷ w) (suc i) = omega (arith, sum_by-cons (λ m. m) n w, one_within w i)

pub two_within : (w : List ℕ) (i j : ℕ) → i ≢ j → slice_index w i + slice_index w j ≤ sum w
two_within [] i j ne = omega arith
two_within (n ∷ w) zero zero ne = absurd (ne refl)
two_within (n ∷ w) zero (suc j) ne = omega (arith, sum_by-cons (λ m. m) n w, one_within w j)
two_within (n ∷ w) (suc i) zero ne = omega (arith, sum_by-cons (λ m. m) n w, one_within w i)
two_within (n ∷ w) (suc i) (suc j) ne =
    omega (arith, sum_by-cons (λ m. m) n w, two_within w i j (λ h. ne (ap suc h)))

pub three_within : (w : List ℕ) (i j k : ℕ) → i ≢ j → i ≢ k → j ≢ k
    → slice_index w i + slice_index w j + slice_index w k ≤ sum w
three_within [] i j k a b c = omega arith
three_within (n ∷ w) zero zero k a b c = absurd (a refl)
three_within (n ∷ w) zero (suc j) zero a b c = absurd (b refl)
three_within (n ∷ w) zero (suc j) (suc k) a b c =
    omega (arith, sum_by-cons (λ m. m) n w, two_within w j k (λ h. c (ap suc h)))
three_within (n ∷ w) (suc i) zero zero a b c = absurd (c refl)
three_within (n ∷ w) (suc i) zero (suc k) a b c =
    omega (arith, sum_by-cons (λ m. m) n w, two_within w i k (λ h. b (ap suc h)))
three_within (n ∷ w) (suc i) (suc j) zero a b c =
    omega (arith, sum_by-cons (λ m. m) n w, two_within w i j (λ h. a (ap suc h)))
three_within (n ∷ w) (suc i) (suc j) (suc k) a b c =
    omega (
      arith,
      sum_by-cons (λ m. m) n w,
      three_within w i j k (λ h. a (ap suc h)) (λ h. b (ap suc h)) (λ h. c (ap suc h)),
    )

-- a vector whose entries are all zero has the sum zero
pub none_of : (w : List ℕ) → ((i : ℕ) → slice_index w i ≡ 0) → sum w ≡ 0
none_of [] h = refl
none_of (n ∷ w) h = omega (arith, sum_by-cons (λ m. m) n w, h zero, none_of w (λ i. h (suc i)))
