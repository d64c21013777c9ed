-- Numbers that are too large, along moves after others.
use Rattle.std.proofs.Common.{◌≡◌, ◌<◌, ◌+◌, ◌⊎◌, inl, inr, ℕ, zero, suc, List, [], ◌++◌, length, take, sym}
use Rattle.std.proofs.Common.{◌∙◌, ap, subst, arith}
use Rattle.std.proofs.lemmas.List.{length-append, take-append-le, get_or_append_left, get_or-append-add}
use Rattle.std.proofs.Math.Seq.{take-append-add}
use Rattle.tri_atlas.specs.Moves.{Move, relabel}
use Rattle.tri_atlas.specs.MovedVectors.{vector_along, move_at, IsOver, IsFirstOver}
use Rattle.tri_atlas.specs.VectorLaws.{VectorLaws}

-- j is below n, or so many on
pub below_or_on : (j n : ℕ) → (j < n) ⊎ ((i : ℕ) × (j ≡ n + i))
below_or_on j zero = inr (j, omega arith)
below_or_on zero (suc n) = inl (omega arith)
below_or_on (suc j) (suc n) = elim (below_or_on j n) [
  | inl low ↦ inl (omega arith)
  | inr on ↦ inr (on.0, (let e : j ≡ n + on.0 = on.1 in omega arith))
]

-- no flip of the moves gives a number that reaches the bound
abbrev pub NoneFirst : ℕ → List ℕ → List Move → Type 0
NoneFirst bound w moves = (k : ℕ) → ¬ IsFirstOver bound w moves k

none_before : (bound : ℕ) (w : List ℕ) (moves : List Move) → NoneFirst bound w moves → (n j : ℕ) → j < n
    → j < length moves → ¬ IsOver bound (move_at moves j) (vector_along (take j moves) w)
none_before bound w moves none zero j low within over = absurd (omega arith)
none_before bound w moves none (suc n) j low within over =
    none j (record {
      within = within;
      over = over;
      first = λ i less. none_before bound w moves none n i (omega arith) (omega arith);
    })

same_over : (bound : ℕ) (m n : Move) (v w : List ℕ) → m ≡ n → v ≡ w → IsOver bound m v → IsOver bound n w
same_over bound m n v w moves vectors over =
    subst (λ (x : Move). IsOver bound x w) moves (subst (IsOver bound m) vectors over)

module _ (laws : VectorLaws) (bound : ℕ) (w : List ℕ) (first second : List Move) where
  left_move : (k : ℕ) → k < length first → move_at (first ++ second) k ≡ move_at first k
  left_move k low = get_or_append_left first second (relabel []) k low

  left_vector : (k : ℕ) → k < length first
      → vector_along (take k (first ++ second)) w ≡ vector_along (take k first) w
  left_vector k low = ap (λ (ms : List Move). vector_along ms w) (take-append-le k first second (omega arith))

  right_move : (i : ℕ) → move_at (first ++ second) (length first + i) ≡ move_at second i
  right_move i = get_or-append-add first second i (relabel [])

  right_vector : (i : ℕ) → vector_along (take (length first + i) (first ++ second)) w
      ≡ vector_along (take i second) (vector_along first w)
  right_vector i =
      ap (λ (ms : List Move). vector_along ms w) (take-append-add first second i) ∙ laws.join first (take i second) w

  -- what is too large along the first moves is so along all
  pub over_left : (k : ℕ) → IsFirstOver bound w first k → IsFirstOver bound w (first ++ second) k
  over_left k h = record {
    within = let low : k < length first = h.within in omega (arith, length-append first second);
    over = same_over bound _ _ _ _ (sym (left_move k h.within)) (sym (left_vector k h.within)) h.over;
    first = λ j less over. let low : k < length first = h.within in
        let here : j < length first = omega arith in
        h.first j less (same_over bound _ _ _ _ (left_move j here) (left_vector j here) over);
  }

  -- and where nothing is, what is too large along the second from there on
  pub over_right : (i : ℕ) → NoneFirst bound w first → IsFirstOver bound (vector_along first w) second i
      → IsFirstOver bound w (first ++ second) (length first + i)
  over_right i none h = record {
    within = let low : i < length second = h.within in omega (arith, length-append first second);
    over = same_over bound _ _ _ _ (sym (right_move i)) (sym (right_vector i)) h.over;
    first = λ j less over. elim (below_or_on j (length first)) [
      | inl low ↦ none_before bound w first none (suc j) j (omega arith) low
          (same_over bound _ _ _ _ (left_move j low) (left_vector j low) over)
      | inr on ↦ let e : j ≡ length first + on.0 = on.1 in
          h.first on.0 (omega arith) (same_over bound _ _ _ _ (right_move on.0) (right_vector on.0)
          (subst (λ (n : ℕ). IsOver bound (move_at (first ++ second) n)
          (vector_along (take n (first ++ second)) w)) e over))
    ];
  }

  second_first : (k i : ℕ) → k ≡ length first + i → IsFirstOver bound w (first ++ second) k
      → IsFirstOver bound (vector_along first w) second i
  second_first k i e h = record {
    within = let low : k < length (first ++ second) = h.within in omega (arith, length-append first second, e);
    over = same_over bound _ _ _ _ (right_move i) (right_vector i)
        (subst (λ (n : ℕ). IsOver bound (move_at (first ++ second) n) (vector_along (take n (first ++ second)) w)) e
        h.over);
    first = λ j less over. h.first (length first + j) (omega (arith, e))
        (same_over bound _ _ _ _ (sym (right_move j)) (sym (right_vector j)) over);
  }

  -- nothing is along all, where nothing is along the first, nor along the second from there on
  pub none_joined : NoneFirst bound w first → NoneFirst bound (vector_along first w) second
      → NoneFirst bound w (first ++ second)
  none_joined none then k h = elim (below_or_on k (length first)) [
    | inl low ↦ none_before bound w first none (suc k) k (omega arith) low
        (same_over bound _ _ _ _ (left_move k low) (left_vector k low) h.over)
    | inr on ↦ then on.0 (second_first k on.0 on.1 h)
  ]
