-- The strands of a vector in the order of their numbers: all of them stand in the list, and it rises.
--
-- Where the vector is u ++ v and u has e entries, the strands of the edges from e on have the numbers from the sum of u
-- on, edge by edge: those of the edge e, with n strands, are the n numbers that follow, and those of the later edges
-- are not less than the sum of u and n.
use Rattle.std.proofs.Common.{ℕ, zero, suc, pos, List, [], ◌∷◌, ◌++◌, ◌≡◌, ◌≢◌, ◌≤◌, ◌<◌, ◌+◌, inl, inr, refl, sym, ◌∙◌}
use Rattle.std.proofs.Common.{ap, subst, append_assoc, arith, length, length-append, map, take, get_or}
use Rattle.std.specs.List.{All, sum, count_by, range_with_len}
use Rattle.std.specs.Prelude.{slice_index}
use Rattle.std.proofs.lemmas.Bool.{cases_eq}
use Rattle.std.proofs.lemmas.List.{take_at, get_or_at}
use Rattle.std.proofs.lemmas.List.Elements.{All-nil, All-cons, All-head, All-tail, All-append, All-map, All-weaker}
use Rattle.std.proofs.lemmas.List.Sums.{sum_by_push, sum_by-cons}
use Rattle.std.proofs.lemmas.List.FromFn.{length-map-range_with_len}
use Rattle.ideal_tri.specs.Labels.{edge_of}
use Rattle.ideal_tri.specs.Vectors.{weight}
use Rattle.ideal_tri.specs.Strands.{State, state_at, same_state}
use Rattle.ideal_tri.specs.Drawings.{strand_number, strands_from, strands}
use Rattle.ideal_tri.proofs.Drawings.Tallies.{count_by-cons, count_by-append, count_by-yes}
use Rattle.ideal_tri.proofs.Drawings.Rising.{Rising}
use Rattle.ideal_tri.proofs.Drawings.Through.{same_state_decides}

-- ---- ranges

range_from : (a n : ℕ) → All (λ i. a ≤ i) (range_with_len a n)
range_from a zero = All-nil (λ i. a ≤ i)
range_from a (suc n) =
    All-cons (λ i. a ≤ i) a (range_with_len (a + 1) n) (omega arith)
    (All-weaker (λ i. a + 1 ≤ i) (λ i. a ≤ i) (λ i b. omega arith) (range_with_len (a + 1) n) (range_from (a + 1) n))

range_below : (a n : ℕ) → All (λ i. i < a + n) (range_with_len a n)
range_below a zero = All-nil (λ i. i < a + zero)
range_below a (suc n) =
    All-cons (λ i. i < a + suc n) a (range_with_len (a + 1) n) (omega arith)
    (All-weaker (λ i. i < (a + 1) + n) (λ i. i < a + suc n) (λ i b. omega arith) (range_with_len (a + 1) n)
    (range_below (a + 1) n))

-- ---- the strands from an edge on; the vector is u ++ v, and the edges of v are those from e on

-- a strand of the edges from e on, seen from the label that is not negative
pub record IsSide (w : List ℕ) (q : State) : Type 0 where
  pub positive : q.label ≡ pos (edge_of q.label)
  pub edge : edge_of q.label < length w
  pub within : q.place < weight w q.label

row : ℕ → ℕ → List State
row e n = map (state_at (pos e)) (range_with_len 0 n)

entry : (w u v : List ℕ) (n e : ℕ) → w ≡ u ++ (n ∷ v) → length u ≡ e → slice_index w e ≡ n
entry w u v n e is at = ap (λ (z : List ℕ). get_or z e 0) is ∙ get_or_at u n v 0 e at

moved : (w u v : List ℕ) (n : ℕ) → w ≡ u ++ (n ∷ v) → w ≡ (u ++ (n ∷ [])) ++ v
moved w u v n is = is ∙ sym (append_assoc u (n ∷ []) v)

row_sides : (w : List ℕ) (e n : ℕ) → e < length w → slice_index w e ≡ n → All (IsSide w) (row e n)
unfolding row
row_sides w e n b is =
    All-map (IsSide w) (state_at (pos e)) (range_with_len 0 n)
    (All-weaker (λ i. i < 0 + n) (λ i. IsSide w (state_at (pos e) i))
    (λ i c. record { positive = refl; edge = b; within = omega arith }) (range_with_len 0 n) (range_below 0 n))

pub sides_from : (w u v : List ℕ) (e : ℕ) → w ≡ u ++ v → length u ≡ e → All (IsSide w) (strands_from e v)
unfolding row
sides_from w u [] e is at = All-nil (IsSide w)
sides_from w u (n ∷ v) e is at =
    All-append (IsSide w) (row e n) (strands_from (suc e) v)
    (row_sides w e n (omega (arith, ap length is, length-append u (n ∷ v))) (entry w u v n e is at))
    (sides_from w (u ++ (n ∷ [])) v (suc e) (moved w u v n is) (omega (arith, length-append u (n ∷ []))))

pub are_sides : (w : List ℕ) → All (IsSide w) (strands w)
are_sides w = sides_from w [] w 0 refl refl

pub length-strands_from : (e : ℕ) (v : List ℕ) → length (strands_from e v) ≡ sum v
unfolding row
length-strands_from e [] = refl
length-strands_from e (n ∷ v) =
    omega (
      arith,
      length-append (row e n) (strands_from (suc e) v),
      length-map-range_with_len (state_at (pos e)) 0 n,
      length-strands_from (suc e) v,
      sum_by-cons (λ k. k) n v,
    )

-- ---- their numbers

rising_append : {A : Type 0} (number : A → ℕ) (m : ℕ) (xs ys : List A) → Rising number xs → Rising number ys
    → All (λ x. number x < m) xs → All (λ y. m ≤ number y) ys → Rising number (xs ++ ys)
rising_append number m [] ys h k below above = k
rising_append number m (x ∷ xs) ys h k below above = (
  All-append (λ y. number x < number y) xs ys h.0
      (All-weaker (λ y. m ≤ number y) (λ y. number x < number y)
      (λ y b. omega (arith, All-head (λ z. number z < m) x xs below)) ys above),
  rising_append number m xs ys h.1 k (All-tail (λ z. number z < m) x xs below) above,
)

row_rising : (w : List ℕ) (e a n : ℕ) → Rising (strand_number w) (map (state_at (pos e)) (range_with_len a n))
row_rising w e a zero = tt
row_rising w e a (suc n) = (
  All-map (λ q. strand_number w (state_at (pos e) a) < strand_number w q) (state_at (pos e)) (range_with_len (a + 1) n)
      (All-weaker (λ i. a + 1 ≤ i) (λ i. strand_number w (state_at (pos e) a) < strand_number w (state_at (pos e) i))
      (λ i b. omega arith)
      (range_with_len (a + 1) n) (range_from (a + 1) n)),
  row_rising w e (a + 1) n,
)

-- on the edge e the numbers go from the sum of the entries before it to that of the entries up to it
row_numbers : (w : List ℕ) (e m n : ℕ) → sum (take e w) ≡ m
    → All (λ q. m ≤ strand_number w q) (row e n) × All (λ q. strand_number w q < m + n) (row e n)
unfolding row
row_numbers w e m n is = (
  All-map (λ q. m ≤ strand_number w q) (state_at (pos e)) (range_with_len 0 n)
      (All-weaker (λ i. 0 ≤ i) (λ i. m ≤ strand_number w (state_at (pos e) i)) (λ i b. omega arith) (range_with_len 0 n)
      (range_from 0 n)),
  All-map (λ q. strand_number w q < m + n) (state_at (pos e)) (range_with_len 0 n)
      (All-weaker (λ i. i < 0 + n) (λ i. strand_number w (state_at (pos e) i) < m + n) (λ i b. omega arith)
      (range_with_len 0 n) (range_below 0 n)),
)

numbers_from : (w u v : List ℕ) (e : ℕ) → w ≡ u ++ v → length u ≡ e
    → Rising (strand_number w) (strands_from e v) × All (λ q. sum u ≤ strand_number w q) (strands_from e v)
unfolding row
numbers_from w u [] e is at = (tt, All-nil (λ q. sum u ≤ strand_number w q))
numbers_from w u (n ∷ v) e is at =
    let before : sum (take e w) ≡ sum u = ap (λ (z : List ℕ). sum (take e z)) is ∙ ap sum (take_at u (n ∷ v) e at) in
    let here = row_numbers w e (sum u) n before in
    let (rest, above) =
    numbers_from w (u ++ (n ∷ [])) v (suc e) (moved w u v n is) (omega (arith, length-append u (n ∷ []))) in
    let more : sum (u ++ (n ∷ [])) ≡ sum u + n = sum_by_push (λ k. k) u n in (
      rising_append (strand_number w) (sum u + n) (row e n) (strands_from (suc e) v) (row_rising w e 0 n) rest here.1
          (All-weaker (λ q. sum (u ++ (n ∷ [])) ≤ strand_number w q) (λ q. sum u + n ≤ strand_number w q)
          (λ q b. omega arith)
          (strands_from (suc e) v) above),
      All-append (λ q. sum u ≤ strand_number w q) (row e n) (strands_from (suc e) v) here.0
          (All-weaker (λ q. sum (u ++ (n ∷ [])) ≤ strand_number w q) (λ q. sum u ≤ strand_number w q)
          (λ q b. omega arith)
          (strands_from (suc e) v) above),
    )

pub strands_rise : (w : List ℕ) → Rising (strand_number w) (strands w)
strands_rise w = (numbers_from w [] w 0 refl refl).0

-- ---- none is missing

in_row : (e a n i : ℕ) → a ≤ i → i < a + n
    → count_by (same_state (state_at (pos e) i)) (map (state_at (pos e)) (range_with_len a n)) ≢ 0
in_row e a zero i b c none = omega arith
in_row e a (suc n) i b c none =
    let rest : List State = map (state_at (pos e)) (range_with_len (a + 1) n) in
    elim (cases_eq i a) [
      | inl d ↦
          omega (
            arith,
            count_by-yes (same_state (state_at (pos e) i)) (state_at (pos e) a) rest
                ((same_state_decides (state_at (pos e) i) (state_at (pos e) a)).1 (ap (state_at (pos e)) d)),
          )
      | inr d ↦
          in_row e (a + 1) n i (omega arith) (omega arith)
          (omega (arith, count_by-cons (same_state (state_at (pos e) i)) (state_at (pos e) a) rest))
    ]

in_strands_from : (v : List ℕ) (e k i : ℕ) → i < slice_index v k
    → count_by (same_state (state_at (pos (e + k)) i)) (strands_from e v) ≢ 0
unfolding row
in_strands_from [] e k i b none = absurd (omega arith)
in_strands_from (n ∷ v) e zero i b none =
    let here : e + 0 ≡ e = omega arith in
    in_row e 0 n i (omega arith) (omega arith)
    (omega (
      arith,
      ap (λ (f : ℕ). count_by (same_state (state_at (pos f) i)) (strands_from e (n ∷ v))) here,
      count_by-append (same_state (state_at (pos e) i)) (row e n) (strands_from (suc e) v),
    ))
in_strands_from (n ∷ v) e (suc k) i b none =
    let later : e + suc k ≡ suc e + k = omega arith in
    in_strands_from v (suc e) k i b
    (omega (
      arith,
      ap (λ (f : ℕ). count_by (same_state (state_at (pos f) i)) (strands_from e (n ∷ v))) later,
      count_by-append (same_state (state_at (pos (suc e + k)) i)) (row e n) (strands_from (suc e) v),
    ))

pub in_strands : (w : List ℕ) (e i : ℕ) → i < slice_index w e
    → count_by (same_state (state_at (pos e) i)) (strands w) ≢ 0
in_strands w e i b =
    let none : 0 + e ≡ e = omega arith in
    subst (λ (f : ℕ). count_by (same_state (state_at (pos f) i)) (strands w) ≢ 0) none (in_strands_from w 0 e i b)
