-- Tables of truth values: what a write to one word changes.
--
-- Row i of a table has `width` words, from the word i * width on, and its value in column j is the bit j % 64 of the
-- word j / 64 of these. A column below width * 64 lies in one of the row's own words, so that two values in different
-- rows lie in different words (Places.same_row), and two in different columns of a row in different words or at
-- different bits of one word. The library knows single bits: of a word with one bit set, and of two words joined by
-- `|`.
use Rattle.std.proofs.Common.{◌≡◌, ◌≢◌, ◌<◌, ◌≤◌, ◌+◌, ◌*◌, ◌/◌, ◌%◌, ◌^◌, ◌⊎◌, inl, inr, ℕ, zero, suc, List, length}
use Rattle.std.proofs.Common.{slice_index, slice_set, nat_eq, true, false, Bool, max, bit_or, w64, refl, sym, ◌∙◌, ap}
use Rattle.std.proofs.Common.{subst, arith, add-one}
use Rattle.std.specs.Prelude.{◌||◌}
use Rattle.std.specs.Int.{bit_at}
use native.Mathlib.Nat.{suc-mul, mul-le-mul_right}
use Rattle.std.proofs.lemmas.Bool.{cases_eq, cases_order, eq-eqb}
use Rattle.std.proofs.lemmas.List.{get_or-set_same, get_or-set_other}
use Rattle.std.proofs.lemmas.Nat.Bits.{bit_at_or, bit_at_set_same, bit_at_set_other}
use Rattle.transition_matrix.specs.inside.Bits.{bit, any_below}
use Rattle.transition_matrix.proofs.Places.{same_row, lower_row}

-- ---- one bit set

-- a word with the bit of column j set
abbrev with_bit : ℕ → ℕ → ℕ
with_bit n j = bit_or n (1 * 2 ^ (j % 64) % 2 ^ 64)

abbrev set_in : ℕ → List ℕ → ℕ → ℕ → List ℕ
set_in width words i j = slice_set words (i * width + j / 64) (with_bit (slice_index words (i * width + j / 64)) j)

low_bit : (j : ℕ) → j % 64 < 64
low_bit j = omega arith

same_column_of_bits : (j k : ℕ) → k / 64 ≡ j / 64 → k % 64 ≡ j % 64 → k ≡ j
same_column_of_bits j k word place = omega arith

pub set_here : (width : ℕ) (words : List ℕ) (i j : ℕ) → i * width + j / 64 < length words
    → bit width (set_in width words i j) i j ≡ true
set_here width words i j within =
    let at : ℕ = i * width + j / 64 in
    let word = get_or-set_same words at (with_bit (slice_index words at) j) 0 within in
    eq-eqb _ 1 (ap (λ (n : ℕ). bit_at n (j % 64)) word ∙ bit_at_set_same w64 (slice_index words at) (j % 64) (low_bit
    j))

-- a value in another word
set_elsewhere : (width : ℕ) (words : List ℕ) (i j l k : ℕ) → l * width + k / 64 ≢ i * width + j / 64
    → bit width (set_in width words i j) l k ≡ bit width words l k
set_elsewhere width words i j l k apart =
    ap (λ (n : ℕ). nat_eq (bit_at n (k % 64)) 1) (get_or-set_other words (i * width + j / 64) (l * width + k / 64) _ 0
    apart)

-- a value at another bit of the same word
set_beside : (width : ℕ) (words : List ℕ) (i j k : ℕ) → i * width + j / 64 < length words → k / 64 ≡ j / 64 → k ≢ j
    → bit width (set_in width words i j) i k ≡ bit width words i k
set_beside width words i j k within same apart =
    let at : ℕ = i * width + j / 64 in
    let word = get_or-set_same words at (with_bit (slice_index words at) j) 0 within in
    let P : ℕ → Type 0 = λ s. nat_eq (bit_at (slice_index (set_in width words i j) (i * width + s)) (k % 64)) 1
    ≡ nat_eq (bit_at (slice_index words (i * width + s)) (k % 64)) 1 in
    let here : P (j / 64) = ap (λ (n : ℕ). nat_eq n 1) (ap (λ (n : ℕ). bit_at n (k % 64)) word
    ∙ bit_at_set_other w64 (slice_index words at) (j % 64) (low_bit j) (k % 64)
    (λ e. apart (same_column_of_bits j k same e))) in
    subst P (sym same) here

pub set_columns : (width : ℕ) (words : List ℕ) (i j k : ℕ) → i * width + j / 64 < length words → k ≢ j
    → bit width (set_in width words i j) i k ≡ bit width words i k
set_columns width words i j k within apart = elim (cases_eq (k / 64) (j / 64)) [
  | inl same ↦ set_beside width words i j k within same apart
  | inr other ↦ set_elsewhere width words i j i k (λ e. other (omega arith))
]

word_within : (width j : ℕ) → j < width * 64 → j / 64 < width
word_within width j within = omega arith

pub set_rows : (width : ℕ) (words : List ℕ) (i j l k : ℕ) → j < width * 64 → l ≢ i → k < width * 64
    → bit width (set_in width words i j) l k ≡ bit width words l k
set_rows width words i j l k column apart other =
    set_elsewhere width words i j l k
    (λ e. apart (same_row width l i (k / 64) (j / 64) (word_within width k other) (word_within width j column) e))

-- ---- words joined

or_test : (a b : ℕ) → a < 2 → b < 2 → nat_eq (max a b) 1 ≡ (nat_eq a 1 || nat_eq b 1)
or_test zero zero left right = refl
or_test zero (suc zero) left right = refl
or_test (suc zero) zero left right = refl
or_test (suc zero) (suc zero) left right = refl
or_test (suc (suc a)) b left right = absurd (omega arith)
or_test zero (suc (suc b)) left right = absurd (omega arith)
or_test (suc zero) (suc (suc b)) left right = absurd (omega arith)

bit_small : (n k : ℕ) → bit_at n k < 2
bit_small n k = omega arith

pub joined_words : (a b k : ℕ) → nat_eq (bit_at (bit_or a b) k) 1 ≡ (nat_eq (bit_at a k) 1 || nat_eq (bit_at b k) 1)
joined_words a b k = ap (λ (n : ℕ). nat_eq n 1) (bit_at_or a b k)
    ∙ or_test (bit_at a k) (bit_at b k) (bit_small a k) (bit_small b k)

-- a row whose words are all joined with those of another row
pub joined_row : (width : ℕ) (words others new : List ℕ) (i l j : ℕ) → j < width * 64
    → ((s : ℕ) → s < width → slice_index new (i * width + s)
    ≡ bit_or (slice_index words (i * width + s)) (slice_index others (l * width + s)))
    → bit width new i j ≡ (bit width words i j || bit width others l j)
joined_row width words others new i l j column joined =
    ap (λ (n : ℕ). nat_eq (bit_at n (j % 64)) 1) (joined (j / 64) (word_within width j column))
    ∙ joined_words _ _ (j % 64)

-- another row, where all words before and after those of row i are as they were
pub other_row : (width : ℕ) (words new : List ℕ) (i k j : ℕ) → k ≢ i → j < width * 64
    → ((p : ℕ) → p < i * width → slice_index new p ≡ slice_index words p)
    → ((p : ℕ) → i * width + width ≤ p → slice_index new p ≡ slice_index words p)
    → bit width new k j ≡ bit width words k j
other_row width words new i k j apart column before after =
    let word = word_within width j column in
    let at : ℕ = k * width + j / 64 in
    let same : slice_index new at ≡ slice_index words at = elim (cases_order k i) [
      | inl e ↦ absurd (apart e)
      | inr which ↦ elim which [
        | inl lower ↦ before at (omega (arith, lower_row width k i (j / 64) 0 word lower))
        | inr upper ↦ after at (omega (arith, next_row width i k upper))
      ]
    ] in
    ap (λ (n : ℕ). nat_eq (bit_at n (j % 64)) 1) same
  where
    next_row : (width i k : ℕ) → i < k → i * width + width ≤ k * width
    next_row width i k lower = omega (arith, suc-mul i width, mul-le-mul_right {m = suc i} {n = k} width lower)

-- ---- one of several

pub any_below-more : (n : ℕ) (p : ℕ → Bool) → any_below (n + 1) p ≡ (any_below n p || p n)
any_below-more n p = ap (λ (m : ℕ). any_below m p) (add-one n)
