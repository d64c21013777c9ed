-- A move at most doubles the greatest number.
use Rattle.std.proofs.Common.{◌<◌, ◌≤◌, ◌+◌, ℕ, zero, suc, ℤ, List, [], ◌∷◌, inl, inr, length, take, get_or}
use Rattle.std.proofs.Common.{sym, subst, arith}
use Rattle.std.specs.List.{All}
use Rattle.std.proofs.lemmas.Bool.{cases_lt}
use Rattle.std.proofs.lemmas.List.{get_or_past}
use Rattle.std.proofs.lemmas.List.Elements.{All-map, All-set}
use Rattle.ideal_tri.specs.Labels.{edge_of}
use Rattle.ideal_tri.specs.Relabellings.{inverse_images}
use Rattle.ideal_tri.specs.Vectors.{weight}
use Rattle.tri_atlas.specs.Moves.{Move, flip, unflip, relabel}
use Rattle.tri_atlas.specs.MovedVectors.{flipped_number, move_at, new_number, vector_after, vector_along, IsOver}

-- no number is greater than n
abbrev pub AtMost : ℕ → List ℕ → Type 0
AtMost n w = All (λ m. m ≤ n) w

weight_low : (n : ℕ) (w : List ℕ) → AtMost n w → (x : ℤ) → weight w x ≤ n
weight_low n w low x = elim (cases_lt (edge_of x) (length w)) [
  | inl inside ↦ low (edge_of x) 0 inside
  | inr past ↦
      subst (λ (m : ℕ). m ≤ n) (sym (get_or_past w (edge_of x) 0 past)) (omega arith)
]

flipped_low : (n : ℕ) (w : List ℕ) → AtMost n w → (e a b c d : ℤ) → flipped_number w e a b c d ≤ n + n
flipped_low n w low e a b c d =
    omega (arith, weight_low n w low a, weight_low n w low b, weight_low n w low c, weight_low n w low d)

new_low : (n : ℕ) (w : List ℕ) → AtMost n w → (m : Move) → new_number m w ≤ n + n
new_low n w low (flip e a b c d) = flipped_low n w low e a b c d
new_low n w low (unflip e a b c d) = flipped_low n w low e a b c d
new_low n w low (relabel images) = omega arith

wider : (n : ℕ) (w : List ℕ) → AtMost n w → AtMost (n + n) w
wider n w low i d inside =
    let here = low i d inside in
    omega (arith, here)

all_wide : (n : ℕ) (w : List ℕ) → AtMost n w → (x : ℤ) → weight w x ≤ n + n
all_wide n w low x = omega (arith, weight_low n w low x)

after_low : (n : ℕ) (w : List ℕ) → AtMost n w → (m : Move) → AtMost (n + n) (vector_after m w)
after_low n w low (flip e a b c d) =
    All-set (λ (k : ℕ). k ≤ n + n) w (edge_of e) (flipped_number w e a b c d) (flipped_low n w low e a b c d)
    (wider n w low)
after_low n w low (unflip e a b c d) =
    All-set (λ (k : ℕ). k ≤ n + n) w (edge_of e) (flipped_number w e a b c d) (flipped_low n w low e a b c d)
    (wider n w low)
after_low n w low (relabel images) =
    All-map (λ (k : ℕ). k ≤ n + n) (weight w) (inverse_images images)
    (λ i d inside. all_wide n w low (get_or (inverse_images images) i d))

-- n doubled so many times
abbrev pub doubled : ℕ → ℕ → ℕ
doubled zero n = n
doubled (suc k) n = doubled k (n + n)

doubled_least : (k n : ℕ) → n ≤ doubled k n
doubled_least zero n = omega arith
doubled_least (suc k) n =
    let more : n + n ≤ doubled k (n + n) = doubled_least k (n + n) in
    omega (arith, more)

pub doubled_more : (j k n : ℕ) → j ≤ k → doubled j n ≤ doubled k n
doubled_more zero k n few = doubled_least k n
doubled_more (suc j) zero n few = absurd (omega (arith, few))
doubled_more (suc j) (suc k) n few = doubled_more j k (n + n) (omega (arith, few))

-- so no flip reaches a bound that is greater than all doublings
pub none_over : (moves : List Move) (n : ℕ) (w : List ℕ) (bound : ℕ) → AtMost n w
    → doubled (length moves) n < bound → (k : ℕ) → k < length moves
    → ¬ IsOver bound (move_at moves k) (vector_along (take k moves) w)
none_over [] n w bound low below k within over = omega (arith, within)
none_over (m ∷ moves) n w bound low below zero within over =
    let reached : bound ≤ new_number m w = over.1 in
    let low_here : new_number m w ≤ n + n = new_low n w low m in
    let least : n + n ≤ doubled (length moves) (n + n) = doubled_least (length moves) (n + n) in
    let limit : doubled (length moves) (n + n) < bound = below in
    omega (arith, reached, low_here, least, limit)
none_over (m ∷ moves) n w bound low below (suc k) within over =
    none_over moves (n + n) (vector_after m w) bound (after_low n w low m) below k (omega (arith, within)) over
