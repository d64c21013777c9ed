-- The drawing of a vector whose curves begin at their least strands and stand in rising order.
use Rattle.std.specs.Prelude.{◌≡◌, ◌≤◌, ◌+◌, ◌-◌, ◌*◌, ℕ, zero, suc, ℤ, pos, negsuc, List, [], ◌∷◌}
use Rattle.std.specs.Prelude.{◌++◌, length, map, filter, sum, take, slice_index, Bool, nat_le, All}
use Rattle.std.specs.List.{range_with_len, list_all, before_first}
use Rattle.std.specs.List.Sorted.{IsStrictlyIncreasing}
use Rattle.ideal_tri.specs.Labels.{edge_of}
use Rattle.ideal_tri.specs.Strands.{State, state_at, same_state, strand_step}

-- ---- numbers of strands: from 0, edge after edge, from the tail of the label that is not negative

-- the place on the edge, seen from that label
abbrev pub place_on_edge : List ℕ → ℤ → ℕ → ℕ
place_on_edge w (pos e) i = i
place_on_edge w (negsuc e) i = slice_index w e - 1 - i

-- the number of the strand of a state
abbrev pub strand_number : List ℕ → State → ℕ
strand_number w q = sum (take (edge_of q.label) w) + place_on_edge w q.label q.place

-- the strands of the edges from e on, in the order of their numbers, each as a state of the label
-- that is not negative
abbrev pub strands_from : ℕ → List ℕ → List State
strands_from e [] = []
strands_from e (n ∷ w) = map (state_at (pos e)) (range_with_len 0 n) ++ strands_from (suc e) w

-- all strands, in the order of their numbers
abbrev pub strands : List ℕ → List State
strands w = strands_from 0 w

-- ---- the curve through a strand

-- so many values from x on, each the step of the one before
abbrev pub orbit : {A : Type 0} → (A → A) → ℕ → A → List A
orbit step zero x = []
orbit step (suc n) x = x ∷ orbit step n (step x)

-- from q on until it comes back: there are no more states than two for each strand
abbrev pub curve_from : List (List ℤ) → List ℕ → State → List State
curve_from triples w q =
    let step : State → State = strand_step triples w in
    q ∷ before_first (same_state q) (orbit step (2 * length (strands w)) (step q))

-- no strand of the run has a lesser number than q
abbrev pub is_least_of : List ℕ → State → List State → Bool
is_least_of w q run = list_all (λ p. nat_le (strand_number w q) (strand_number w p)) run

-- those of the strands that are the least of their curves
abbrev pub least_among : List (List ℤ) → List ℕ → List State → List State
least_among triples w qs = filter (λ q. is_least_of w q (curve_from triples w q)) qs

-- the curves from those on
abbrev pub curves_among : List (List ℤ) → List ℕ → List State → List (List State)
curves_among triples w qs = map (curve_from triples w) (least_among triples w qs)

-- the curves of a vector, each from its least strand on
abbrev pub draw : List (List ℤ) → List ℕ → List (List State)
draw triples w = curves_among triples w (strands w)

-- ---- the two properties that fix it

-- the run begins with its least strand, seen from the label that is not negative
pub record BeginsAtLeast (w : List ℕ) (run : List State) : Type 0 where
  pub edge : ℕ
  pub place : ℕ
  pub rest : List State
  pub begins : run ≡ state_at (pos edge) place ∷ rest
  pub least : All (λ p. strand_number w (state_at (pos edge) place) ≤ strand_number w p) run

-- the number of the strand with which a run begins
abbrev pub first_number : List ℕ → List State → ℕ
first_number w [] = 0
first_number w (q ∷ run) = strand_number w q

-- each run begins with a greater strand than the one before
abbrev pub IsRising : List ℕ → List (List State) → Type 0
IsRising w runs = IsStrictlyIncreasing (map (first_number w) runs)
