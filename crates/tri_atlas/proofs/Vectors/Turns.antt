-- One step of a strand: where it leaves the triangle, with places counted from both ends of a side.
--
-- A strand enters the triangle (x,y,z) through place i of x. With k strands round the corner at the tail of x, that
-- of z, it goes on to y where k <= i, and back to z where i < k. The place m where it leaves is counted from the tail
-- of that side, so i + m + 1 is the number of x in the first case, and that of z in the second: no difference is
-- taken.
use Rattle.std.proofs.Common.{ℕ, ℤ, Bool, true, false, cond, leb, List, ◌≡◌, ◌≤◌, ◌<◌, ◌+◌, ◌-◌, inl, inr, refl, sym}
use Rattle.std.proofs.Common.{◌∙◌}
use Rattle.std.proofs.Common.{ap, subst, arith}
use Rattle.std.specs.Prelude.{slice_index}
use Rattle.std.proofs.lemmas.Bool.{cases_lt, le-leb, lt-leb}
use Rattle.ideal_tri.specs.Labels.{inverse, edge_of}
use Rattle.ideal_tri.specs.Triangulations.{IsLabel, next, previous}
use Rattle.ideal_tri.specs.Vectors.{weight, corner_count}
use Rattle.ideal_tri.specs.Strands.{State, state_at, IsStrand, strand_step}
use Rattle.tri_atlas.proofs.LowerLaws.{LowerLaws}

-- ---- the two labels of an edge

pub one_edge : LowerLaws → (x y : ℤ) → y ≡ inverse x → edge_of y ≡ edge_of x
one_edge laws x y is = ap edge_of is ∙ laws.labels.edge x

pub same_number : LowerLaws → (w : List ℕ) (x y : ℤ) → y ≡ inverse x → weight w y ≡ weight w x
same_number laws w x y is = ap (slice_index w) (one_edge laws x y is)

-- ---- one step

-- each side is crossed by the strands round its two ends
pub record HasCornerSums (triples : List (List ℤ)) (w : List ℕ) : Type 0 where
  pub sums : (x : ℤ) → IsLabel triples x
      → weight w x ≡ corner_count triples w x + corner_count triples w (previous triples x)

-- on to y or back to z; n is the number of the side of entry, and m that of z
pub data Turns (k : ℕ) (y z : ℤ) (n m i : ℕ) (r : State) : Type 0 where
  on : k ≤ i → r.label ≡ y → i + r.place + 1 ≡ n → Turns k y z n m i r
  back : i < k → r.label ≡ z → i + r.place + 1 ≡ m → Turns k y z n m i r

module _ (laws : LowerLaws) (triples : List (List ℤ)) (w : List ℕ) where
  -- where a strand that enters through place i of x goes
  abbrev TurnsFrom : ℤ → ℕ → ℕ → State → Type 0
  TurnsFrom x n i r =
      Turns (corner_count triples w (previous triples x)) (next triples x) (previous triples x) n
      (weight w (previous triples x)) i r

  -- out of the triangle through the side of q, and from place i of the other side of that edge
  step_turns : (q : State) (i : ℕ) → HasCornerSums triples w → IsLabel triples (previous triples (inverse q.label))
      → q.place + i + 1 ≡ weight w q.label
      → TurnsFrom (inverse q.label) (weight w q.label) i (strand_step triples w q)
  step_turns q i h l there =
      elim (cases_lt i (corner_count triples w (previous triples (inverse q.label)))) [
        | inl below ↦
            (let is = pick false (lt-leb k at (omega (arith, at_is))) in
            back below (ap (λ (r : State). r.label) is)
            (omega (arith, ap (λ (r : State). r.place) is, h.sums z l, at_is)))
        | inr above ↦
            (let is = pick true (le-leb k at (omega (arith, at_is))) in
            on above (ap (λ (r : State). r.label) is)
            (omega (arith, ap (λ (r : State). r.place) is, same_number laws w q.label x refl, at_is)))
      ]
    where
      x : ℤ
      x = inverse q.label

      z : ℤ
      z = previous triples (inverse q.label)

      k : ℕ
      k = corner_count triples w (previous triples (inverse q.label))

      at : ℕ
      at = weight w q.label - 1 - q.place

      at_is : weight w q.label - 1 - q.place ≡ i
      at_is = omega arith

      pick : (b : Bool)
          → leb (corner_count triples w (previous triples (inverse q.label))) (weight w q.label - 1 - q.place) ≡ b
          → strand_step triples w q
          ≡ cond b
          (state_at (next triples (inverse q.label))
          (weight w (inverse q.label) - 1 - (weight w q.label - 1 - q.place)))
          (state_at (previous triples (inverse q.label))
          (weight w (previous triples (inverse q.label)) - 1 - (weight w q.label - 1 - q.place)))
      pick b e =
          ap (λ (t : Bool). cond t (state_at (next triples x) (weight w x - 1 - at))
          (state_at z (weight w z - 1 - at))) e

  -- the same, with the three sides named
  pub turns_at : (q : State) (i n : ℕ) (x y z : ℤ) → HasCornerSums triples w → IsLabel triples z → inverse q.label ≡ x
      → next triples x ≡ y → previous triples x ≡ z → weight w q.label ≡ n → q.place + i + 1 ≡ n
      → Turns (corner_count triples w z) y z n (weight w z) i (strand_step triples w q)
  turns_at q i n x y z h l is_x is_y is_z is_n there =
      subst (λ (u : ℕ). Turns (corner_count triples w z) y z u (weight w z) i r) is_n
      (subst (λ (u : ℤ). Turns (corner_count triples w z) u z (weight w q.label) (weight w z) i r)
      (ap (next triples) is_x ∙ is_y)
      (subst (λ (u : ℤ). Turns (corner_count triples w u) (next triples (inverse q.label)) u (weight w q.label)
      (weight w u) i r)
      there_z
      (step_turns q i h (subst (IsLabel triples) (sym there_z) l) (there ∙ sym is_n))))
    where
      r : State
      r = strand_step triples w q

      there_z : previous triples (inverse q.label) ≡ z
      there_z = ap (previous triples) is_x ∙ is_z

  -- what holds of the two sides beside the one of entry holds of the side where a strand leaves
  pub beside : (P : ℤ → Type 0) (q : State) → P (next triples (inverse q.label))
      → P (previous triples (inverse q.label))
      → P (strand_step triples w q).label
  beside P q y z = go (leb (corner_count triples w (previous triples (inverse q.label))) i)
    where
      i : ℕ
      i = weight w q.label - 1 - q.place

      go : (b : Bool)
          → P (cond b (state_at (next triples (inverse q.label)) (weight w (inverse q.label) - 1 - i))
          (state_at (previous triples (inverse q.label)) (weight w (previous triples (inverse q.label)) - 1 - i))).label
      go true = y
      go false = z

-- the place of a strand on the other side of the edge
pub far_place : (triples : List (List ℤ)) (w : List ℕ) (q : State) → IsStrand triples w q
    → q.place + (weight w q.label - 1 - q.place) + 1 ≡ weight w q.label
far_place triples w q s = let within : q.place < weight w q.label = s.within in omega arith
