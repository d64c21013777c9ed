-- Strands over an edge and through a triangle: each way leads back when taken again, and leaves no strand where it is.
--
-- A side with p strands round its head and r round its tail has p + r of them. Through the triangle those round the
-- tail go to the side before, where they are the ones round its head, and the others to the side after, where they are
-- the ones round its tail; places are counted from the other end there. So a step, over an edge and through the next
-- triangle, keeps the place of a strand round the tail of its label, and any other strand passes the corner behind
-- that.
use Rattle.std.proofs.Common.{ℕ, ℤ, Bool, cond, eqb, List, ◌≡◌, ◌≢◌, ◌≤◌, ◌<◌, ◌+◌, ◌-◌, inl, inr, sym, ◌∙◌, ap, subst}
use Rattle.std.proofs.Common.{arith}
use Rattle.std.specs.Bool.{Decides}
use Rattle.std.specs.Ordering.{int_eq}
use Rattle.std.specs.Prelude.{slice_index}
use Rattle.std.proofs.lemmas.Bool.{cases_lt, le-leb, lt-leb}
use Rattle.std.proofs.lemmas.Bool.Decides.{Decides-int_eq, Decides-eqb, Decides-and, Decides-like}
use Rattle.ideal_tri.specs.Labels.{inverse}
use Rattle.ideal_tri.specs.Triangulations.{IsLabel, next, previous}
use Rattle.ideal_tri.specs.Vectors.{weight, corner_count}
use Rattle.ideal_tri.specs.Strands.{State, state_at, IsStrand, same_state, opposite, cross, strand_step}
use Rattle.ideal_tri.specs.SurfaceLaws.{TriangleLaws}
use Rattle.ideal_tri.proofs.Labels.{inverse-inverse, inverse_label, edge_of-inverse, not_own_inverse}

-- ---- states

pub state_same : (q r : State) → q.label ≡ r.label → q.place ≡ r.place → q ≡ r
state_same q r e f = ap (λ (x : ℤ). state_at x q.place) e ∙ ap (λ (i : ℕ). state_at r.label i) f

pub same_state_decides : (q r : State) → Decides (same_state q r) (q ≡ r)
same_state_decides q r =
    Decides-like (same_state q r) (λ (h : (q.label ≡ r.label) × (q.place ≡ r.place)). state_same q r h.0 h.1)
    (λ e. (ap (λ (p : State). p.label) e, ap (λ (p : State). p.place) e))
    (Decides-and (int_eq q.label r.label) (eqb q.place r.place) (Decides-int_eq q.label r.label)
    (Decides-eqb q.place r.place))

-- ---- over an edge

pub weight-inverse : (w : List ℕ) (x : ℤ) → weight w (inverse x) ≡ weight w x
weight-inverse w x = ap (slice_index w) (edge_of-inverse x)

module _ (triples : List (List ℤ)) (w : List ℕ) where
  pub opposite_valid : (q : State) → IsStrand triples w q → IsStrand triples w (opposite w q)
  opposite_valid q v = record {
    is_label = inverse_label triples q.label v.is_label;
    within = omega (arith, weight-inverse w q.label, v.within);
  }

  pub opposite_back : (q : State) → IsStrand triples w q → opposite w (opposite w q) ≡ q
  opposite_back q v =
      state_same (opposite w (opposite w q)) q (inverse-inverse q.label)
      (omega (arith, weight-inverse w q.label, v.within))

  pub opposite_other : (q : State) → IsStrand triples w q → opposite w q ≢ q
  opposite_other q v e = not_own_inverse q.label (sym (ap (λ (p : State). p.label) e))

-- ---- through a triangle

module _ (triples : List (List ℤ)) (w : List ℕ) (laws : TriangleLaws triples)
    (corners : (x : ℤ) → IsLabel triples x → weight w x ≡ corner_count triples w x + corner_count triples w
    (previous triples x)) where
  abbrev pub after : ℤ → ℤ
  after x = next triples x

  abbrev pub before : ℤ → ℤ
  before x = previous triples x

  abbrev pub corner : ℤ → ℕ
  corner x = corner_count triples w x

  before_label : (x : ℤ) → IsLabel triples x → IsLabel triples (before x)
  before_label x l = laws.label (after x) (laws.label x l)

  -- the numbers of strands at the three sides
  side_after : (x : ℤ) → IsLabel triples x → weight w (after x) ≡ corner (after x) + corner x
  side_after x l =
      corners (after x) (laws.label x l) ∙ ap (λ (y : ℤ). corner (after x) + corner y) (laws.round x l)

  before-before : (x : ℤ) → IsLabel triples x → before (before x) ≡ after x
  before-before x l = ap (next triples) (laws.round x l)

  side_before : (x : ℤ) → IsLabel triples x → weight w (before x) ≡ corner (before x) + corner (after x)
  side_before x l =
      corners (before x) (before_label x l) ∙ ap (λ (y : ℤ). corner (before x) + corner y) (before-before x l)

  pub cross-on : (x : ℤ) (i : ℕ) → corner (before x) ≤ i
      → cross triples w (state_at x i) ≡ state_at (after x) (weight w x - 1 - i)
  cross-on x i b =
      ap (λ (t : Bool). cond t (state_at (after x) (weight w x - 1 - i))
      (state_at (before x) (weight w (before x) - 1 - i)))
      (le-leb (corner (before x)) i b)

  pub cross-round : (x : ℤ) (i : ℕ) → i < corner (before x)
      → cross triples w (state_at x i) ≡ state_at (before x) (weight w (before x) - 1 - i)
  cross-round x i b =
      ap (λ (t : Bool). cond t (state_at (after x) (weight w x - 1 - i))
      (state_at (before x) (weight w (before x) - 1 - i)))
      (lt-leb (corner (before x)) i b)

  pub cross_valid : (q : State) → IsStrand triples w q → IsStrand triples w (cross triples w q)
  cross_valid q v =
      let x : ℤ = q.label in
      let i : ℕ = q.place in
      let l : IsLabel triples x = v.is_label in
      elim (cases_lt i (corner (before x))) [
        | inl b ↦
            subst (IsStrand triples w) (sym (cross-round x i b))
            (record { is_label = before_label x l; within = omega (arith, side_before x l) })
        | inr b ↦
            subst (IsStrand triples w) (sym (cross-on x i b))
            (record { is_label = laws.label x l; within = omega (arith, side_after x l, corners x l, v.within) })
      ]

  pub cross_back : (q : State) → IsStrand triples w q → cross triples w (cross triples w q) ≡ q
  cross_back q v =
      let x : ℤ = q.label in
      let i : ℕ = q.place in
      let l : IsLabel triples x = v.is_label in
      elim (cases_lt i (corner (before x))) [
        | inl b ↦
            (let j : ℕ = weight w (before x) - 1 - i in
            let far : corner (before (before x)) ≤ j = omega (arith, side_before x l, ap corner (before-before x l)) in
            ap (cross triples w) (cross-round x i b)
            ∙ cross-on (before x) j far
            ∙ state_same (state_at (after (before x)) (weight w (before x) - 1 - j)) q (laws.round x l)
            (omega (arith, side_before x l)))
        | inr b ↦
            (let j : ℕ = weight w x - 1 - i in
            let near : j < corner (before (after x)) =
            omega (arith, corners x l, v.within, ap corner (laws.round x l)) in
            ap (cross triples w) (cross-on x i b)
            ∙ cross-round (after x) j near
            ∙ state_same (state_at (before (after x)) (weight w (before (after x)) - 1 - j)) q (laws.round x l)
            (omega (arith, v.within, ap (weight w) (laws.round x l))))
      ]

  pub cross_other : (q : State) → IsStrand triples w q → cross triples w q ≢ q
  cross_other q v e =
      let x : ℤ = q.label in
      let i : ℕ = q.place in
      elim (cases_lt i (corner (before x))) [
        | inl b ↦ (laws.moves x v.is_label).1 (ap (λ (p : State). p.label) (sym (cross-round x i b) ∙ e))
        | inr b ↦ (laws.moves x v.is_label).0 (ap (λ (p : State). p.label) (sym (cross-on x i b) ∙ e))
      ]

  -- ---- one step: a strand within the corner at the tail keeps its place as it turns round that corner, any other
  -- turns back

  pub step_on : (q : State) → IsStrand triples w q → q.place < corner (inverse q.label)
      → strand_step triples w q ≡ state_at (after (inverse q.label)) q.place
  step_on q v b =
      let x : ℤ = inverse q.label in
      let l : IsLabel triples x = inverse_label triples q.label v.is_label in
      let i : ℕ = weight w q.label - 1 - q.place in
      let far : corner (before x) ≤ i = omega (arith, v.within, corners x l, weight-inverse w q.label) in
      cross-on x i far ∙ ap (state_at (after x)) (omega (arith, v.within, weight-inverse w q.label))

  pub step_round : (q : State) → IsStrand triples w q → corner (inverse q.label) ≤ q.place
      → ((strand_step triples w q).label ≡ before (inverse q.label)) × (0 < corner (before (inverse q.label)))
  step_round q v b =
      let x : ℤ = inverse q.label in
      let l : IsLabel triples x = inverse_label triples q.label v.is_label in
      let i : ℕ = weight w q.label - 1 - q.place in
      let near : i < corner (before x) = omega (arith, v.within, corners x l, weight-inverse w q.label) in
      (ap (λ (p : State). p.label) (cross-round x i near), omega arith)

  pub sides_differ : (x : ℤ) → IsLabel triples x → after x ≢ before x
  sides_differ x l e = (laws.moves (after x) (laws.label x l)).0 (sym e)
