-- Where a curve has the total 2 and runs round no vertex, it runs along an annulus of two triangles.
--
-- The sides of a triangle are sums of the counts at its corners. A folded edge that is crossed would have a corner
-- alone at its vertex, so this corner would be free, and the total above 2. So two edges are crossed once each, and
-- both of them lie between the same two triangles. Were q after p in both of them, seen from p, then one vertex would
-- have two corners, both with a strand.
use Rattle.std.proofs.Common.{ℕ, zero, suc, ℤ, List, ◌≡◌, ◌≢◌, ◌≤◌, ◌<◌, ◌+◌, ◌⊎◌, inl, inr, refl, sym, ◌∙◌, ap, subst, arith, length}
use Rattle.std.specs.Prelude.{slice_index}
use Rattle.std.proofs.lemmas.Bool.{cases_eq}
use Rattle.ideal_tri.specs.DrawingLaws.{DrawingLaws}
use Rattle.ideal_tri.specs.LabelLaws.{LabelLaws}
use Rattle.ideal_tri.specs.Labels.{inverse, edge_of}
use Rattle.ideal_tri.specs.SurfaceLaws.{TriangleLaws}
use Rattle.ideal_tri.specs.Triangulations.{IsLabel, next, previous, triangle_of}
use Rattle.ideal_tri.specs.Vectors.{weight, corner_count}
use Rattle.ideal_tri.specs.Vertices.{corner_step, corner_after}
use Rattle.curve_shorten.specs.Twists.{IsAnnulus}
use Rattle.twist_compile.proofs.Sums.{two_within, three_within}
use Rattle.twist_compile.specs.inside.EndSteps.{HasTotalTwo}

-- a side x that is crossed: once, as one of the other two sides of its triangle
pub record IsCrossed (triples : List (List ℤ)) (w : List ℕ) (x : ℤ) : Type 0 where
  pub once : weight w x ≡ 1
  pub next_apart : edge_of (next triples x) ≢ edge_of x
  pub previous_apart : edge_of (previous triples x) ≢ edge_of x
  pub unfolded : triangle_of triples (inverse x) ≢ triangle_of triples x
  pub other : ((weight w (next triples x) ≡ 1) × (weight w (previous triples x) ≡ 0) × (corner_count triples w x ≡ 1))
      ⊎ ((weight w (next triples x) ≡ 0) × (weight w (previous triples x) ≡ 1))

-- ---- corners that are alone or two at their vertex

goes_between : (triples : List (List ℤ)) (n : ℕ) (x y : ℤ) → corner_step triples x ≡ y → corner_step triples y ≡ x
    → (corner_after triples n x ≡ x) ⊎ (corner_after triples n x ≡ y)
goes_between triples zero x y there back = inl refl
goes_between triples (suc n) x y there back =
    elim (goes_between triples n y x back there) [
      | inl h ↦ inr (ap (corner_after triples n) there ∙ h)
      | inr h ↦ inl (ap (corner_after triples n) there ∙ h)
    ]

module _ (labels : LabelLaws) (triples : List (List ℤ)) (t : TriangleLaws triples) (d : DrawingLaws triples)
    (w : List ℕ) (h : HasTotalTwo triples w) where
  abbrev count : ℤ → ℕ
  count x = corner_count triples w x

  -- ---- one crossed side

  back_twice : (x : ℤ) → IsLabel triples x → previous triples (previous triples x) ≡ next triples x
  back_twice x l = ap (next triples) (t.round x l)

  weight_inverse : (x : ℤ) → weight w (inverse x) ≡ weight w x
  weight_inverse x = ap (slice_index w) (labels.edge x)

  side : (x : ℤ) → IsLabel triples x → weight w x ≡ count x + count (previous triples x)
  side x l = d.corners w x h.multicurve l

  side_next : (x : ℤ) → IsLabel triples x → weight w (next triples x) ≡ count (next triples x) + count x
  side_next x l =
      side (next triples x) (t.label x l) ∙ ap (λ (u : ℤ). count (next triples x) + count u) (t.round x l)

  side_previous : (x : ℤ) → IsLabel triples x
      → weight w (previous triples x) ≡ count (previous triples x) + count (next triples x)
  side_previous x l =
      side (previous triples x) (t.label (next triples x) (t.label x l))
      ∙ ap (λ (u : ℤ). count (previous triples x) + count u) (back_twice x l)

  alone : (x : ℤ) → IsLabel triples x → next triples x ≡ inverse x → count x ≡ 0
  alone x l is =
      let (y, v, free) = h.free x l in
      sym (ap count (t.alone v.steps x (ap inverse is ∙ labels.twice x))) ∙ ap count v.reached ∙ free

  not_folded : (x : ℤ) → IsLabel triples x → 0 < weight w x → next triples x ≢ inverse x
  not_folded x l some is =
      omega (
        arith,
        alone x l is,
        side x l,
        side_next x l,
        side_previous x l,
        ap (weight w) is ∙ weight_inverse x,
        two_within w (edge_of x) (edge_of (previous triples x)) (λ same. apart (sym same)),
        h.two,
      )
    where
      apart : edge_of (previous triples x) ≢ edge_of x
      apart same =
          elim (labels.of_edge (previous triples x) x same) [
            | inl k ↦ (t.moves x l).1 k
            | inr k ↦ (t.moves (next triples x) (t.label x l)).0 (k ∙ sym is)
          ]

  next_apart : (x : ℤ) → IsLabel triples x → 0 < weight w x → edge_of (next triples x) ≢ edge_of x
  next_apart x l some same =
      elim (labels.of_edge (next triples x) x same) [
        | inl k ↦ (t.moves x l).0 k
        | inr k ↦ not_folded x l some k
      ]

  previous_apart : (x : ℤ) → IsLabel triples x → 0 < weight w x → edge_of (previous triples x) ≢ edge_of x
  previous_apart x l some same =
      elim (labels.of_edge (previous triples x) x same) [
        | inl k ↦ (t.moves x l).1 k
        | inr k ↦
            not_folded (inverse x) (labels.label triples x l) (omega (arith, weight_inverse x))
            (ap (next triples) (sym k) ∙ t.round x l ∙ sym (labels.twice x))
      ]

  unfolded : (x : ℤ) → IsLabel triples x → 0 < weight w x → triangle_of triples (inverse x) ≢ triangle_of triples x
  unfolded x l some same =
      elim (t.sides x (inverse x) l (labels.label triples x l) same) [
        | inl k ↦ labels.apart x (sym k)
        | inr k ↦ elim k [
          | inl k ↦ next_apart x l some (ap edge_of (sym k) ∙ labels.edge x)
          | inr k ↦ previous_apart x l some (ap edge_of (sym k) ∙ labels.edge x)
        ]
      ]

  pub crossed : (x : ℤ) → IsLabel triples x → 0 < weight w x → IsCrossed triples w x
  crossed x l some = record {
    once = once;
    next_apart = next_apart x l some;
    previous_apart = previous_apart x l some;
    unfolded = unfolded x l some;
    other = other;
  }
    where
      with_next : weight w x + weight w (next triples x) ≤ 2
      with_next =
          omega (
            arith,
            two_within w (edge_of x) (edge_of (next triples x)) (λ same. next_apart x l some (sym same)),
            h.two,
          )

      with_previous : weight w x + weight w (previous triples x) ≤ 2
      with_previous =
          omega (
            arith,
            two_within w (edge_of x) (edge_of (previous triples x)) (λ same. previous_apart x l some (sym same)),
            h.two,
          )

      once : weight w x ≡ 1
      once = omega (arith, some, side x l, side_next x l, side_previous x l, with_next, with_previous)

      other : ((weight w (next triples x) ≡ 1) × (weight w (previous triples x) ≡ 0) × (count x ≡ 1))
          ⊎ ((weight w (next triples x) ≡ 0) × (weight w (previous triples x) ≡ 1))
      other =
          elim (cases_eq (count x) 0) [
            | inl none ↦
                inr (
                  omega (arith, none, once, side x l, side_next x l, side_previous x l, with_next, with_previous),
                  omega (arith, none, once, side x l, side_next x l, side_previous x l, with_next, with_previous),
                )
            | inr some ↦
                inl (
                  omega (arith, some, once, side x l, side_next x l, side_previous x l, with_next, with_previous),
                  omega (arith, some, once, side x l, side_next x l, side_previous x l, with_next, with_previous),
                  omega (arith, some, once, side x l, side_next x l, side_previous x l, with_next, with_previous),
                )
          ]

  -- ---- two crossed sides of a triangle

  module _ (p q : ℤ) (l : IsLabel triples p) (once : weight w p ≡ 1) (other_once : weight w q ≡ 1)
      (is : next triples p ≡ q) where
    abbrev r : ℤ
    r = inverse p

    lq : IsLabel triples q
    lq = subst (IsLabel triples) is (t.label p l)

    lr : IsLabel triples r
    lr = labels.label triples p l

    at_p : IsCrossed triples w p
    at_p = crossed p l (omega arith)

    at_r : IsCrossed triples w r
    at_r = crossed r lr (omega (arith, weight_inverse p))

    pub edges_apart : edge_of q ≢ edge_of p
    edges_apart same = at_p.next_apart (ap edge_of is ∙ same)

    -- a side that is crossed, of another edge than p, is of the edge of q; and that in another triangle is ~q
    only_other : (u : ℤ) → weight w u ≡ 1 → edge_of u ≢ edge_of r → triangle_of triples u ≡ triangle_of triples r
        → u ≡ inverse q
    only_other u crossed_once apart there =
        elim (cases_eq (edge_of u) (edge_of q)) [
          | inl same ↦ elim (labels.of_edge u q same) [
            | inr k ↦ k
            | inl k ↦
                absurd (at_p.unfolded (sym there ∙ ap (triangle_of triples) (k ∙ sym is) ∙ t.stays p l))
          ]
          | inr off ↦
              absurd (omega (
                arith,
                three_within w (edge_of p) (edge_of q) (edge_of u) (λ same. edges_apart (sym same))
                    (λ same. apart (sym same ∙ sym (labels.edge p))) (λ same. off (sym same)),
                h.two,
              ))
        ]

    one_round : (x : ℤ) → IsLabel triples x → weight w x ≡ 1 → weight w (next triples x) ≡ 1 → count x ≡ 1
    one_round x lx a b =
        elim (crossed x lx (omega arith)).other [
          | inl k ↦ k.2
          | inr k ↦ absurd (omega (arith, k.0))
        ]

    -- the two corners p and ~q are not a vertex
    not_two : next triples (inverse q) ≢ inverse p
    not_two k =
        let (y, v, free) = h.free p l in
        let there : corner_step triples p ≡ inverse q = ap inverse is in
        let back : corner_step triples (inverse q) ≡ p = ap inverse k ∙ labels.twice p in
        let first : count p ≡ 1 = one_round p l once (ap (weight w) is ∙ other_once) in
        let second : count (inverse q) ≡ 1 =
        one_round (inverse q) (labels.label triples q lq) (weight_inverse q ∙ other_once)
        (ap (weight w) k ∙ weight_inverse p ∙ once) in
        elim (goes_between triples v.steps p (inverse q) there back) [
          | inl a ↦ omega (arith, free, first, ap count (sym a ∙ v.reached))
          | inr a ↦ omega (arith, free, second, ap count (sym a ∙ v.reached))
        ]

    pub opposite : next triples (inverse p) ≡ inverse q
    opposite =
        elim at_r.other [
          | inl k ↦ only_other (next triples r) k.0 at_r.next_apart (t.stays r lr)
          | inr k ↦
              absurd (not_two (ap (next triples) (sym (only_other (previous triples r) k.1 at_r.previous_apart
              (t.stays (next triples r) (t.label r lr) ∙ t.stays r lr))) ∙ t.round r lr))
        ]

    pub triangles_apart : triangle_of triples (inverse p) ≢ triangle_of triples p
    triangles_apart = at_p.unfolded

    pub one_triangle : triangle_of triples q ≡ triangle_of triples p
    one_triangle = ap (triangle_of triples) (sym is) ∙ t.stays p l

    pub other_triangle : triangle_of triples (inverse q) ≡ triangle_of triples (inverse p)
    other_triangle = ap (triangle_of triples) (sym opposite) ∙ t.stays r lr

    pub third_apart : edge_of (previous triples p) ≢ edge_of p
    third_apart = at_p.previous_apart

    pub fourth_apart : edge_of (previous triples (inverse p)) ≢ edge_of p
    fourth_apart same = at_r.previous_apart (same ∙ sym (labels.edge p))

    third_not_crossed : (x : ℤ) → IsLabel triples x → weight w x ≡ 1 → weight w (next triples x) ≡ 1
        → weight w (previous triples x) ≡ 0
    third_not_crossed x lx a b =
        elim (crossed x lx (omega arith)).other [
          | inl k ↦ k.1
          | inr k ↦ absurd (omega (arith, k.0))
        ]

    pub third_other : edge_of (previous triples p) ≢ edge_of q
    third_other same =
        omega (
          arith,
          third_not_crossed p l once (ap (weight w) is ∙ other_once),
          ap (slice_index w) same,
        )

    pub fourth_other : edge_of (previous triples (inverse p)) ≢ edge_of q
    fourth_other same =
        omega (
          arith,
          third_not_crossed (inverse p) lr (weight_inverse p ∙ once)
              (ap (weight w) opposite ∙ weight_inverse q ∙ other_once),
          ap (slice_index w) same,
        )

  -- ---- the annulus from a crossed side

  -- either label of a crossed edge
  pub of_crossed : (x y : ℤ) (e : ℕ) → e < length w → 0 < slice_index w e → edge_of y ≡ e
      → (x ≡ y) ⊎ (x ≡ inverse y) → IsLabel triples x × (0 < weight w x)
  of_crossed x y e below some is side =
      let same : edge_of x ≡ e =
      elim side [ inl k ↦ ap edge_of k ∙ is | inr k ↦ ap edge_of k ∙ labels.edge y ∙ is ] in
      (omega (arith, same, below, h.multicurve.one_per_edge), omega (arith, ap (slice_index w) same, some))

  pub annulus_next : (x : ℤ) → IsLabel triples x → 0 < weight w x
      → triangle_of triples x ≤ triangle_of triples (inverse x) → 0 < weight w (next triples x)
      → IsAnnulus triples w x (next triples x)
  annulus_next x l some first b =
      let k : IsCrossed triples w x = crossed x l some in
      record {
        label = l;
        once = k.once;
        other_once = elim k.other [ inl o ↦ o.0 | inr o ↦ absurd (omega (arith, o.0)) ];
        after = refl;
        first = omega (arith, first, k.unfolded);
      }

  pub annulus_previous : (x : ℤ) → IsLabel triples x → 0 < weight w x
      → triangle_of triples x ≤ triangle_of triples (inverse x) → weight w (next triples x) ≤ 0
      → IsAnnulus triples w (previous triples x) x
  annulus_previous x l some first b =
      let k : IsCrossed triples w x = crossed x l some in
      let p : ℤ = previous triples x in
      let lp : IsLabel triples p = t.label (next triples x) (t.label x l) in
      let once : weight w p ≡ 1 =
      elim k.other [ inl o ↦ absurd (omega (arith, o.0)) | inr o ↦ o.1 ] in
      record {
        label = lp;
        once = once;
        other_once = k.once;
        after = t.round x l;
        first =
            omega (
              arith,
              first,
              k.unfolded,
              one_triangle p x lp once k.once (t.round x l),
              other_triangle p x lp once k.once (t.round x l),
            );
      }
