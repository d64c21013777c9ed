-- The two triangles of an annulus: what free corners and the total 2 say of them.
--
-- Let the edges of p and q be crossed once each, q follow p in a triangle, and ~p lie in another. The edges are
-- different, and the total is 2, so no other edge is crossed. The numbers at a triangle have an even sum: so the third
-- side of the triangle of p isn't crossed, and one of the other two sides in that of ~p is ~q. If that were the side
-- before ~p, the corners p and ~q would make up a vertex, with one strand round each: it would have no free corner. So
-- ~q follows ~p.
use Rattle.std.proofs.Common.{ℕ, zero, suc, ℤ, List, ◌≡◌, ◌≢◌, ◌<◌, ◌≤◌, ◌+◌, ◌⊎◌, inl, inr, refl, sym, ◌∙◌, ap, subst}
use Rattle.std.proofs.Common.{arith, length, set, get_or}
use Rattle.std.specs.Prelude.{slice_index, sum}
use Rattle.std.proofs.lemmas.List.{get_or-set_other, length-set}
use Rattle.std.proofs.lemmas.List.Sums.{sum_by-set, get_or-le-sum_by}
use Rattle.ideal_tri.specs.Labels.{inverse, edge_of}
use Rattle.ideal_tri.specs.PeripheralParts.{HasFreeCorners}
use Rattle.ideal_tri.specs.SurfaceLaws.{TriangleLaws}
use Rattle.ideal_tri.specs.Triangulations.{IsTriangulation, IsLabel, triangle_of, next, previous}
use Rattle.ideal_tri.specs.Vectors.{IsMulticurve, weight, corner_count}
use Rattle.ideal_tri.specs.Vertices.{corner_step, corner_after}
use Rattle.curve_shorten.specs.Twists.{IsAnnulus}
use Rattle.twist_compile.proofs.LowerLaws.{LowerLaws}

-- ---- three entries of a list with a sum

-- two entries that are 1 in a list with the sum 2: all others are 0
pub others_none : (w : List ℕ) (i j k : ℕ) → sum w ≡ 2 → i < length w → j < length w → k < length w
    → slice_index w i ≡ 1 → slice_index w j ≡ 1 → j ≢ i → k ≢ i → k ≢ j → slice_index w k ≡ 0
others_none w i j k total i_in j_in k_in at_i at_j j_i k_i k_j =
    let less : sum (set w i 0) + slice_index w i ≡ sum w + 0 = sum_by-set (λ (n : ℕ). n) w i 0 0 i_in in
    let fewer : sum (set (set w i 0) j 0) + get_or (set w i 0) j 0 ≡ sum (set w i 0) + 0 =
    sum_by-set (λ (n : ℕ). n) (set w i 0) j 0 0 (omega (arith, length-set w i 0, j_in)) in
    let same_j : get_or (set w i 0) j 0 ≡ slice_index w j = get_or-set_other w i j 0 0 j_i in
    let same_k : get_or (set (set w i 0) j 0) k 0 ≡ slice_index w k =
    get_or-set_other (set w i 0) j k 0 0 k_j ∙ get_or-set_other w i k 0 0 k_i in
    let most : get_or (set (set w i 0) j 0) k 0 ≤ sum (set (set w i 0) j 0) =
    get_or-le-sum_by (λ (n : ℕ). n) (set (set w i 0) j 0) k 0
    (omega (arith, length-set (set w i 0) j 0, length-set w i 0, k_in)) in
    omega arith

-- ---- a vertex of two corners

-- where two corners follow each other, there is no other at their vertex
two_corners : (triples : List (List ℤ)) (x y : ℤ) (n : ℕ) → corner_step triples x ≡ y → corner_step triples y ≡ x
    → (corner_after triples n x ≡ x) ⊎ (corner_after triples n x ≡ y)
two_corners triples x y zero to from = inl refl
two_corners triples x y (suc n) to from = swapped (two_corners triples y x n from to)
  where
    swapped : (corner_after triples n y ≡ y) ⊎ (corner_after triples n y ≡ x)
        → (corner_after triples n (corner_step triples x) ≡ x) ⊎ (corner_after triples n (corner_step triples x) ≡ y)
    swapped (inl h) = inr (ap (corner_after triples n) to ∙ h)
    swapped (inr h) = inl (ap (corner_after triples n) to ∙ h)

-- so it has no free corner, where both have strands
pub no_free_corner : (triples : List (List ℤ)) (w : List ℕ) (x y : ℤ) → HasFreeCorners triples w → IsLabel triples x
    → corner_step triples x ≡ y → corner_step triples y ≡ x → corner_count triples w x ≡ 1
    → corner_count triples w y ≡ 1 → ⊥
no_free_corner triples w x y free l to from at_x at_y =
    let (z, there, none) = free x l in
    elim (two_corners triples x y there.steps to from) [
      | inl h ↦
          (let is : corner_count triples w x ≡ corner_count triples w z =
          ap (corner_count triples w) (sym h ∙ there.reached) in
          omega (arith, is, none, at_x))
      | inr h ↦
          (let is : corner_count triples w y ≡ corner_count triples w z =
          ap (corner_count triples w) (sym h ∙ there.reached) in
          omega (arith, is, none, at_y))
    ]

-- ---- the two triangles

-- p and q are labels of two edges
pub record AreApart (p q : ℤ) : Type 0 where
  pub labels : q ≢ p
  pub edges : q ≢ inverse p

-- p and q are sides of one triangle, q after p, and ~p and ~q of another, ~q after ~p; the third sides are of other
-- edges
pub record IsBand (triples : List (List ℤ)) (p q : ℤ) : Type 0 where
  pub label : IsLabel triples p
  pub other_label : IsLabel triples q
  pub apart : AreApart p q
  pub after : next triples p ≡ q
  pub after_back : next triples (inverse p) ≡ inverse q
  pub two_triangles : triangle_of triples q ≢ triangle_of triples (inverse q)

-- x is none of the labels of the two edges
pub record IsAside (p q x : ℤ) : Type 0 where
  pub from_p : x ≢ p
  pub from_p_back : x ≢ inverse p
  pub from_q : x ≢ q
  pub from_q_back : x ≢ inverse q

-- the two edges are crossed once each, and no other edge of the two triangles
pub record IsAnnulusOf (triples : List (List ℤ)) (w : List ℕ) (p q : ℤ) : Type 0 where
  pub band : IsBand triples p q
  pub once : weight w p ≡ 1
  pub other_once : weight w q ≡ 1
  pub third : IsAside p q (previous triples p)
  pub other_third : IsAside p q (previous triples (inverse p))
  pub none : weight w (previous triples p) ≡ 0
  pub none_there : weight w (previous triples (inverse p)) ≡ 0

module _ (laws : LowerLaws) where
  pub weight-inverse : (w : List ℕ) (x : ℤ) → weight w (inverse x) ≡ weight w x
  weight-inverse w x = ap (slice_index w) (laws.labels.edge x)

  pub other_edge : (x y : ℤ) → x ≢ y → x ≢ inverse y → edge_of x ≢ edge_of y
  other_edge x y n m e =
      elim (laws.labels.of_edge x y e) [
        | inl is ↦ n is
        | inr is ↦ m is
      ]

module _ (laws : LowerLaws) (triples : List (List ℤ)) (t : IsTriangulation triples) where
  abbrev triangles : TriangleLaws triples
  triangles = laws.surfaces.triangles triples t

  pub label-previous : (x : ℤ) → IsLabel triples x → IsLabel triples (previous triples x)
  label-previous x l = triangles.label (next triples x) (triangles.label x l)

  pub triangle_of-previous : (x : ℤ) → IsLabel triples x
      → triangle_of triples (previous triples x) ≡ triangle_of triples x
  triangle_of-previous x l = triangles.stays (next triples x) (triangles.label x l) ∙ triangles.stays x l

  -- the numbers at the three sides are sums of those at the corners
  pub record HasSums (w : List ℕ) (x : ℤ) : Type 0 where
    pub first : weight w x ≡ corner_count triples w x + corner_count triples w (previous triples x)
    pub second : weight w (next triples x) ≡ corner_count triples w (next triples x) + corner_count triples w x
    pub third : weight w (previous triples x)
        ≡ corner_count triples w (previous triples x) + corner_count triples w (next triples x)

  pub corner_sums : (w : List ℕ) (x : ℤ) → IsMulticurve triples w → IsLabel triples x → HasSums w x
  corner_sums w x m l = record {
    first = at x l;
    second =
        at (next triples x) (triangles.label x l)
        ∙ ap (λ (y : ℤ). corner_count triples w (next triples x) + corner_count triples w y) (triangles.round x l);
    third =
        at (previous triples x) (label-previous x l)
        ∙ ap (λ (y : ℤ). corner_count triples w (previous triples x) + corner_count triples w y)
        (ap (next triples) (triangles.round x l));
  }
    where
      at : (y : ℤ) → IsLabel triples y
          → weight w y ≡ corner_count triples w y + corner_count triples w (previous triples y)
      at y k = (laws.drawings triples t).corners w y m k

module _ (laws : LowerLaws) (triples : List (List ℤ)) (t : IsTriangulation triples) (w : List ℕ)
    (m : IsMulticurve triples w) (total : sum w ≡ 2) (p q : ℤ) (h : IsAnnulus triples w p q) where
  abbrev sides : TriangleLaws triples
  sides = laws.surfaces.triangles triples t

  label_q : IsLabel triples q
  label_q = subst (IsLabel triples) h.after (sides.label p h.label)

  label_back : IsLabel triples (inverse p)
  label_back = laws.labels.label triples p h.label

  triangle_of-q : triangle_of triples q ≡ triangle_of triples p
  triangle_of-q = ap (triangle_of triples) (sym h.after) ∙ sides.stays p h.label

  -- a side of the triangle of p is none of that of ~p
  no_side_of_both : (x y : ℤ) → triangle_of triples x ≡ triangle_of triples p
      → triangle_of triples y ≡ triangle_of triples (inverse p) → x ≢ y
  no_side_of_both x y here there e =
      let same : triangle_of triples x ≡ triangle_of triples y = ap (triangle_of triples) e in
      omega (arith, h.first, here, there, same)

  apart_edges : AreApart p q
  apart_edges = record {
    labels = λ e. (sides.moves p h.label).0 (h.after ∙ e);
    edges = no_side_of_both q (inverse p) triangle_of-q refl;
  }

  -- no other edge is crossed
  weight-other : (x : ℤ) → IsLabel triples x → IsAside p q x → weight w x ≡ 0
  weight-other x l aside =
      others_none w (edge_of p) (edge_of q) (edge_of x) total (within p h.label) (within q label_q) (within x l) h.once
      h.other_once (other_edge laws q p apart_edges.labels apart_edges.edges)
      (other_edge laws x p aside.from_p aside.from_p_back) (other_edge laws x q aside.from_q aside.from_q_back)
    where
      within : (y : ℤ) → IsLabel triples y → edge_of y < length w
      within y k = subst (λ (n : ℕ). edge_of y < n) (sym m.one_per_edge) k

  -- ---- the triangle of p

  sums : HasSums laws triples t w p
  sums = corner_sums laws triples t w p m h.label

  second_once : weight w (next triples p) ≡ 1
  second_once = ap (weight w) h.after ∙ h.other_once

  -- three sides that are crossed once have no even sum
  not_q_back : previous triples p ≢ inverse q
  not_q_back e =
      let third_once : weight w (previous triples p) ≡ 1 =
      ap (weight w) e ∙ weight-inverse laws w q ∙ h.other_once in
      omega (arith, sums.first, sums.second, sums.third, h.once, second_once, third_once)

  third_aside : IsAside p q (previous triples p)
  third_aside = record {
    from_p = (sides.moves p h.label).1;
    from_p_back = no_side_of_both (previous triples p) (inverse p) (triangle_of-previous laws triples t p h.label) refl;
    from_q = λ e. (sides.moves q label_q).0 (ap (next triples) (sym h.after) ∙ e);
    from_q_back = not_q_back;
  }

  third_none : weight w (previous triples p) ≡ 0
  third_none = weight-other (previous triples p) (label-previous laws triples t p h.label) third_aside

  corner_once : corner_count triples w p ≡ 1
  corner_once = omega (arith, sums.first, sums.second, sums.third, h.once, second_once, third_none)

  -- ---- the triangle of ~p

  sums_back : HasSums laws triples t w (inverse p)
  sums_back = corner_sums laws triples t w (inverse p) m label_back

  once_back : weight w (inverse p) ≡ 1
  once_back = weight-inverse laws w p ∙ h.once

  -- a side of the triangle of ~p other than ~p and ~q is aside
  aside_there : (x : ℤ) → triangle_of triples x ≡ triangle_of triples (inverse p) → x ≢ inverse p → x ≢ inverse q
      → IsAside p q x
  aside_there x there n n' = record {
    from_p = λ e. no_side_of_both p x refl there (sym e);
    from_p_back = n;
    from_q = λ e. no_side_of_both q x triangle_of-q there (sym e);
    from_q_back = n';
  }

  second_there : next triples (inverse p) ≢ inverse q → weight w (next triples (inverse p)) ≡ 0
  second_there n =
      weight-other (next triples (inverse p)) (sides.label (inverse p) label_back)
      (aside_there (next triples (inverse p)) (sides.stays (inverse p) label_back) (sides.moves (inverse p) label_back).0 n)

  third_there : previous triples (inverse p) ≢ inverse q → weight w (previous triples (inverse p)) ≡ 0
  third_there n =
      weight-other (previous triples (inverse p)) (label-previous laws triples t (inverse p) label_back)
      (aside_there (previous triples (inverse p)) (triangle_of-previous laws triples t (inverse p) label_back)
      (sides.moves (inverse p) label_back).1 n)

  -- ~q isn't the side before ~p: there would be a vertex of two corners
  not_before : HasFreeCorners triples w → next triples (inverse p) ≢ inverse q
      → previous triples (inverse p) ≢ inverse q
  not_before free n e =
      no_free_corner triples w p (inverse q) free h.label (ap inverse h.after)
      (ap (λ (x : ℤ). inverse (next triples x)) (sym e)
      ∙ ap inverse (sides.round (inverse p) label_back)
      ∙ laws.labels.twice p)
      corner_once
      (ap (corner_count triples w) (sym e) ∙ omega (arith, sums_back.first, sums_back.second, once_back, second_there n))

  after_there : HasFreeCorners triples w → next triples (inverse p) ≡ inverse q
  after_there free =
      elim (laws.labels.same_or_not (next triples (inverse p)) (inverse q)) [
        | inl is ↦ is
        | inr n ↦
            absurd
            (let second : weight w (next triples (inverse p)) ≡ 0 = second_there n in
            let third : weight w (previous triples (inverse p)) ≡ 0 = third_there (not_before free n) in
            omega (arith, sums_back.first, sums_back.second, sums_back.third, once_back, second, third))
      ]

  pub annulus_of : HasFreeCorners triples w → IsAnnulusOf triples w p q
  annulus_of free = record {
    band = record {
      label = h.label;
      other_label = label_q;
      apart = apart_edges;
      after = h.after;
      after_back = after_there free;
      two_triangles = λ e.
          let there : triangle_of triples (inverse q) ≡ triangle_of triples (inverse p) =
          ap (triangle_of triples) (sym (after_there free)) ∙ sides.stays (inverse p) label_back in
          omega (arith, h.first, e, there, triangle_of-q);
    };
    once = h.once;
    other_once = h.other_once;
    third = third_aside;
    other_third = aside;
    none = third_none;
    none_there = weight-other (previous triples (inverse p)) (label-previous laws triples t (inverse p) label_back) aside;
  }
    where
      aside : IsAside p q (previous triples (inverse p))
      aside =
          aside_there (previous triples (inverse p)) (triangle_of-previous laws triples t (inverse p) label_back)
          (sides.moves (inverse p) label_back).1
          (λ e. (sides.moves (inverse q) (laws.labels.label triples q label_q)).0
          (ap (next triples) (sym (after_there free)) ∙ e))
