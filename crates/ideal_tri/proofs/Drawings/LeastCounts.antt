-- The least corner count of each vertex, and what is left of a vector without the curves round vertices.
--
-- A side is crossed by the strands round its two ends. The corners there belong to the vertices of the two ends, so
-- what is left of the side, when each corner has lost the least count of its vertex, is again a sum of two counts, the
-- same seen from both triangles. A vector whose sides are such sums is that of a multicurve.
use Rattle.std.proofs.Common.{ℕ, zero, suc, ℤ, pos, negsuc, List, ◌≡◌, ◌≤◌, ◌+◌, ◌-◌, ◌*◌, min, inl, inr, refl, sym}
use Rattle.std.proofs.Common.{◌∙◌, ap, subst, arith, length}
use Rattle.std.specs.Prelude.{slice_index}
use Rattle.std.proofs.lemmas.Bool.{cases_lt}
use Rattle.std.proofs.lemmas.List.{same_lists, get_or_default}
use Rattle.std.proofs.lemmas.List.FromFn.{length-map-range_with_len, get_or-map-range_with_len}
use Rattle.ideal_tri.specs.Labels.{inverse}
use Rattle.ideal_tri.specs.Triangulations.{IsLabel, IsTriangulation, edge_count, next, previous}
use Rattle.ideal_tri.specs.Vectors.{IsMulticurve, weight, corner_count}
use Rattle.ideal_tri.specs.SurfaceLaws.{TriangleLaws}
use Rattle.ideal_tri.specs.Vertices.{corner_step, corner_after, IsSameVertex}
use Rattle.ideal_tri.specs.PeripheralParts.{HasFreeCorners, least_count_within, least_count, stripped}
use Rattle.ideal_tri.proofs.Triangles.{triangle_laws}
use Rattle.ideal_tri.proofs.Strands.{corner_sum}
use Rattle.ideal_tri.proofs.Drawings.CornerCounts.{multicurve_of_counts, corners_of_counts}
use Rattle.ideal_tri.proofs.Turning.{Turn, turn, in_turn, SameVertex-sym, SameVertex-trans, SameVertex_label}

-- ---- least counts

module _ (triples : List (List ℤ)) (w : List ℕ) where
  abbrev corner : ℤ → ℕ
  corner x = corner_count triples w x

  within_there : (n : ℕ) (x : ℤ) → (y : ℤ) × IsSameVertex triples x y × (corner y ≡ least_count_within triples w n x)
  within_there zero x = (x, record { steps = 0; reached = refl }, refl)
  within_there (suc n) x = go (within_there n (corner_step triples x))
    where
      later : ℕ
      later = least_count_within triples w n (corner_step triples x)

      go : (y : ℤ) × IsSameVertex triples (corner_step triples x) y × (corner y ≡ later)
          → (y : ℤ) × IsSameVertex triples x y × (corner y ≡ min (corner x) later)
      go (y, on, e) =
          elim (cases_lt later (corner x)) [
            | inl b ↦ (y, record { steps = suc on.steps; reached = on.reached }, omega arith)
            | inr b ↦ (x, record { steps = 0; reached = refl }, omega arith)
          ]

  within_least : (n k : ℕ) (x : ℤ) → k ≤ n → least_count_within triples w n x ≤ corner (corner_after triples k x)
  within_least zero zero x b = omega arith
  within_least zero (suc k) x b = absurd (omega arith)
  within_least (suc n) zero x b = omega arith
  within_least (suc n) (suc k) x b =
      omega (arith, within_least n k (corner_step triples x) (omega arith))

  pub least_count_there : (x : ℤ) → (y : ℤ) × IsSameVertex triples x y × (corner y ≡ least_count triples w x)
  least_count_there x = within_there (2 * edge_count triples) x

-- the corner before x lies at the tail of x, as the corner named by the inverse of x does
pub tail_corner : (triples : List (List ℤ)) → TriangleLaws triples → (x : ℤ) → IsLabel triples x
    → IsSameVertex triples (previous triples x) (inverse x)
tail_corner triples laws x l = record { steps = 1; reached = ap inverse (laws.round x l) }

module _ (triples : List (List ℤ)) (laws : TriangleLaws triples) (w : List ℕ) where
  pub least_count_least : (x y : ℤ) → IsLabel triples x → IsSameVertex triples x y
      → least_count triples w x ≤ corner_count triples w y
  least_count_least x y l on = go (turn triples laws x l)
    where
      go : Turn triples x → least_count triples w x ≤ corner_count triples w y
      go t =
          let (m, b, e) = in_turn triples x t on.steps in
          subst (λ (z : ℤ). least_count triples w x ≤ corner_count triples w z) (e ∙ on.reached)
          (within_least triples w (2 * edge_count triples) m x (omega (arith, t.short)))

  -- not greater than that of any corner at the vertex
  no_greater : (x y : ℤ) → IsLabel triples x → IsSameVertex triples x y
      → least_count triples w x ≤ least_count triples w y
  no_greater x y l on =
      let (z, far, e) = least_count_there triples w y in
      subst (λ (n : ℕ). least_count triples w x ≤ n) e
      (least_count_least x z l (SameVertex-trans triples x y z on far))

  pub least_count_same : (x y : ℤ) → IsLabel triples x → IsSameVertex triples x y
      → least_count triples w x ≡ least_count triples w y
  least_count_same x y l on =
      omega (
        arith,
        no_greater x y l on,
        no_greater y x (SameVertex_label triples laws x y l on) (SameVertex-sym triples laws x y l on),
      )

  pub least_count_tail : (x : ℤ) → IsLabel triples x
      → least_count triples w (previous triples x) ≡ least_count triples w (inverse x)
  least_count_tail x l =
      least_count_same (previous triples x) (inverse x) (laws.label (next triples x) (laws.label x l))
      (tail_corner triples laws x l)

-- ---- without the curves round vertices

module _ (triples : List (List ℤ)) (h : IsTriangulation triples) (w : List ℕ) (m : IsMulticurve triples w) where
  laws : TriangleLaws triples
  laws = triangle_laws triples h

  abbrev least : ℤ → ℕ
  least x = least_count triples w x

  -- what is left at each corner
  abbrev left : ℤ → ℕ
  left x = corner_count triples w x - least x

  least-le : (x : ℤ) → IsLabel triples x → least x ≤ corner_count triples w x
  least-le x l = least_count_least triples laws w x x l (record { steps = 0; reached = refl })

  entry_left : (x : ℤ) → IsLabel triples x → weight (stripped triples w) x ≡ weight w x - least x - least (inverse x)
  entry_left (pos e) l =
      get_or-map-range_with_len (λ i. slice_index w i - least (pos i) - least (negsuc i)) 0 (edge_count triples) e e 0 l
      (omega arith)
  entry_left (negsuc e) l =
      get_or-map-range_with_len (λ i. slice_index w i - least (pos i) - least (negsuc i)) 0 (edge_count triples) e e 0 l
      (omega arith)
      ∙ omega arith

  sides_left : (x : ℤ) → IsLabel triples x → weight (stripped triples w) x ≡ left x + left (previous triples x)
  sides_left x l =
      omega (
        arith,
        entry_left x l,
        corner_sum triples h w x m l,
        least-le x l,
        least-le (previous triples x) (laws.label (next triples x) (laws.label x l)),
        least_count_tail triples laws w x l,
      )

  long_left : length (stripped triples w) ≡ edge_count triples
  long_left = length-map-range_with_len (λ i. slice_index w i - least (pos i) - least (negsuc i)) 0 (edge_count triples)

  pub stripped_multicurve : IsMulticurve triples (stripped triples w)
  stripped_multicurve = multicurve_of_counts triples h (stripped triples w) left long_left sides_left

  pub corners_left : (x : ℤ) → IsLabel triples x
      → corner_count triples (stripped triples w) x + least x ≡ corner_count triples w x
  corners_left x l =
      omega (arith, corners_of_counts triples h (stripped triples w) left long_left sides_left x l, least-le x l)

  pub stripped_has_free : HasFreeCorners triples (stripped triples w)
  stripped_has_free x l =
      let (y, on, e) = least_count_there triples w x in
      let k : IsLabel triples y = SameVertex_label triples laws x y l on in
      (y, on, omega (arith, corners_left y k, e, least_count_same triples laws w x y l on))

  -- nothing more to take off
  none_left : (x : ℤ) → IsLabel triples x → least_count triples (stripped triples w) x ≡ 0
  none_left x l =
      let (y, on, e) = stripped_has_free x l in
      omega (arith, least_count_least triples laws (stripped triples w) x y l on, e)

pub stripped_twice : (triples : List (List ℤ)) → IsTriangulation triples → (w : List ℕ) → IsMulticurve triples w
    → stripped triples (stripped triples w) ≡ stripped triples w
stripped_twice triples h w m =
    same_lists (stripped triples (stripped triples w)) (stripped triples w)
    (long_left triples h (stripped triples w) again ∙ sym (long_left triples h w m))
    (λ e d b.
    let l : IsLabel triples (pos e) = omega (arith, long_left triples h (stripped triples w) again) in
    get_or_default (stripped triples (stripped triples w)) e d 0 b
    ∙ entry_left triples h (stripped triples w) again (pos e) l
    ∙ omega (arith, none_left triples h w m (pos e) l, none_left triples h w m (negsuc e) l)
    ∙ sym (get_or_default (stripped triples w) e d 0 (omega (arith, long_left triples h w m))))
  where
    again : IsMulticurve triples (stripped triples w)
    again = stripped_multicurve triples h w m
