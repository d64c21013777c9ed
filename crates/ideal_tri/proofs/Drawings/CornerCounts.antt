-- Vectors whose sides are sums of counts at their two ends: they are those of multicurves, and have these corner
-- counts.
--
-- The counts at the three corners of a triangle are p, q and r, so its sides are p + r, q + p and r + q: their sum is
-- even and none is longer than the other two. The sum of two multicurves is of this kind.
use Rattle.std.proofs.Common.{ℕ, ℤ, List, [], ◌∷◌, ◌≡◌, ◌<◌, ◌+◌, ◌-◌, ◌*◌, ◌/◌, ◌%◌, sym, ◌∙◌, ap, subst, arith}
use Rattle.std.proofs.Common.{length, get_or}
use Rattle.std.specs.Prelude.{slice_index}
use Rattle.std.proofs.lemmas.List.{get_or_default}
use Rattle.ideal_tri.specs.Labels.{edge_of}
use Rattle.ideal_tri.specs.Triangulations.{IsLabel, IsTriangulation, edge_count, next, previous}
use Rattle.ideal_tri.specs.Vectors.{IsMulticurve, IsEven, HasNoLongSide, weight, corner_count}
use Rattle.ideal_tri.specs.Relabellings.{IsTriangleOf}
use Rattle.ideal_tri.specs.SurfaceLaws.{TriangleLaws}
use Rattle.ideal_tri.specs.CornerLaws.{HasCorners}
use Rattle.ideal_tri.proofs.Rotations.{Rotation-refl}
use Rattle.ideal_tri.proofs.Triangles.{triangle_laws}
use Rattle.ideal_tri.proofs.Triples.{triple_laws}
use Rattle.ideal_tri.proofs.Strands.{corner_sum}

three_sums : (p q r : ℕ) → ((p + r) + (q + p) + (r + q)) % 2 ≡ 0
three_sums p q r = ap (λ (n : ℕ). n % 2) doubled ∙ omega arith
  where
    doubled : (p + r) + (q + p) + (r + q) ≡ 2 * (p + q + r)
    doubled = omega arith

module _ (triples : List (List ℤ)) (h : IsTriangulation triples) (w : List ℕ) (count : ℤ → ℕ)
    (long : length w ≡ edge_count triples)
    (ends : (x : ℤ) → IsLabel triples x → weight w x ≡ count x + count (previous triples x)) where
  -- the three counts at a triangle
  record Counts (a b c : ℤ) : Type 0 where
    first : weight w a ≡ count a + count c
    second : weight w b ≡ count b + count a
    third : weight w c ≡ count c + count b

  counts_at : (k : ℕ) (a b c : ℤ) → k < length triples → get_or triples k [] ≡ a ∷ (b ∷ (c ∷ [])) → Counts a b c
  counts_at k a b c below is =
      let triple : List ℤ = a ∷ (b ∷ (c ∷ [])) in
      let stands : IsTriangleOf triples triple =
      (k, triple, below, get_or_default triples k triple [] below ∙ is, Rotation-refl triple) in
      let at : IsLabel triples a × (next triples a ≡ b) × (next triples b ≡ c) =
      triple_laws.sides triples a b c h stands in
      let laws : TriangleLaws triples = triangle_laws triples h in
      let l : IsLabel triples b = subst (IsLabel triples) at.1 (laws.label a at.0) in
      let m : IsLabel triples c = subst (IsLabel triples) at.2 (laws.label b l) in
      let before_a : previous triples a ≡ c = ap (next triples) at.1 ∙ at.2 in
      let after_c : next triples c ≡ a = ap (next triples) (sym before_a) ∙ laws.round a at.0 in
      let before_b : previous triples b ≡ a = ap (next triples) at.2 ∙ after_c in
      let before_c : previous triples c ≡ b = ap (next triples) after_c ∙ at.1 in
      record {
        first = ends a at.0 ∙ ap (λ (x : ℤ). count a + count x) before_a;
        second = ends b l ∙ ap (λ (x : ℤ). count b + count x) before_b;
        third = ends c m ∙ ap (λ (x : ℤ). count c + count x) before_c;
      }

  even_at : (k : ℕ) (t : List ℤ) → k < length triples → get_or triples k [] ≡ t → IsEven w t
  even_at k (a ∷ (b ∷ (c ∷ []))) below is =
      let at : Counts a b c = counts_at k a b c below is in
      ap (λ (n : ℕ). n % 2) (omega (arith, at.first, at.second, at.third)) ∙ three_sums (count a) (count b) (count c)
  even_at k [] below is = tt
  even_at k (a ∷ []) below is = tt
  even_at k (a ∷ (b ∷ [])) below is = tt
  even_at k (a ∷ (b ∷ (c ∷ (d ∷ t)))) below is = tt

  short_at : (k : ℕ) (t : List ℤ) → k < length triples → get_or triples k [] ≡ t → HasNoLongSide w t
  short_at k (a ∷ (b ∷ (c ∷ []))) below is =
      let at : Counts a b c = counts_at k a b c below is in
      omega (arith, at.first, at.second, at.third)
  short_at k [] below is = tt
  short_at k (a ∷ []) below is = tt
  short_at k (a ∷ (b ∷ [])) below is = tt
  short_at k (a ∷ (b ∷ (c ∷ (d ∷ t)))) below is = tt

  pub multicurve_of_counts : IsMulticurve triples w
  multicurve_of_counts = record {
    one_per_edge = long;
    even = λ k d below. even_at k (get_or triples k d) below (get_or_default triples k [] d below);
    no_long_side = λ k d below. short_at k (get_or triples k d) below (get_or_default triples k [] d below);
  }

  pub corners_of_counts : HasCorners triples w count
  corners_of_counts x l =
      let laws : TriangleLaws triples = triangle_laws triples h in
      let y : ℤ = next triples x in
      let z : ℤ = previous triples x in
      let m : IsLabel triples y = laws.label x l in
      let here : weight w x ≡ count x + count z = ends x l in
      let there : weight w y ≡ count y + count x = ends y m ∙ ap (λ (u : ℤ). count y + count u) (laws.round x l) in
      let behind : weight w z ≡ count z + count y =
      ends z (laws.label y m) ∙ ap (λ (u : ℤ). count z + count u) (ap (next triples) (laws.round x l)) in
      let twice : weight w x + weight w y - weight w z ≡ 2 * count x = omega arith in
      ap (λ (n : ℕ). n / 2) twice ∙ omega arith

-- a sum of two multicurves
pub sum_counts : (triples : List (List ℤ)) → IsTriangulation triples → (u v w : List ℕ) → IsMulticurve triples u
    → IsMulticurve triples v
    → ((e : ℕ) → e < edge_count triples → slice_index w e ≡ slice_index u e + slice_index v e)
    → (x : ℤ) → IsLabel triples x
    → weight w x
    ≡ (corner_count triples u x + corner_count triples v x)
    + (corner_count triples u (previous triples x) + corner_count triples v (previous triples x))
sum_counts triples h u v w m k added x l =
    omega (arith, added (edge_of x) l, corner_sum triples h u x m l, corner_sum triples h v x k l)
