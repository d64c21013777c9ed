-- The corner counts after a flip.
--
-- The edge e has E = ke + kb = kf + kd strands before it and E' after it, with E + E' = max (A + C) (B + D). So the
-- counts after it, whose sums are the new numbers, are: where two corners are joined the smaller of the two, and so
-- the other way round where one is split. All other triangles have the same numbers, so the same counts.
use Rattle.std.proofs.Common.{ℕ, ℤ, List, ◌≡◌, ◌≢◌, ◌<◌, ◌+◌, ◌-◌, ◌/◌, max, min, inl, inr, sym, ◌∙◌, ap, subst}
use Rattle.std.proofs.Common.{arith, length, length-set}
use Rattle.std.specs.Prelude.{slice_index}
use Rattle.std.specs.List.{All}
use Rattle.std.proofs.lemmas.Bool.{cases_eq}
use Rattle.std.proofs.lemmas.List.{get_or_default, get_or-set_same, get_or-set_other}
use Rattle.ideal_tri.specs.Labels.{inverse, edge_of}
use Rattle.ideal_tri.specs.SurfaceLaws.{TriangleLaws}
use Rattle.ideal_tri.specs.Triangulations.{IsTriangulation, IsLabel, next}
use Rattle.ideal_tri.specs.Vectors.{IsMulticurve, weight, corner_count}
use Rattle.tri_atlas.specs.Moves.{flip, IsFlip}
use Rattle.tri_atlas.specs.MovedVectors.{greater_sum, flipped_number, vector_after}
use Rattle.curve_shorten.proofs.FlippedSides.{Given, Sides, FlippedSides, IsApartFrom, next_apart, flipped_sides}
use Rattle.curve_shorten.proofs.FlippedSides.{next_stays, triangulation_after, edges_after}

-- ---- numbers

-- three numbers at the sides of a triangle, and the counts at its corners, each named by the side before it
pub record IsSummed (x y z kx ky kz : ℕ) : Type 0 where
  pub first : x ≡ kx + kz
  pub second : y ≡ ky + kx
  pub third : z ≡ kz + ky

-- the counts at the six corners before and after
pub record AreJoined (ke kf ka kb kc kd je jf ja jb jc jd : ℕ) : Type 0 where
  pub at_d : jd ≡ min kd ke
  pub at_b : jb ≡ min kb kf
  pub from_a : ka ≡ min ja jf
  pub from_c : kc ≡ min jc je

-- the numbers of (e,a,b) and (f,c,d) before, and of (e,d,a) and (f,b,c) after
joined : (E E' A B C D ke kf ka kb kc kd je jf ja jb jc jd : ℕ) → IsSummed E A B ke ka kb → IsSummed E C D kf kc kd
    → IsSummed E' D A je jd ja → IsSummed E' B C jf jb jc → E + E' ≡ max (A + C) (B + D)
    → AreJoined ke kf ka kb kc kd je jf ja jb jc jd
joined E E' A B C D ke kf ka kb kc kd je jf ja jb jc jd h k i j sum = record {
  at_d = omega arith;
  at_b = omega arith;
  from_a = omega arith;
  from_c = omega arith;
}

-- ---- the counts at a triangle

module _ (g : Given) (triples : List (List ℤ)) (p : IsTriangulation triples) (w : List ℕ)
    (m : IsMulticurve triples w) where
  -- a side z, and x and y behind it: the corner before z is y
  side : (x y z : ℤ) → IsLabel triples z → next triples z ≡ x → next triples x ≡ y
      → weight w z ≡ corner_count triples w z + corner_count triples w y
  side x y z l zx xy =
      (g.drawings triples p).corners w z m l
      ∙ ap (λ (u : ℤ). corner_count triples w z + corner_count triples w u) (ap (next triples) zx ∙ xy)

  pub summed : (x y z : ℤ) → Sides triples x y z → IsLabel triples x → IsLabel triples y → IsLabel triples z
      → IsSummed (weight w x) (weight w y) (weight w z) (corner_count triples w x) (corner_count triples w y)
      (corner_count triples w z)
  summed x y z s lx ly lz = record {
    first = side y z x lx s.after_x s.after_y;
    second = side z x y ly s.after_y s.after_z;
    third = side x y z lz s.after_z s.after_x;
  }

-- ---- a vector after a flip

-- v is the vector after the flip of w
pub record NewCorners (before after : List (List ℤ)) (w v : List ℕ) (e f a b c d : ℤ) : Type 0 where
  pub joins : AreJoined (corner_count before w e) (corner_count before w f) (corner_count before w a)
      (corner_count before w b) (corner_count before w c) (corner_count before w d) (corner_count after v e)
      (corner_count after v f) (corner_count after v a) (corner_count after v b) (corner_count after v c)
      (corner_count after v d)
  pub others : (x : ℤ) → IsLabel before x → IsApartFrom e f a b c d x
      → corner_count after v x ≡ corner_count before w x

module _ (g : Given) (before after : List (List ℤ)) (e a b c d : ℤ) (w : List ℕ) (p : IsTriangulation before)
    (h : IsFlip before after e a b c d) (m : IsMulticurve before w) where
  s : FlippedSides before after e (inverse e) a b c d
  s = flipped_sides g before after e a b c d p h

  q : IsTriangulation after
  q = triangulation_after g before after e a b c d p h

  t : TriangleLaws before
  t = g.surfaces.triangles before p

  abbrev v : List ℕ
  v = vector_after (flip e a b c d) w

  multicurve_after : IsMulticurve after (vector_after (flip e a b c d) w)
  multicurve_after = (g.vectors.moves before after (flip e a b c d) w p q h m).multicurve

  label_after : (x : ℤ) → IsLabel before x → IsLabel after x
  label_after x l = subst (λ (n : ℕ). edge_of x < n) (sym (edges_after g before after e a b c d p h)) l

  -- only the number of the edge changes
  number_stays : (x : ℤ) → x ≢ e → x ≢ inverse e → weight (vector_after (flip e a b c d) w) x ≡ weight w x
  number_stays x ne nf =
      get_or-set_other w (edge_of e) (edge_of x) (flipped_number w e a b c d) 0
      (λ k. elim (g.labels.of_edge x e k) [ inl same ↦ ne same | inr other ↦ nf other ])

  new_number : weight (vector_after (flip e a b c d) w) e ≡ flipped_number w e a b c d
  new_number =
      get_or-set_same w (edge_of e) (flipped_number w e a b c d) 0
      (subst (λ (n : ℕ). edge_of e < n) (sym m.one_per_edge) h.label)

  new_sum : weight w e + weight (vector_after (flip e a b c d) w) e ≡ greater_sum w a b c d
  new_sum = omega (arith, new_number, g.vectors.numbers.enough before after e a b c d w p h m)

  -- the numbers at the two labels of the edge are the same
  inverse_number : (u : List ℕ) → weight u (inverse e) ≡ weight u e
  inverse_number u = ap (λ (n : ℕ). slice_index u n) (g.labels.edge e)

  -- the two triangles before the flip
  summed_before : IsSummed (weight w e) (weight w a) (weight w b) (corner_count before w e)
      (corner_count before w a) (corner_count before w b)
  summed_before = summed g before p w m e a b s.first s.label_e s.label_a s.label_b

  summed_beside : IsSummed (weight w (inverse e)) (weight w c) (weight w d) (corner_count before w (inverse e))
      (corner_count before w c) (corner_count before w d)
  summed_beside = summed g before p w m (inverse e) c d s.second s.label_f s.label_c s.label_d

  -- and after it
  joins_after : AreJoined (corner_count before w e) (corner_count before w (inverse e)) (corner_count before w a)
      (corner_count before w b) (corner_count before w c) (corner_count before w d) (corner_count after v e)
      (corner_count after v (inverse e)) (corner_count after v a) (corner_count after v b)
      (corner_count after v c) (corner_count after v d)
  joins_after =
      joined (weight w e) (weight v e) (weight w a) (weight w b) (weight w c) (weight w d) _ _ _ _ _ _ _ _ _ _ _ _
      summed_before
      (subst (λ (n : ℕ). IsSummed n (weight w c) (weight w d) (corner_count before w (inverse e))
      (corner_count before w c) (corner_count before w d)) (inverse_number w) summed_beside)
      first second new_sum
    where
      first : IsSummed (weight v e) (weight w d) (weight w a) (corner_count after v e) (corner_count after v d)
          (corner_count after v a)
      first =
          let r = summed g after q v multicurve_after e d a s.first_after (label_after e s.label_e)
          (label_after d s.label_d) (label_after a s.label_a) in
          record {
            first = r.first;
            second = sym (number_stays d s.d_not_e s.d_not_f) ∙ r.second;
            third = sym (number_stays a s.a_not_e s.a_not_f) ∙ r.third;
          }

      second : IsSummed (weight v e) (weight w b) (weight w c) (corner_count after v (inverse e))
          (corner_count after v b) (corner_count after v c)
      second =
          let r = summed g after q v multicurve_after (inverse e) b c s.second_after (label_after (inverse e) s.label_f)
          (label_after b s.label_b) (label_after c s.label_c) in
          record {
            first = sym (inverse_number v) ∙ r.first;
            second = sym (number_stays b s.b_not_e s.b_not_f) ∙ r.second;
            third = sym (number_stays c s.c_not_e s.c_not_f) ∙ r.third;
          }

  -- the other triangles
  away : (x : ℤ) → IsLabel before x → IsApartFrom e (inverse e) a b c d x
      → IsApartFrom e (inverse e) a b c d (next before x)
  away = next_apart before after e (inverse e) a b c d t s

  number_apart : (x : ℤ) → IsApartFrom e (inverse e) a b c d x → weight v x ≡ weight w x
  number_apart x r = number_stays x r.from_e r.from_f

  corner_apart : (x : ℤ) → IsLabel before x → IsApartFrom e (inverse e) a b c d x
      → corner_count after v x ≡ corner_count before w x
  corner_apart x l r =
      ap (λ (u : ℤ). (weight v x + weight v u - weight v (next after u)) / 2) xy
      ∙ ap (λ (u : ℤ). (weight v x + weight v y - weight v u) / 2) yz
      ∙ ap (λ (n : ℕ). (n + weight v y - weight v z) / 2) (number_apart x r)
      ∙ ap (λ (n : ℕ). (weight w x + n - weight v z) / 2) (number_apart y ry)
      ∙ ap (λ (n : ℕ). (weight w x + weight w y - n) / 2) (number_apart z (away y ly ry))
    where
      y : ℤ
      y = next before x

      z : ℤ
      z = next before (next before x)

      ly : IsLabel before (next before x)
      ly = t.label x l

      ry : IsApartFrom e (inverse e) a b c d (next before x)
      ry = away x l r

      xy : next after x ≡ next before x
      xy = next_stays g before after e a b c d p h x l r

      yz : next after (next before x) ≡ next before (next before x)
      yz = next_stays g before after e a b c d p h (next before x) ly ry

  pub new_corners : NewCorners before after w (vector_after (flip e a b c d) w) e (inverse e) a b c d
  new_corners = record { joins = joins_after; others = corner_apart }

  -- ---- something is crossed

  -- where nothing is crossed after the flip, the sides c and d are not crossed, so the edge was not
  none_before : All (λ n. n ≡ 0) v → (k : ℕ) → k < length w → slice_index w k ≡ 0
  none_before none k below =
      elim (cases_eq k (edge_of e)) [
        | inl same ↦
            (ap (λ (n : ℕ). slice_index w n) same
            ∙ omega (
              arith,
              inverse_number w,
              summed_beside,
              at c s.label_c s.c_not_e s.c_not_f,
              at d s.label_d s.d_not_e s.d_not_f,
            ))
        | inr other ↦
            (sym (get_or-set_other w (edge_of e) k (flipped_number w e a b c d) 0 other)
            ∙ none k 0 (omega (arith, length-set w (edge_of e) (flipped_number w e a b c d))))
      ]
    where
      at : (x : ℤ) → IsLabel before x → x ≢ e → x ≢ inverse e → weight w x ≡ 0
      at x l ne nf =
          sym (number_stays x ne nf)
          ∙ none (edge_of x) 0
          (omega (arith, m.one_per_edge, length-set w (edge_of e) (flipped_number w e a b c d)))

  -- so what is crossed before is crossed after it
  pub crossed_after : ¬ All (λ n. n ≡ 0) w → ¬ All (λ n. n ≡ 0) (vector_after (flip e a b c d) w)
  crossed_after some none = some (λ k u below. get_or_default w k u 0 below ∙ none_before none k below)
