-- Two triangulations that differ by a flip, with vectors that differ at the flipped edge.
--
-- There are (e,a,b) and (f,c,d) here, (e,d,a) and (f,b,c) there, and all other triangles and numbers are the same. The
-- two numbers of the edge make up the greater sum of opposite sides. What holds of a pair holds of it seen from the
-- other label of the edge. The sums of corners on both sides are all that the rows need.
use Rattle.std.proofs.Common.{ℕ, ℤ, List, ◌≡◌, ◌≢◌, ◌+◌, max, sym, ◌∙◌, arith}
use Rattle.ideal_tri.specs.Labels.{edge_of}
use Rattle.ideal_tri.specs.SurfaceLaws.{TriangleLaws}
use Rattle.ideal_tri.specs.Triangulations.{IsLabel, edge_count, next}
use Rattle.ideal_tri.specs.Vectors.{weight, corner_count}
use Rattle.tri_atlas.proofs.LowerLaws.{LowerLaws}
use Rattle.tri_atlas.proofs.Vectors.Turns.{HasCornerSums, one_edge, same_number}
use Rattle.tri_atlas.proofs.Vectors.Quadrilaterals.{Quadrilateral, turned, Sums, sums_of, IsApartFrom}
use Rattle.tri_atlas.proofs.Vectors.Rows.{Numbers, IsBalanced}

pub record IsFlippedPair (here there : List (List ℤ)) (w v : List ℕ) (e f a b c d : ℤ) : Type 0 where
  pub corners_here : HasCornerSums here w
  pub corners_there : HasCornerSums there v
  pub sides_here : Quadrilateral here e f a b c d
  pub sides_there : Quadrilateral there e f d a b c
  pub triangles : TriangleLaws here
  pub edges : edge_count there ≡ edge_count here
  pub others : (x : ℤ) → IsLabel here x → IsApartFrom e f a b c d x → next there x ≡ next here x
  pub numbers : (x : ℤ) → edge_of x ≢ edge_of e → weight v x ≡ weight w x
  pub sum : weight w e + weight v e ≡ max (weight w a + weight w c) (weight w b + weight w d)

pub pair_turned : LowerLaws → (here there : List (List ℤ)) (w v : List ℕ) (e f a b c d : ℤ)
    → IsFlippedPair here there w v e f a b c d
    → IsFlippedPair here there w v f e c d a b
pair_turned laws here there w v e f a b c d h = record {
  corners_here = h.corners_here;
  corners_there = h.corners_there;
  sides_here = turned here e f a b c d s;
  sides_there = turned there e f d a b c h.sides_there;
  triangles = h.triangles;
  edges = h.edges;
  others = λ x l q.
      h.others x l (record {
        from_e = q.from_f;
        from_a = q.from_c;
        from_b = q.from_d;
        from_f = q.from_e;
        from_c = q.from_a;
        from_d = q.from_b;
      });
  numbers = λ x n. h.numbers x (λ k. n (k ∙ sym (one_edge laws e f s.f_is)));
  sum = omega (arith, h.sum, same_number laws w e f s.f_is, same_number laws v e f s.f_is);
}
  where
    s : Quadrilateral here e f a b c d
    s = h.sides_here

-- ---- the numbers of the two triangles

abbrev pub numbers_of : (here there : List (List ℤ)) (w v : List ℕ) (e f a b c d : ℤ) → Numbers
numbers_of here there w v e f a b c d = record {
  E = weight w e;
  F = weight v e;
  F' = weight v f;
  A = weight w a;
  B = weight w b;
  C = weight w c;
  D = weight w d;
  A' = weight v a;
  B' = weight v b;
  C' = weight v c;
  D' = weight v d;
  ke = corner_count here w e;
  ka = corner_count here w a;
  kb = corner_count here w b;
  kf = corner_count here w f;
  kc = corner_count here w c;
  kd = corner_count here w d;
  le = corner_count there v e;
  la = corner_count there v a;
  lb = corner_count there v b;
  lf = corner_count there v f;
  lc = corner_count there v c;
  ld = corner_count there v d;
}

pub balanced : LowerLaws → (here there : List (List ℤ)) (w v : List ℕ) (e f a b c d : ℤ)
    → IsFlippedPair here there w v e f a b c d
    → IsBalanced (numbers_of here there w v e f a b c d)
balanced laws here there w v e f a b c d h =
    let first : Sums here w e a b = sums_of here e f a b c d s w h.corners_here in
    let second : Sums here w f c d = sums_of here f e c d a b (turned here e f a b c d s) w h.corners_here in
    let third : Sums there v e d a = sums_of there e f d a b c t v h.corners_there in
    let fourth : Sums there v f b c = sums_of there f e b c d a (turned there e f d a b c t) v h.corners_there in
    record {
      e_before = first.side_e;
      a_before = first.side_a;
      b_before = first.side_b;
      f_before = sym (same_number laws w e f s.f_is) ∙ second.side_e;
      c_before = second.side_a;
      d_before = second.side_b;
      e_after = third.side_e;
      d_after = third.side_a;
      a_after = third.side_b;
      f_after = fourth.side_e;
      b_after = fourth.side_a;
      c_after = fourth.side_b;
      a_stays = h.numbers a s.off_a;
      b_stays = h.numbers b s.off_b;
      c_stays = h.numbers c (λ k. s.off_c (k ∙ sym (one_edge laws e f s.f_is)));
      d_stays = h.numbers d (λ k. s.off_d (k ∙ sym (one_edge laws e f s.f_is)));
      one_edge = same_number laws v e f s.f_is;
      sum = h.sum;
    }
  where
    s : Quadrilateral here e f a b c d
    s = h.sides_here

    t : Quadrilateral there e f d a b c
    t = h.sides_there
