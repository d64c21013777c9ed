-- The numbers after a flip, and after a backward flip.
--
-- The vector after either has the numbers of the one before, but for that of the edge, where the two make up the
-- greater sum of opposite sides of the quadrilateral. It is a multicurve's, so the two vectors and the two
-- triangulations are a pair, and the same rule gives back the number before.
use Rattle.std.proofs.Common.{ℕ, ℤ, List, ◌≡◌, ◌≢◌, ◌≤◌, ◌<◌, ◌+◌, max, inl, inr, refl, sym, ◌∙◌, ap, subst, arith}
use Rattle.std.proofs.Common.{length, set, get_or, length-set}
use Rattle.std.specs.Prelude.{slice_index}
use Rattle.std.proofs.lemmas.Bool.{cases_eq}
use Rattle.std.proofs.lemmas.List.{get_or-set_same, get_or-set_other}
use Rattle.std.proofs.lemmas.Grind.{same_number_lists}
use Rattle.ideal_tri.specs.Labels.{inverse, edge_of}
use Rattle.ideal_tri.specs.Triangulations.{IsTriangulation, IsLabel, edge_count, next}
use Rattle.ideal_tri.specs.Vectors.{IsMulticurve, weight, corner_count}
use Rattle.tri_atlas.specs.Moves.{IsFlip}
use Rattle.tri_atlas.specs.MovedVectors.{greater_sum, flipped_number}
use Rattle.tri_atlas.proofs.Flips.{flip_edges}
use Rattle.tri_atlas.proofs.Vectors.Given.{Given, sums_of_multicurve, multicurve_of_sums}
use Rattle.tri_atlas.proofs.Vectors.Turns.{HasCornerSums, same_number}
use Rattle.tri_atlas.proofs.Vectors.Quadrilaterals.{Quadrilateral, IsApartFrom}
use Rattle.tri_atlas.proofs.Vectors.Pairs.{IsFlippedPair}
use Rattle.tri_atlas.proofs.Vectors.Sides.{sides_before, sides_after, others_stay}
use Rattle.tri_atlas.proofs.Vectors.Multicurves.{IsSummed, summed, IsHalved-same, edge_below, first_halved}
use Rattle.tri_atlas.proofs.Vectors.Multicurves.{second_halved, sums_moved}

-- ---- a vector with another number at one edge

-- v has the numbers of w but at the edge of e, where the two numbers make up the greater sum of opposite sides
pub record IsFlippedVector (w v : List ℕ) (e a b c d : ℤ) : Type 0 where
  pub long : length v ≡ length w
  pub numbers : (x : ℤ) → edge_of x ≢ edge_of e → weight v x ≡ weight w x
  pub sum : weight w e + weight v e ≡ greater_sum w a b c d

pub flipped_vector : (w : List ℕ) (e a b c d : ℤ) → edge_of e < length w → weight w e ≤ greater_sum w a b c d
    → IsFlippedVector w (set w (edge_of e) (flipped_number w e a b c d)) e a b c d
flipped_vector w e a b c d below enough = record {
  long = length-set w (edge_of e) n;
  numbers = λ x ne. get_or-set_other w (edge_of e) (edge_of x) n 0 ne;
  sum = omega (arith, get_or-set_same w (edge_of e) n 0 below);
}
  where
    n : ℕ
    n = flipped_number w e a b c d

-- the old number again at its edge
set-back : (w : List ℕ) (i x y : ℕ) → y ≡ slice_index w i → i < length w → set (set w i x) i y ≡ w
set-back w i x y is below =
    same_number_lists (set (set w i x) i y) w (length-set (set w i x) i y ∙ length-set w i x)
    (λ k l.
    elim (cases_eq k i) [
      | inl same ↦
          (ap (λ (j : ℕ). get_or (set (set w i x) i y) j 0) same
          ∙ get_or-set_same (set w i x) i y 0 (omega (arith, length-set w i x))
          ∙ is
          ∙ ap (λ (j : ℕ). get_or w j 0) (sym same))
      | inr other ↦ get_or-set_other (set w i x) i k y 0 other ∙ get_or-set_other w i k x 0 other
    ])

-- the same rule gives back the old number
pub flip_back : (w v : List ℕ) (e a b c d : ℤ) → v ≡ set w (edge_of e) (flipped_number w e a b c d)
    → IsFlippedVector w v e a b c d → greater_sum v a b c d ≡ greater_sum w a b c d → edge_of e < length w
    → set v (edge_of e) (flipped_number v e a b c d) ≡ w
flip_back w v e a b c d is h same below =
    ap (λ (u : List ℕ). set u (edge_of e) (flipped_number v e a b c d)) is
    ∙ set-back w (edge_of e) (flipped_number w e a b c d) (flipped_number v e a b c d)
    (omega (arith, h.sum, same)) below

-- ---- the two triangulations

module _ (g : Given) (before target : List (List ℤ)) (e a b c d : ℤ) (p : IsTriangulation before)
    (t : IsTriangulation target) (h : IsFlip before target e a b c d) where
  here : Quadrilateral before e (inverse e) a b c d
  here = sides_before g.lower before target e a b c d (g.lower.surfaces.triangles before p) h

  there : Quadrilateral target e (inverse e) d a b c
  there =
      sides_after g.lower before target e a b c d (g.lower.surfaces.triangles before p) h
      (g.lower.flips.flips before e p h.label h.flippable)

  others : (x : ℤ) → IsLabel before x → IsApartFrom e (inverse e) a b c d x → next target x ≡ next before x
  others =
      others_stay g.lower before target e a b c d (g.lower.surfaces.triangles before p) h
      (g.lower.flips.flips before e p h.label h.flippable)

  edges : edge_count target ≡ edge_count before
  edges = flip_edges g.lower before target e a b c d h

  off_c : edge_of c ≢ edge_of e
  off_c k = here.off_c (k ∙ sym (g.lower.labels.edge e))

  off_d : edge_of d ≢ edge_of e
  off_d k = here.off_d (k ∙ sym (g.lower.labels.edge e))

  -- the greater sum is the same, before and after
  pub same_sum : (w v : List ℕ) → ((x : ℤ) → edge_of x ≢ edge_of e → weight v x ≡ weight w x)
      → greater_sum v a b c d ≡ greater_sum w a b c d
  same_sum w v numbers =
      omega (arith, numbers a here.off_a, numbers b here.off_b, numbers c off_c, numbers d off_d)

  pub pair_of : (w v : List ℕ) → IsMulticurve before w → IsMulticurve target v
      → ((x : ℤ) → edge_of x ≢ edge_of e → weight v x ≡ weight w x) → weight w e + weight v e ≡ greater_sum w a b c d
      → IsFlippedPair before target w v e (inverse e) a b c d
  pair_of w v m k numbers sum = record {
    corners_here = sums_of_multicurve g before w p m;
    corners_there = sums_of_multicurve g target v t k;
    sides_here = here;
    sides_there = there;
    triangles = g.lower.surfaces.triangles before p;
    edges = edges;
    others = others;
    numbers = numbers;
    sum = sum;
  }

  -- ---- forwards

  module _ (w : List ℕ) (m : IsMulticurve before w) where
    corners : HasCornerSums before w
    corners = sums_of_multicurve g before w p m

    sums : IsSummed (weight w e) (weight w a) (weight w b) (weight w c) (weight w d) (corner_count before w e)
        (corner_count before w a) (corner_count before w b) (corner_count before w (inverse e))
        (corner_count before w c)
        (corner_count before w d)
    sums = summed g.lower before w e (inverse e) a b c d corners here

    pub enough : weight w e ≤ greater_sum w a b c d
    enough = edge_below _ (weight w e) _ _ _ _ _ _ _ _ _ _ sums

    pub flip_multicurve : (v : List ℕ) → IsFlippedVector w v e a b c d → IsMulticurve target v
    flip_multicurve v new =
        multicurve_of_sums g target v t (new.long ∙ m.one_per_edge ∙ sym edges)
        (sums_moved g.lower before target w v e (inverse e) a b c d d a b c
        (g.lower.surfaces.triangles before p) here there
        (λ x q. record {
          from_e = q.from_e;
          from_a = q.from_b;
          from_b = q.from_c;
          from_f = q.from_f;
          from_c = q.from_d;
          from_d = q.from_a;
        }) edges others new.numbers corners
        (IsHalved-same _ _ _ _ _ _ refl (sym (new.numbers d off_d)) (sym (new.numbers a here.off_a))
        (first_halved _ (weight v e) _ _ _ _ _ _ _ _ _ _ sums new.sum))
        (IsHalved-same _ _ _ _ _ _ (sym (same_number g.lower v e (inverse e) refl)) (sym (new.numbers b here.off_b))
        (sym (new.numbers c off_c))
        (second_halved _ (weight v e) _ _ _ _ _ _ _ _ _ _ sums new.sum)))

  -- ---- backwards

  module _ (v : List ℕ) (m : IsMulticurve target v) where
    corners_there : HasCornerSums target v
    corners_there = sums_of_multicurve g target v t m

    sums_there : IsSummed (weight v e) (weight v d) (weight v a) (weight v b) (weight v c) (corner_count target v e)
        (corner_count target v d) (corner_count target v a) (corner_count target v (inverse e))
        (corner_count target v b)
        (corner_count target v c)
    sums_there = summed g.lower target v e (inverse e) d a b c corners_there there

    pub enough_back : weight v e ≤ greater_sum v a b c d
    enough_back = let below = edge_below _ (weight v e) _ _ _ _ _ _ _ _ _ _ sums_there in omega arith

    pub unflip_multicurve : (w : List ℕ) → IsFlippedVector v w e a b c d → IsMulticurve before w
    unflip_multicurve w new =
        multicurve_of_sums g before w p (new.long ∙ m.one_per_edge ∙ edges)
        (sums_moved g.lower target before v w e (inverse e) d a b c a b c d
        (g.lower.surfaces.triangles target t) there here
        (λ x q. record {
          from_e = q.from_e;
          from_a = q.from_d;
          from_b = q.from_a;
          from_f = q.from_f;
          from_c = q.from_b;
          from_d = q.from_c;
        }) (sym edges)
        (λ x l q. sym (others x (subst (λ (n : ℕ). edge_of x < n) edges l) (record {
          from_e = q.from_e;
          from_a = q.from_b;
          from_b = q.from_c;
          from_f = q.from_f;
          from_c = q.from_d;
          from_d = q.from_a;
        })))
        new.numbers corners_there
        (IsHalved-same _ _ _ _ _ _ refl (sym (new.numbers a here.off_a)) (sym (new.numbers b here.off_b))
        (second_halved _ (weight w e) _ _ _ _ _ _ _ _ _ _ sums_there turned_sum))
        (IsHalved-same _ _ _ _ _ _ (sym (same_number g.lower w e (inverse e) refl)) (sym (new.numbers c off_c))
        (sym (new.numbers d off_d))
        (first_halved _ (weight w e) _ _ _ _ _ _ _ _ _ _ sums_there turned_sum)))
      where
        turned_sum : weight v e + weight w e ≡ max (weight v d + weight v b) (weight v a + weight v c)
        turned_sum = omega (arith, new.sum)
