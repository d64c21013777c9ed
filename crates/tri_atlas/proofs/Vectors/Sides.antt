-- The two triangles at the edge of a flip, before it and after it.
--
-- Before it they are (e,a,b) and (~e,c,d), by the sides that the flip names. Since e and ~e lie in two triangles, none
-- of a, b, c, d is one of them: a side of the triangle of e that is ~e would lie in the triangle of ~e. After it they
-- are (e,d,a) and (~e,b,c), as the laws of flips say, and all other triangles stay.
use Rattle.std.proofs.Common.{ℤ, List, ◌≡◌, ◌≢◌, inl, inr, refl, sym, ◌∙◌, ap, subst}
use Rattle.ideal_tri.specs.Labels.{inverse, edge_of}
use Rattle.ideal_tri.specs.SurfaceLaws.{TriangleLaws}
use Rattle.ideal_tri.specs.FlipLaws.{OneFlipLaws}
use Rattle.ideal_tri.specs.Flips.{flipped}
use Rattle.ideal_tri.specs.Triangulations.{IsLabel, triangle_of, next}
use Rattle.tri_atlas.specs.Moves.{IsFlip}
use Rattle.tri_atlas.proofs.LowerLaws.{LowerLaws}
use Rattle.tri_atlas.proofs.Flips.{label_after_flip}
use Rattle.tri_atlas.proofs.Vectors.Quadrilaterals.{Quadrilateral, IsApartFrom}

module _ (laws : LowerLaws) (before target : List (List ℤ)) (e a b c d : ℤ) (t : TriangleLaws before)
    (h : IsFlip before target e a b c d) where
  other : IsLabel before (inverse e)
  other = laws.labels.label before e h.label

  triangle_of_a : triangle_of before a ≡ triangle_of before e
  triangle_of_a = ap (triangle_of before) h.side_a ∙ t.stays e h.label

  triangle_of_b : triangle_of before b ≡ triangle_of before e
  triangle_of_b = ap (triangle_of before) h.side_b ∙ t.stays (next before e) (t.label e h.label) ∙ t.stays e h.label

  triangle_of_c : triangle_of before c ≡ triangle_of before (inverse e)
  triangle_of_c = ap (triangle_of before) h.side_c ∙ t.stays (inverse e) other

  triangle_of_d : triangle_of before d ≡ triangle_of before (inverse e)
  triangle_of_d =
      ap (triangle_of before) h.side_d ∙ t.stays (next before (inverse e)) (t.label (inverse e) other)
      ∙ t.stays (inverse e) other

  -- the label of another side of a triangle isn't one of the edge, since the other label of the edge lies elsewhere
  off : (x y z : ℤ) → z ≡ inverse y → x ≢ y → triangle_of before x ≡ triangle_of before y
      → triangle_of before y ≢ triangle_of before z
      → edge_of x ≢ edge_of y
  off x y z z_is ne same apart is =
      elim (laws.labels.of_edge x y is) [
        | inl k ↦ ne k
        | inr k ↦ apart (sym same ∙ ap (triangle_of before) (k ∙ sym z_is))
      ]

  pub sides_before : Quadrilateral before e (inverse e) a b c d
  sides_before = record {
    f_is = refl;
    e_is = sym (laws.labels.twice e);
    after_e = sym h.side_a;
    after_a = ap (next before) h.side_a ∙ sym h.side_b;
    after_b = ap (next before) h.side_b ∙ t.round e h.label;
    after_f = sym h.side_c;
    after_c = ap (next before) h.side_c ∙ sym h.side_d;
    after_d = ap (next before) h.side_d ∙ t.round (inverse e) other;
    label_e = h.label;
    label_a = subst (IsLabel before) (sym h.side_a) (t.label e h.label);
    label_b = subst (IsLabel before) (sym h.side_b) (t.label (next before e) (t.label e h.label));
    label_f = other;
    label_c = subst (IsLabel before) (sym h.side_c) (t.label (inverse e) other);
    label_d = subst (IsLabel before) (sym h.side_d) (t.label (next before (inverse e)) (t.label (inverse e) other));
    off_a = off a e (inverse e) refl (λ k. (t.moves e h.label).0 (sym h.side_a ∙ k)) triangle_of_a h.flippable;
    off_b = off b e (inverse e) refl (λ k. (t.moves e h.label).1 (sym h.side_b ∙ k)) triangle_of_b h.flippable;
    off_c =
        off c (inverse e) e (sym (laws.labels.twice e))
        (λ k. (t.moves (inverse e) other).0 (sym h.side_c ∙ k)) triangle_of_c (λ k. h.flippable (sym k));
    off_d =
        off d (inverse e) e (sym (laws.labels.twice e))
        (λ k. (t.moves (inverse e) other).1 (sym h.side_d ∙ k)) triangle_of_d (λ k. h.flippable (sym k));
  }

  pub sides_after : OneFlipLaws before e → Quadrilateral target e (inverse e) d a b c
  sides_after flip = record {
    f_is = refl;
    e_is = sym (laws.labels.twice e);
    after_e = now e ∙ flip.after_e ∙ sym h.side_d;
    after_a = now d ∙ ap (next flipped_one) h.side_d ∙ flip.after_d ∙ sym h.side_a;
    after_b = now a ∙ ap (next flipped_one) h.side_a ∙ flip.after_a;
    after_f = now (inverse e) ∙ flip.after_inverse ∙ sym h.side_b;
    after_c = now b ∙ ap (next flipped_one) h.side_b ∙ flip.after_b ∙ sym h.side_c;
    after_d = now c ∙ ap (next flipped_one) h.side_c ∙ flip.after_c;
    label_e = still e s.label_e;
    label_a = still d s.label_d;
    label_b = still a s.label_a;
    label_f = still (inverse e) s.label_f;
    label_c = still b s.label_b;
    label_d = still c s.label_c;
    off_a = λ k. s.off_d (k ∙ sym same_edge);
    off_b = s.off_a;
    off_c = λ k. s.off_b (k ∙ same_edge);
    off_d = s.off_c;
  }
    where
      s : Quadrilateral before e (inverse e) a b c d
      s = sides_before

      flipped_one : List (List ℤ)
      flipped_one = flipped before e

      now : (x : ℤ) → next target x ≡ next (flipped before e) x
      now x = ap (λ (u : List (List ℤ)). next u x) h.result

      still : (x : ℤ) → IsLabel before x → IsLabel target x
      still x l = label_after_flip laws before target e a b c d x h l

      same_edge : edge_of (inverse e) ≡ edge_of e
      same_edge = laws.labels.edge e

  pub others_stay : OneFlipLaws before e → (x : ℤ) → IsLabel before x → IsApartFrom e (inverse e) a b c d x
      → next target x ≡ next before x
  others_stay flip x l q =
      ap (λ (u : List (List ℤ)). next u x) h.result
      ∙ flip.after_other x l (
        q.from_e,
        λ k. q.from_a (k ∙ sym h.side_a),
        λ k. q.from_b (k ∙ sym h.side_b),
        q.from_f,
        λ k. q.from_c (k ∙ sym h.side_c),
        λ k. q.from_d (k ∙ sym h.side_d),
      )
