-- The two triangles at the edge of a flip, before it and after it, and where a label lies.
--
-- Before it they are (e,a,b) and (f,c,d), where f is the inverse of e; after it they are (e,d,a) and (f,b,c). All that
-- is said of the first of them is said again of the second, so a proof for one serves both. The sides a, b, c, d may
-- be glued to each other; none is e or f.
use Rattle.std.proofs.Common.{ℤ, List, ◌≡◌, ◌≢◌, inl, inr, refl, sym, ◌∙◌, ap, subst, arith}
use Rattle.ideal_tri.specs.DrawingLaws.{DrawingLaws}
use Rattle.ideal_tri.specs.FlipLaws.{FlipLaws, OneFlipLaws}
use Rattle.ideal_tri.specs.LabelLaws.{LabelLaws}
use Rattle.ideal_tri.specs.Flips.{flipped}
use Rattle.ideal_tri.specs.Labels.{inverse}
use Rattle.ideal_tri.specs.SurfaceLaws.{SurfaceLaws, TriangleLaws}
use Rattle.ideal_tri.specs.Triangulations.{IsTriangulation, IsLabel, edge_count, next}
use Rattle.tri_atlas.specs.Moves.{IsFlip}
use Rattle.tri_atlas.specs.VectorLaws.{VectorLaws}

-- what is used of the laws of labels, triangulations, vectors and drawings
pub record Given : Type 0 where
  pub labels : LabelLaws
  pub surfaces : SurfaceLaws
  pub flips : FlipLaws
  pub drawings : (triples : List (List ℤ)) → IsTriangulation triples → DrawingLaws triples
  pub vectors : VectorLaws

-- ---- the two triangles

-- the sides x, y, z of a triangle, in this order
pub record Sides (triples : List (List ℤ)) (x y z : ℤ) : Type 0 where
  pub after_x : next triples x ≡ y
  pub after_y : next triples y ≡ z
  pub after_z : next triples z ≡ x

pub record FlippedSides (before after : List (List ℤ)) (e f a b c d : ℤ) : Type 0 where
  pub inverse_e : inverse e ≡ f
  pub inverse_f : inverse f ≡ e
  pub first : Sides before e a b
  pub second : Sides before f c d
  pub first_after : Sides after e d a
  pub second_after : Sides after f b c
  pub label_e : IsLabel before e
  pub label_f : IsLabel before f
  pub label_a : IsLabel before a
  pub label_b : IsLabel before b
  pub label_c : IsLabel before c
  pub label_d : IsLabel before d
  pub a_not_e : a ≢ e
  pub a_not_f : a ≢ f
  pub b_not_e : b ≢ e
  pub b_not_f : b ≢ f
  pub c_not_e : c ≢ e
  pub c_not_f : c ≢ f
  pub d_not_e : d ≢ e
  pub d_not_f : d ≢ f

-- seen from the other label of the edge
pub turned : (before after : List (List ℤ)) (e f a b c d : ℤ) → FlippedSides before after e f a b c d
    → FlippedSides before after f e c d a b
turned before after e f a b c d s = record {
  inverse_e = s.inverse_f;
  inverse_f = s.inverse_e;
  first = s.second;
  second = s.first;
  first_after = s.second_after;
  second_after = s.first_after;
  label_e = s.label_f;
  label_f = s.label_e;
  label_a = s.label_c;
  label_b = s.label_d;
  label_c = s.label_a;
  label_d = s.label_b;
  a_not_e = s.c_not_f;
  a_not_f = s.c_not_e;
  b_not_e = s.d_not_f;
  b_not_f = s.d_not_e;
  c_not_e = s.a_not_f;
  c_not_f = s.a_not_e;
  d_not_e = s.b_not_f;
  d_not_f = s.b_not_e;
}

-- ---- where a label lies

-- x is none of the six sides
pub record IsApartFrom (e f a b c d x : ℤ) : Type 0 where
  pub from_e : x ≢ e
  pub from_f : x ≢ f
  pub from_a : x ≢ a
  pub from_b : x ≢ b
  pub from_c : x ≢ c
  pub from_d : x ≢ d

pub data Place (e f a b c d x : ℤ) : Type 0 where
  at_e : x ≡ e → Place e f a b c d x
  at_f : x ≡ f → Place e f a b c d x
  at_a : x ≡ a → Place e f a b c d x
  at_b : x ≡ b → Place e f a b c d x
  at_c : x ≡ c → Place e f a b c d x
  at_d : x ≡ d → Place e f a b c d x
  apart : IsApartFrom e f a b c d x → Place e f a b c d x

pub place_of : LabelLaws → (e f a b c d x : ℤ) → Place e f a b c d x
place_of labels e f a b c d x =
    elim (labels.same_or_not x e) [
      | inl h ↦ at_e h
      | inr ne ↦ elim (labels.same_or_not x f) [
        | inl h ↦ at_f h
        | inr nf ↦ elim (labels.same_or_not x a) [
          | inl h ↦ at_a h
          | inr na ↦ elim (labels.same_or_not x b) [
            | inl h ↦ at_b h
            | inr nb ↦ elim (labels.same_or_not x c) [
              | inl h ↦ at_c h
              | inr nc ↦ elim (labels.same_or_not x d) [
                | inl h ↦ at_d h
                | inr nd ↦ apart (record {
                  from_e = ne;
                  from_f = nf;
                  from_a = na;
                  from_b = nb;
                  from_c = nc;
                  from_d = nd;
                })
              ]
            ]
          ]
        ]
      ]
    ]

-- two labels that have the same one after them are the same
pub only_before : (triples : List (List ℤ)) → TriangleLaws triples → (x y : ℤ) → IsLabel triples x → IsLabel triples y
    → next triples x ≡ next triples y → x ≡ y
only_before triples t x y l k same = sym (t.round x l) ∙ ap (λ (z : ℤ). next triples (next triples z)) same ∙ t.round y k

-- the other triangles have no such side
pub next_apart : (before after : List (List ℤ)) (e f a b c d : ℤ) → TriangleLaws before
    → FlippedSides before after e f a b c d → (x : ℤ) → IsLabel before x → IsApartFrom e f a b c d x
    → IsApartFrom e f a b c d (next before x)
next_apart before after e f a b c d t s x l q = record {
  from_e = λ k. q.from_b (only_before before t x b l s.label_b (k ∙ sym s.first.after_z));
  from_f = λ k. q.from_d (only_before before t x d l s.label_d (k ∙ sym s.second.after_z));
  from_a = λ k. q.from_e (only_before before t x e l s.label_e (k ∙ sym s.first.after_x));
  from_b = λ k. q.from_a (only_before before t x a l s.label_a (k ∙ sym s.first.after_y));
  from_c = λ k. q.from_f (only_before before t x f l s.label_f (k ∙ sym s.second.after_x));
  from_d = λ k. q.from_c (only_before before t x c l s.label_c (k ∙ sym s.second.after_y));
}

-- ---- the table of a flip

module _ (g : Given) (before after : List (List ℤ)) (e a b c d : ℤ) (p : IsTriangulation before)
    (h : IsFlip before after e a b c d) where
  t : TriangleLaws before
  t = g.surfaces.triangles before p

  laws : OneFlipLaws before e
  laws = g.flips.flips before e p h.label h.flippable

  label_f : IsLabel before (inverse e)
  label_f = g.labels.label before e h.label

  now : (x : ℤ) → next after x ≡ next (flipped before e) x
  now x = ap (λ (u : List (List ℤ)). next u x) h.result

  pub flipped_sides : FlippedSides before after e (inverse e) a b c d
  flipped_sides = record {
    inverse_e = refl;
    inverse_f = g.labels.twice e;
    first = record {
      after_x = sym h.side_a;
      after_y = ap (next before) h.side_a ∙ sym h.side_b;
      after_z = ap (next before) h.side_b ∙ t.round e h.label;
    };
    second = record {
      after_x = sym h.side_c;
      after_y = ap (next before) h.side_c ∙ sym h.side_d;
      after_z = ap (next before) h.side_d ∙ t.round (inverse e) label_f;
    };
    first_after = record {
      after_x = now e ∙ laws.after_e ∙ sym h.side_d;
      after_y = now d ∙ ap (next (flipped before e)) h.side_d ∙ laws.after_d ∙ sym h.side_a;
      after_z = now a ∙ ap (next (flipped before e)) h.side_a ∙ laws.after_a;
    };
    second_after = record {
      after_x = now (inverse e) ∙ laws.after_inverse ∙ sym h.side_b;
      after_y = now b ∙ ap (next (flipped before e)) h.side_b ∙ laws.after_b ∙ sym h.side_c;
      after_z = now c ∙ ap (next (flipped before e)) h.side_c ∙ laws.after_c;
    };
    label_e = h.label;
    label_f = label_f;
    label_a = subst (IsLabel before) (sym h.side_a) (t.label e h.label);
    label_b = subst (IsLabel before) (sym h.side_b) (t.label (next before e) (t.label e h.label));
    label_c = subst (IsLabel before) (sym h.side_c) (t.label (inverse e) label_f);
    label_d = subst (IsLabel before) (sym h.side_d) (t.label (next before (inverse e)) (t.label (inverse e) label_f));
    a_not_e = λ k. laws.different 0 1 (omega arith) (omega arith) (sym k ∙ h.side_a);
    a_not_f = λ k. laws.different 1 3 (omega arith) (omega arith) (sym h.side_a ∙ k);
    b_not_e = λ k. laws.different 0 2 (omega arith) (omega arith) (sym k ∙ h.side_b);
    b_not_f = λ k. laws.different 2 3 (omega arith) (omega arith) (sym h.side_b ∙ k);
    c_not_e = λ k. laws.different 0 4 (omega arith) (omega arith) (sym k ∙ h.side_c);
    c_not_f = λ k. laws.different 3 4 (omega arith) (omega arith) (sym k ∙ h.side_c);
    d_not_e = λ k. laws.different 0 5 (omega arith) (omega arith) (sym k ∙ h.side_d);
    d_not_f = λ k. laws.different 3 5 (omega arith) (omega arith) (sym k ∙ h.side_d);
  }

  -- a label apart from the two triangles keeps the label after it
  pub next_stays : (x : ℤ) → IsLabel before x → IsApartFrom e (inverse e) a b c d x → next after x ≡ next before x
  next_stays x l q =
      now x
      ∙ laws.after_other x l (
        q.from_e,
        λ k. q.from_a (k ∙ sym h.side_a),
        λ k. q.from_b (k ∙ sym h.side_b),
        q.from_f,
        λ k. q.from_c (k ∙ sym h.side_c),
        λ k. q.from_d (k ∙ sym h.side_d),
      )

  pub triangulation_after : IsTriangulation after
  triangulation_after = subst IsTriangulation (sym h.result) laws.triangulation

  pub edges_after : edge_count after ≡ edge_count before
  edges_after = ap edge_count h.result ∙ laws.edges
