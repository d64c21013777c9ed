-- The two triangles at an edge, and the labels apart from them.
--
-- The triangles are (e,a,b) and (f,c,d), where e and f are the two labels of the edge. All that is said of them is
-- said again of (f,c,d) and (e,a,b), so a proof for one triangle serves both. The sides a, b, c, d may be glued to
-- each other; none is glued to the edge.
use Rattle.std.proofs.Common.{ℕ, ℤ, List, ◌≡◌, ◌≢◌, ◌+◌, inl, inr, sym, ◌∙◌, ap}
use Rattle.ideal_tri.specs.Labels.{inverse, edge_of}
use Rattle.ideal_tri.specs.SurfaceLaws.{TriangleLaws}
use Rattle.ideal_tri.specs.Triangulations.{IsLabel, next, previous}
use Rattle.ideal_tri.specs.Vectors.{weight, corner_count}
use Rattle.tri_atlas.proofs.LowerLaws.{LowerLaws}
use Rattle.tri_atlas.proofs.Vectors.Turns.{HasCornerSums}

-- ---- the two triangles

pub record Quadrilateral (triples : List (List ℤ)) (e f a b c d : ℤ) : Type 0 where
  pub f_is : f ≡ inverse e
  pub e_is : e ≡ inverse f
  pub after_e : next triples e ≡ a
  pub after_a : next triples a ≡ b
  pub after_b : next triples b ≡ e
  pub after_f : next triples f ≡ c
  pub after_c : next triples c ≡ d
  pub after_d : next triples d ≡ f
  pub label_e : IsLabel triples e
  pub label_a : IsLabel triples a
  pub label_b : IsLabel triples b
  pub label_f : IsLabel triples f
  pub label_c : IsLabel triples c
  pub label_d : IsLabel triples d
  pub off_a : edge_of a ≢ edge_of e
  pub off_b : edge_of b ≢ edge_of e
  pub off_c : edge_of c ≢ edge_of f
  pub off_d : edge_of d ≢ edge_of f

-- seen from the other label of the edge
pub turned : (triples : List (List ℤ)) (e f a b c d : ℤ) → Quadrilateral triples e f a b c d
    → Quadrilateral triples f e c d a b
turned triples e f a b c d s = record {
  f_is = s.e_is;
  e_is = s.f_is;
  after_e = s.after_f;
  after_a = s.after_c;
  after_b = s.after_d;
  after_f = s.after_e;
  after_c = s.after_a;
  after_d = s.after_b;
  label_e = s.label_f;
  label_a = s.label_c;
  label_b = s.label_d;
  label_f = s.label_e;
  label_c = s.label_a;
  label_d = s.label_b;
  off_a = s.off_c;
  off_b = s.off_d;
  off_c = s.off_a;
  off_d = s.off_b;
}

-- the sides of the first triangle as sums of its corners
pub record Sums (triples : List (List ℤ)) (w : List ℕ) (e a b : ℤ) : Type 0 where
  pub side_e : weight w e ≡ corner_count triples w e + corner_count triples w b
  pub side_a : weight w a ≡ corner_count triples w a + corner_count triples w e
  pub side_b : weight w b ≡ corner_count triples w b + corner_count triples w a

module _ (triples : List (List ℤ)) (e f a b c d : ℤ) (s : Quadrilateral triples e f a b c d) where
  pub before_e : previous triples e ≡ b
  before_e = ap (next triples) s.after_e ∙ s.after_a

  pub before_a : previous triples a ≡ e
  before_a = ap (next triples) s.after_a ∙ s.after_b

  pub before_b : previous triples b ≡ a
  before_b = ap (next triples) s.after_b ∙ s.after_e

  pub sums_of : (w : List ℕ) → HasCornerSums triples w → Sums triples w e a b
  sums_of w h = record {
    side_e = h.sums e s.label_e ∙ ap (λ (x : ℤ). corner_count triples w e + corner_count triples w x) before_e;
    side_a = h.sums a s.label_a ∙ ap (λ (x : ℤ). corner_count triples w a + corner_count triples w x) before_a;
    side_b = h.sums b s.label_b ∙ ap (λ (x : ℤ). corner_count triples w b + corner_count triples w x) before_b;
  }

-- ---- labels apart from the two triangles

-- x is none of the six sides
pub record IsApartFrom (e f a b c d x : ℤ) : Type 0 where
  pub from_e : x ≢ e
  pub from_a : x ≢ a
  pub from_b : x ≢ b
  pub from_f : x ≢ f
  pub from_c : x ≢ c
  pub from_d : x ≢ d

-- where x lies
pub data Place (e f a b c d x : ℤ) : Type 0 where
  at_e : x ≡ e → Place e f a b c d x
  at_a : x ≡ a → Place e f a b c d x
  at_b : x ≡ b → Place e f a b c d x
  at_f : x ≡ f → Place e f a b c d x
  at_c : x ≡ c → Place e f a b c d x
  at_d : x ≡ d → Place e f a b c d x
  apart : IsApartFrom e f a b c d x → Place e f a b c d x

pub place_of : LowerLaws → (e f a b c d x : ℤ) → Place e f a b c d x
place_of laws e f a b c d x =
    elim (laws.labels.same_or_not x e) [
      | inl h ↦ at_e h
      | inr ne ↦ elim (laws.labels.same_or_not x a) [
        | inl h ↦ at_a h
        | inr na ↦ elim (laws.labels.same_or_not x b) [
          | inl h ↦ at_b h
          | inr nb ↦ elim (laws.labels.same_or_not x f) [
            | inl h ↦ at_f h
            | inr nf ↦ elim (laws.labels.same_or_not x c) [
              | inl h ↦ at_c h
              | inr nc ↦ elim (laws.labels.same_or_not x d) [
                | inl h ↦ at_d h
                | inr nd ↦ apart (record {
                  from_e = ne;
                  from_a = na;
                  from_b = nb;
                  from_f = nf;
                  from_c = nc;
                  from_d = nd;
                })
              ]
            ]
          ]
        ]
      ]
    ]

-- the other triangles have no such side
module _ (laws : LowerLaws) (triples : List (List ℤ)) (e f a b c d : ℤ) (t : TriangleLaws triples)
    (s : Quadrilateral triples e f a b c d) where
  twice_before : (x y : ℤ) → IsLabel triples x → next triples x ≡ y → x ≡ next triples (next triples y)
  twice_before x y l is = sym (t.round x l) ∙ ap (λ (z : ℤ). next triples (next triples z)) is

  pub next_apart : (x : ℤ) → IsLabel triples x → IsApartFrom e f a b c d x → IsApartFrom e f a b c d (next triples x)
  next_apart x l q = record {
    from_e = λ k. q.from_b (twice_before x e l k ∙ ap (next triples) s.after_e ∙ s.after_a);
    from_a = λ k. q.from_e (twice_before x a l k ∙ ap (next triples) s.after_a ∙ s.after_b);
    from_b = λ k. q.from_a (twice_before x b l k ∙ ap (next triples) s.after_b ∙ s.after_e);
    from_f = λ k. q.from_d (twice_before x f l k ∙ ap (next triples) s.after_f ∙ s.after_c);
    from_c = λ k. q.from_f (twice_before x c l k ∙ ap (next triples) s.after_c ∙ s.after_d);
    from_d = λ k. q.from_c (twice_before x d l k ∙ ap (next triples) s.after_d ∙ s.after_f);
  }

  pub apart_off : (x : ℤ) → IsApartFrom e f a b c d x → edge_of x ≢ edge_of e
  apart_off x q same =
      elim (laws.labels.of_edge x e same) [
        | inl k ↦ q.from_e k
        | inr k ↦ q.from_f (k ∙ sym s.f_is)
      ]
