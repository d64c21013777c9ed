-- The flip of an edge of a triangulation is a triangulation, and what stands where in it.
--
-- Let (e,a,b) and (~e,c,d) be the two triangles, which are different. Afterwards (e,d,a) and (~e,b,c) stand in their
-- places. The six sides are the same labels as before, so each label still stands once. All but b and d keep their
-- triangle, and labels outside the two triangles keep the side after them.
--
-- What a walk joins stays joined: the edge e joins its two triangles before and after, so that the old triangle of
-- each label is joined to its new one, and with it the old triangle of x to that of ~x.
use Rattle.std.proofs.Common.{ℕ, ℤ, pos, negsuc, List, [], ◌∷◌, ◌≡◌, ◌≢◌, ◌<◌, ◌*◌, ◌/◌, ◌⊎◌, inl, inr, cond, nat_lt}
use Rattle.std.proofs.Common.{refl, sym, ◌∙◌, ap, subst, length, set}
use Rattle.std.proofs.lemmas.List.{set_comm}
use Rattle.std.proofs.lemmas.List.Elements.{All-set}
use Rattle.ideal_tri.specs.Labels.{inverse, edge_of}
use Rattle.ideal_tri.specs.Triangulations.{labels_of, IsLabel, IsWalk, IsReached, IsTriangulation, IsConnected}
use Rattle.ideal_tri.specs.Triangulations.{triangle_of, next, previous}
use Rattle.ideal_tri.specs.Flips.{IsFlippable, flipped}
use Rattle.ideal_tri.specs.FlipLaws.{IsOutside, OneFlipLaws}
use Rattle.ideal_tri.proofs.Labels.{inverse-inverse, inverse_label, same_or_not}
use Rattle.ideal_tri.proofs.Triangles.{times, IsOnce-triangulation}
use Rattle.ideal_tri.proofs.Walks.{reached_here, reached_step, reached_along, reached_back}
use Rattle.ideal_tri.proofs.Flips.{StandsAt, label_stands, Quadrilateral, turned_edge-length, turned_edge-times}
use Rattle.ideal_tri.proofs.Flips.{turned_edge-first, turned_edge-second, turned_edge-still, turned_edge-stays}
use Rattle.ideal_tri.proofs.Flips.{six_distinct}

-- ---- what stands where after the flip

-- a triangulation, and a label of it that can be flipped
record CanFlip (triples : List (List ℤ)) (e : ℤ) : Type 0 where
  whole : IsTriangulation triples
  label : IsLabel triples e
  flippable : IsFlippable triples e

quadrilateral_at : (triples : List (List ℤ)) (e : ℤ) → CanFlip triples e
    → Quadrilateral triples e (next triples e) (previous triples e) (inverse e) (next triples (inverse e))
    (previous triples (inverse e)) (triangle_of triples e)
    (triangle_of triples (inverse e))
quadrilateral_at triples e can = record {
  first = label_stands triples can.whole e can.label;
  second = label_stands triples can.whole (inverse e) (inverse_label triples e can.label);
  apart = can.flippable;
}

flipped-length : (triples : List (List ℤ)) (e : ℤ) → length (flipped triples e) ≡ length triples
flipped-length triples e =
    turned_edge-length triples e (next triples e) (previous triples e) (inverse e) (next triples (inverse e))
    (previous triples (inverse e))
    (triangle_of triples e) (triangle_of triples (inverse e))

flipped-times : (triples : List (List ℤ)) (e : ℤ) → CanFlip triples e → (x : ℤ)
    → times x (labels_of (flipped triples e)) ≡ times x (labels_of triples)
flipped-times triples e can x =
    turned_edge-times triples e (next triples e) (previous triples e) (inverse e) (next triples (inverse e))
    (previous triples (inverse e))
    (triangle_of triples e) (triangle_of triples (inverse e)) (quadrilateral_at triples e can) x

-- the triangle e, d, a
flipped-first : (triples : List (List ℤ)) (e : ℤ) → CanFlip triples e
    → StandsAt (flipped triples e) e (previous triples (inverse e)) (next triples e) (triangle_of triples e)
flipped-first triples e can =
    turned_edge-first triples e (next triples e) (previous triples e) (inverse e) (next triples (inverse e))
    (previous triples (inverse e))
    (triangle_of triples e) (triangle_of triples (inverse e)) (quadrilateral_at triples e can)
    (IsOnce-triangulation triples can.whole)

-- the triangle inverse e, b, c
flipped-second : (triples : List (List ℤ)) (e : ℤ) → CanFlip triples e
    → StandsAt (flipped triples e) (inverse e) (previous triples e) (next triples (inverse e))
    (triangle_of triples (inverse e))
flipped-second triples e can =
    turned_edge-second triples e (next triples e) (previous triples e) (inverse e) (next triples (inverse e))
    (previous triples (inverse e))
    (triangle_of triples e) (triangle_of triples (inverse e)) (quadrilateral_at triples e can)
    (IsOnce-triangulation triples can.whole)

-- all but b and d keep their triangle
flipped-stays : (triples : List (List ℤ)) (e : ℤ) → CanFlip triples e → (x : ℤ) → IsLabel triples x
    → x ≢ previous triples e
    → x ≢ previous triples (inverse e) → triangle_of (flipped triples e) x ≡ triangle_of triples x
flipped-stays triples e can x l =
    turned_edge-stays triples e (next triples e) (previous triples e) (inverse e) (next triples (inverse e))
    (previous triples (inverse e))
    (triangle_of triples e) (triangle_of triples (inverse e)) (quadrilateral_at triples e can)
    (IsOnce-triangulation triples can.whole) x (next triples x)
    (previous triples x) (triangle_of triples x) (label_stands triples can.whole x l)

-- a label that is none of the six sides stands in another triangle, which stays
flipped-outside : (triples : List (List ℤ)) (e : ℤ) → CanFlip triples e → (x : ℤ) → IsLabel triples x
    → IsOutside triples e x
    → StandsAt (flipped triples e) x (next triples x) (previous triples x) (triangle_of triples x)
flipped-outside triples e can x l out =
    turned_edge-still triples e (next triples e) (previous triples e) (inverse e) (next triples (inverse e))
    (previous triples (inverse e))
    (triangle_of triples e) (triangle_of triples (inverse e)) sides (IsOnce-triangulation triples can.whole) x
    (next triples x) (previous triples x)
    (triangle_of triples x) (λ at. not_first (sides.first.sides.only x here.sides.first.counted at))
    (λ at. not_second (sides.second.sides.only x here.sides.first.counted at)) here
  where
    sides : Quadrilateral triples e (next triples e) (previous triples e) (inverse e) (next triples (inverse e))
        (previous triples (inverse e))
        (triangle_of triples e) (triangle_of triples (inverse e))
    sides = quadrilateral_at triples e can

    here : StandsAt triples x (next triples x) (previous triples x) (triangle_of triples x)
    here = label_stands triples can.whole x l

    not_first : (x ≡ e) ⊎ ((x ≡ next triples e) ⊎ (x ≡ previous triples e)) → ⊥
    not_first (inl t) = out.0 t
    not_first (inr (inl t)) = out.1 t
    not_first (inr (inr t)) = out.2 t

    not_second : (x ≡ inverse e) ⊎ ((x ≡ next triples (inverse e)) ⊎ (x ≡ previous triples (inverse e))) → ⊥
    not_second (inl t) = out.3 t
    not_second (inr (inl t)) = out.4 t
    not_second (inr (inr t)) = out.5 t

-- the flip of the inverse label is the same
flipped-inverse : (triples : List (List ℤ)) (e : ℤ) → IsFlippable triples e
    → flipped triples (inverse e) ≡ flipped triples e
flipped-inverse triples e apart =
    ap
    (λ (z : ℤ).
    set (set triples (triangle_of triples (inverse e))
    (inverse e ∷ (previous triples z ∷ (next triples (inverse e) ∷ [])))) (triangle_of triples z)
    (z ∷ (previous triples (inverse e) ∷ (next triples z ∷ []))))
    (inverse-inverse e)
    ∙ set_comm triples (triangle_of triples (inverse e)) (triangle_of triples e)
    (inverse e ∷ (previous triples e ∷ (next triples (inverse e) ∷ [])))
    (e ∷ (previous triples (inverse e) ∷ (next triples e ∷ []))) (λ s. apart (sym s))

-- on the once-punctured torus
example : flipped ((pos 0 ∷ (pos 1 ∷ (pos 2 ∷ []))) ∷ ((negsuc 0 ∷ (negsuc 1 ∷ (negsuc 2 ∷ []))) ∷ [])) (pos 0)
    ≡ (pos 0 ∷ (negsuc 2 ∷ (pos 1 ∷ []))) ∷ ((negsuc 0 ∷ (pos 2 ∷ (negsuc 1 ∷ []))) ∷ [])
example = refl

-- ---- walks after the flip

-- a label is one after the flip
label_after : (triples : List (List ℤ)) (e x : ℤ) → IsLabel triples x → IsLabel (flipped triples e) x
label_after triples e x l = subst (λ (n : ℕ). edge_of x < 3 * n / 2) (sym (flipped-length triples e)) l

-- the edge joins its two triangles
reached_edge : (triples : List (List ℤ)) (e : ℤ) → CanFlip triples e
    → IsReached (flipped triples e) (triangle_of triples e) (triangle_of triples (inverse e))
reached_edge triples e can = record {
  letters = e ∷ [];
  walk = (
    label_after triples e e can.label,
    (flipped-first triples e can).sides.first.triangle,
    (flipped-second triples e can).sides.first.triangle,
  );
}

-- from the triangle of a label before the flip to that after it
reached_moved : (triples : List (List ℤ)) (e : ℤ) → CanFlip triples e → (x : ℤ) → IsLabel triples x
    → IsReached (flipped triples e) (triangle_of triples x) (triangle_of (flipped triples e) x)
reached_moved triples e can x l =
    elim (same_or_not x (previous triples e)) [
      | inl b ↦
          moved (triangle_of triples e) (triangle_of triples (inverse e))
          (ap (triangle_of triples) b ∙ (quadrilateral_at triples e can).first.sides.third.triangle)
          (ap (triangle_of (flipped triples e)) b ∙ (flipped-second triples e can).sides.second.triangle)
          (reached_edge triples e can)
      | inr not_b ↦
          elim (same_or_not x (previous triples (inverse e))) [
            | inl d ↦
                moved (triangle_of triples (inverse e)) (triangle_of triples e)
                (ap (triangle_of triples) d ∙ (quadrilateral_at triples e can).second.sides.third.triangle)
                (ap (triangle_of (flipped triples e)) d ∙ (flipped-first triples e can).sides.second.triangle)
                (reached_back (flipped triples e) (triangle_of triples e) (triangle_of triples (inverse e))
                (reached_edge triples e can))
            | inr not_d ↦
                reached_here (flipped triples e) (triangle_of triples x) (triangle_of (flipped triples e) x)
                (sym (flipped-stays triples e can x l not_b not_d))
          ]
    ]
  where
    moved : (s t : ℕ) → triangle_of triples x ≡ s → triangle_of (flipped triples e) x ≡ t
        → IsReached (flipped triples e) s t
        → IsReached (flipped triples e) (triangle_of triples x) (triangle_of (flipped triples e) x)
    moved s t before after joined =
        subst (λ (k : ℕ). IsReached (flipped triples e) k (triangle_of (flipped triples e) x)) (sym before)
        (subst (IsReached (flipped triples e) s) (sym after) joined)

-- neighbours stay joined
reached_across : (triples : List (List ℤ)) (e : ℤ) → CanFlip triples e → (x : ℤ) → IsLabel triples x
    → IsReached (flipped triples e) (triangle_of triples x) (triangle_of triples (inverse x))
reached_across triples e can x l =
    reached_along (flipped triples e) (triangle_of triples x) (triangle_of (flipped triples e) x)
    (triangle_of triples (inverse x))
    (reached_moved triples e can x l)
    (reached_along (flipped triples e) (triangle_of (flipped triples e) x) (triangle_of (flipped triples e) (inverse x))
    (triangle_of triples (inverse x))
    (reached_step (flipped triples e) x (label_after triples e x l))
    (reached_back (flipped triples e) (triangle_of triples (inverse x)) (triangle_of (flipped triples e) (inverse x))
    (reached_moved triples e can (inverse x) (inverse_label triples x l))))

-- so the ends of a walk stay joined
reached_walk : (triples : List (List ℤ)) (e : ℤ) → CanFlip triples e → (s t : ℕ) (w : List ℤ) → IsWalk triples s w t
    → IsReached (flipped triples e) s t
reached_walk triples e can s t [] walk = reached_here (flipped triples e) s t walk
reached_walk triples e can s t (x ∷ w) walk =
    reached_along (flipped triples e) s (triangle_of triples (inverse x)) t
    (subst (λ (k : ℕ). IsReached (flipped triples e) k (triangle_of triples (inverse x))) walk.1
    (reached_across triples e can x walk.0))
    (reached_walk triples e can (triangle_of triples (inverse x)) t w walk.2)

reached_after : (triples : List (List ℤ)) (e : ℤ) → CanFlip triples e → (s t : ℕ) → IsReached triples s t
    → IsReached (flipped triples e) s t
reached_after triples e can s t r = reached_walk triples e can s t r.letters r.walk

connected_after : (triples : List (List ℤ)) (e : ℤ) → CanFlip triples e → IsConnected triples
    → IsConnected (flipped triples e)
connected_after triples e can h = record {
  reached =
      λ t below. reached_after triples e can 0 t
      (h.reached t (subst (λ (n : ℕ). t < n) (flipped-length triples e) below));
}

-- ---- the laws

flipped-triangulation : (triples : List (List ℤ)) (e : ℤ) → CanFlip triples e → IsTriangulation (flipped triples e)
flipped-triangulation triples e can = record {
  some = subst (λ (n : ℕ). 0 < n) (sym (flipped-length triples e)) can.whole.some;
  three_sides =
      All-set (λ t. length t ≡ 3)
      (set triples (triangle_of triples e) (e ∷ (previous triples (inverse e) ∷ (next triples e ∷ []))))
      (triangle_of triples (inverse e))
      (inverse e ∷ (previous triples e ∷ (next triples (inverse e) ∷ []))) refl
      (All-set (λ t. length t ≡ 3) triples (triangle_of triples e)
      (e ∷ (previous triples (inverse e) ∷ (next triples e ∷ []))) refl
      can.whole.three_sides);
  edges = subst (λ (n : ℕ). 2 * (3 * n / 2) ≡ 3 * n) (sym (flipped-length triples e)) can.whole.edges;
  labels = λ x.
      flipped-times triples e can x ∙ can.whole.labels x
      ∙ ap (λ (n : ℕ). cond (nat_lt (edge_of x) (3 * n / 2)) 1 0) (sym (flipped-length triples e));
}

laws_of : (triples : List (List ℤ)) (e : ℤ) → CanFlip triples e → OneFlipLaws triples e
laws_of triples e can = record {
  triangulation = flipped-triangulation triples e can;
  edges = ap (λ (n : ℕ). 3 * n / 2) (flipped-length triples e);
  reached = reached_after triples e can;
  connected = connected_after triples e can;
  other_side = flipped-inverse triples e can.flippable;
  different =
      six_distinct triples e (next triples e) (previous triples e) (inverse e) (next triples (inverse e))
      (previous triples (inverse e))
      (triangle_of triples e) (triangle_of triples (inverse e)) (quadrilateral_at triples e can);
  after_e = (flipped-first triples e can).sides.first.after;
  after_d = (flipped-first triples e can).sides.second.after;
  after_a = (flipped-first triples e can).sides.third.after;
  after_inverse = (flipped-second triples e can).sides.first.after;
  after_b = (flipped-second triples e can).sides.second.after;
  after_c = (flipped-second triples e can).sides.third.after;
  after_other = λ x l out. (flipped-outside triples e can x l out).sides.first.after;
  moved_b = (flipped-second triples e can).sides.second.triangle;
  moved_d = (flipped-first triples e can).sides.second.triangle;
  stays = flipped-stays triples e can;
}

pub flip_laws : (triples : List (List ℤ)) (e : ℤ) → IsTriangulation triples → IsLabel triples e → IsFlippable triples e
    → OneFlipLaws triples e
flip_laws triples e whole label flippable =
    laws_of triples e (record { whole = whole; label = label; flippable = flippable })
