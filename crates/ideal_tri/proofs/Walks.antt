-- Walks on the triangles join, go back, have walks as parts, and may be reduced.
use Rattle.std.proofs.Common.{ℕ, ℤ, List, [], ◌∷◌, ◌++◌, ◌≡◌, inl, inr, refl, sym, ◌∙◌, ap, subst}
use Rattle.std.specs.List.{All}
use Rattle.std.proofs.lemmas.List.Elements.{All-nil, All-cons}
use Rattle.ideal_tri.specs.Labels.{inverse}
use Rattle.ideal_tri.specs.Words.{inverse_word, push, act, reduce, cyclic_reduce}
use Rattle.ideal_tri.specs.Triangulations.{IsLabel, IsWalk, IsReached, triangle_of}
use Rattle.ideal_tri.specs.SurfaceLaws.{WalkLaws}
use Rattle.ideal_tri.proofs.Labels.{inverse-inverse, inverse_label, same_or_not}
use Rattle.ideal_tri.proofs.Reduction.{push-cancels, push-goes_on, inverse_word-inverse_word}
use Rattle.ideal_tri.proofs.Cyclic.{cyclic_reduce-shape}

-- ---- walks

pub walks_join : (triples : List (List ℤ)) (r s t : ℕ) (u v : List ℤ) → IsWalk triples r u s → IsWalk triples s v t
    → IsWalk triples r (u ++ v) t
walks_join triples r s t [] v h k = subst (λ (z : ℕ). IsWalk triples z v t) (sym h) k
walks_join triples r s t (x ∷ u) v h k =
    (h.0, h.1, walks_join triples (triangle_of triples (inverse x)) s t u v h.2 k)

pub walk_back : (triples : List (List ℤ)) (s t : ℕ) (w : List ℤ) → IsWalk triples s w t
    → IsWalk triples t (inverse_word w) s
walk_back triples s t [] h = sym h
walk_back triples s t (x ∷ w) h =
    walks_join triples t (triangle_of triples (inverse x)) s (inverse_word w) (inverse x ∷ [])
    (walk_back triples (triangle_of triples (inverse x)) t w h.2)
    (inverse_label triples x h.0, refl, ap (triangle_of triples) (inverse-inverse x) ∙ h.1)

-- a step in front of a walk
walk-push : (triples : List (List ℤ)) (s t : ℕ) (x : ℤ) (w : List ℤ) → IsLabel triples x → triangle_of triples x ≡ s
    → IsWalk triples (triangle_of triples (inverse x)) w t → IsWalk triples s (push x w) t
walk-push triples s t x [] l e h = (l, e, h)
walk-push triples s t x (y ∷ w) l e h =
    elim (same_or_not y (inverse x)) [
      | inl c ↦
          (let back : triangle_of triples (inverse y) ≡ s =
          ap (λ (z : ℤ). triangle_of triples (inverse z)) c ∙ ap (triangle_of triples) (inverse-inverse x) ∙ e in
          subst (λ (z : List ℤ). IsWalk triples s z t) (sym (push-cancels x y w c))
          (subst (λ (k : ℕ). IsWalk triples k w t) back h.2))
      | inr ne ↦ subst (λ (z : List ℤ). IsWalk triples s z t) (sym (push-goes_on x y w ne)) (l, e, h)
    ]

pub walk-reduce : (triples : List (List ℤ)) (s t : ℕ) (w : List ℤ) → IsWalk triples s w t
    → IsWalk triples s (reduce w) t
walk-reduce triples s t [] h = h
walk-reduce triples s t (x ∷ w) h =
    walk-push triples s t x (act w []) h.0 h.1 (walk-reduce triples (triangle_of triples (inverse x)) t w h.2)

-- ---- parts of walks

-- the letters of a walk are labels
pub walk_labels : (triples : List (List ℤ)) (s t : ℕ) (w : List ℤ) → IsWalk triples s w t → All (IsLabel triples) w
walk_labels triples s t [] h = All-nil (IsLabel triples)
walk_labels triples s t (x ∷ w) h =
    All-cons (IsLabel triples) x w h.0 (walk_labels triples (triangle_of triples (inverse x)) t w h.2)

-- a walk ends at one triangle
one_end : (triples : List (List ℤ)) (s t t' : ℕ) (w : List ℤ) → IsWalk triples s w t → IsWalk triples s w t' → t ≡ t'
one_end triples s t t' [] h k = sym h ∙ k
one_end triples s t t' (x ∷ w) h k = one_end triples (triangle_of triples (inverse x)) t t' w h.2 k.2

walk_parts : (triples : List (List ℤ)) (s t : ℕ) (u v : List ℤ) → IsWalk triples s (u ++ v) t
    → (r : ℕ) × IsWalk triples s u r × IsWalk triples r v t
walk_parts triples s t [] v h = (s, refl, h)
walk_parts triples s t (x ∷ u) v h =
    let (r, front, back) = walk_parts triples (triangle_of triples (inverse x)) t u v h.2 in
    (r, (h.0, h.1, front), back)

-- ---- closed walks

-- what lies between a walk and the way back along it is closed
between_closed : (triples : List (List ℤ)) (s : ℕ) (p c : List ℤ) → IsWalk triples s (p ++ (c ++ inverse_word p)) s
    → (r : ℕ) × IsWalk triples r c r
between_closed triples s p c h =
    let (r, front, rest) = walk_parts triples s s p (c ++ inverse_word p) h in
    let (q, middle, back) = walk_parts triples r s c (inverse_word p) rest in
    let again : IsWalk triples s p q =
    subst (λ (w : List ℤ). IsWalk triples s w q) (inverse_word-inverse_word p)
    (walk_back triples q s (inverse_word p) back) in
    (r, subst (λ (t : ℕ). IsWalk triples r c t) (one_end triples s q r p again front) middle)

-- the cyclic reduction of a closed walk is closed
closed_core : (triples : List (List ℤ)) (s : ℕ) (w : List ℤ) → IsWalk triples s w s
    → (r : ℕ) × IsWalk triples r (cyclic_reduce w) r
closed_core triples s w h =
    let (p, shape) = cyclic_reduce-shape w in
    between_closed triples s p (cyclic_reduce w)
    (subst (λ (u : List ℤ). IsWalk triples s u s) shape (walk-reduce triples s s w h))

-- ---- triangles that a walk joins

pub reached_here : (triples : List (List ℤ)) (s t : ℕ) → s ≡ t → IsReached triples s t
reached_here triples s t e = record { letters = []; walk = e }

pub reached_step : (triples : List (List ℤ)) (x : ℤ) → IsLabel triples x
    → IsReached triples (triangle_of triples x) (triangle_of triples (inverse x))
reached_step triples x l = record { letters = x ∷ []; walk = (l, refl, refl) }

pub reached_along : (triples : List (List ℤ)) (r s t : ℕ) → IsReached triples r s → IsReached triples s t
    → IsReached triples r t
reached_along triples r s t u v = record {
  letters = u.letters ++ v.letters;
  walk = walks_join triples r s t u.letters v.letters u.walk v.walk;
}

pub reached_back : (triples : List (List ℤ)) (s t : ℕ) → IsReached triples s t → IsReached triples t s
reached_back triples s t u = record { letters = inverse_word u.letters; walk = walk_back triples s t u.letters u.walk }

-- ---- the laws

pub walk_laws : (triples : List (List ℤ)) → WalkLaws triples
walk_laws triples = record {
  join = walks_join triples;
  back = walk_back triples;
  reduced = walk-reduce triples;
  parts = walk_parts triples;
  core = closed_core triples;
}
