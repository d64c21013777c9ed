-- Walks on the triangles: one more letter, the first letter of a cyclic reduction, and the last letter.
use Rattle.std.proofs.Common.{ℕ, suc, ℤ, List, [], ◌∷◌, ◌++◌, ◌≡◌, ◌+◌, ◌-◌, ◌<◌, refl, sym, ◌∙◌, ap}
use Rattle.std.proofs.Common.{subst, arith, length, take, get_or}
use Rattle.std.proofs.lemmas.List.{take_more}
use Rattle.ideal_tri.specs.Labels.{inverse}
use Rattle.ideal_tri.specs.Words.{cyclic_reduce}
use Rattle.ideal_tri.specs.LabelLaws.{LabelLaws}
use Rattle.ideal_tri.specs.SurfaceLaws.{WalkLaws}
use Rattle.ideal_tri.specs.Triangulations.{IsLabel, IsWalk, triangle_of}

-- ---- one more letter

walk_push : (triples : List (List ℤ)) (s t : ℕ) (w : List ℤ) (x : ℤ) → IsWalk triples s w t → IsLabel triples x
    → triangle_of triples x ≡ t
    → IsWalk triples s (w ++ (x ∷ [])) (triangle_of triples (inverse x))
walk_push triples s t [] x h label here = (label, here ∙ sym h, refl)
walk_push triples s t (y ∷ w) x h label here = (
  h.0,
  h.1,
  walk_push triples (triangle_of triples (inverse y)) t w x h.2
      label here,
)

pub walk_more : (triples : List (List ℤ)) (s t : ℕ) (w : List ℤ) (i : ℕ) (x : ℤ) → IsWalk triples s (take i w) t
    → i < length w → x ≡ get_or w i x
    → IsLabel triples x → triangle_of triples x ≡ t → IsWalk triples s (take (i + 1) w) (triangle_of triples (inverse
    x))
walk_more triples s t w i x h inside is_x label here =
    subst (λ (u : List ℤ). IsWalk triples s u (triangle_of triples (inverse x)))
    (ap (λ (z : ℤ). take i w ++ (z ∷ [])) is_x ∙ sym (take_more w i x inside))
    (walk_push triples s t (take i w) x h label here)

-- ---- the code: the letters `new` that are left of the letters `old`, and the first x of them, as it is `seen`

module _ (triples : List (List ℤ)) (laws : WalkLaws triples) (s : ℕ) (old new seen : List ℤ) (x :
    ℤ)
    (closed : IsWalk triples s old s) (is_new : new ≡ cyclic_reduce old) (is_seen : seen
    ≡ new) (some : 0 < length seen) (is_x : x ≡ get_or seen 0 x) where
  starts_with_first : (r : ℕ) (w : List ℤ) → IsWalk triples r w r → 0 < length w → x ≡ get_or w 0 x
      → IsLabel triples x × IsWalk triples (triangle_of triples x) w (triangle_of triples x)
  starts_with_first r [] h some' e = absurd (omega arith)
  starts_with_first r (y ∷ w) h some' e = (
    subst (IsLabel triples) (sym e) h.0,
    subst (λ (t : ℕ). IsWalk triples t (y ∷ w) t) (sym h.1 ∙ ap (triangle_of triples) (sym e)) h,
  )

  pub first_of_core : IsLabel triples x × IsWalk triples (triangle_of triples x) new (triangle_of triples x)
  first_of_core =
      let (r, core) = laws.core s old closed in
      starts_with_first r new (subst (λ (w : List ℤ). IsWalk triples r w r) (sym is_new) core)
      (subst (λ (w : List ℤ). 0 < length w) is_seen some) (subst (λ (w : List ℤ). x ≡ get_or w 0 x) is_seen is_x)

-- ---- the last letter of a walk

pub walk_to_end : LabelLaws → (triples : List (List ℤ)) (s t : ℕ) (w : List ℤ) (x : ℤ) → IsWalk triples s w t → 0 < length w
    → x ≡ get_or w (length w - 1) x
    → IsLabel triples (inverse x) × (triangle_of triples (inverse x) ≡ t)
walk_to_end l triples s t [] x h some is_x = absurd (omega arith)
walk_to_end l triples s t (y ∷ []) x h some is_x = (
  subst (λ (z : ℤ). IsLabel triples (inverse z)) (sym is_x) (l.label triples y h.0),
  ap (λ (z : ℤ).
      triangle_of triples (inverse z)) is_x ∙ h.2,
)
walk_to_end l triples s t (y ∷ (z ∷ w)) x h some is_x =
    walk_to_end l triples (triangle_of triples (inverse y)) t (z ∷ w) x h.2 (omega arith)
    (is_x ∙ ap (λ (n : ℕ). get_or (y ∷ (z ∷ w)) n x) (let place : length (y ∷ (z ∷ w)) - 1
    ≡ suc (length (z ∷ w) - 1) = omega arith in place))
