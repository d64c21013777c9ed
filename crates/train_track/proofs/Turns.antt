-- Legal pairs in one triangle.
--
-- Let u lead into a triangle by the side p, the inverse of u. The next letter v is the side after p or the side before
-- it. In the first case the corner p is used, in the second the corner v. Where each triangle has at most one left-out
-- corner, one of the corners at the two ends of p is kept, so that each letter has a continuation; and it has only one
-- unless both are kept, that is, unless the edge is a switch.
--
-- Of two neighbours one is a switch: say v is the side after p, and z the third side. If the corner at z is kept, then
-- both corners of the side p are; if it is left out, the corner v is kept, and both corners of the side v are. So a
-- legal walk has no two letters in a row that are no switches.
use Rattle.std.proofs.Common.{ℤ, Bool, true, false, not, ◌||◌, List, ◌≡◌, ◌≢◌, ◌⊎◌, inl, inr}
use Rattle.std.proofs.Common.{refl, sym, ◌∙◌, ap, subst, if◌then◌else◌}
use Rattle.std.proofs.lemmas.Bool.{true≢false, cases_Bool, and_from, or_left, or_right, or_parts, and_cases}
use Rattle.std.proofs.lemmas.Bool.{not_from_false}
use Rattle.ideal_tri.specs.Labels.{inverse}
use Rattle.ideal_tri.specs.LabelLaws.{LabelLaws}
use Rattle.ideal_tri.specs.SurfaceLaws.{TriangleLaws}
use Rattle.ideal_tri.specs.Triangulations.{IsLabel, triangle_of, next, previous}
use Rattle.train_track.specs.Tracks.{is_left_out, is_fork, is_switch, IsLegalPair, IsSingleInTriangles}
use Rattle.train_track.specs.inside.Growing.{continuation}

-- ---- tests

pub fork_from : (ts : List (List ℤ)) (out : List ℤ) (x : ℤ) → is_left_out out x ≡ false
    → is_left_out out (previous ts x) ≡ false
    → is_fork ts out x ≡ true
unfolding is_fork
fork_from ts out x a b = and_from _ _ (not_from_false _ a) (not_from_false _ b)

pub no_fork : (ts : List (List ℤ)) (out : List ℤ) (x : ℤ) → is_fork ts out x ≡ false
    → (is_left_out out x ≡ true) ⊎ (is_left_out out (previous ts x) ≡ true)
unfolding is_fork
no_fork ts out x e = elim (and_cases _ _ e) [ inl a ↦ inl (kept _ a) | inr b ↦ inr (kept _ b) ]
  where
    kept : (b : Bool) → not b ≡ false → b ≡ true
    kept true e = refl
    kept false e = absurd (true≢false e)

pub switch_here : (ts : List (List ℤ)) (out : List ℤ) (x : ℤ) → is_fork ts out x ≡ true → is_switch ts out x ≡ true
unfolding is_switch
switch_here ts out x e = or_left _ _ e

pub switch_beyond : (ts : List (List ℤ)) (out : List ℤ) (x : ℤ) → is_fork ts out (inverse x) ≡ true
    → is_switch ts out x ≡ true
unfolding is_switch
switch_beyond ts out x e = or_right _ _ e

pub no_switch : (ts : List (List ℤ)) (out : List ℤ) (x : ℤ) → is_switch ts out x ≡ false
    → is_fork ts out (inverse x) ≡ false
unfolding is_switch
no_switch ts out x e = (or_parts _ _ e).1

-- both directions of an edge are switches together
pub switch_inverse : LabelLaws → (ts : List (List ℤ)) (out : List ℤ) (x : ℤ)
    → is_switch ts out (inverse x) ≡ is_switch ts out x
unfolding is_switch
switch_inverse labels ts out x =
    ap (λ (y : ℤ). is_fork ts out (inverse x) || is_fork ts out y) (labels.twice x)
    ∙ exchanged (is_fork ts out (inverse x)) (is_fork ts out x)
  where
    exchanged : (a b : Bool) → (a || b) ≡ (b || a)
    exchanged true true = refl
    exchanged true false = refl
    exchanged false true = refl
    exchanged false false = refl

-- ---- legal pairs

-- the pair goes on to the side after the one that is entered by, or back to the side before it
abbrev pub IsTurn : List (List ℤ) → List ℤ → ℤ → ℤ → Type 0
IsTurn ts out u v =
    ((v ≡ next ts (inverse u)) × (is_left_out out (inverse u) ≡ false))
    ⊎ ((v ≡ previous ts (inverse u)) × (is_left_out out v ≡ false))

pub legal_on : (ts : List (List ℤ)) (out : List ℤ) (u v : ℤ) → v ≡ next ts (inverse u)
    → is_left_out out (inverse u) ≡ false
    → IsLegalPair ts out u v
legal_on ts out u v e k = record { corner = inverse u; used = inl (e, refl); kept = k }

-- an inverse pair uses the same corner
pub legal_inverse : LabelLaws → (ts : List (List ℤ)) (out : List ℤ) (u v : ℤ) → IsLegalPair ts out u v
    → IsLegalPair ts out (inverse v) (inverse u)
legal_inverse labels ts out u v h = record {
  corner = h.corner;
  used = elim h.used [
    | inl (e, f) ↦ inr (labels.twice v ∙ e, f)
    | inr (e, f) ↦ inl (e ∙ ap (next ts) (sym (labels.twice v)), f ∙ sym (labels.twice v))
  ];
  kept = h.kept;
}

module _ (ts : List (List ℤ)) (out : List ℤ) (labels : LabelLaws) (triangles : TriangleLaws ts) where
  previous_label : (x : ℤ) → IsLabel ts x → IsLabel ts (previous ts x)
  previous_label x l = triangles.label (next ts x) (triangles.label x l)

  previous_stays : (x : ℤ) → IsLabel ts x → triangle_of ts (previous ts x) ≡ triangle_of ts x
  previous_stays x l = triangles.stays (next ts x) (triangles.label x l) ∙ triangles.stays x l

  pub legal_back : (u v : ℤ) → IsLabel ts u → v ≡ previous ts (inverse u) → is_left_out out v ≡ false
      → IsLegalPair ts out u v
  legal_back u v l e k = record {
    corner = v;
    used = inr (sym (triangles.round (inverse u) (labels.label ts u l)) ∙ ap (next ts) (sym e), refl);
    kept = k;
  }

  pub turn : (u v : ℤ) → IsLabel ts v → IsLegalPair ts out u v → IsTurn ts out u v
  turn u v l h = elim h.used [
    | inl (e, f) ↦ inl (e, ap (is_left_out out) (sym f) ∙ h.kept)
    | inr (e, f) ↦ inr (sym (triangles.round v l) ∙ ap (previous ts) (sym e), ap (is_left_out out) (sym f) ∙ h.kept)
  ]

  -- the letters that a pair joins lie in one triangle
  pub turn_label : (u v : ℤ) → IsLabel ts u → IsTurn ts out u v → IsLabel ts v
  turn_label u v l h = elim h [
    | inl (e, f) ↦ subst (IsLabel ts) (sym e) (triangles.label (inverse u) (labels.label ts u l))
    | inr (e, f) ↦ subst (IsLabel ts) (sym e) (previous_label (inverse u) (labels.label ts u l))
  ]

  pub turn_triangle : (u v : ℤ) → IsLabel ts u → IsTurn ts out u v → triangle_of ts v ≡ triangle_of ts (inverse u)
  turn_triangle u v l h = elim h [
    | inl (e, f) ↦ ap (triangle_of ts) e ∙ triangles.stays (inverse u) (labels.label ts u l)
    | inr (e, f) ↦ ap (triangle_of ts) e ∙ previous_stays (inverse u) (labels.label ts u l)
  ]

  module _ (single : IsSingleInTriangles ts out) where
    -- a corner of a triangle is kept where another one is left out
    pub kept_beside : (x y : ℤ) → IsLabel ts x → IsLabel ts y → triangle_of ts x ≡ triangle_of ts y → x ≢ y
        → is_left_out out x ≡ true
        → is_left_out out y ≡ false
    kept_beside x y l m same apart e = elim (cases_Bool (is_left_out out y)) [
      | inl f ↦ absurd (apart (single x y l m e f same))
      | inr f ↦ f
    ]

    previous_kept : (x : ℤ) → IsLabel ts x → is_left_out out x ≡ true → is_left_out out (previous ts x) ≡ false
    previous_kept x l e =
        kept_beside x (previous ts x) l (previous_label x l) (sym (previous_stays x l))
        (λ f. (triangles.moves x l).1 (sym f)) e

    next_kept : (x : ℤ) → IsLabel ts x → is_left_out out x ≡ true → is_left_out out (next ts x) ≡ false
    next_kept x l e =
        kept_beside x (next ts x) l (triangles.label x l) (sym (triangles.stays x l))
        (λ f. (triangles.moves x l).0 (sym f)) e

    -- the side before the side after x is x, and the side before the one before it is the side after it
    previous_next : (x : ℤ) → IsLabel ts x → previous ts (next ts x) ≡ x
    previous_next x l = triangles.round x l

    previous_twice : (x : ℤ) → IsLabel ts x → previous ts (previous ts x) ≡ next ts x
    previous_twice x l = ap (next ts) (triangles.round x l)

    -- each letter has a continuation
    pub continues : (u : ℤ) → IsLabel ts u → IsTurn ts out u (continuation ts out u)
    unfolding continuation
    continues u l = go (is_left_out out (inverse u)) refl
      where
        go : (b : Bool) → is_left_out out (inverse u) ≡ b
            → IsTurn ts out u (if b then previous ts (inverse u) else next ts (inverse u))
        go true e = inr (refl, previous_kept (inverse u) (labels.label ts u l) e)
        go false e = inl (refl, e)

    -- past an edge that is no switch it is the only one
    pub only_continuation : (u v : ℤ) → IsLabel ts u → is_switch ts out u ≡ false → IsTurn ts out u v
        → v ≡ continuation ts out u
    unfolding continuation
    only_continuation u v l s h = go (is_left_out out (inverse u)) refl
      where
        go : (b : Bool) → is_left_out out (inverse u) ≡ b
            → v ≡ (if b then previous ts (inverse u) else next ts (inverse u))
        go true e = elim h [ inl (f, k) ↦ absurd (true≢false (sym e ∙ k)) | inr (f, k) ↦ f ]
        go false e = elim h [
          | inl (f, k) ↦ f
          | inr (f, k) ↦ elim (no_fork ts out (inverse u) (no_switch ts out u s)) [
            | inl a ↦ absurd (true≢false (sym a ∙ e))
            | inr a ↦ absurd (true≢false (sym a ∙ ap (is_left_out out) (sym f) ∙ k))
          ]
        ]

    -- of two neighbours one is a switch
    pub one_is_switch : (u v : ℤ) → IsLabel ts u → IsTurn ts out u v → is_switch ts out u ≡ false
        → is_switch ts out v ≡ true
    one_is_switch u v l h s =
        let p : ℤ = inverse u in
        let m : IsLabel ts p = labels.label ts u l in
        elim h [
          | inl (e, k) ↦ subst (λ (x : ℤ). is_switch ts out x ≡ true) (sym e)
              (elim (no_fork ts out p (no_switch ts out u s)) [
                | inl a ↦ absurd (true≢false (sym a ∙ k))
                | inr a ↦ switch_here ts out (next ts p) (fork_from ts out (next ts p)
                    (ap (is_left_out out) (sym (previous_twice p m)) ∙ previous_kept (previous ts p)
                    (previous_label p m) a)
                    (ap (is_left_out out) (previous_next p m) ∙ k))
              ])
          | inr (e, k) ↦ subst (λ (x : ℤ). is_switch ts out x ≡ true) (sym e)
              (elim (no_fork ts out p (no_switch ts out u s)) [
                | inl a ↦ switch_here ts out (previous ts p) (fork_from ts out (previous ts p)
                    (previous_kept p m a)
                    (ap (is_left_out out) (previous_twice p m) ∙ next_kept p m a))
                | inr a ↦ absurd (true≢false (sym a ∙ ap (is_left_out out) (sym e) ∙ k))
              ])
        ]

    -- each triangle has a side with both corners kept
    pub fork_in_triangle : (x : ℤ) → IsLabel ts x
        → (y : ℤ) × IsLabel ts y × (triangle_of ts y ≡ triangle_of ts x) × (is_fork ts out y ≡ true)
    fork_in_triangle x l = elim (cases_Bool (is_left_out out x)) [
      | inl e ↦ (
        previous ts x,
        previous_label x l,
        previous_stays x l,
        fork_from ts out (previous ts x) (previous_kept x l e)
            (ap (is_left_out out) (previous_twice x l) ∙ next_kept x l e),
      )
      | inr e ↦ elim (cases_Bool (is_left_out out (previous ts x))) [
        | inl f ↦ (
          next ts x,
          triangles.label x l,
          triangles.stays x l,
          fork_from ts out (next ts x)
              (ap (is_left_out out) (sym (previous_twice x l)) ∙ previous_kept (previous ts x) (previous_label x l) f)
              (ap (is_left_out out) (previous_next x l) ∙ e),
        )
        | inr f ↦ (x, l, refl, fork_from ts out x e f)
      ]
    ]
