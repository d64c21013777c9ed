-- Two pairings of finitely many things, and the walks that use them in turn.
--
-- Each thing has an opposite one and one across; going back is the same map again, and nothing is its own partner. A
-- step goes to the opposite thing and then across. Steps are injective, so the values from q on are different until q
-- comes back, and there are only so many things: q does come back. What stands before it is the cycle of q.
use Rattle.std.proofs.Common.{ℕ, zero, suc, Bool, true, false, cond, List, [], ◌∷◌, ◌++◌, ◌≡◌, ◌≢◌, ◌≤◌, ◌+◌, ◌⊎◌, inl}
use Rattle.std.proofs.Common.{inr, refl, sym, ◌∙◌, ap, subst, arith, length, length-append, map}
use Rattle.std.specs.Bool.{Decides}
use Rattle.std.specs.List.{All, count_by}
use Rattle.std.proofs.lemmas.Bool.{cases_Bool}
use Rattle.std.proofs.lemmas.Bool.Decides.{not_from_Decides}
use Rattle.std.proofs.lemmas.List.Elements.{All-nil, All-cons, All-head, All-tail}
use Rattle.ideal_tri.specs.Drawings.{orbit}
use Rattle.ideal_tri.proofs.Drawings.Tallies.{Split, split, count_by-cons, count_by-yes, count_by-no, count_by-split}

pub record Pairings (A : Type 0) : Type 1 where
  pub same : A → A → Bool
  pub same_decides : (x y : A) → Decides (same x y) (x ≡ y)
  pub Valid : A → Type 0
  pub opposite : A → A
  pub opposite_valid : (x : A) → Valid x → Valid (opposite x)
  pub opposite_back : (x : A) → Valid x → opposite (opposite x) ≡ x
  pub opposite_other : (x : A) → Valid x → opposite x ≢ x
  pub cross : A → A
  pub cross_valid : (x : A) → Valid x → Valid (cross x)
  pub cross_back : (x : A) → Valid x → cross (cross x) ≡ x
  pub cross_other : (x : A) → Valid x → cross x ≢ x
  -- of each two opposite things the list has one at least
  pub sides : List A
  pub sides_valid : All Valid sides
  pub covers : (x : A) → Valid x → (count_by (same x) sides ≢ 0) ⊎ (count_by (same (opposite x)) sides ≢ 0)

module _ {A : Type 0} (s : Pairings A) where
  -- ---- equal or not

  pub same_or_other : (x y : A) → (x ≡ y) ⊎ (x ≢ y)
  same_or_other x y =
      elim (cases_Bool (s.same x y)) [
        | inl e ↦ inl ((s.same_decides x y).0 e)
        | inr e ↦ inr (not_from_Decides (s.same x y) (s.same_decides x y) e)
      ]

  pub same-true : (x y : A) → x ≡ y → s.same x y ≡ true
  same-true x y e = (s.same_decides x y).1 e

  pub same-false : (x y : A) → x ≢ y → s.same x y ≡ false
  same-false x y ne =
      elim (cases_Bool (s.same x y)) [ inl e ↦ absurd (ne ((s.same_decides x y).0 e)) | inr e ↦ e ]

  abbrev pub count : A → List A → ℕ
  count x xs = count_by (s.same x) xs

  pub count-same : (x y : A) (ys : List A) → x ≡ y → count x (y ∷ ys) ≡ suc (count x ys)
  count-same x y ys e = count_by-yes (s.same x) y ys (same-true x y e)

  pub count-other : (x y : A) (ys : List A) → x ≢ y → count x (y ∷ ys) ≡ count x ys
  count-other x y ys ne = count_by-no (s.same x) y ys (same-false x y ne)

  -- what is counted is the first element, or is counted in the rest
  pub count-cases : (x y : A) (ys : List A) → count x (y ∷ ys) ≢ 0 → (x ≡ y) ⊎ (count x ys ≢ 0)
  count-cases x y ys some =
      elim (same_or_other x y) [ inl e ↦ inl e | inr ne ↦ inr (λ none. some (count-other x y ys ne ∙ none)) ]

  -- what holds of each element holds of what is counted
  pub All-counted : (P : A → Type 0) (x : A) (xs : List A) → All P xs → count x xs ≢ 0 → P x
  All-counted P x [] h some = absurd (some refl)
  All-counted P x (y ∷ ys) h some =
      elim (count-cases x y ys some) [
        | inl e ↦ subst P (sym e) (All-head P y ys h)
        | inr later ↦ All-counted P x ys (All-tail P y ys h) later
      ]

  -- elements that stand no more often than in another list are no more
  pub no_longer : (P : A → Type 0) (xs ys : List A) → All P xs → ((x : A) → P x → count x xs ≤ count x ys)
      → length xs ≤ length ys
  no_longer P [] ys h fewer = omega arith
  no_longer P (x ∷ xs) ys h fewer =
      let px : P x = All-head P x xs h in
      let found : count x ys ≢ 0 = λ none. omega (arith, fewer x px, count-same x x xs refl) in
      let t : Split (s.same x) ys = split (s.same x) ys found in
      let it : x ≡ t.here = (s.same_decides x t.here).0 t.passes in
      let rest : length xs ≤ length (t.before ++ t.after) =
      no_longer P xs (t.before ++ t.after) (All-tail P x xs h)
      (λ z pz.
      let here : ◌≡◌ {A = ℕ} (cond (s.same z x) 1 0) (cond (s.same z t.here) 1 0) =
      ap (λ (y : A). cond (s.same z y) 1 0) it in
      omega (
        arith,
        fewer z pz,
        count_by-cons (s.same z) x xs,
        ap (count z) t.is,
        count_by-split (s.same z) t.before t.here t.after,
      )) in
      omega (arith, ap length t.is, length-append t.before (t.here ∷ t.after), length-append t.before t.after)

  -- ---- steps

  abbrev pub step : A → A
  step x = s.cross (s.opposite x)

  pub step_valid : (x : A) → s.Valid x → s.Valid (step x)
  step_valid x v = s.cross_valid (s.opposite x) (s.opposite_valid x v)

  pub step_injective : (x y : A) → s.Valid x → s.Valid y → step x ≡ step y → x ≡ y
  step_injective x y v u e =
      let across : s.opposite x ≡ s.opposite y =
      sym (s.cross_back (s.opposite x) (s.opposite_valid x v)) ∙ ap s.cross e ∙ s.cross_back (s.opposite y)
      (s.opposite_valid y u) in
      sym (s.opposite_back x v) ∙ ap s.opposite across ∙ s.opposite_back y u

  -- the step back from the other side
  pub step_back : (x : A) → s.Valid x → step (s.opposite (step x)) ≡ s.opposite x
  step_back x v =
      ap s.cross (s.opposite_back (step x) (step_valid x v)) ∙ s.cross_back (s.opposite x) (s.opposite_valid x v)

  pub step_other : (x : A) → s.Valid x → step x ≢ s.opposite x
  step_other x v = s.cross_other (s.opposite x) (s.opposite_valid x v)

  pub count-step : (x : A) (xs : List A) → s.Valid x → All s.Valid xs → count (step x) (map step xs) ≡ count x xs
  count-step x [] v h = refl
  count-step x (y ∷ ys) v h =
      let rest : count (step x) (map step ys) ≡ count x ys = count-step x ys v (All-tail s.Valid y ys h) in
      elim (same_or_other x y) [
        | inl e ↦ count-same (step x) (step y) (map step ys) (ap step e) ∙ ap suc rest ∙ sym (count-same x y ys e)
        | inr ne ↦
            count-other (step x) (step y) (map step ys) (λ e. ne (step_injective x y v (All-head s.Valid y ys h) e))
            ∙ rest
            ∙ sym (count-other x y ys ne)
      ]

  -- ---- orbits

  pub orbit-length : (n : ℕ) (x : A) → length (orbit step n x) ≡ n
  orbit-length zero x = refl
  orbit-length (suc n) x = ap suc (orbit-length n (step x))

  pub orbit-step : (n : ℕ) (x : A) → orbit step n (step x) ≡ map step (orbit step n x)
  orbit-step zero x = refl
  orbit-step (suc n) x = ap (λ (ys : List A). step x ∷ ys) (orbit-step n (step x))

  pub orbit_valid : (n : ℕ) (x : A) → s.Valid x → All s.Valid (orbit step n x)
  orbit_valid zero x v = All-nil s.Valid
  orbit_valid (suc n) x v = All-cons s.Valid x (orbit step n (step x)) v (orbit_valid n (step x) (step_valid x v))

  orbit-longer : (n : ℕ) (x y : A) → count y (orbit step n x) ≤ count y (orbit step (suc n) x)
  orbit-longer zero x y = omega arith
  orbit-longer (suc n) x y =
      omega (
        arith,
        count_by-cons (s.same y) x (orbit step n (step x)),
        count_by-cons (s.same y) x (orbit step (suc n) (step x)),
        orbit-longer n (step x) y,
      )

  -- as long as x doesn't come back, nothing does
  pub orbit_once : (n : ℕ) (x : A) → s.Valid x → count x (orbit step n (step x)) ≡ 0 → (y : A)
      → count y (orbit step (suc n) x) ≤ 1
  orbit_once zero x v none y =
      let one : count y (x ∷ []) ≡ cond (s.same y x) 1 0 + 0 = count_by-cons (s.same y) x [] in
      elim (same_or_other y x) [
        | inl e ↦ omega (
          arith,
          count-same y x [] e,
        )
        | inr ne ↦ omega (arith, count-other y x [] ne)
      ]
  orbit_once (suc n) x v none y =
      elim (same_or_other y x) [
        | inl e ↦
            (let here : count y (orbit step (suc n) (step x)) ≡ 0 = ap
            (λ (z : A). count z (orbit step (suc n) (step x))) e ∙ none in
            omega (arith, count-same y x (orbit step (suc n) (step x)) e))
        | inr ne ↦
            (let gone : count (step x) (orbit step n (step (step x))) ≡ 0 =
            ap (count (step x)) (orbit-step n (step x))
            ∙ count-step x (orbit step n (step x)) v (orbit_valid n (step x) (step_valid x v))
            ∙ omega (arith, orbit-longer n (step x) x) in
            omega (
              arith,
              count-other y x (orbit step (suc n) (step x)) ne,
              orbit_once n (step x) (step_valid x v) gone y,
            ))
      ]
