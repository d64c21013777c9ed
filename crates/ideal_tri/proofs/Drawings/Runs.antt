-- Runs: things in a row, each the step of the one before.
--
-- Runs join, and two runs from one thing agree as long as neither ends. The way back of a run lists the opposite things
-- in reverse order; it is a run since the step from the opposite of a step leads to the opposite. A closed run ends
-- where it begins: it stays closed when it begins at another of its places, and its way back is closed. It passes a
-- thing as often as its step, since with its first thing at the end it is the list of its steps.
use Rattle.std.proofs.Common.{Bool, true, false, cond, not, List, [], ◌∷◌, ◌++◌, ◌≡◌, ◌≢◌, ◌<◌, ◌+◌, ◌⊎◌, inl, inr}
use Rattle.std.proofs.Common.{refl, sym, ◌∙◌, ap, subst, arith, length, length-append, map, take, one-add}
use Rattle.std.specs.List.{All, before_first, prefix_len}
use Rattle.std.proofs.lemmas.List.Elements.{All-nil, All-cons, All-head, All-tail, All-append}
use Rattle.ideal_tri.specs.Words.{IsRotation}
use Rattle.ideal_tri.specs.Drawings.{orbit}
use Rattle.ideal_tri.proofs.Rotations.{Rotation-steps}
use Rattle.ideal_tri.proofs.Drawings.Tallies.{count_by-cons, count_by-append}
use Rattle.ideal_tri.proofs.Drawings.Orbits as O
use Rattle.ideal_tri.proofs.Drawings.Orbits.{Pairings}

-- ---- what stands before the first element that passes

pub before_first-cons : {A : Type 0} (p : A → Bool) (x : A) (xs : List A)
    → before_first p (x ∷ xs) ≡ cond (p x) [] (x ∷ before_first p xs)
before_first-cons p x xs = go (p x) refl
  where
    go : (b : Bool) → p x ≡ b
        → take (cond (not (p x)) (1 + prefix_len (λ y. not (p y)) xs) 0) (x ∷ xs)
        ≡ cond (p x) [] (x ∷ before_first p xs)
    go true e = rw e refl
    go false e = rw (e, one-add) refl

module _ {A : Type 0} (s : Pairings A) where
  abbrev pub step : A → A
  step x = O.step s x

  -- the things from x on, step by step; y comes after the last
  abbrev pub Runs : A → List A → A → Type 0
  Runs x [] y = x ≡ y
  Runs x (z ∷ run) y = (z ≡ x) × Runs (step x) run y

  pub runs_join : (x y z : A) (run more : List A) → Runs x run y → Runs y more z → Runs x (run ++ more) z
  runs_join x y z [] more h k = subst (λ (u : A). Runs u more z) (sym h) k
  runs_join x y z (u ∷ run) more h k = (h.0, runs_join (step x) y z run more h.1 k)

  pub runs_valid : (x y : A) (run : List A) → s.Valid x → Runs x run y → All s.Valid run × s.Valid y
  runs_valid x y [] v h = (All-nil s.Valid, subst s.Valid h v)
  runs_valid x y (u ∷ run) v h =
      let rest : All s.Valid run × s.Valid y = runs_valid (step x) y run (O.step_valid s x v) h.1 in
      (All-cons s.Valid u run (subst s.Valid (sym h.0) v) rest.0, rest.1)

  pub runs_orbit : (x y : A) (run : List A) → Runs x run y → run ≡ orbit step (length run) x
  runs_orbit x y [] h = refl
  runs_orbit x y (u ∷ run) h =
      ap (λ (z : A). z ∷ run) h.0 ∙ ap (λ (zs : List A). x ∷ zs) (runs_orbit (step x) y run h.1)

  -- each is followed by its step
  runs_shift : (x y : A) (run : List A) → Runs x run y → x ∷ map step run ≡ run ++ (y ∷ [])
  runs_shift x y [] h = ap (λ (z : A). z ∷ []) h
  runs_shift x y (u ∷ run) h =
      ap (λ (z : A). x ∷ (step z ∷ map step run)) h.0
      ∙ ap (λ (zs : List A). x ∷ zs) (runs_shift (step x) y run h.1)
      ∙ ap (λ (z : A). z ∷ (run ++ (y ∷ []))) (sym h.0)

  -- one run has come to y and the other not
  pub runs_shorter : (x y z : A) (run other : List A) → Runs x run z → Runs x other y → O.count s y run ≡ 0 → z ≢ y
      → length run < length other
  runs_shorter x y z [] [] h k none ne = absurd (ne (sym h ∙ k))
  runs_shorter x y z [] (v ∷ other) h k none ne = omega arith
  runs_shorter x y z (u ∷ run) [] h k none ne = absurd (omega (arith, O.count-same s y u run (sym k ∙ sym h.0)))
  runs_shorter x y z (u ∷ run) (v ∷ other) h k none ne =
      omega (arith, runs_shorter (step x) y z run other h.1 k.1 (omega (arith, count_by-cons (s.same y) u run)) ne)

  -- two runs that end where they first come to y
  pub runs_unique : (x y : A) (run other : List A) → Runs x run y → Runs x other y → O.count s y run ≡ 0
      → O.count s y other ≡ 0 → run ≡ other
  runs_unique x y [] [] h k none no_other = refl
  runs_unique x y [] (v ∷ other) h k none no_other = absurd (omega (arith, O.count-same s y v other (sym h ∙ sym k.0)))
  runs_unique x y (u ∷ run) [] h k none no_other = absurd (omega (arith, O.count-same s y u run (sym k ∙ sym h.0)))
  runs_unique x y (u ∷ run) (v ∷ other) h k none no_other =
      ap (λ (z : A). z ∷ run) (h.0 ∙ sym k.0)
      ∙ ap (λ (zs : List A). v ∷ zs)
      (runs_unique (step x) y run other h.1 k.1
      (omega (arith, count_by-cons (s.same y) u run)) (omega (arith, count_by-cons (s.same y) v other)))

  -- ---- backwards

  abbrev pub back : List A → List A
  back [] = []
  back (x ∷ run) = back run ++ (s.opposite x ∷ [])

  pub length-back : (run : List A) → length (back run) ≡ length run
  length-back [] = refl
  length-back (x ∷ run) = omega (arith, length-append (back run) (s.opposite x ∷ []), length-back run)

  back_valid : (run : List A) → All s.Valid run → All s.Valid (back run)
  back_valid [] h = All-nil s.Valid
  back_valid (x ∷ run) h =
      All-append s.Valid (back run) (s.opposite x ∷ []) (back_valid run (All-tail s.Valid x run h))
      (All-cons s.Valid (s.opposite x) [] (s.opposite_valid x (All-head s.Valid x run h)) (All-nil s.Valid))

  pub both_valid : (run : List A) → All s.Valid run → All s.Valid (run ++ back run)
  both_valid run h = All-append s.Valid run (back run) h (back_valid run h)

  pub runs_back : (x y : A) (run : List A) → s.Valid x → Runs x run y
      → Runs (step (s.opposite y)) (back run) (step (s.opposite x))
  runs_back x y [] v h = ap (λ (z : A). step (s.opposite z)) (sym h)
  runs_back x y (u ∷ run) v h =
      let rest : Runs (step (s.opposite y)) (back run) (s.opposite x) =
      subst (λ (z : A). Runs (step (s.opposite y)) (back run) z) (O.step_back s x v)
      (runs_back (step x) y run (O.step_valid s x v) h.1) in
      runs_join (step (s.opposite y)) (s.opposite x) (step (s.opposite x)) (back run) (s.opposite u ∷ []) rest
      (ap s.opposite h.0, refl)

  pub count-back : (x : A) (run : List A) → s.Valid x → All s.Valid run
      → O.count s x (back run) ≡ O.count s (s.opposite x) run
  count-back x [] v h = refl
  count-back x (u ∷ run) v h =
      let vu : s.Valid u = All-head s.Valid u run h in
      let rest : O.count s x (back run) ≡ O.count s (s.opposite x) run =
      count-back x run v (All-tail s.Valid u run h) in
      let joined : O.count s x (back run ++ (s.opposite u ∷ [])) ≡ O.count s x (back run) + O.count s x
      (s.opposite u ∷ []) =
      count_by-append (s.same x) (back run) (s.opposite u ∷ []) in
      elim (O.same_or_other s x (s.opposite u)) [
        | inl e ↦
            omega (
              arith,
              O.count-same s x (s.opposite u) [] e,
              O.count-same s (s.opposite x) u run (ap s.opposite e ∙ s.opposite_back u vu),
            )
        | inr ne ↦
            omega (
              arith,
              O.count-other s x (s.opposite u) [] ne,
              O.count-other s (s.opposite x) u run (λ e. ne (sym (s.opposite_back x v) ∙ ap s.opposite e)),
            )
      ]

  -- ---- closed runs

  pub record Closed (run : List A) : Type 0 where
    pub start : A
    pub valid : s.Valid start
    pub not_empty : run ≢ []
    pub closes : Runs start run start

  pub closed_valid : (run : List A) → Closed run → All s.Valid run
  closed_valid run c = (runs_valid c.start c.start run c.valid c.closes).0

  -- a closed run begins at its first element
  pub closed_at_head : (x : A) (run : List A) → Closed (x ∷ run) → s.Valid x × Runs x (x ∷ run) x
  closed_at_head x run c =
      let at : x ≡ c.start = c.closes.0 in
      (subst s.Valid (sym at) c.valid, subst (λ (z : A). Runs z (x ∷ run) z) (sym at) c.closes)

  -- a closed run passes a thing as often as its step
  pub count-closed : (x : A) (run : List A) → s.Valid x → Closed run → O.count s (step x) run ≡ O.count s x run
  count-closed x run v c =
      omega (
        arith,
        ap (O.count s (step x)) (runs_shift c.start c.start run c.closes),
        count_by-cons (s.same (step x)) c.start (map step run),
        O.count-step s x run v (closed_valid run c),
        count_by-append (s.same (step x)) run (c.start ∷ []),
        count_by-cons (s.same (step x)) c.start [],
      )

  -- a run goes on from each thing that it passes, to a thing that it passes or to its end
  goes_on : (x y z : A) (run : List A) → Runs x run z → O.count s y run ≢ 0
      → (O.count s (step y) run ≢ 0) ⊎ (step y ≡ z)
  goes_on x y z [] h some = absurd (some refl)
  goes_on x y z (u ∷ []) h some =
      elim (O.count-cases s y u [] some) [ inl e ↦ inr (ap step (e ∙ h.0) ∙ h.1) | inr later ↦ absurd (later refl) ]
  goes_on x y z (u ∷ (v ∷ run)) h some =
      elim (O.count-cases s y u (v ∷ run) some) [
        | inl e ↦
            (let next : step y ≡ v = ap step (e ∙ h.0) ∙ sym h.1.0 in
            inl
            (λ none. omega (arith, count_by-cons (s.same (step y)) u (v ∷ run), O.count-same s (step y) v run next)))
        | inr later ↦
            elim (goes_on (step x) y z (v ∷ run) h.1 later) [
              | inl more ↦ inl (λ none. more (omega (arith, count_by-cons (s.same (step y)) u (v ∷ run))))
              | inr end ↦ inr end
            ]
      ]

  pub closed_goes_on : (y : A) (run : List A) → Closed run → O.count s y run ≢ 0 → O.count s (step y) run ≢ 0
  closed_goes_on y [] c some = absurd (some refl)
  closed_goes_on y (x ∷ run) c some =
      elim (goes_on x y x (x ∷ run) (closed_at_head x run c).1 some) [
        | inl more ↦ more
        | inr e ↦ (λ none. omega (arith, O.count-same s (step y) x run e))
      ]

  not_nil : (x : A) (run : List A) → run ++ (x ∷ []) ≢ []
  not_nil x [] e = cc
  not_nil x (y ∷ run) e = cc

  closed_step : (x : A) (run : List A) → Closed (x ∷ run) → Closed (run ++ (x ∷ []))
  closed_step x run c = record {
    start = step c.start;
    valid = O.step_valid s c.start c.valid;
    not_empty = not_nil x run;
    closes = runs_join (step c.start) c.start (step c.start) run (x ∷ []) c.closes.1 (c.closes.0, refl);
  }

  pub closed_rotated : (run other : List A) → IsRotation run other → Closed run → Closed other
  closed_rotated run other r c = Rotation-steps Closed closed_step run other r c

  back-not_nil : (run : List A) → run ≢ [] → back run ≢ []
  back-not_nil [] some = absurd (some refl)
  back-not_nil (x ∷ run) some = not_nil (s.opposite x) (back run)

  pub closed_back : (run : List A) → Closed run → Closed (back run)
  closed_back run c = record {
    start = step (s.opposite c.start);
    valid = O.step_valid s (s.opposite c.start) (s.opposite_valid c.start c.valid);
    not_empty = back-not_nil run c.not_empty;
    closes = runs_back c.start c.start run c.valid c.closes;
  }
