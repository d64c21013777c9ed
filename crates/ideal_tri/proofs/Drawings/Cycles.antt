-- The cycle of a thing: the one run that begins there and comes back for the first time. It uses each pair of opposite
-- things once at most.
--
-- It closes, since the orbit is longer than the number of things. It never passes a thing and the opposite one: if n
-- steps led from x to its opposite, then n - 2 steps would lead from the step of x to the opposite of that, and so on
-- down to none or one, where it can't be. So a closed run that uses each pair once at most is a rotation of the cycle
-- of any thing that it uses, forwards or backwards.
use Rattle.std.proofs.Common.{ℕ, zero, suc, Bool, true, false, cond, List, [], ◌∷◌, ◌++◌, ◌≡◌, ◌≢◌, ◌≤◌, ◌+◌, ◌-◌, ◌*◌}
use Rattle.std.proofs.Common.{◌⊎◌, inl, inr, refl, sym, ◌∙◌, ap, subst, arith, length, length-append}
use Rattle.std.specs.List.{before_first}
use Rattle.std.proofs.lemmas.Bool.{cases_Bool, cases_lt}
use Rattle.ideal_tri.specs.Words.{IsRotation}
use Rattle.ideal_tri.specs.Drawings.{orbit}
use Rattle.ideal_tri.proofs.Rotations.{Rotation-count_by}
use Rattle.ideal_tri.proofs.Drawings.Tallies.{Split, split, count_by-cons, count_by-append, count_by-no, none_if}
use Rattle.ideal_tri.proofs.Drawings.Orbits as O
use Rattle.ideal_tri.proofs.Drawings.Orbits.{Pairings}
use Rattle.ideal_tri.proofs.Drawings.Runs as R
use Rattle.ideal_tri.proofs.Drawings.Runs.{before_first-cons}

module _ {A : Type 0} (s : Pairings A) where
  abbrev step : A → A
  step x = O.step s x

  -- two for each side
  abbrev pub bound : ℕ
  bound = 2 * length s.sides

  -- ---- back within the bound

  abbrev pub all : List A
  all = s.sides ++ R.back s s.sides

  pub all_counted : (x : A) → s.Valid x → O.count s x all ≢ 0
  all_counted x v none =
      let both : O.count s x all ≡ O.count s x s.sides + O.count s (s.opposite x) s.sides =
      count_by-append (s.same x) s.sides (R.back s s.sides)
      ∙ ap (λ (n : ℕ). O.count s x s.sides + n) (R.count-back s x s.sides v s.sides_valid) in
      elim (s.covers x v) [ inl here ↦ here (omega arith) | inr there ↦ there (omega arith) ]

  pub all_long : length all ≡ bound
  all_long = omega (arith, length-append s.sides (R.back s s.sides), R.length-back s s.sides)

  returns : (x : A) → s.Valid x → O.count s x (orbit step bound (step x)) ≢ 0
  returns x v none =
      let few : length (orbit step (suc bound) x) ≤ length all =
      O.no_longer s s.Valid (orbit step (suc bound) x) all (O.orbit_valid s (suc bound) x v)
      (λ y u.
      let some : O.count s y all ≢ 0 = all_counted y u in
      omega (arith, O.orbit_once s bound x v none y)) in
      omega (arith, O.orbit-length s (suc bound) x, all_long)

  -- ---- the cycle

  -- what comes before x in a list that has it
  abbrev pub front : A → List A → List A
  front x xs = before_first (s.same x) xs

  pub front-count : (x : A) (xs : List A) → O.count s x (front x xs) ≡ 0
  front-count x [] = refl
  front-count x (y ∷ ys) =
      ap (O.count s x) (before_first-cons (s.same x) y ys)
      ∙ elim (cases_Bool (s.same x y)) [
        | inl e ↦ ap (λ (b : Bool). O.count s x (cond b [] (y ∷ front x ys))) e
        | inr e ↦
            ap (λ (b : Bool). O.count s x (cond b [] (y ∷ front x ys))) e
            ∙ omega (
              arith,
              count_by-cons (s.same x) y ys,
              count_by-cons (s.same x) y (front x ys),
              front-count x ys,
              none_if (s.same x y) e,
            )
      ]

  front_runs : (n : ℕ) (x y : A) → O.count s x (orbit step n y) ≢ 0 → R.Runs s y (front x (orbit step n y)) x
  front_runs zero x y some = absurd (some refl)
  front_runs (suc n) x y some =
      subst (λ (run : List A). R.Runs s y run x) (sym (before_first-cons (s.same x) y (orbit step n (step y))))
      (go (s.same x y) refl (front_runs n x (step y)))
    where
      rest : List A
      rest = orbit step n (step y)

      go : (b : Bool) → s.same x y ≡ b → (O.count s x rest ≢ 0 → R.Runs s (step y) (front x rest) x)
          → R.Runs s y (cond b [] (y ∷ front x rest)) x
      go true e later = sym ((s.same_decides x y).0 e)
      go false e later = (refl, later (λ none. some (count_by-no (s.same x) y rest e ∙ none)))

  -- the cycle after its first thing
  abbrev pub rest_of : A → List A
  rest_of x = front x (orbit step bound (step x))

  pub rest_count : (x : A) → O.count s x (rest_of x) ≡ 0
  rest_count x = front-count x (orbit step bound (step x))

  abbrev pub cycle : A → List A
  cycle x = x ∷ rest_of x

  pub cycle_runs : (x : A) → s.Valid x → R.Runs s (step x) (rest_of x) x
  cycle_runs x v = front_runs bound x (step x) (returns x v)

  pub cycle_closed : (x : A) → s.Valid x → R.Closed s (cycle x)
  cycle_closed x v = record {
    start = x;
    valid = v;
    not_empty = λ e. cc;
    closes = (refl, cycle_runs x v);
  }

  pub cycle_once : (x y : A) → s.Valid x → O.count s y (cycle x) ≤ 1
  cycle_once x y v =
      let rest : List A = rest_of x in
      let is : rest ≡ orbit step (length rest) (step x) = R.runs_orbit s (step x) x rest (cycle_runs x v) in
      let none : O.count s x (orbit step (length rest) (step x)) ≡ 0 =
      ap (O.count s x) (sym is) ∙ front-count x (orbit step bound (step x)) in
      let once : O.count s y (orbit step (suc (length rest)) x) ≤ 1 = O.orbit_once s (length rest) x v none y in
      subst (λ (run : List A). O.count s y (x ∷ run) ≤ 1) (sym is) once

  -- a closed run that passes x once is a rotation of the cycle
  pub cycle_is : (x : A) (run : List A) → R.Closed s (x ∷ run) → O.count s x (x ∷ run) ≤ 1 → x ∷ run ≡ cycle x
  cycle_is x run c once =
      let (v, closes) = R.closed_at_head s x run c in
      ap (λ (zs : List A). x ∷ zs)
      (R.runs_unique s (step x) x run (rest_of x) closes.1 (cycle_runs x v)
      (omega (arith, O.count-same s x x run refl)) (front-count x (orbit step bound (step x))))

  pub cycle_rotation : (x : A) (run : List A) → R.Closed s run → O.count s x run ≡ 1 → IsRotation run (cycle x)
  cycle_rotation x run c one =
      let t : Split (s.same x) run = split (s.same x) run (λ none. omega arith) in
      let at : x ≡ t.here = (s.same_decides x t.here).0 t.passes in
      let is : run ≡ t.before ++ (x ∷ t.after) = t.is ∙ ap (λ (z : A). t.before ++ (z ∷ t.after)) (sym at) in
      let turned : IsRotation run (x ∷ (t.after ++ t.before)) = (t.before, x ∷ t.after, is, refl) in
      let same : x ∷ (t.after ++ t.before) ≡ cycle x =
      cycle_is x (t.after ++ t.before) (R.closed_rotated s run (x ∷ (t.after ++ t.before)) turned c)
      (omega (arith, Rotation-count_by (s.same x) run (x ∷ (t.after ++ t.before)) turned)) in
      subst (IsRotation run) same turned

  -- ---- never the opposite

  abbrev pub after : ℕ → A → A
  after zero x = x
  after (suc n) x = after n (step x)

  after-suc : (n : ℕ) (x : A) → after (suc n) x ≡ step (after n x)
  after-suc zero x = refl
  after-suc (suc n) x = after-suc n (step x)

  after-add : (m n : ℕ) (x : A) → after (m + n) x ≡ after n (after m x)
  after-add zero n x = let none : zero + n ≡ n = omega arith in ap (λ (k : ℕ). after k x) none
  after-add (suc m) n x =
      let more : suc m + n ≡ suc (m + n) = omega arith in
      ap (λ (k : ℕ). after k x) more ∙ after-add m n (step x)

  after_valid : (n : ℕ) (x : A) → s.Valid x → s.Valid (after n x)
  after_valid zero x v = v
  after_valid (suc n) x v = after_valid n (step x) (O.step_valid s x v)

  never_opposite : (n : ℕ) (x : A) → s.Valid x → after n x ≢ s.opposite x
  never_opposite zero x v e = s.opposite_other x v (sym e)
  never_opposite (suc zero) x v e = O.step_other s x v e
  never_opposite (suc (suc n)) x v e =
      let u : s.Valid (step x) = O.step_valid s x v in
      never_opposite n (step x) u
      (O.step_injective s (after n (step x)) (s.opposite (step x)) (after_valid n (step x) u)
      (s.opposite_valid (step x) u)
      (sym (after-suc n (step x)) ∙ e ∙ sym (O.step_back s x v)))

  -- how many steps from the start of a run to a thing that it passes
  pub run_reaches : (x y z : A) (run : List A) → R.Runs s x run z → O.count s y run ≢ 0 → (n : ℕ) × (after n x ≡ y)
  run_reaches x y z [] h some = absurd (some refl)
  run_reaches x y z (u ∷ run) h some =
      elim (O.count-cases s y u run some) [
        | inl e ↦ (0, sym h.0 ∙ sym e)
        | inr later ↦ more (run_reaches (step x) y z run h.1 later)
      ]
    where
      more : (n : ℕ) × (after n (step x) ≡ y) → (n : ℕ) × (after n x ≡ y)
      more (n, e) = (suc n, e)

  le_or_ge : (m n : ℕ) → ((k : ℕ) × (n ≡ m + k)) ⊎ ((k : ℕ) × (m ≡ n + k))
  le_or_ge m n =
      elim (cases_lt m n) [ inl b ↦ inl (n - m, omega arith) | inr b ↦ inr (m - n, omega arith) ]

  -- so no closed run passes a thing and its opposite
  pub not_both : (y : A) (run : List A) → R.Closed s run → O.count s y run ≢ 0 → O.count s (s.opposite y) run ≢ 0 → ⊥
  not_both y run c here there =
      let (m, e) = run_reaches c.start y c.start run c.closes here in
      let (n, f) = run_reaches c.start (s.opposite y) c.start run c.closes there in
      let u : s.Valid y = subst s.Valid e (after_valid m c.start c.valid) in
      elim (le_or_ge m n) [
        | inl d ↦
            never_opposite d.0 y u
            (ap (after d.0) (sym e) ∙ sym (after-add m d.0 c.start) ∙ ap (λ (k : ℕ). after k c.start) (sym d.1) ∙ f)
        | inr d ↦
            never_opposite d.0 (s.opposite y) (s.opposite_valid y u)
            (ap (after d.0) (sym f)
            ∙ sym (after-add n d.0 c.start)
            ∙ ap (λ (k : ℕ). after k c.start) (sym d.1)
            ∙ e
            ∙ sym (s.opposite_back y u))
      ]
