-- Families of closed runs that use each pair of opposite things once. Any two have the same runs up to rotation and
-- direction.
--
-- A run of such a family is a rotation of the cycle of each thing that it uses, forwards or backwards. So of the runs
-- of another family exactly one is alike to it: the one that uses its first element. Sums over both families that don't
-- tell alike runs apart are therefore equal; no permutation between the two is built.
use Rattle.std.proofs.Common.{ℕ, Bool, true, false, cond, ltb, List, [], ◌∷◌, ◌++◌, ◌≡◌, ◌≢◌, ◌≤◌, ◌+◌, ◌⊎◌, inl, inr}
use Rattle.std.proofs.Common.{refl, sym, ◌∙◌, ap, arith, length, length-append}
use Rattle.std.specs.List.{All, count_by, sum_by, flat_map}
use Rattle.std.proofs.lemmas.Bool.{cases_eq, lt-ltb}
use Rattle.std.proofs.lemmas.List.Elements.{All-nil, All-cons, All-head, All-tail}
use Rattle.std.proofs.lemmas.List.Sums.{sum_by-cons}
use Rattle.ideal_tri.specs.Words.{IsRotation}
use Rattle.ideal_tri.proofs.Rotations.{Rotation-count_by}
use Rattle.ideal_tri.proofs.Drawings.Tallies.{count_by-cons, count_by-append, same_sum}
use Rattle.ideal_tri.proofs.Drawings.Orbits as O
use Rattle.ideal_tri.proofs.Drawings.Orbits.{Pairings}
use Rattle.ideal_tri.proofs.Drawings.Runs as R
use Rattle.ideal_tri.proofs.Drawings.Cycles as C

module _ {A : Type 0} (s : Pairings A) where
  -- how often the run passes x or its opposite
  abbrev pub uses : A → List A → ℕ
  uses x run = O.count s x run + O.count s (s.opposite x) run

  pub uses-opposite : (x : A) (run : List A) → s.Valid x → uses (s.opposite x) run ≡ uses x run
  uses-opposite x run v =
      let twice : O.count s (s.opposite (s.opposite x)) run ≡ O.count s x run =
      ap (λ (y : A). O.count s y run) (s.opposite_back x v) in
      omega arith

  pub uses-append : (x : A) (run more : List A) → uses x (run ++ more) ≡ uses x run + uses x more
  uses-append x run more =
      omega (arith, count_by-append (s.same x) run more, count_by-append (s.same (s.opposite x)) run more)

  pub uses_head : (x : A) (run : List A) → uses x (x ∷ run) ≢ 0
  uses_head x run none = omega (arith, O.count-same s x x run refl)

  pub uses_own_cycle : (x : A) → uses x (C.cycle s x) ≢ 0
  uses_own_cycle x = uses_head x (C.rest_of s x)

  -- a closed run that uses each pair once at most
  pub record Simple (run : List A) : Type 0 where
    pub closed : R.Closed s run
    pub once : (x : A) → s.Valid x → uses x run ≤ 1

  pub cycle_simple : (x : A) → s.Valid x → Simple (C.cycle s x)
  cycle_simple x v = record { closed = C.cycle_closed s x v; once = once }
    where
      once : (y : A) → s.Valid y → uses y (C.cycle s x) ≤ 1
      once y u =
          let here : O.count s y (C.cycle s x) ≤ 1 = C.cycle_once s x y v in
          let there : O.count s (s.opposite y) (C.cycle s x) ≤ 1 = C.cycle_once s x (s.opposite y) v in
          elim (cases_eq (O.count s y (C.cycle s x)) 0) [
            | inl none ↦ omega arith
            | inr some ↦
                elim (cases_eq (O.count s (s.opposite y) (C.cycle s x)) 0) [
                  | inl none ↦ omega arith
                  | inr others ↦ absurd (C.not_both s y (C.cycle s x) (C.cycle_closed s x v) some others)
                ]
          ]

  -- so it is no longer than there are sides
  pub cycle_short : (x : A) → s.Valid x → length (C.cycle s x) ≤ length s.sides
  cycle_short x v =
      let run : List A = C.cycle s x in
      let valid : All s.Valid run = R.closed_valid s run (C.cycle_closed s x v) in
      let fewer : length (run ++ R.back s run) ≤ length (C.all s) =
      O.no_longer s s.Valid (run ++ R.back s run) (C.all s) (R.both_valid s run valid)
      (λ y u.
      let some : O.count s y (C.all s) ≢ 0 = C.all_counted s y u in
      omega (
        arith,
        count_by-append (s.same y) run (R.back s run),
        R.count-back s y run u valid,
        (cycle_simple x v).once y u,
      )) in
      omega (arith, length-append run (R.back s run), R.length-back s run, C.all_long s)

  -- ---- alike: up to rotation and direction

  abbrev pub IsAlike : List A → List A → Type 0
  IsAlike run other = IsRotation run other ⊎ IsRotation (R.back s run) other

  pub alike_cycle : (x : A) (run : List A) → s.Valid x → Simple run → uses x run ≢ 0 → IsAlike run (C.cycle s x)
  alike_cycle x run v h some =
      let few : uses x run ≤ 1 = h.once x v in
      elim (cases_eq (O.count s x run) 0) [
        | inl none ↦
            (let there : O.count s x (R.back s run) ≡ 1 =
            R.count-back s x run v (R.closed_valid s run h.closed) ∙ omega arith in
            inr (C.cycle_rotation s x (R.back s run) (R.closed_back s run h.closed) there))
        | inr here ↦ inl (C.cycle_rotation s x run h.closed (omega arith))
      ]

  uses-rotation : (run other : List A) → IsRotation run other → (x : A) → uses x run ≡ uses x other
  uses-rotation run other r x =
      omega (arith, Rotation-count_by (s.same x) run other r, Rotation-count_by (s.same (s.opposite x)) run other r)

  uses-back : (run : List A) → All s.Valid run → (x : A) → s.Valid x → uses x (R.back s run) ≡ uses x run
  uses-back run h x v =
      let twice : O.count s (s.opposite (s.opposite x)) run ≡ O.count s x run =
      ap (λ (y : A). O.count s y run) (s.opposite_back x v) in
      omega (arith, R.count-back s x run v h, R.count-back s (s.opposite x) run (s.opposite_valid x v) h)

  uses-alike : (run other : List A) → R.Closed s run → IsAlike run other → (x : A) → s.Valid x
      → uses x run ≡ uses x other
  uses-alike run other c (inl r) x v = uses-rotation run other r x
  uses-alike run other c (inr r) x v =
      sym (uses-back run (R.closed_valid s run c) x v) ∙ uses-rotation (R.back s run) other r x

  -- a run uses what the cycle of each thing uses that it passes
  pub uses-cycle : (x : A) (run : List A) → s.Valid x → Simple run → uses x run ≢ 0 → (y : A) → s.Valid y
      → uses y run ≡ uses y (C.cycle s x)
  uses-cycle x run v h some y u = uses-alike run (C.cycle s x) h.closed (alike_cycle x run v h some) y u

  -- ---- families

  abbrev pub joined : List (List A) → List A
  joined runs = flat_map (λ run. run) runs

  pub record Family (runs : List (List A)) : Type 0 where
    pub closed : All (R.Closed s) runs
    pub once : (x : A) → s.Valid x → uses x (joined runs) ≡ 1

  pub uses-joined : (x : A) (runs : List (List A)) → uses x (joined runs) ≡ sum_by (uses x) runs
  uses-joined x [] = refl
  uses-joined x (run ∷ runs) =
      omega (arith, uses-append x run (joined runs), uses-joined x runs, sum_by-cons (uses x) run runs)

  simple_if : (runs : List (List A)) → All (R.Closed s) runs → ((x : A) → s.Valid x → uses x (joined runs) ≤ 1)
      → All Simple runs
  simple_if [] c once = All-nil Simple
  simple_if (run ∷ runs) c once =
      All-cons Simple run runs
      (record {
        closed = All-head (R.Closed s) run runs c;
        once = λ x v. omega (arith, once x v, uses-append x run (joined runs));
      })
      (simple_if runs (All-tail (R.Closed s) run runs c) (λ x v. omega (
        arith,
        once x v,
        uses-append x run (joined runs),
      )))

  pub family_simple : (runs : List (List A)) → Family runs → All Simple runs
  family_simple runs f = simple_if runs f.closed (λ x v. omega (arith, f.once x v))

  -- ---- the runs of two families

  -- the other run uses the first element of the run
  uses_first : List A → List A → Bool
  uses_first [] other = false
  uses_first (x ∷ run) other = ltb 0 (uses x other)

  some_true : (n : ℕ) → n ≢ 0 → ltb 0 n ≡ true
  some_true n some = lt-ltb 0 n (omega arith)

  true_some : (n : ℕ) → ltb 0 n ≡ true → n ≢ 0
  true_some n e none = cc

  -- the counts of the runs that use the first element add up to the uses
  count-uses_first : (x : A) (run : List A) (runs : List (List A)) → s.Valid x → All Simple runs
      → count_by (uses_first (x ∷ run)) runs ≡ uses x (joined runs)
  unfolding uses_first
  count-uses_first x run [] v h = refl
  count-uses_first x run (other ∷ runs) v h =
      let here : cond (ltb 0 (uses x other)) 1 0 ≡ uses x other =
      number (uses x other) ((All-head Simple other runs h).once x v) in
      omega (
        arith,
        count_by-cons (uses_first (x ∷ run)) other runs,
        count-uses_first x run runs v (All-tail Simple other runs h),
        uses-append x other (joined runs),
      )
    where
      number : (n : ℕ) → n ≤ 1 → cond (ltb 0 n) 1 0 ≡ n
      number n few =
          elim (cases_eq n 0) [
            | inl none ↦ ap (λ (k : ℕ). cond {A = ℕ} (ltb 0 k) 1 0) none ∙ sym none
            | inr some ↦ ap (λ (b : Bool). cond b 1 0) (some_true n some) ∙ omega arith
          ]

  one_alike : (run : List A) (runs : List (List A)) → Simple run → Family runs → count_by (uses_first run) runs ≡ 1
  one_alike [] runs h f = absurd (h.closed.not_empty refl)
  one_alike (x ∷ run) runs h f =
      let v : s.Valid x = (R.closed_at_head s x run h.closed).0 in
      count-uses_first x run runs v (family_simple runs f) ∙ f.once x v

  first_itself : (run : List A) → Simple run → uses_first run run ≡ true
  unfolding uses_first
  first_itself [] h = absurd (h.closed.not_empty refl)
  first_itself (x ∷ run) h = some_true (uses x (x ∷ run)) (uses_head x run)

  -- a run and one that uses its first element are alike to one cycle
  record Both (run other : List A) : Type 0 where
    via : A
    valid : s.Valid via
    used : uses via run ≢ 0
    used_too : uses via other ≢ 0

  both : (run other : List A) → Simple run → uses_first run other ≡ true → Both run other
  unfolding uses_first
  both [] other h e = absurd (h.closed.not_empty refl)
  both (x ∷ run) other h e = record {
    via = x;
    valid = (R.closed_at_head s x run h.closed).0;
    used = uses_head x run;
    used_too = true_some (uses x other) e;
  }

  first_respects : (run other third : List A) → Simple run → Simple other → Simple third → uses_first run other ≡ true
      → uses_first third run ≡ uses_first third other
  unfolding uses_first
  first_respects run other [] h k m e = refl
  first_respects run other (y ∷ third) h k m e =
      let b : Both run other = both run other h e in
      let u : s.Valid y = (R.closed_at_head s y third m.closed).0 in
      ap (ltb 0)
      (uses-cycle b.via run b.valid h b.used y u ∙ sym (uses-cycle b.via other b.valid k b.used_too y u))

  -- what does not tell alike runs apart has the same sum over both families
  pub family_sums : (f : List A → ℕ) → ((run other : List A) → IsAlike run other → f run ≡ f other)
      → (runs others : List (List A)) → Family runs → Family others → sum_by f runs ≡ sum_by f others
  family_sums f keeps runs others h k =
      same_sum Simple uses_first f first_itself first_respects
      (λ run other p q e.
      let b : Both run other = both run other p e in
      keeps run (C.cycle s b.via) (alike_cycle b.via run b.valid p b.used)
      ∙ sym (keeps other (C.cycle s b.via) (alike_cycle b.via other b.valid q b.used_too)))
      runs others (family_simple runs h) (family_simple others k)
      (λ run p. one_alike run runs p h ∙ sym (one_alike run others p k))
