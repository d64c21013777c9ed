-- A drawing has a word, and none that runs round a vertex, exactly where something is crossed and each vertex has a
-- corner without strands.
--
-- Where all corners of a vertex have strands, the innermost of them, at place 0, keeps that place as it turns from
-- corner to corner. So its curve runs round the vertex, and the drawing has it, or its way back, which turns the other
-- way.
use Rattle.std.proofs.Common.{ℕ, zero, suc, ℤ, List, [], ◌∷◌, ◌≡◌, ◌≢◌, ◌<◌, ◌⊎◌, ◌↔◌, inl, inr, refl, sym, ◌∙◌, ap}
use Rattle.std.proofs.Common.{subst, arith}
use Rattle.std.specs.List.{All}
use Rattle.std.proofs.lemmas.Bool.{cases_eq}
use Rattle.std.proofs.lemmas.List.Elements.{All-nil, All-cons, All-head, All-tail, All-map, All-weaker}
use Rattle.ideal_tri.specs.Labels.{inverse}
use Rattle.ideal_tri.specs.Triangulations.{IsLabel, next, previous}
use Rattle.ideal_tri.specs.Vectors.{corner_count}
use Rattle.ideal_tri.specs.Strands.{State, state_at, IsStrand, opposite, strand_step, IsDrawing, word_of, words_of}
use Rattle.ideal_tri.specs.Peripheral.{TurnsOn, TurnsBack, IsPeripheral}
use Rattle.ideal_tri.specs.Vertices.{corner_step, corner_after}
use Rattle.ideal_tri.specs.PeripheralParts.{IsNonperipheral, HasFreeCorners, least_count}
use Rattle.ideal_tri.proofs.Labels.{inverse-inverse, inverse_label}
use Rattle.ideal_tri.proofs.Rotations.{Rotation-sym, Rotation-keeps}
use Rattle.ideal_tri.proofs.Turning.{corner_step_label, corner_after_label}
use Rattle.ideal_tri.proofs.Drawings.Through as T
use Rattle.ideal_tri.proofs.Drawings.Through.{weight-inverse}
use Rattle.ideal_tri.proofs.Drawings.Orbits as O
use Rattle.ideal_tri.proofs.Drawings.Orbits.{Pairings}
use Rattle.ideal_tri.proofs.Drawings.Runs as R
use Rattle.ideal_tri.proofs.Drawings.Cycles as C
use Rattle.ideal_tri.proofs.Drawings.Alike as L
use Rattle.ideal_tri.proofs.Drawings.Sides as S
use Rattle.ideal_tri.proofs.Drawings.States.{Setting, pairings, to_family}
use Rattle.ideal_tri.proofs.Drawings.Draw.{drawing_none}
use Rattle.ideal_tri.proofs.Drawings.LeastCounts.{least_count_there, least_count_least}
use Rattle.ideal_tri.proofs.Drawings.Turns as N

module _ (triples : List (List ℤ)) (w : List ℕ) (given : Setting triples w) where
  abbrev s : Pairings State
  s = pairings triples w given

  abbrev step : State → State
  step q = strand_step triples w q

  abbrev corner : ℤ → ℕ
  corner x = corner_count triples w x

  abbrev On : State → Type 0
  On q = N.On triples w given q

  abbrev Back : State → Type 0
  Back q = N.Back triples w given q

  -- ---- the innermost curve

  abbrev HasStrandsRound : ℤ → Type 0
  HasStrandsRound x = (n : ℕ) → 0 < corner (corner_after triples n x)

  -- the strand nearest to the vertex of the corner x, where it leaves that corner
  abbrev innermost : ℤ → State
  innermost x = state_at (inverse x) 0

  innermost_valid : (x : ℤ) → IsLabel triples x → 0 < corner x → IsStrand triples w (innermost x)
  innermost_valid x l some = record {
    is_label = inverse_label triples x l;
    within = omega (arith, weight-inverse w x, given.corners x l);
  }

  innermost_step : (x : ℤ) → IsLabel triples x → 0 < corner x → step (innermost x) ≡ innermost (corner_step triples x)
  innermost_step x l some =
      T.step_on triples w given.laws given.corners (innermost x) (innermost_valid x l some)
      (subst (λ (y : ℤ). 0 < corner y) (sym (inverse-inverse x)) some)
      ∙ ap (λ (y : ℤ). state_at (next triples y) 0) (inverse-inverse x)
      ∙ ap (λ (y : ℤ). state_at y 0) (sym (inverse-inverse (next triples x)))

  innermost_after : (n : ℕ) (x : ℤ) → IsLabel triples x → HasStrandsRound x
      → C.after s n (innermost x) ≡ innermost (corner_after triples n x)
  innermost_after zero x l some = refl
  innermost_after (suc n) x l some =
      ap (C.after s n) (innermost_step x l (some 0))
      ∙ innermost_after n (corner_step triples x) (corner_step_label triples given.laws x l) (λ m. some (suc m))

  innermost_on : (x : ℤ) → IsLabel triples x → 0 < corner x → On (innermost x)
  innermost_on x l some =
      ap (λ (q : State). q.label) (innermost_step x l some)
      ∙ inverse-inverse (next triples x)
      ∙ ap (next triples) (sym (inverse-inverse x))

  innermost_turns : (x : ℤ) → IsLabel triples x → HasStrandsRound x → All On (C.cycle s (innermost x))
  innermost_turns x l some = S.All-each s On (C.cycle s (innermost x)) each
    where
      v : IsStrand triples w (innermost x)
      v = innermost_valid x l (some 0)

      each : (p : State) → O.count s p (C.cycle s (innermost x)) ≢ 0 → On p
      each p here =
          let c : R.Closed s (C.cycle s (innermost x)) = C.cycle_closed s (innermost x) v in
          let (n, e) = C.run_reaches s (innermost x) p (innermost x) (C.cycle s (innermost x))
          (R.closed_at_head s (innermost x) (C.rest_of s (innermost x)) c).1 here in
          subst On (sym (innermost_after n x l some) ∙ e)
          (innermost_on (corner_after triples n x) (corner_after_label triples given.laws n x l) (some n))

  -- a run whose way back turns on turns back itself
  turns_back : (run : List State) → R.Closed s run → All On (R.back s run) → All Back run
  turns_back run c on = S.All-each s Back run each
    where
      valid : All (IsStrand triples w) run
      valid = R.closed_valid s run c

      each : (p : State) → O.count s p run ≢ 0 → Back p
      each p here =
          let v : IsStrand triples w p = O.All-counted s (IsStrand triples w) p run valid here in
          let u : IsStrand triples w (step p) = O.step_valid s p v in
          let more : O.count s (step p) run ≢ 0 = R.closed_goes_on s p run c here in
          let twice : O.count s (opposite w (opposite w (step p))) run ≡ O.count s (step p) run =
          ap (λ (q : State). O.count s q run) (T.opposite_back triples w (step p) u) in
          let seen : O.count s (opposite w (step p)) (R.back s run) ≢ 0 =
          λ none. more
          (omega (arith, R.count-back s (opposite w (step p)) run (T.opposite_valid triples w (step p) u) valid)) in
          let from : (step (opposite w (step p))).label ≡ next triples (inverse (inverse (step p).label)) =
          O.All-counted s On (opposite w (step p)) (R.back s run) on seen in
          let back : inverse p.label ≡ next triples (step p).label =
          sym (ap (λ (q : State). q.label) (O.step_back s p v)) ∙ from ∙ ap (next triples)
          (inverse-inverse (step p).label) in
          sym (ap (previous triples) back ∙ given.laws.round (step p).label u.is_label)

  word_some : (run : List State) → run ≢ [] → word_of run ≢ []
  word_some [] some e = some refl
  word_some (q ∷ run) some e = cc

  -- a run that uses the innermost strand of a vertex runs round it
  runs_round : (x : ℤ) → IsLabel triples x → HasStrandsRound x → (run : List State) → L.Simple s run
      → L.uses s (innermost x) run ≢ 0 → IsPeripheral triples (word_of run)
  runs_round x l some run h used = (
    word_some run h.closed.not_empty,
    way (L.alike_cycle s (innermost x) run (innermost_valid x l (some 0)) h used),
  )
    where
      turns : All On (C.cycle s (innermost x))
      turns = innermost_turns x l some

      way : L.IsAlike s run (C.cycle s (innermost x)) → TurnsOn triples (word_of run) ⊎ TurnsBack triples (word_of run)
      way (inl r) =
          inl
          (N.closed_from_steps triples w given (λ x y. y ≡ next triples (inverse x)) run h.closed
          (Rotation-keeps On (C.cycle s (innermost x)) run (Rotation-sym run (C.cycle s (innermost x)) r) turns))
      way (inr r) =
          inr
          (N.closed_from_steps triples w given (λ x y. y ≡ previous triples (inverse x)) run h.closed
          (turns_back run h.closed
          (Rotation-keeps On (C.cycle s (innermost x)) (R.back s run)
          (Rotation-sym (R.back s run) (C.cycle s (innermost x)) r) turns)))

  -- ---- the criterion

  -- of the runs together, one uses what they use
  user : (P : List State → Type 0) (q : State) (runs : List (List State)) → All P runs
      → L.uses s q (L.joined s runs) ≢ 0
      → (run : List State) × P run × (L.uses s q run ≢ 0)
  user P q [] h some = absurd (some refl)
  user P q (run ∷ runs) h some =
      elim (cases_eq (L.uses s q run) 0) [
        | inl none ↦
            user P q runs (All-tail P run runs h) (λ gone. some
            (omega (arith, L.uses-append s q run (L.joined s runs))))
        | inr here ↦ (run, All-head P run runs h, here)
      ]

  words_nil : (runs : List (List State)) → words_of runs ≡ [] → runs ≡ []
  words_nil [] e = refl
  words_nil (run ∷ runs) e = cc

  -- the runs whose words don't run round a vertex
  abbrev Wanders : List State → Type 0
  Wanders run = L.Simple s run × ¬ IsPeripheral triples (word_of run)

  wandering : (runs : List (List State)) → All (L.Simple s) runs
      → All (λ word. ¬ IsPeripheral triples word) (words_of runs) → All Wanders runs
  wandering [] h k = All-nil Wanders
  wandering (run ∷ runs) h k =
      All-cons Wanders run runs
      (All-head (L.Simple s) run runs h, All-head (λ word. ¬ IsPeripheral triples word) (word_of run) (words_of runs) k)
      (wandering runs (All-tail (L.Simple s) run runs h)
      (All-tail (λ word. ¬ IsPeripheral triples word) (word_of run) (words_of runs) k))

  free_corners : (runs : List (List State)) → IsDrawing triples w runs
      → All (λ word. ¬ IsPeripheral triples word) (words_of runs)
      → HasFreeCorners triples w
  free_corners runs d k x l =
      elim (cases_eq (least_count triples w x) 0) [
        | inl none ↦ (let (y, on, e) = least_count_there triples w x in (y, on, e ∙ none))
        | inr some ↦ absurd (impossible some)
      ]
    where
      family : L.Family s runs
      family = to_family triples w given runs d

      impossible : least_count triples w x ≢ 0 → ⊥
      impossible some =
          let round : HasStrandsRound x =
          λ n. omega (
            arith,
            least_count_least triples given.laws w x (corner_after triples n x) l
                (record { steps = n; reached = refl }),
          ) in
          let v : IsStrand triples w (innermost x) = innermost_valid x l (round 0) in
          let (run, wanders, used) = user Wanders (innermost x) runs (wandering runs (L.family_simple s runs family) k)
          (λ none. omega (arith, family.once (innermost x) v)) in
          wanders.1 (runs_round x l round run wanders.0 used)

  pub nonperipheral_criterion : (runs : List (List State)) → IsDrawing triples w runs
      → IsNonperipheral triples (words_of runs) ↔ ((¬ All (λ n. n ≡ 0) w) × HasFreeCorners triples w)
  nonperipheral_criterion runs d = (
    λ h. (
      λ zero. h.some (ap words_of ((drawing_none triples w given runs d).1 zero)),
      free_corners runs d h.none_round,
    ),
    λ h. record {
      some = λ e. h.0 ((drawing_none triples w given runs d).0 (words_nil runs e));
      none_round =
          All-map (λ word. ¬ IsPeripheral triples word) word_of runs
          (All-weaker (R.Closed s) (λ run. ¬ IsPeripheral triples (word_of run)) (N.none_round triples w given h.1) runs
          (to_family triples w given runs d).closed);
    },
  )
