-- Curves that turn the same way all round have strands at all corners of a vertex.
--
-- A curve turns on where each of its states lies within the corner at the tail of its label. From one such state to the
-- next the corner takes a step round its vertex, so the curve goes through all corners there, which therefore have
-- strands. Where it turns back it goes through them the other way round.
use Rattle.std.proofs.Common.{ℕ, zero, suc, ℤ, List, [], ◌∷◌, ◌++◌, ◌≡◌, ◌≢◌, ◌<◌, inl, inr, refl, sym, ◌∙◌, ap, subst}
use Rattle.std.proofs.Common.{arith}
use Rattle.std.specs.List.{All}
use Rattle.std.proofs.lemmas.Bool.{cases_lt}
use Rattle.std.proofs.lemmas.List.Elements.{All-nil, All-cons, All-head, All-tail}
use Rattle.ideal_tri.specs.Labels.{inverse}
use Rattle.ideal_tri.specs.Words.{closed_up}
use Rattle.ideal_tri.specs.Triangulations.{IsLabel, next, previous}
use Rattle.ideal_tri.specs.Vectors.{corner_count}
use Rattle.ideal_tri.specs.Strands.{State, IsStrand, strand_step, word_of}
use Rattle.ideal_tri.specs.Peripheral.{AllNeighbours, IsPeripheral}
use Rattle.ideal_tri.specs.Vertices.{corner_step, corner_after, IsSameVertex}
use Rattle.ideal_tri.specs.PeripheralParts.{HasFreeCorners}
use Rattle.ideal_tri.proofs.Labels.{inverse-inverse, inverse_label}
use Rattle.ideal_tri.proofs.Turning.{corner_step-injective, corner_after_label, corner_after-suc, SameVertex-sym}
use Rattle.ideal_tri.proofs.Turning.{SameVertex_label}
use Rattle.ideal_tri.proofs.Drawings.Through as T
use Rattle.ideal_tri.proofs.Drawings.Orbits as O
use Rattle.ideal_tri.proofs.Drawings.Orbits.{Pairings}
use Rattle.ideal_tri.proofs.Drawings.Runs as R
use Rattle.ideal_tri.proofs.Drawings.States.{Setting, pairings}

module _ (triples : List (List ℤ)) (w : List ℕ) (given : Setting triples w) where
  abbrev s : Pairings State
  s = pairings triples w given

  abbrev pub step : State → State
  step q = strand_step triples w q

  abbrev corner : ℤ → ℕ
  corner x = corner_count triples w x

  -- ---- neighbours in the word of a run

  -- the letter of each state and that of its step
  abbrev pub AllSteps : (ℤ → ℤ → Type 0) → List State → Type 0
  AllSteps Rel run = All (λ p. Rel p.label (step p).label) run

  to_steps : (Rel : ℤ → ℤ → Type 0) (q r : State) (run : List State) → R.Runs s q run r
      → AllNeighbours Rel (word_of run ++ (r.label ∷ [])) → AllSteps Rel run
  to_steps Rel q r [] h n = All-nil (λ p. Rel p.label (step p).label)
  to_steps Rel q r (p ∷ []) h n =
      All-cons (λ p. Rel p.label (step p).label) p []
      (subst (λ (u : State). Rel p.label u.label) (sym h.1 ∙ ap step (sym h.0)) n.0)
      (All-nil (λ p. Rel p.label (step p).label))
  to_steps Rel q r (p ∷ (p' ∷ run)) h n =
      All-cons (λ p. Rel p.label (step p).label) p (p' ∷ run)
      (subst (λ (u : State). Rel p.label u.label) (h.1.0 ∙ ap step (sym h.0)) n.0)
      (to_steps Rel (step q) r (p' ∷ run) h.1 n.1)

  from_steps : (Rel : ℤ → ℤ → Type 0) (q r : State) (run : List State) → R.Runs s q run r
      → AllSteps Rel run → AllNeighbours Rel (word_of run ++ (r.label ∷ []))
  from_steps Rel q r [] h a = tt
  from_steps Rel q r (p ∷ []) h a = (
    subst (λ (u : State). Rel p.label u.label) (ap step h.0 ∙ h.1) (All-head (λ p. Rel p.label (step p).label) p [] a),
    tt,
  )
  from_steps Rel q r (p ∷ (p' ∷ run)) h a = (
    subst (λ (u : State). Rel p.label u.label) (ap step h.0 ∙ sym h.1.0)
        (All-head (λ p. Rel p.label (step p).label) p (p' ∷ run) a),
    from_steps Rel (step q) r (p' ∷ run) h.1 (All-tail (λ p. Rel p.label (step p).label) p (p' ∷ run) a),
  )

  closed_to_steps : (Rel : ℤ → ℤ → Type 0) (run : List State) → R.Closed s run
      → AllNeighbours Rel (closed_up (word_of run)) → AllSteps Rel run
  closed_to_steps Rel [] c n = absurd (c.not_empty refl)
  closed_to_steps Rel (q ∷ run) c n = to_steps Rel q q (q ∷ run) (R.closed_at_head s q run c).1 n

  pub closed_from_steps : (Rel : ℤ → ℤ → Type 0) (run : List State) → R.Closed s run → AllSteps Rel run
      → AllNeighbours Rel (closed_up (word_of run))
  closed_from_steps Rel [] c a = absurd (c.not_empty refl)
  closed_from_steps Rel (q ∷ run) c a = from_steps Rel q q (q ∷ run) (R.closed_at_head s q run c).1 a

  -- ---- turning on, turning back

  abbrev pub On : State → Type 0
  On q = (step q).label ≡ next triples (inverse q.label)

  abbrev pub Back : State → Type 0
  Back q = (step q).label ≡ previous triples (inverse q.label)

  there : (q : State) → IsStrand triples w q → IsLabel triples (inverse q.label)
  there q v = inverse_label triples q.label v.is_label

  on_corner : (q : State) → IsStrand triples w q → On q → 0 < corner (inverse q.label)
  on_corner q v on =
      elim (cases_lt q.place (corner (inverse q.label))) [
        | inl b ↦ omega arith
        | inr b ↦
            absurd
            (T.sides_differ triples w given.laws given.corners (inverse q.label) (there q v)
            (sym on ∙ (T.step_round triples w given.laws given.corners q v b).0))
      ]

  back_corner : (q : State) → IsStrand triples w q → Back q → 0 < corner (previous triples (inverse q.label))
  back_corner q v back =
      elim (cases_lt q.place (corner (inverse q.label))) [
        | inl b ↦
            absurd
            (T.sides_differ triples w given.laws given.corners (inverse q.label) (there q v)
            (sym (ap (λ (p : State). p.label) (T.step_on triples w given.laws given.corners q v b)) ∙ back))
        | inr b ↦ (T.step_round triples w given.laws given.corners q v b).1
      ]

  -- the corners that a curve turns round have strands, all round the vertex

  on_corners : (run : List State) → R.Closed s run → All On run → (n : ℕ) (p : State) → O.count s p run ≢ 0
      → 0 < corner (corner_after triples n (inverse p.label))
  on_corners run c on zero p some =
      on_corner p (O.All-counted s (IsStrand triples w) p run (R.closed_valid s run c) some)
      (O.All-counted s On p run on some)
  on_corners run c on (suc n) p some =
      let turned : inverse (step p).label ≡ corner_step triples (inverse p.label) =
      ap inverse (O.All-counted s On p run on some) in
      subst (λ (x : ℤ). 0 < corner (corner_after triples n x)) turned
      (on_corners run c on n (step p) (R.closed_goes_on s p run c some))

  back_corners : (run : List State) → R.Closed s run → All Back run → (n : ℕ) (p : State) (z : ℤ) → O.count s p run ≢ 0
      → IsLabel triples z → corner_after triples n z ≡ previous triples (inverse p.label) → 0 < corner z
  back_corners run c back zero p z some l e =
      subst (λ (x : ℤ). 0 < corner x) (sym e)
      (back_corner p (O.All-counted s (IsStrand triples w) p run (R.closed_valid s run c) some)
      (O.All-counted s Back p run back some))
  back_corners run c back (suc n) p z some l e =
      let more : O.count s (step p) run ≢ 0 = R.closed_goes_on s p run c some in
      let v : IsStrand triples w (step p) =
      O.All-counted s (IsStrand triples w) (step p) run (R.closed_valid s run c) more in
      let x : ℤ = (step p).label in
      let m : IsLabel triples (inverse x) = there (step p) v in
      let here : corner_step triples (previous triples (inverse x)) ≡ x =
      ap inverse (given.laws.round (inverse x) m) ∙ inverse-inverse x in
      back_corners run c back n (step p) z more l
      (corner_step-injective triples given.laws (corner_after triples n z) (previous triples (inverse x))
      (corner_after_label triples given.laws n z l)
      (given.laws.label (next triples (inverse x)) (given.laws.label (inverse x) m))
      (sym (corner_after-suc triples n z) ∙ e ∙ sym (O.All-counted s Back p run back some) ∙ sym here))

  -- so none turns round a vertex with a free corner
  pub none_round : HasFreeCorners triples w → (run : List State) → R.Closed s run → ¬ IsPeripheral triples (word_of run)
  none_round free [] c h = c.not_empty refl
  none_round free (p ∷ run) c (some, inl on) =
      let v : IsStrand triples w p = (R.closed_at_head s p run c).0 in
      let (y, at, e) = free (inverse p.label) (there p v) in
      let here : O.count s p (p ∷ run) ≢ 0 = λ none. omega (arith, O.count-same s p p run refl) in
      let strands : 0 < corner (corner_after triples at.steps (inverse p.label)) =
      on_corners (p ∷ run) c (closed_to_steps (λ x y. y ≡ next triples (inverse x)) (p ∷ run) c on) at.steps p here in
      omega (arith, ap corner at.reached, e)
  none_round free (p ∷ run) c (some, inr back) =
      let v : IsStrand triples w p = (R.closed_at_head s p run c).0 in
      let x : ℤ = previous triples (inverse p.label) in
      let l : IsLabel triples x =
      given.laws.label (next triples (inverse p.label)) (given.laws.label (inverse p.label) (there p v)) in
      let (y, at, e) = free x l in
      let round : IsSameVertex triples y x = SameVertex-sym triples given.laws x y l at in
      let here : O.count s p (p ∷ run) ≢ 0 = λ none. omega (arith, O.count-same s p p run refl) in
      let strands : 0 < corner y =
      back_corners (p ∷ run) c
      (closed_to_steps (λ x y. y ≡ previous triples (inverse x)) (p ∷ run) c back) round.steps p y here
      (SameVertex_label triples given.laws x y l at) round.reached in
      omega (arith, e)
