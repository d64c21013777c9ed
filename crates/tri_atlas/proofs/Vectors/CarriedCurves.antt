-- A closed run is carried across a flip to a closed run that uses the same strands off the edge, and its word to the
-- image of its word, begun elsewhere.
--
-- Of two states in a row one is off the edge, so the carried run is not empty. What is carried of a state passes no
-- state off the edge but that one. What is put before the two ends of the word is the same word p, so with u for the
-- image and v for the carried word u p and p v have one reduction: u and v are conjugate, and v has nothing to reduce.
use Rattle.std.proofs.Common.{ℕ, ℤ, Bool, true, false, cond, List, [], ◌∷◌, ◌++◌, ◌≡◌, ◌≢◌, ◌<◌, ◌+◌, inl, inr, refl}
use Rattle.std.proofs.Common.{sym, ◌∙◌, ap, subst, append_assoc, arith, length, length-append, eq-eqb, eqb}
use Rattle.std.specs.List.{All, count_by, flat_map}
use Rattle.std.specs.Ordering.{int_eq}
use Rattle.std.proofs.lemmas.Bool.{cases_Bool, and_left, eqb-true}
use Rattle.std.proofs.lemmas.List.Elements.{All-nil, All-cons, All-head, All-tail, All-append}
use Rattle.std.proofs.lemmas.List.Sums.{sum_by-cons, sum_by-append}
use Rattle.ideal_tri.specs.Labels.{edge_of}
use Rattle.ideal_tri.specs.Words.{inverse_word, reduce, cyclic_reduce, IsRotation}
use Rattle.ideal_tri.specs.Strands.{State, IsStrand, same_state, strand_step, Runs, IsClosedRun, word_of}
use Rattle.tri_atlas.proofs.LowerLaws.{LowerLaws}
use Rattle.tri_atlas.proofs.Vectors.Exits.{is_on, past, crossed}
use Rattle.tri_atlas.proofs.Vectors.Carried.{IsPassing, image_with, on_only, carried_state, carried, carried_state-on}
use Rattle.tri_atlas.proofs.Vectors.Carried.{carried_state-off}
use Rattle.tri_atlas.proofs.Vectors.CarriedRuns.{Carries, carries}

-- ---- how often a carried run passes a state off the edge

same_state-apart : LowerLaws → (n : ℕ) (q p : State) → is_on n q ≡ false → is_on n p ≡ true → same_state q p ≡ false
same_state-apart laws n q p off on =
    and_left (int_eq q.label p.label) (eqb q.place p.place)
    (laws.labels.test_other q.label p.label (λ e. apart (ap edge_of e)))
  where
    apart : edge_of q.label ≢ edge_of p.label
    apart e = let yes : is_on n q ≡ true = eq-eqb (edge_of q.label) n (e ∙ eqb-true (edge_of p.label) n on) in cc

module _ (laws : LowerLaws) (there : List (List ℤ)) (v : List ℕ) (n : ℕ) (q : State) (off : is_on n q ≡ false) where
  count-on_only : (p : State) → count_by (same_state q) (on_only n p) ≡ 0
  count-on_only p =
      elim (cases_Bool (is_on n p)) [
        | inl on ↦
            (ap (λ (b : Bool). count_by (same_state q) (cond b (p ∷ []) [])) on
            ∙ sum_by-cons (λ r. cond (same_state q r) 1 0) p []
            ∙ ap (λ (b : Bool). cond b 1 0 + count_by (same_state q) []) (same_state-apart laws n q p off on))
        | inr e ↦ ap (λ (b : Bool). count_by (same_state q) (cond b (p ∷ []) [])) e
      ]

  count-carried_state : (p : State) → count_by (same_state q) (carried_state there v n p) ≡ cond (same_state q p) 1 0
  count-carried_state p =
      elim (cases_Bool (is_on n p)) [
        | inl on ↦
            (ap (count_by (same_state q)) (carried_state-on there v n p on)
            ∙ sym (ap (λ (b : Bool). cond b 1 0) (same_state-apart laws n q p off on)))
        | inr e ↦
            (ap (count_by (same_state q)) (carried_state-off there v n p e)
            ∙ omega (
              arith,
              sum_by-cons (λ r. cond (same_state q r) 1 0) p
                  (on_only n (strand_step there v p)),
              count-on_only (strand_step there v p),
            ))
      ]

  pub count-carried : (run : List State) → count_by (same_state q) (carried there v n run) ≡ count_by (same_state q) run
  count-carried [] = refl
  count-carried (p ∷ run) =
      omega (
        arith,
        sum_by-append (λ r. cond (same_state q r) 1 0) (carried_state there v n p) (carried there v n run),
        sum_by-cons (λ r. cond (same_state q r) 1 0) p run,
        count-carried_state p,
        count-carried run,
      )

-- ---- closed runs

module _ (laws : LowerLaws) (here there : List (List ℤ)) (w v : List ℕ) (n : ℕ)
    (pre : ℤ → List ℤ)
    (h : IsPassing here there w v n pre) where
  abbrev pub carry : List State → List State
  carry run = carried there v n run

  valid-on_only : (q : State) → IsStrand there v q → All (IsStrand there v) (on_only n q)
  valid-on_only q s =
      elim (cases_Bool (is_on n q)) [
        | inl e ↦ subst (λ (b : Bool). All (IsStrand there v) (cond b (q ∷ []) [])) (sym e)
            (All-cons (IsStrand there v) q [] s (All-nil (IsStrand there v)))
        | inr e ↦ subst (λ (b : Bool). All (IsStrand there v) (cond b (q ∷ []) [])) (sym e) (All-nil (IsStrand there v))
      ]

  valid-carried_state : (q : State) → IsStrand here w q → All (IsStrand there v) (carried_state there v n q)
  valid-carried_state q s =
      elim (cases_Bool (is_on n q)) [
        | inl e ↦ subst (All (IsStrand there v)) (sym (carried_state-on there v n q e)) (All-nil (IsStrand there v))
        | inr e ↦
            (let valid : IsStrand there v q = h.to_there q e s in
            subst (All (IsStrand there v)) (sym (carried_state-off there v n q e))
            (All-cons (IsStrand there v) q (on_only n (strand_step there v q)) valid
            (valid-on_only (strand_step there v q) (h.valid_there q valid))))
      ]

  valid-carry : (run : List State) → All (IsStrand here w) run → All (IsStrand there v) (carry run)
  valid-carry [] s = All-nil (IsStrand there v)
  valid-carry (q ∷ run) s =
      All-append (IsStrand there v) (carried_state there v n q) (carry run)
      (valid-carried_state q (All-head (IsStrand here w) q run s))
      (valid-carry run (All-tail (IsStrand here w) q run s))

  -- something is carried of a state off the edge
  carried_some : (q : State) (run : List State) → is_on n q ≡ false → 0 < length (carried_state there v n q ++ run)
  carried_some q run e =
      subst (λ (r : List State). 0 < length (r ++ run)) (sym (carried_state-off there v n q e)) (omega arith)

  -- of two states in a row one is off the edge
  some_carried : (q r : State) (run : List State) → 0 < length run → IsStrand here w q → Runs here w q run r → r ≡ q
      → 0 < length (carry run)
  some_carried q r [] some s runs back = absurd (omega arith)
  some_carried q r (p ∷ run) some s (at, rest) back =
      elim (cases_Bool (is_on n p)) [
        | inr off ↦ carried_some p (carry run) off
        | inl on ↦ (let next = h.off_here q s (subst (λ (t : State). is_on n t ≡ true) at on) in later run rest next on)
      ]
    where
      longer : (xs ys : List State) → 0 < length ys → 0 < length (xs ++ ys)
      longer xs ys l = omega (arith, length-append xs ys)

      later : (more : List State) → Runs here w (strand_step here w q) more r → is_on n (strand_step here w q) ≡ false
          → is_on n p ≡ true
          → 0 < length (carried_state there v n p ++ carry more)
      later [] end off on =
          let no : is_on n p ≡ false = ap (is_on n) (at ∙ sym back ∙ sym end) ∙ off in
          absurd (let both : true ≡ false = sym on ∙ no in cc)
      later (t ∷ more) (then, _) off on =
          longer (carried_state there v n p) (carry (t ∷ more)) (carried_some t (carry more) (ap (is_on n) then ∙ off))

  first_valid : (run : List State) (c : IsClosedRun here w run) → IsStrand here w c.start
  first_valid [] c = absurd (let some : 0 < 0 = c.not_empty in omega arith)
  first_valid (q ∷ run) c = subst (IsStrand here w) c.closes.0 (All-head (IsStrand here w) q run c.strands)

  pub carried_closed : (run : List State) → IsClosedRun here w run → IsClosedRun there v (carry run)
  carried_closed run c =
      let goes : Carries laws here there w v n pre h c.start run c.start =
      carries laws here there w v n pre h c.start c.start run (first_valid run c) c.closes in
      record {
        start = past here w n c.start;
        not_empty = some_carried c.start c.start run c.not_empty (first_valid run c) c.closes refl;
        strands = valid-carry run c.strands;
        closes = goes.runs;
      }

  -- the word of a closed run is carried to its image, begun elsewhere
  pub carried_word : (run : List State) → IsClosedRun here w run
      → IsRotation (cyclic_reduce (flat_map (image_with pre) (word_of run))) (cyclic_reduce (word_of (carry run)))
  carried_word run c =
      let goes : Carries laws here there w v n pre h c.start run c.start =
      carries laws here there w v n pre h c.start c.start run (first_valid run c) c.closes in
      laws.words.cyclic.conjugate end image carried_letters
      (laws.words.reduction.right (inverse_word end) (image ++ end) (end ++ carried_letters)
      (goes.words ∙ ap reduce
      (sym (append_assoc (crossed n c.start) (pre (past here w n c.start).label) carried_letters)))
      ∙ ap (λ (u : List ℤ). reduce (inverse_word end ++ (u ++ carried_letters))) (sym (laws.words.inverses.twice end))
      ∙ laws.words.reduction.cancel [] (inverse_word end) carried_letters)
    where
      end : List ℤ
      end = crossed n c.start ++ pre (past here w n c.start).label

      image : List ℤ
      image = flat_map (image_with pre) (word_of run)

      carried_letters : List ℤ
      carried_letters = word_of (carried there v n run)
