-- The words of a drawing are closed walks and have nothing to reduce.
--
-- A strand leaves a triangle by another side than the one where it enters: the next letter starts in the triangle where
-- the one before ends, and is not its inverse. This holds all round, since the last state steps to the first.
use Rattle.std.proofs.Common.{ℕ, ℤ, Bool, true, false, cond, leb, List, [], ◌∷◌, ◌++◌, ◌≡◌, ◌≢◌, ◌<◌, ◌-◌, ◌⊎◌, inl}
use Rattle.std.proofs.Common.{inr, refl, sym, ◌∙◌, ap, subst, arith, length}
use Rattle.std.specs.List.{All}
use Rattle.std.proofs.lemmas.List.Elements.{All-head, All-tail, All-map, All-weaker}
use Rattle.ideal_tri.specs.Labels.{inverse}
use Rattle.ideal_tri.specs.Words.{IsReduced, IsCyclicallyReduced}
use Rattle.ideal_tri.specs.Triangulations.{IsLabel, IsWalk, triangle_of, next, previous}
use Rattle.ideal_tri.specs.Vectors.{weight, corner_count}
use Rattle.ideal_tri.specs.Strands.{State, state_at, IsStrand, strand_step, Runs, IsClosedRun, IsDrawing, word_of}
use Rattle.ideal_tri.specs.Strands.{words_of}
use Rattle.ideal_tri.specs.SurfaceLaws.{TriangleLaws}
use Rattle.ideal_tri.proofs.Labels.{inverse_label}

-- ---- one step

label_of_either : (b : Bool) (r s : State) → ((cond b r s).label ≡ r.label) ⊎ ((cond b r s).label ≡ s.label)
label_of_either true r s = inl refl
label_of_either false r s = inr refl

-- a strand leaves a triangle by one of the two sides beside the one where it enters
pub step_turns : (triples : List (List ℤ)) (w : List ℕ) (q : State)
    → ((strand_step triples w q).label ≡ next triples (inverse q.label))
    ⊎ ((strand_step triples w q).label ≡ previous triples (inverse q.label))
step_turns triples w q =
    let x : ℤ = inverse q.label in
    let i : ℕ = weight w q.label - 1 - q.place in
    label_of_either (leb (corner_count triples w (previous triples x)) i)
    (state_at (next triples x) (weight w x - 1 - i))
    (state_at (previous triples x) (weight w (previous triples x) - 1 - i))

-- so it doesn't go back
pub step_goes_on : (triples : List (List ℤ)) (w : List ℕ) (q : State) → TriangleLaws triples → IsLabel triples q.label
    → (strand_step triples w q).label ≢ inverse q.label
step_goes_on triples w q laws l e =
    elim (step_turns triples w q) [
      | inl t ↦ (laws.moves (inverse q.label) (inverse_label triples q.label l)).0 (sym t ∙ e)
      | inr t ↦ (laws.moves (inverse q.label) (inverse_label triples q.label l)).1 (sym t ∙ e)
    ]

-- and its next letter starts in the triangle where it is
pub step_triangle : (triples : List (List ℤ)) (w : List ℕ) (q : State) → TriangleLaws triples → IsLabel triples q.label
    → triangle_of triples (strand_step triples w q).label ≡ triangle_of triples (inverse q.label)
step_triangle triples w q laws l =
    elim (step_turns triples w q) [
      | inl t ↦ ap (triangle_of triples) t ∙ laws.stays x there
      | inr t ↦ ap (triangle_of triples) t ∙ laws.stays (next triples x) (laws.label x there) ∙ laws.stays x there
    ]
  where
    x : ℤ
    x = inverse q.label

    there : IsLabel triples (inverse q.label)
    there = inverse_label triples q.label l

-- ---- runs

abbrev OnLabels : List (List ℤ) → List State → Type 0
OnLabels triples run = All (λ p. IsLabel triples p.label) run

-- a run goes along a walk
pub run_walks : (triples : List (List ℤ)) (w : List ℕ) (q r : State) (run : List State) → TriangleLaws triples
    → OnLabels triples run
    → Runs triples w q run r → IsWalk triples (triangle_of triples q.label) (word_of run) (triangle_of triples r.label)
run_walks triples w q r [] laws on h = ap (λ (p : State). triangle_of triples p.label) h
run_walks triples w q r (p ∷ run) laws on h =
    let here : IsLabel triples p.label = All-head (λ (s : State). IsLabel triples s.label) p run on in
    let rest : IsWalk triples (triangle_of triples (strand_step triples w q).label) (word_of run)
    (triangle_of triples r.label) =
    run_walks triples w (strand_step triples w q) r run laws
    (All-tail (λ (s : State). IsLabel triples s.label) p run on) h.1 in
    let from : triangle_of triples (strand_step triples w q).label ≡ triangle_of triples (inverse p.label) =
    step_triangle triples w q laws (subst (λ (s : State). IsLabel triples s.label) h.0 here)
    ∙ ap (λ (s : State). triangle_of triples (inverse s.label)) (sym h.0) in (
      here,
      ap (λ (s : State). triangle_of triples s.label) h.0,
      subst (λ (t : ℕ). IsWalk triples t (word_of run) (triangle_of triples r.label)) from rest,
    )

-- the letters of a run, with the one after it, have nothing to reduce
pub run_reduced : (triples : List (List ℤ)) (w : List ℕ) (q r : State) (run : List State) → TriangleLaws triples
    → OnLabels triples run
    → Runs triples w q run r → IsReduced (word_of run ++ (r.label ∷ []))
run_reduced triples w q r [] laws on h = tt
run_reduced triples w q r (p ∷ []) laws on h = (
  λ e. step_goes_on triples w p laws (All-head (λ (s : State). IsLabel triples s.label) p [] on)
      (ap (λ (s : State). (strand_step triples w s).label) h.0 ∙ ap (λ (s : State). s.label) h.1 ∙ e),
  tt,
)
run_reduced triples w q r (p ∷ (p' ∷ run)) laws on h = (
  λ e. step_goes_on triples w p laws (All-head (λ (s : State). IsLabel triples s.label) p (p' ∷ run) on)
      (ap (λ (s : State). (strand_step triples w s).label) h.0 ∙ ap (λ (s : State). s.label) (sym h.1.0) ∙ e),
  run_reduced triples w (strand_step triples w q) r (p' ∷ run) laws
      (All-tail (λ (s : State). IsLabel triples s.label) p (p' ∷ run) on) h.1,
)

run_closes_up : (triples : List (List ℤ)) (w : List ℕ) (q : State) (run : List State) → TriangleLaws triples
    → OnLabels triples run
    → 0 < length run → Runs triples w q run q → IsCyclicallyReduced (word_of run)
run_closes_up triples w q [] laws on some h = absurd (omega arith)
run_closes_up triples w q (p ∷ run) laws on some h =
    subst (λ (s : State). IsReduced (word_of (p ∷ run) ++ (s.label ∷ []))) (sym h.0)
    (run_reduced triples w q q (p ∷ run) laws on h)

strands_on_labels : (triples : List (List ℤ)) (w : List ℕ) (run : List State) → IsClosedRun triples w run
    → OnLabels triples run
strands_on_labels triples w run c =
    All-weaker (IsStrand triples w) (λ (p : State). IsLabel triples p.label) (λ p s. s.is_label) run c.strands

-- ---- the words of a drawing

pub drawing_walks : (triples : List (List ℤ)) (w : List ℕ) (runs : List (List State)) → TriangleLaws triples
    → IsDrawing triples w runs
    → All (λ word. (t : ℕ) × IsWalk triples t word t) (words_of runs)
drawing_walks triples w runs laws d =
    All-map (λ (word : List ℤ). (t : ℕ) × IsWalk triples t word t) word_of runs
    (All-weaker (IsClosedRun triples w) (λ (run : List State). (t : ℕ) × IsWalk triples t (word_of run) t)
    (λ run c. (
      triangle_of triples c.start.label,
      run_walks triples w c.start c.start run laws (strands_on_labels triples w run c) c.closes,
    )) runs d.closed)

pub drawing_reduced : (triples : List (List ℤ)) (w : List ℕ) (runs : List (List State)) → TriangleLaws triples
    → IsDrawing triples w runs
    → All IsCyclicallyReduced (words_of runs)
drawing_reduced triples w runs laws d =
    All-map IsCyclicallyReduced word_of runs
    (All-weaker (IsClosedRun triples w) (λ (run : List State). IsCyclicallyReduced (word_of run))
    (λ run c. run_closes_up triples w c.start run laws
    (strands_on_labels triples w run c) c.not_empty c.closes) runs d.closed)
