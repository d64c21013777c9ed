-- What stands for a state of a run of strands after a flip, and by which properties of the flip runs are carried.
use Rattle.std.proofs.Common.{ℕ, ℤ, Bool, true, false, cond, List, [], ◌∷◌, ◌++◌, ◌≡◌, ◌≢◌, inl, inr, refl, sym, ◌∙◌}
use Rattle.std.proofs.Common.{ap, subst}
use Rattle.std.specs.List.{flat_map}
use Rattle.std.proofs.lemmas.Bool.{cases_Bool}
use Rattle.ideal_tri.specs.Labels.{inverse, edge_of}
use Rattle.ideal_tri.specs.Words.{inverse_word}
use Rattle.ideal_tri.specs.Vectors.{weight}
use Rattle.ideal_tri.specs.Strands.{State, IsStrand, strand_step, Runs, word_of}
use Rattle.tri_atlas.proofs.Vectors.Exits.{is_on, past, crossed, past-on, past-off, crossed-on, crossed-off}
use Rattle.tri_atlas.proofs.Vectors.Passes.{Passes}

-- strands here and there agree off edge n, and the letters of the edge between them change as pre says
pub record IsPassing (here there : List (List ℤ)) (w v : List ℕ) (n : ℕ) (pre : ℤ → List ℤ) : Type 0 where
  pub valid_here : (q : State) → IsStrand here w q → IsStrand here w (strand_step here w q)
  pub valid_there : (q : State) → IsStrand there v q → IsStrand there v (strand_step there v q)
  pub off_here : (q : State) → IsStrand here w q → is_on n q ≡ true → is_on n (strand_step here w q) ≡ false
  pub off_there : (q : State) → IsStrand there v q → is_on n q ≡ true → is_on n (strand_step there v q) ≡ false
  pub to_there : (q : State) → is_on n q ≡ false → IsStrand here w q → IsStrand there v q
  pub to_here : (q : State) → is_on n q ≡ false → IsStrand there v q → IsStrand here w q
  pub numbers : (x : ℤ) → edge_of x ≢ n → weight v x ≡ weight w x
  pub passes : (q : State) → is_on n q ≡ false → IsStrand here w q → Passes here there w v n pre q (inverse q.label)
  pub plain : (x : ℤ) → edge_of x ≡ n → pre x ≡ []

-- the image of a letter, with pre of the letter before it and of the inverse letter behind
abbrev pub image_with : (ℤ → List ℤ) → ℤ → List ℤ
image_with pre x = pre x ++ (x ∷ inverse_word (pre (inverse x)))

-- the state where it lies on edge n, or none
abbrev pub on_only : ℕ → State → List State
on_only n q = cond (is_on n q) (q ∷ []) []

-- what stands for a state of a run after the flip: the state off the edge, and the one on the edge behind it
abbrev pub carried_state : List (List ℤ) → List ℕ → ℕ → State → List State
carried_state there v n q = cond (is_on n q) [] (q ∷ on_only n (strand_step there v q))

abbrev pub carried : List (List ℤ) → List ℕ → ℕ → List State → List State
carried there v n run = flat_map (carried_state there v n) run

pub carried_state-on : (there : List (List ℤ)) (v : List ℕ) (n : ℕ) (q : State) → is_on n q ≡ true
    → carried_state there v n q ≡ []
carried_state-on there v n q e = ap (λ (b : Bool). cond b [] (q ∷ on_only n (strand_step there v q))) e

pub carried_state-off : (there : List (List ℤ)) (v : List ℕ) (n : ℕ) (q : State) → is_on n q ≡ false
    → carried_state there v n q ≡ q ∷ on_only n (strand_step there v q)
carried_state-off there v n q e = ap (λ (b : Bool). cond b [] (q ∷ on_only n (strand_step there v q))) e

-- ---- one step

module _ (there : List (List ℤ)) (v : List ℕ) (n : ℕ) where
  -- the letters of the state on the edge, or none
  pub word_of-on_only : (q : State) → word_of (on_only n q) ≡ crossed n q
  word_of-on_only q =
      elim (cases_Bool (is_on n q)) [
        | inl e ↦ ap (λ (b : Bool). word_of (cond b (q ∷ []) [])) e ∙ sym (crossed-on n q e)
        | inr e ↦ ap (λ (b : Bool). word_of (cond b (q ∷ []) [])) e ∙ sym (crossed-off n q e)
      ]

  -- a run from past the edge, begun with the state on the edge if there is one
  pub runs_on_only : (q r : State) (run : List State) → Runs there v (past there v n q) run r
      → Runs there v q (on_only n q ++ run) r
  runs_on_only q r run h =
      elim (cases_Bool (is_on n q)) [
        | inl e ↦
            subst (λ (b : Bool). Runs there v q (cond b (q ∷ []) [] ++ run) r) (sym e)
            (refl, subst (λ (p : State). Runs there v p run r) (past-on there v n q e) h)
        | inr e ↦
            subst (λ (b : Bool). Runs there v q (cond b (q ∷ []) [] ++ run) r) (sym e)
            (subst (λ (p : State). Runs there v p run r) (past-off there v n q e) h)
      ]
