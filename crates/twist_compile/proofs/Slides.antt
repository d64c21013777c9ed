-- The map of a flip that moves the two labels of one edge to the other triangle each.
--
-- The flipped edge is that of a letter `front`. Where the sides b and d of the flip are p and ~p, it puts that letter
-- before p and behind it, whichever of the two labels of its edge the flip names.
use Rattle.std.proofs.Common.{ℤ, Bool, List, [], ◌∷◌, ◌++◌, ◌≡◌, ◌≢◌, sym, ◌∙◌, ap}
use Rattle.std.specs.Prelude.{if◌then◌else◌}
use Rattle.std.specs.Ordering.{int_eq}
use Rattle.ideal_tri.specs.Labels.{inverse}
use Rattle.ideal_tri.specs.LabelLaws.{LabelLaws}
use Rattle.ideal_tri.specs.Words.{inverse_word}
use Rattle.tri_atlas.specs.Maps.{step_before, flip_image}
use Rattle.twist_compile.proofs.ExchangedLabels.{inverse-flips}

-- e is the letter and b is p, or e is its inverse and d is p
pub data Slides (p front e b d : ℤ) : Type 0 where
  at_b : e ≡ front → b ≡ p → d ≡ inverse p → Slides p front e b d
  at_d : e ≡ inverse front → b ≡ inverse p → d ≡ p → Slides p front e b d

module _ (labels : LabelLaws) where
  -- the backward flip has the inverse letter
  pub Slides-back : (p front e b d : ℤ) → Slides p front e b d → Slides p (inverse front) (inverse e) b d
  Slides-back p front e b d (at_b is is_b is_d) = at_b (ap inverse is) is_b is_d
  Slides-back p front e b d (at_d is is_b is_d) = at_d (ap inverse is) is_b is_d

  -- ---- what stands before a letter

  step-b : (e b d x : ℤ) → x ≡ b → step_before e b d x ≡ e ∷ []
  step-b e b d x h =
      ap (λ (t : Bool). if t then e ∷ [] else if int_eq x d then inverse e ∷ [] else []) (labels.test_same x b h)

  skips-b : (e b d x : ℤ) → x ≢ b → step_before e b d x ≡ (if int_eq x d then inverse e ∷ [] else [])
  skips-b e b d x n =
      ap (λ (t : Bool). if t then e ∷ [] else if int_eq x d then inverse e ∷ [] else []) (labels.test_other x b n)

  step-d : (e b d x : ℤ) → x ≢ b → x ≡ d → step_before e b d x ≡ inverse e ∷ []
  step-d e b d x n h =
      skips-b e b d x n ∙ ap (λ (t : Bool). if t then inverse e ∷ [] else []) (labels.test_same x d h)

  step-none : (e b d x : ℤ) → x ≢ b → x ≢ d → step_before e b d x ≡ []
  step-none e b d x n m =
      skips-b e b d x n ∙ ap (λ (t : Bool). if t then inverse e ∷ [] else []) (labels.test_other x d m)

  module _ (p front e b d : ℤ) where
    step-p : Slides p front e b d → step_before e b d p ≡ front ∷ []
    step-p (at_b is is_b is_d) = step-b e b d p (sym is_b) ∙ ap (λ (y : ℤ). y ∷ []) is
    step-p (at_d is is_b is_d) =
        step-d e b d p (λ h. labels.apart p (h ∙ is_b)) (sym is_d)
        ∙ ap (λ (y : ℤ). y ∷ []) (ap inverse is ∙ labels.twice front)

    step-p_back : Slides p front e b d → step_before e b d (inverse p) ≡ inverse front ∷ []
    step-p_back (at_b is is_b is_d) =
        step-d e b d (inverse p) (λ h. labels.apart p (sym (h ∙ is_b))) (sym is_d)
        ∙ ap (λ (y : ℤ). inverse y ∷ []) is
    step-p_back (at_d is is_b is_d) = step-b e b d (inverse p) (sym is_b) ∙ ap (λ (y : ℤ). y ∷ []) is

    step-other : Slides p front e b d → (x : ℤ) → x ≢ p → x ≢ inverse p → step_before e b d x ≡ []
    step-other (at_b is is_b is_d) x n m = step-none e b d x (λ h. n (h ∙ is_b)) (λ h. m (h ∙ is_d))
    step-other (at_d is is_b is_d) x n m = step-none e b d x (λ h. m (h ∙ is_b)) (λ h. n (h ∙ is_d))

    -- ---- the image of a letter

    pub slide-p : Slides p front e b d → flip_image e b d p ≡ front ∷ (p ∷ (front ∷ []))
    slide-p h =
        ap (λ (w : List ℤ). w ++ (p ∷ inverse_word (step_before e b d (inverse p)))) (step-p h)
        ∙ ap (λ (w : List ℤ). front ∷ (p ∷ inverse_word w)) (step-p_back h)
        ∙ ap (λ (y : ℤ). front ∷ (p ∷ (y ∷ []))) (labels.twice front)

    pub slide-p_back : Slides p front e b d
        → flip_image e b d (inverse p) ≡ inverse front ∷ (inverse p ∷ (inverse front ∷ []))
    slide-p_back h =
        ap (λ (w : List ℤ). w ++ (inverse p ∷ inverse_word (step_before e b d (inverse (inverse p))))) (step-p_back h)
        ∙ ap (λ (y : ℤ). inverse front ∷ (inverse p ∷ inverse_word (step_before e b d y))) (labels.twice p)
        ∙ ap (λ (w : List ℤ). inverse front ∷ (inverse p ∷ inverse_word w)) (step-p h)

    pub slide-other : Slides p front e b d → (x : ℤ) → x ≢ p → x ≢ inverse p → flip_image e b d x ≡ x ∷ []
    slide-other h x n m =
        ap (λ (w : List ℤ). w ++ (x ∷ inverse_word (step_before e b d (inverse x)))) (step-other h x n m)
        ∙ ap (λ (w : List ℤ). x ∷ inverse_word w)
        (step-other h (inverse x) (λ k. m (inverse-flips labels x p k))
        (λ k. n (inverse-flips labels x (inverse p) k ∙ labels.twice p)))
