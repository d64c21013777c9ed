-- Reduced words and the letters put behind them, from the laws of the reduction.
use Rattle.std.proofs.Common.{ℤ, List, [], ◌∷◌, ◌++◌, ◌≡◌, ◌≢◌, sym, ◌∙◌, ap, subst, append_assoc}
use Rattle.ideal_tri.specs.Labels.{inverse}
use Rattle.ideal_tri.specs.Words.{IsReduced, reduce}
use Rattle.ideal_tri.specs.LabelLaws.{LabelLaws}
use Rattle.ideal_tri.specs.WordLaws.{ReductionLaws}

-- ---- reduced words

-- a letter may follow a reduced word whose last letter is not its inverse
pub IsReduced-append_letter : LabelLaws → ReductionLaws → (u : List ℤ) (y x : ℤ) → IsReduced (u ++ (y ∷ []))
    → y ≢ inverse x
    → IsReduced ((u ++ (y ∷ [])) ++ (x ∷ []))
IsReduced-append_letter l r u y x h n =
    subst IsReduced (sym (append_assoc u (y ∷ []) (x ∷ [])))
    (r.glue u y (x ∷ []) h (λ e. n (sym (l.twice y) ∙ ap inverse (sym e)), tt))

-- ---- reductions of words that are put together

pub reduce-pair : ReductionLaws → (u : List ℤ) (y : ℤ) (v : List ℤ)
    → reduce (u ++ (y ∷ (inverse y ∷ v))) ≡ reduce (u ++ v)
reduce-pair r u y v = r.cancel u (y ∷ []) v

-- a word may be reduced before another follows it
pub reduce-left : ReductionLaws → (u v : List ℤ) → reduce (reduce u ++ v) ≡ reduce (u ++ v)
reduce-left r u v =
    r.append (reduce u) v
    ∙ ap (λ (w : List ℤ). reduce (w ++ reduce v)) (r.fixed (reduce u) (r.is_reduced u))
    ∙ sym (r.append u v)
