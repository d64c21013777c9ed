-- Reduced words: how two are glued, and words whose letters all have a property.
use Rattle.std.proofs.Common.{ℤ, List, [], ◌∷◌, ◌++◌, ◌≢◌, ◌∙◌, ap}
use Rattle.std.specs.List.{All}
use Rattle.std.proofs.lemmas.List.Elements.{All-nil, All-cons, All-head, All-tail, All-append}
use Rattle.ideal_tri.specs.Labels.{inverse, edge_of}
use Rattle.ideal_tri.specs.Words.{inverse_word, IsReduced, reduce, Deletes, DeletesAll, pair, done, more}
use Rattle.free_groupoid.proofs.Known.{Known}

-- ---- neighbours of different edges

pub apart : Known → (x y : ℤ) → edge_of x ≢ edge_of y → x ≢ inverse y
apart known x y n e = n (ap edge_of e ∙ known.labels.edge y)

-- letters of different edges may stand side by side
pub IsReduced-join : Known → (u : List ℤ) (x y : ℤ) (v : List ℤ) → edge_of y ≢ edge_of x → IsReduced (u ++ (x ∷ []))
    → IsReduced (y ∷ v)
    → IsReduced (u ++ (x ∷ (y ∷ v)))
IsReduced-join known u x y v n h k = known.words.reduction.glue u x (y ∷ v) h (apart known y x n, k)

-- ---- letters

module _ (P : ℤ → Type 0) where
  pub All-parts : (u v : List ℤ) → All P (u ++ v) → All P u × All P v
  All-parts [] v h = (All-nil P, h)
  All-parts (x ∷ u) v h =
      let rest = All-parts u v (All-tail P x (u ++ v) h) in
      (All-cons P x u (All-head P x (u ++ v) h) rest.0, rest.1)

  deletion-keeps : (v w : List ℤ) → Deletes v w → All P v → All P w
  deletion-keeps v w (pair u x t) h =
      let parts = All-parts u (x ∷ (inverse x ∷ t)) h in
      All-append P u t parts.0 (All-tail P (inverse x) t (All-tail P x (inverse x ∷ t) parts.1))

  deletions-keep : (v w : List ℤ) → DeletesAll v w → All P v → All P w
  deletions-keep v w (done t) h = h
  deletions-keep v w (more {u = a} {v = b} {w = c} d rest) h = deletions-keep b c rest (deletion-keeps a b d h)

  -- what holds of each letter of a word holds of each letter of its reduction
  pub reduce-keeps : Known → (w : List ℤ) → All P w → All P (reduce w)
  reduce-keeps known w h = deletions-keep w (reduce w) (known.words.reduction.reached w) h

  pub inverse_word-keeps : ((x : ℤ) → P x → P (inverse x)) → (w : List ℤ) → All P w → All P (inverse_word w)
  inverse_word-keeps both [] h = h
  inverse_word-keeps both (x ∷ w) h =
      All-append P (inverse_word w) (inverse x ∷ []) (inverse_word-keeps both w (All-tail P x w h))
      (All-cons P (inverse x) [] (both x (All-head P x w h)) (All-nil P))
