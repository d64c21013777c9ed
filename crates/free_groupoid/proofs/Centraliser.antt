-- A word that commutes with letters of two different edges is empty, up to reduction.
--
-- Where u commutes with y, the words x u y u⁻¹ and x y are conjugate, so u is p w with letters of the edge of x in p
-- and of the edge of y in w. As u and p commute with x, so does w; letters of another edge alone don't, so w is
-- empty. Then u is p and commutes with y, so it is empty too.
use Rattle.std.proofs.Common.{ℤ, List, [], ◌∷◌, ◌++◌, ◌≡◌, ◌≢◌, refl, sym, ◌∙◌, ap, subst, append_assoc}
use Rattle.std.proofs.lemmas.List.{append-nil}
use Rattle.ideal_tri.specs.Labels.{edge_of}
use Rattle.ideal_tri.specs.Words.{inverse_word, IsReduced, reduce}
use Rattle.free_groupoid.proofs.Known.{Known}
use Rattle.free_groupoid.proofs.Names.{+0, +1, -1, +2, -2, by_fact}
use Rattle.free_groupoid.proofs.Carrying.{Carries, carries_by}
use Rattle.free_groupoid.proofs.Powers.{Only, power_commutes, power_alone}
use Rattle.free_groupoid.proofs.Splits.{front, front_split}
use Rattle.free_groupoid.proofs.PowerSplit.{power_split}

module _ (known : Known) where
  -- p w and p commute with x, so w does
  rest_commutes : (x : ℤ) (p w : List ℤ) → Carries p (x ∷ []) (x ∷ []) → Carries (p ++ w) (x ∷ []) (x ∷ [])
      → Carries w (x ∷ []) (x ∷ [])
  rest_commutes x p w front whole =
      by_fact known names (+0 ∷ +2 ∷ []) (-1 ∷ +0 ∷ +1 ∷ +2 ∷ []) (-1 ∷ []) (+1 ∷ +0 ∷ []) (+0 ∷ +1 ∷ []) (+2 ∷ [])
      refl (sym front) refl
      ∙ by_fact known names (-1 ∷ +0 ∷ +1 ∷ +2 ∷ []) (+2 ∷ +0 ∷ []) (-1 ∷ []) (+0 ∷ +1 ∷ +2 ∷ []) (+1 ∷ +2 ∷ +0 ∷ [])
      [] refl
      (whole ∙ ap reduce (append_assoc p w (x ∷ []))) refl
    where
      names : List (List ℤ)
      names = (x ∷ []) ∷ p ∷ w ∷ []

  -- the word in question, reduced
  centraliser_reduced : (x y : ℤ) (u : List ℤ) → edge_of x ≢ edge_of y → IsReduced u → Carries u (x ∷ []) (x ∷ [])
      → Carries u (y ∷ []) (y ∷ []) → u ≡ []
  centraliser_reduced x y u n reduced with_x with_y =
      let split = front_split x u in
      let p : List ℤ = front x u in
      let parts_reduced : IsReduced (p ++ split.rest) = subst IsReduced split.parts reduced in
      let pair : Carries [] (x ∷ (u ++ (y ∷ inverse_word u))) (x ∷ (y ∷ [])) =
      ap reduce (append-nil (x ∷ (u ++ (y ∷ inverse_word u))))
      ∙ by_fact known ((x ∷ []) ∷ (y ∷ []) ∷ u ∷ []) (+0 ∷ +2 ∷ +1 ∷ -2 ∷ []) (+0 ∷ +1 ∷ []) (+0 ∷ []) (+2 ∷ +1 ∷ [])
      (+1 ∷ +2 ∷ []) (-2 ∷ []) refl (sym with_y) refl in
      let only_y : Only y split.rest =
      power_split known x y p split.rest [] n parts_reduced split.only split.apart
      (subst (λ (z : List ℤ). Carries [] (x ∷ (z ++ (y ∷ inverse_word z))) (x ∷ (y ∷ []))) split.parts pair) in
      let no_rest : split.rest ≡ [] =
      power_alone known x y split.rest n only_y (known.words.reduction.back p split.rest parts_reduced)
      (rest_commutes x p split.rest (power_commutes known x p split.only)
      (subst (λ (z : List ℤ). Carries z (x ∷ []) (x ∷ [])) split.parts with_x)) in
      let all_front : u ≡ p = split.parts ∙ ap (λ (z : List ℤ). p ++ z) no_rest ∙ append-nil p in
      all_front
      ∙ power_alone known y x p (λ e. n (sym e)) split.only (known.words.reduction.front p split.rest parts_reduced)
      (subst (λ (z : List ℤ). Carries z (y ∷ []) (y ∷ [])) all_front with_y)

  pub centraliser : (x y : ℤ) (q : List ℤ) → edge_of x ≢ edge_of y → Carries q (x ∷ []) (x ∷ [])
      → Carries q (y ∷ []) (y ∷ []) → reduce q ≡ []
  centraliser x y q n with_x with_y =
      centraliser_reduced x y (reduce q) n (known.words.reduction.is_reduced q)
      (carries_by known q (reduce q) (x ∷ []) (x ∷ []) (sym (known.words.reduction.twice q)) with_x)
      (carries_by known q (reduce q) (y ∷ []) (y ∷ []) (sym (known.words.reduction.twice q)) with_y)
