-- Conjugators of letters of different edges, where the products of the letters are conjugated too, come from one
-- word.
--
-- Let a carry the letter x to X, b carry y to Y, and some word carry x y to X Y. With u the reduction of a b⁻¹, the
-- word x u y u⁻¹ is conjugate to x y, so u is p w with letters of the edge of x in p and of the edge of y in w. Then
-- h = p⁻¹ a, which is w b up to reduction, carries x to X and y to Y.
use Rattle.std.proofs.Common.{ℤ, List, [], ◌∷◌, ◌++◌, ◌≡◌, ◌≢◌, refl, sym, ◌∙◌, ap, subst, append_assoc}
use Rattle.ideal_tri.specs.Labels.{edge_of}
use Rattle.ideal_tri.specs.Words.{inverse_word, IsReduced, reduce}
use Rattle.free_groupoid.specs.inside.InnerPaths.{shared}
use Rattle.free_groupoid.proofs.Known.{Known}
use Rattle.free_groupoid.proofs.Names.{+0, +1, +2, -2, +3, -3, +4, -4, +5, +6, -6, +7, -7, by_fact}
use Rattle.free_groupoid.proofs.Carrying.{Carries}
use Rattle.free_groupoid.proofs.Powers.{Only, power_commutes}
use Rattle.free_groupoid.proofs.Splits.{front, front_split}
use Rattle.free_groupoid.proofs.PowerSplit.{power_split}

-- a carries x to the first word, b carries y to the second, and some word carries x y to their product
pub record IsPair (x y : ℤ) (a b first second : List ℤ) : Type 0 where
  pub apart : edge_of x ≢ edge_of y
  pub one : Carries a (x ∷ []) first
  pub other : Carries b (y ∷ []) second
  pub both : List ℤ
  pub product : Carries both (x ∷ (y ∷ [])) (first ++ second)

-- the letters from one conjugator to the other
abbrev pub between : List ℤ → List ℤ → List ℤ
between a b = reduce (a ++ inverse_word b)

module _ (known : Known) where
  between_carries : (x y : ℤ) (a b first second : List ℤ) (pair : IsPair x y a b first second)
      → Carries (a ++ inverse_word pair.both) (x ∷ (between a b ++ (y ∷ inverse_word (between a b)))) (x ∷ (y ∷ []))
  between_carries x y a b first second pair =
      ap (λ (z : List ℤ). reduce (x ∷ z)) (append_assoc u (y ∷ inverse_word u) (a ++ inverse_word q))
      ∙ by_fact known names (+0 ∷ +7 ∷ +1 ∷ -7 ∷ +2 ∷ -6 ∷ []) (+0 ∷ +2 ∷ -3 ∷ +1 ∷ -7 ∷ +2 ∷ -6 ∷ [])
      (+0 ∷ []) (+7 ∷ []) (+2 ∷ -3 ∷ []) (+1 ∷ -7 ∷ +2 ∷ -6 ∷ []) refl
      (known.words.reduction.twice (a ++ inverse_word b)) refl
      ∙ by_fact known names (+0 ∷ +2 ∷ -3 ∷ +1 ∷ -7 ∷ +2 ∷ -6 ∷ []) (+0 ∷ +2 ∷ -3 ∷ +1 ∷ +3 ∷ -6 ∷ [])
      (+0 ∷ +2 ∷ -3 ∷ +1 ∷ +3 ∷ -2 ∷ []) (+2 ∷ -3 ∷ []) (+7 ∷ []) (-7 ∷ +2 ∷ -6 ∷ []) refl
      (sym (known.words.reduction.twice (a ++ inverse_word b))) refl
      ∙ by_fact known names (+0 ∷ +2 ∷ -3 ∷ +1 ∷ +3 ∷ -6 ∷ []) (+2 ∷ +4 ∷ -3 ∷ +1 ∷ +3 ∷ -6 ∷ [])
      [] (+0 ∷ +2 ∷ []) (+2 ∷ +4 ∷ []) (-3 ∷ +1 ∷ +3 ∷ -6 ∷ []) refl pair.one refl
      ∙ by_fact known names (+2 ∷ +4 ∷ -3 ∷ +1 ∷ +3 ∷ -6 ∷ []) (+2 ∷ +4 ∷ +5 ∷ -6 ∷ [])
      (+2 ∷ +4 ∷ -3 ∷ []) (+1 ∷ +3 ∷ []) (+3 ∷ +5 ∷ []) (-6 ∷ []) refl pair.other refl
      ∙ by_fact known names (+2 ∷ +4 ∷ +5 ∷ -6 ∷ []) (+2 ∷ -6 ∷ +0 ∷ +1 ∷ [])
      (+2 ∷ -6 ∷ []) (+6 ∷ +4 ∷ +5 ∷ []) (+0 ∷ +1 ∷ +6 ∷ []) (-6 ∷ []) refl (sym pair.product) refl
      ∙ ap reduce (sym (append_assoc a (inverse_word q) (x ∷ (y ∷ []))))
    where
      u : List ℤ
      u = between a b

      q : List ℤ
      q = pair.both

      names : List (List ℤ)
      names = (x ∷ []) ∷ (y ∷ []) ∷ a ∷ b ∷ first ∷ second ∷ q ∷ u ∷ []

  -- behind the front of letters of the edge of x there are letters of the edge of y alone
  pub between_split : (x y : ℤ) (a b first second : List ℤ) → IsPair x y a b first second
      → Only y (front_split x (between a b)).rest
  between_split x y a b first second pair =
      let split = front_split x (between a b) in
      power_split known x y (front x (between a b)) split.rest (a ++ inverse_word pair.both) pair.apart
      (subst IsReduced split.parts (known.words.reduction.is_reduced (a ++ inverse_word b))) split.only split.apart
      (subst (λ (z : List ℤ). Carries (a ++ inverse_word pair.both) (x ∷ (z ++ (y ∷ inverse_word z))) (x ∷ (y ∷ [])))
      split.parts
      (between_carries x y a b first second pair))

  -- ---- two letters

  -- the shared word is a without letters of the edge of x, and b with letters of the edge of y
  shared_is : (x : ℤ) (a b : List ℤ) → reduce (shared x a b) ≡ reduce (inverse_word (front x (between a b)) ++ a)
  shared_is x a b = known.words.reduction.twice (inverse_word (front x (between a b)) ++ a)

  pub shared_carries_one : (x y : ℤ) (a b first second : List ℤ) → IsPair x y a b first second
      → Carries (shared x a b) (x ∷ []) first
  shared_carries_one x y a b first second pair =
      by_fact known names (+0 ∷ +1 ∷ []) (+0 ∷ -3 ∷ +2 ∷ []) (+0 ∷ []) (+1 ∷ []) (-3 ∷ +2 ∷ []) [] refl
      (shared_is x a b) refl
      ∙ by_fact known names (+0 ∷ -3 ∷ +2 ∷ []) (-3 ∷ +0 ∷ +2 ∷ []) (-3 ∷ []) (+3 ∷ +0 ∷ []) (+0 ∷ +3 ∷ [])
      (-3 ∷ +2 ∷ [])
      refl (sym (power_commutes known x p (front_split x (between a b)).only)) refl
      ∙ by_fact known names (-3 ∷ +0 ∷ +2 ∷ []) (-3 ∷ +2 ∷ +4 ∷ []) (-3 ∷ []) (+0 ∷ +2 ∷ []) (+2 ∷ +4 ∷ []) [] refl
      pair.one refl
      ∙ by_fact known names (-3 ∷ +2 ∷ +4 ∷ []) (+1 ∷ +4 ∷ []) [] (-3 ∷ +2 ∷ []) (+1 ∷ []) (+4 ∷ []) refl
      (sym (shared_is x a b)) refl
    where
      p : List ℤ
      p = front x (between a b)

      names : List (List ℤ)
      names = (x ∷ []) ∷ shared x a b ∷ a ∷ p ∷ first ∷ []

  pub shared_carries_other : (x y : ℤ) (a b first second : List ℤ) → IsPair x y a b first second
      → Carries (shared x a b) (y ∷ []) second
  shared_carries_other x y a b first second pair =
      by_fact known names (+0 ∷ +1 ∷ []) (+0 ∷ +5 ∷ +3 ∷ []) (+0 ∷ []) (+1 ∷ []) (+5 ∷ +3 ∷ []) [] refl behind refl
      ∙ by_fact known names (+0 ∷ +5 ∷ +3 ∷ []) (+5 ∷ +0 ∷ +3 ∷ []) [] (+0 ∷ +5 ∷ []) (+5 ∷ +0 ∷ []) (+3 ∷ [])
      refl (power_commutes known y w (between_split x y a b first second pair)) refl
      ∙ by_fact known names (+5 ∷ +0 ∷ +3 ∷ []) (+5 ∷ +3 ∷ +6 ∷ []) (+5 ∷ []) (+0 ∷ +3 ∷ []) (+3 ∷ +6 ∷ []) [] refl
      pair.other refl
      ∙ by_fact known names (+5 ∷ +3 ∷ +6 ∷ []) (+1 ∷ +6 ∷ []) [] (+5 ∷ +3 ∷ []) (+1 ∷ []) (+6 ∷ []) refl (sym behind)
      refl
    where
      p : List ℤ
      p = front x (between a b)

      w : List ℤ
      w = (front_split x (between a b)).rest

      names : List (List ℤ)
      names = (y ∷ []) ∷ shared x a b ∷ a ∷ b ∷ p ∷ w ∷ second ∷ []

      whole : reduce (a ++ inverse_word b) ≡ reduce (p ++ w)
      whole = sym (known.words.reduction.twice (a ++ inverse_word b)) ∙ ap reduce (front_split x (between a b)).parts

      behind : reduce (shared x a b) ≡ reduce (w ++ b)
      behind =
          shared_is x a b
          ∙ by_fact known names (-4 ∷ +2 ∷ []) (+5 ∷ +3 ∷ []) (-4 ∷ []) (+2 ∷ -3 ∷ []) (+4 ∷ +5 ∷ []) (+3 ∷ []) refl
          whole refl
