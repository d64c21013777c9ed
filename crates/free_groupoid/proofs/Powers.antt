-- Words whose letters all are of one edge: they commute with its letters, and with no other letter.
use Rattle.std.proofs.Common.{ℤ, List, [], ◌∷◌, ◌++◌, ◌≡◌, ◌≢◌, ◌⊎◌, inl, inr, refl, sym, ◌∙◌, ap, subst}
use Rattle.std.specs.List.{All}
use Rattle.std.proofs.lemmas.List.Elements.{All-nil, All-cons, All-head, All-tail}
use Rattle.ideal_tri.specs.Labels.{inverse, edge_of}
use Rattle.ideal_tri.specs.Words.{IsReduced}
use Rattle.free_groupoid.proofs.Known.{Known}
use Rattle.free_groupoid.proofs.Names.{+0, -0, +1, by_fact}
use Rattle.free_groupoid.proofs.Carrying.{Carries}
use Rattle.free_groupoid.proofs.Reduced.{apart}

-- each letter is of the edge of x
abbrev pub Only : ℤ → List ℤ → Type 0
Only x w = All (λ y. edge_of y ≡ edge_of x) w

-- the first letter, if any, is not of the edge of x
abbrev pub StartsApart : ℤ → List ℤ → Type 0
StartsApart x [] = Unit {0}
StartsApart x (y ∷ w) = edge_of y ≢ edge_of x

pub Only-head : (x y : ℤ) (w : List ℤ) → Only x (y ∷ w) → edge_of y ≡ edge_of x
Only-head x y w h = All-head (λ y. edge_of y ≡ edge_of x) y w h

pub Only-tail : (x y : ℤ) (w : List ℤ) → Only x (y ∷ w) → Only x w
Only-tail x y w h = All-tail (λ y. edge_of y ≡ edge_of x) y w h

pub Only-nil : (x : ℤ) → Only x []
Only-nil x = All-nil (λ y. edge_of y ≡ edge_of x)

pub Only-cons : (x y : ℤ) (w : List ℤ) → edge_of y ≡ edge_of x → Only x w → Only x (y ∷ w)
Only-cons x y w e h = All-cons (λ y. edge_of y ≡ edge_of x) y w e h

-- no letter is of two edges
pub no_letter : (x y : ℤ) (w : List ℤ) → edge_of x ≢ edge_of y → Only x w → Only y w → w ≡ []
no_letter x y [] n h k = refl
no_letter x y (z ∷ w) n h k = absurd (n (sym (Only-head x z w h) ∙ Only-head y z w k))

-- ---- what commutes

module _ (known : Known) where
  letter_passes : (x y : ℤ) (p : List ℤ) → (y ≡ x) ⊎ (y ≡ inverse x) → Carries p (x ∷ []) (x ∷ [])
      → Carries (y ∷ p) (x ∷ []) (x ∷ [])
  letter_passes x y p (inl e) h =
      subst (λ (z : ℤ). Carries (z ∷ p) (x ∷ []) (x ∷ [])) (sym e)
      (known.words.reduction.right (x ∷ []) (x ∷ p) (p ++ (x ∷ [])) h)
  letter_passes x y p (inr e) h =
      subst (λ (z : ℤ). Carries (z ∷ p) (x ∷ []) (x ∷ [])) (sym e)
      (by_fact known ((x ∷ []) ∷ p ∷ []) (+0 ∷ -0 ∷ +1 ∷ []) (-0 ∷ +1 ∷ +0 ∷ []) (-0 ∷ []) (+0 ∷ +1 ∷ [])
      (+1 ∷ +0 ∷ []) [] refl h refl)

  -- letters of the edge of x commute with x
  pub power_commutes : (x : ℤ) (p : List ℤ) → Only x p → Carries p (x ∷ []) (x ∷ [])
  power_commutes x [] h = refl
  power_commutes x (y ∷ p) h =
      letter_passes x y p (known.labels.of_edge y x (Only-head x y p h)) (power_commutes x p (Only-tail x y p h))

  -- a letter of another edge may follow
  IsReduced-then : (x y : ℤ) (w : List ℤ) → edge_of x ≢ edge_of y → Only y w → IsReduced w → IsReduced (w ++ (x ∷ []))
  IsReduced-then x y [] n only h = tt
  IsReduced-then x y (z ∷ []) n only h = (apart known x z (λ e. n (e ∙ Only-head y z [] only)), tt)
  IsReduced-then x y (z ∷ (a ∷ w)) n only h = (h.0, IsReduced-then x y (a ∷ w) n (Only-tail y z (a ∷ w) only) h.1)

  -- letters of another edge alone don't commute with x
  pub power_alone : (x y : ℤ) (w : List ℤ) → edge_of x ≢ edge_of y → Only y w → IsReduced w
      → Carries w (x ∷ []) (x ∷ []) → w ≡ []
  power_alone x y [] n only h c = refl
  power_alone x y (z ∷ w) n only h c =
      let front : IsReduced (x ∷ (z ∷ w)) = (apart known z x (λ e. n (sym e ∙ Only-head y z w only)), h) in
      let lists : x ∷ (z ∷ w) ≡ (z ∷ w) ++ (x ∷ []) =
      sym (known.words.reduction.fixed (x ∷ (z ∷ w)) front) ∙ c ∙ known.words.reduction.fixed ((z ∷ w) ++ (x ∷ []))
      (IsReduced-then x y (z ∷ w) n only h) in
      let heads : x ≡ z = cc in
      absurd (n (ap edge_of heads ∙ Only-head y z w only))
