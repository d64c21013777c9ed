-- Things that are numbered, opposite ones alike, and lists of them that rise.
use Rattle.std.proofs.Common.{ℕ, Bool, true, cond, List, [], ◌∷◌, ◌≡◌, ◌≢◌, ◌≤◌, ◌<◌, inl, inr, refl, sym, ◌∙◌, ap}
use Rattle.std.proofs.Common.{arith}
use Rattle.std.specs.List.{All, filter}
use Rattle.std.proofs.lemmas.Bool.{cases_Bool, cases_eq, true≢false}
use Rattle.std.proofs.lemmas.List.Elements.{All-nil, All-cons}
use Rattle.ideal_tri.proofs.Drawings.Tallies.{count_by-cons}
use Rattle.ideal_tri.proofs.Drawings.Rising.{Rising}
use Rattle.ideal_tri.proofs.Drawings.Orbits as O
use Rattle.ideal_tri.proofs.Drawings.Orbits.{Pairings}

pub record Numbering {A : Type 0} (s : Pairings A) : Type 0 where
  pub number : A → ℕ
  pub opposite_number : (x : A) → s.Valid x → number (s.opposite x) ≡ number x
  pub rising : Rising number s.sides

module _ {A : Type 0} (s : Pairings A) where
  -- ---- elements

  pub All-each : (P : A → Type 0) (xs : List A) → ((x : A) → O.count s x xs ≢ 0 → P x) → All P xs
  All-each P [] h = All-nil P
  All-each P (x ∷ xs) h =
      All-cons P x xs (h x (λ none. omega (arith, O.count-same s x x xs refl)))
      (All-each P xs (λ y some. h y (λ none. some (omega (arith, count_by-cons (s.same y) x xs)))))

  pub count-filter : (p : A → Bool) (x : A) (xs : List A) → p x ≡ true → O.count s x (filter p xs) ≡ O.count s x xs
  count-filter p x [] e = refl
  count-filter p x (y ∷ ys) e =
      elim (cases_Bool (p y)) [
        | inl kept ↦
            ap (λ (b : Bool). O.count s x (cond b (y ∷ filter p ys) (filter p ys))) kept
            ∙ omega (
              arith,
              count_by-cons (s.same x) y (filter p ys),
              count_by-cons (s.same x) y ys,
              count-filter p x ys e,
            )
        | inr left_out ↦
            ap (λ (b : Bool). O.count s x (cond b (y ∷ filter p ys) (filter p ys))) left_out
            ∙ count-filter p x ys e
            ∙ sym (O.count-other s x y ys (λ same. true≢false (sym e ∙ ap p same ∙ left_out)))
      ]

module _ {A : Type 0} (s : Pairings A) (n : Numbering s) where
  -- ---- rising lists

  pub above : (x y : A) (ys : List A) → Rising n.number (x ∷ ys) → O.count s y ys ≢ 0 → n.number x < n.number y
  above x y ys h some = O.All-counted s (λ z. n.number x < n.number z) y ys h.0 some

  pub rising_once : (x : A) (xs : List A) → Rising n.number xs → O.count s x xs ≤ 1
  rising_once x [] h = omega arith
  rising_once x (y ∷ ys) h =
      elim (O.same_or_other s x y) [
        | inl e ↦
            elim (cases_eq (O.count s x ys) 0) [
              | inl none ↦ omega (arith, O.count-same s x y ys e)
              | inr some ↦ absurd (omega (arith, above y x ys h some, ap n.number e))
            ]
        | inr ne ↦ omega (arith, O.count-other s x y ys ne, rising_once x ys h.1)
      ]

  pub rising_injective : (x y : A) (zs : List A) → Rising n.number zs → O.count s x zs ≢ 0 → O.count s y zs ≢ 0
      → n.number x ≡ n.number y → x ≡ y
  rising_injective x y [] h some more e = absurd (some refl)
  rising_injective x y (z ∷ zs) h some more e =
      elim (O.count-cases s x z zs some) [
        | inl here ↦
            elim (O.count-cases s y z zs more) [
              | inl too ↦ here ∙ sym too
              | inr later ↦ absurd (omega (arith, above z y zs h later, ap n.number here))
            ]
        | inr there ↦
            elim (O.count-cases s y z zs more) [
              | inl first ↦ absurd (omega (arith, above z x zs h there, ap n.number first))
              | inr later ↦ rising_injective x y zs h.1 there later e
            ]
      ]

  -- two rising lists with the same elements
  pub same_rising : (xs ys : List A) → Rising n.number xs → Rising n.number ys
      → ((z : A) → O.count s z xs ≢ 0 → O.count s z ys ≢ 0)
      → ((z : A) → O.count s z ys ≢ 0 → O.count s z xs ≢ 0) → xs ≡ ys
  same_rising [] [] h k there back = refl
  same_rising [] (y ∷ ys) h k there back = absurd (back y (λ none. omega (arith, O.count-same s y y ys refl)) refl)
  same_rising (x ∷ xs) [] h k there back = absurd (there x (λ none. omega (arith, O.count-same s x x xs refl)) refl)
  same_rising (x ∷ xs) (y ∷ ys) h k there back =
      let x_there : O.count s x (y ∷ ys) ≢ 0 = there x (λ none. omega (arith, O.count-same s x x xs refl)) in
      let y_back : O.count s y (x ∷ xs) ≢ 0 = back y (λ none. omega (arith, O.count-same s y y ys refl)) in
      let first : x ≡ y =
      elim (O.count-cases s x y ys x_there) [
        | inl e ↦ e
        | inr later ↦
            elim (O.count-cases s y x xs y_back) [
              | inl e ↦ sym e
              | inr later_too ↦ absurd (omega (arith, above y x ys k later, above x y xs h later_too))
            ]
      ] in
      ap (λ (z : A). z ∷ xs) first
      ∙ ap (λ (zs : List A). y ∷ zs)
      (same_rising xs ys h.1 k.1
      (λ z some. rest z y ys (there z (λ none. some (omega (arith, count_by-cons (s.same z) x xs))))
      (λ e. omega (arith, above x z xs h some, ap n.number (e ∙ sym first))))
      (λ z some. rest z x xs (back z (λ none. some (omega (arith, count_by-cons (s.same z) y ys))))
      (λ e. omega (arith, above y z ys k some, ap n.number (e ∙ first)))))
    where
      rest : (z w : A) (ws : List A) → O.count s z (w ∷ ws) ≢ 0 → z ≢ w → O.count s z ws ≢ 0
      rest z w ws some ne = λ none. some (O.count-other s z w ws ne ∙ none)
