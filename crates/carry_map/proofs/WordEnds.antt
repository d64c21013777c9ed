-- The ends of words: the last letter, and what stands before it.
use Rattle.std.proofs.Common.{ℕ, ℤ, List, [], ◌∷◌, ◌++◌, ◌≡◌, ◌≢◌, ◌<◌, ◌-◌, refl, ◌∙◌, ap, arith, length, get_or}
use Rattle.ideal_tri.specs.WordLaws.{LetterLaws}
use Rattle.ideal_tri.specs.Words.{last_of, but_last}
use Rattle.carry_map.specs.CarriedMaps.{final}

pub ends_in_final : (w : List ℤ) → 0 < length w → w ≡ but_last w ++ (final w ∷ [])
ends_in_final [] h = absurd (omega arith)
ends_in_final (x ∷ []) h = refl
ends_in_final (x ∷ (y ∷ w)) h = ap (λ (u : List ℤ). x ∷ u) (ends_in_final (y ∷ w) (omega arith))

pub front_is : (w v : List ℤ) (y : ℤ) → w ≡ v ++ (y ∷ []) → but_last w ≡ v
front_is w v y e = ap but_last e ∙ front v
  where
    front : (u : List ℤ) → but_last (u ++ (y ∷ [])) ≡ u
    front [] = refl
    front (x ∷ []) = refl
    front (x ∷ (z ∷ u)) = ap (λ (k : List ℤ). x ∷ k) (front (z ∷ u))

-- the last letter stands at the last place
pub final_read : LetterLaws → (w : List ℤ) (y : ℤ) → w ≢ [] → y ≡ get_or w (length w - 1) y → y ≡ final w
final_read letters [] y some e = absurd (some refl)
final_read letters (x ∷ w) y some e = letters.last x w y e

pub last_read : LetterLaws → (u : ℤ) (w : List ℤ) (n : ℕ) (y : ℤ) → n ≡ length w → n ≢ 0 → y ≡ get_or w (n - 1) y
    → y ≡ last_of u w
last_read letters u [] n y long some e = absurd (some long)
last_read letters u (x ∷ w) n y long some e =
    letters.last x w y (e ∙ ap (λ (k : ℕ). get_or (x ∷ w) (k - 1) y) long)

pub some_letters : (w : List ℤ) → w ≢ [] → 0 < length w
some_letters [] some = absurd (some refl)
some_letters (x ∷ w) some = omega arith
