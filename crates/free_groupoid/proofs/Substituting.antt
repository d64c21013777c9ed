-- A list of words in the place of letters: a substitution, and the same list with each word mapped and reduced is the
-- substitution followed by the map. Two substitutions that agree on the letters of a word agree on the word.
use Rattle.std.proofs.Common.{ℕ, zero, suc, ℤ, pos, negsuc, List, [], ◌∷◌, ◌≡◌, ◌<◌, ◌≤◌, ◌⊎◌, inl, inr, refl}
use Rattle.std.proofs.Common.{sym, ◌∙◌, ap, length, map, get_or}
use Rattle.std.specs.List.{All, flat_map}
use Rattle.std.proofs.lemmas.List.{get_or_past}
use Rattle.std.proofs.lemmas.List.Elements.{All-map}
use Rattle.std.proofs.lemmas.Bool.{cases_lt}
use Rattle.ideal_tri.specs.Words.{inverse_word, IsReduced, reduce}
use Rattle.ideal_tri.specs.WordLaws.{InverseLaws, ReductionLaws}
use Rattle.tri_atlas.specs.Maps.{IsOdd, after}
use Rattle.tri_atlas.specs.MapLaws.{SubstitutionLaws}
use Rattle.free_groupoid.specs.GroupoidMaps.{substitution, reduced_image}

-- ---- lists of words

pub substitution-odd : InverseLaws → (images : List (List ℤ)) → IsOdd (substitution images)
substitution-odd i images (pos n) = refl
substitution-odd i images (negsuc n) = sym (i.twice (get_or images n []))

-- a word of a list that is mapped
get_or-mapped : (f : List ℤ → List ℤ) (words : List (List ℤ)) (n : ℕ) → f [] ≡ []
    → get_or (map f words) n [] ≡ f (get_or words n [])
get_or-mapped f [] n e = sym e
get_or-mapped f (w ∷ words) zero e = refl
get_or-mapped f (w ∷ words) (suc n) e = get_or-mapped f words n e

pub substitution-mapped : ReductionLaws → SubstitutionLaws → (g : ℤ → List ℤ) (images : List (List ℤ)) (x : ℤ) → IsOdd g
    → substitution (map (reduced_image g) images) x ≡ after g (substitution images) x
substitution-mapped r s g images (pos n) odd = get_or-mapped (reduced_image g) images n refl
substitution-mapped r s g images (negsuc n) odd =
    ap inverse_word (get_or-mapped (reduced_image g) images n refl)
    ∙ sym (r.inverse (flat_map g (get_or images n [])))
    ∙ ap reduce (sym (s.back g (get_or images n []) odd))

-- ---- reduced words

pub AreReduced-mapped : ReductionLaws → (g : ℤ → List ℤ) (images : List (List ℤ))
    → All IsReduced (map (reduced_image g) images)
AreReduced-mapped r g images =
    All-map IsReduced (reduced_image g) images (λ k d below. r.is_reduced (flat_map g (get_or images k d)))

reduced_word : ReductionLaws → (words : List (List ℤ)) (n : ℕ) → All IsReduced words
    → reduce (get_or words n []) ≡ get_or words n []
reduced_word r words n all = at_place (cases_lt n (length words))
  where
    at_place : (n < length words) ⊎ (length words ≤ n) → reduce (get_or words n []) ≡ get_or words n []
    at_place (inl inside) = r.fixed (get_or words n []) (all n [] inside)
    at_place (inr past) = ap reduce (get_or_past words n [] past) ∙ sym (get_or_past words n [] past)

pub substitution-reduced : ReductionLaws → (images : List (List ℤ)) (x : ℤ) → All IsReduced images
    → reduce (substitution images x) ≡ substitution images x
substitution-reduced r images (pos n) all = reduced_word r images n all
substitution-reduced r images (negsuc n) all = r.inverse (get_or images n [])
    ∙ ap inverse_word (reduced_word r images n all)
