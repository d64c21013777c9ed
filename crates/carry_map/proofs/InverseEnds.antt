-- The ends of the way back along a word.
use Rattle.std.proofs.Common.{ℤ, List, [], ◌∷◌, ◌≡◌, refl, sym, ◌∙◌, ap}
use Rattle.ideal_tri.specs.Labels.{inverse}
use Rattle.ideal_tri.specs.Words.{inverse_word, last_of, but_last}
use Rattle.ideal_tri.specs.WordLaws.{WordLaws}
use Rattle.carry_map.specs.CarriedMaps.{final}
use Rattle.carry_map.proofs.WordParts.{but_last_and_last, final-ended}
use Rattle.carry_map.proofs.WordEnds.{front_is}

pub inverse_begun : WordLaws → (x : ℤ) (w : List ℤ)
    → inverse_word (x ∷ w) ≡ inverse (last_of x w) ∷ inverse_word (but_last (x ∷ w))
inverse_begun words x w =
    ap inverse_word (sym (but_last_and_last x w)) ∙ words.inverses.append (but_last (x ∷ w)) (last_of x w ∷ [])

pub but_last-inverse : (x : ℤ) (w : List ℤ) → but_last (inverse_word (x ∷ w)) ≡ inverse_word w
but_last-inverse x w = front_is (inverse_word (x ∷ w)) (inverse_word w) (inverse x) refl

pub last_of-inverse : (x y : ℤ) (w v : List ℤ) → inverse_word (x ∷ w) ≡ y ∷ v → last_of y v ≡ inverse x
last_of-inverse x y w v e = sym (ap final e) ∙ final-ended (inverse_word w) (inverse x)
