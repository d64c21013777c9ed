-- A carrying at the labels of a switch, in both directions.
--
-- It names where a label s goes that isn't negative, and a walk c from the image of where s starts. The inverse of s
-- goes to the inverse, and the walk at it is the reduction of f(s)^-1 c σ(s). Solved for f(s) or for f(s)^-1, this says
-- that the image of each letter is carried, along the walks at its two ends, to the one letter that it goes to.
use Rattle.std.proofs.Common.{ℤ, pos, negsuc, List, [], ◌∷◌, ◌++◌, ◌≡◌, refl, sym, ◌∙◌, ap}
use Rattle.ideal_tri.specs.Labels.{inverse}
use Rattle.ideal_tri.specs.Words.{inverse_word, reduce}
use Rattle.ideal_tri.specs.LabelLaws.{LabelLaws}
use Rattle.ideal_tri.specs.WordLaws.{WordLaws}
use Rattle.tri_atlas.specs.Maps.{IsOdd}
use Rattle.carry_map.specs.CarriedMaps.{Carrying, beside, goes_to, connection}
use Rattle.carry_map.proofs.Conjugation.{carried_there, carried_back}

pub goes_to-inverse : LabelLaws → (switches : List ℤ) (c : Carrying) (x : ℤ)
    → goes_to switches c (inverse x) ≡ inverse (goes_to switches c x)
goes_to-inverse labels switches c (pos n) = refl
goes_to-inverse labels switches c (negsuc n) = sym (labels.twice (beside (pos 0) switches c.to (pos n)))

pub carried_letter : WordLaws → (f : ℤ → List ℤ) → IsOdd f → (switches : List ℤ) (c : Carrying) (x : ℤ)
    → reduce (f x) ≡ reduce (connection f switches c x
    ++ (goes_to switches c x ∷ inverse_word (connection f switches c (inverse x))))
carried_letter words f odd switches c (pos n) =
    ap reduce (odd (negsuc n))
    ∙ carried_back words (f (negsuc n)) (beside [] switches c.connect (pos n)) (goes_to switches c (pos n))
carried_letter words f odd switches c (negsuc n) =
    carried_there words (f (negsuc n)) (beside [] switches c.connect (pos n)) (goes_to switches c (pos n))
