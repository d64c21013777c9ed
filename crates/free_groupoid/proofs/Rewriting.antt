-- A word under a relabelling, letter by letter: the images of the first n edges count, and each letter is of one of
-- them. And lists of words under any move.
use Rattle.std.proofs.Common.{ℕ, ℤ, List, [], ◌∷◌, ◌++◌, ◌≡◌, ◌+◌, ◌<◌, ◌≤◌, sym, ◌∙◌, ap, subst, length, map}
use Rattle.std.proofs.Common.{take, get_or, Vec}
use Rattle.std.specs.Global.{Global}
use Rattle.std.specs.List.{All, flat_map}
use Rattle.std.proofs.lemmas.List.{take_all}
use Rattle.ideal_tri.specs.Labels.{edge_of}
use Rattle.ideal_tri.specs.Words.{IsReduced, reduce}
use Rattle.ideal_tri.specs.WordLaws.{ReductionLaws}
use Rattle.ideal_tri.specs.Relabellings.{image_of}
use Rattle.tri_atlas.specs.Moves.{relabel}
use Rattle.tri_atlas.specs.Maps.{image_of_letter}
use Rattle.tri_atlas.specs.Steps.{move_of}
use Rattle.tri_atlas.specs.declared.step.Step.{Step}
use Rattle.free_groupoid.specs.GroupoidMaps.{reduced_image}
use Rattle.free_groupoid.specs.inside.Images.{words_of, IsBelow}
use Rattle.free_groupoid.proofs.Appending.{Reduces, is_reduced, next, images_on}
use Rattle.free_groupoid.proofs.Lists.{held_by_word, one_more_word, all_words}

-- the word so far is the reduction of the images of the letters read, whatever the number of edges
pub record IsMovedUpTo (images w moved : List ℤ) (i : ℕ) : Type 0 where
  pub value : (n : ℕ) → IsBelow n w → Reduces (flat_map (image_of_letter (relabel (take n images))) (take i w)) moved

pub moved_none : (images w moved : List ℤ) → moved ≡ [] → IsMovedUpTo images w moved 0
moved_none images w moved e = record { value = λ n below. record { value = e } }

pub moved_reduced : ReductionLaws → (images w moved : List ℤ) (i n : ℕ) → IsMovedUpTo images w moved i → IsBelow n w
    → IsReduced moved
moved_reduced r images w moved i n h below = is_reduced r _ _ (h.value n below)

-- y is the image of the next letter x
pub moved_more : ReductionLaws → (images w moved new : List ℤ) (i : ℕ) (x y : ℤ) → IsMovedUpTo images w moved i
    → i < length w
    → x ≡ get_or w i x → new ≡ reduce (moved ++ (y ∷ []))
    → ((n : ℕ) → edge_of x < n → y ≡ image_of (take n images) x)
    → IsMovedUpTo images w new (i + 1)
moved_more r images w moved new i x y h inside is_x pushed is_image = record {
  value = λ n below.
      let edge : edge_of x < n = subst (λ (z : ℤ). edge_of z < n) (sym is_x) (below i x inside) in
      next r (y ∷ []) _ _ _ _ (h.value n below) pushed
      (images_on (image_of_letter (relabel (take n images))) w i x (y ∷ []) inside is_x
      (ap (λ (z : ℤ). z ∷ []) (is_image n edge)));
}

pub moved_all : (images w moved : List ℤ) (i n : ℕ) → IsMovedUpTo images w moved i → length w ≤ i → IsBelow n w
    → moved ≡ reduced_image (image_of_letter (relabel (take n images))) w
moved_all images w moved i n h all below =
    let whole : Reduces (flat_map (image_of_letter (relabel (take n images))) (take i w)) moved = h.value n below in
    whole.value ∙ ap (reduced_image (image_of_letter (relabel (take n images)))) (take_all i w all)

-- ---- a list of words

-- the same for each of the words read
pub record AreMovedUpTo (step : Step) (vectors made : List (Vec ℤ Global)) (i : ℕ) : Type 0 where
  pub value : (n : ℕ) → All (IsBelow n) (words_of vectors)
      → words_of made ≡ map (reduced_image (image_of_letter (move_of n step))) (take i (words_of vectors))

pub words_none : (step : Step) (vectors made : List (Vec ℤ Global)) → made ≡ [] → AreMovedUpTo step vectors made 0
words_none step vectors made e = record { value = λ n below. ap words_of e }

pub words_more : (step : Step) (vectors made new : List (Vec ℤ Global)) (word v : Vec ℤ Global) (i : ℕ)
    → AreMovedUpTo step vectors made i
    → i < length vectors → word ≡ get_or vectors i word → new ≡ made ++ (v ∷ [])
    → ((n : ℕ) → IsBelow n word.items → v.items ≡ reduced_image (image_of_letter (move_of n step)) word.items)
    → AreMovedUpTo step vectors new (i + 1)
words_more step vectors made new word v i h inside is_word is_new is_v = record {
  value = λ n below.
      ap words_of is_new
      ∙ one_more_word (reduced_image (image_of_letter (move_of n step))) vectors made word v i inside is_word
      (is_v n (held_by_word (IsBelow n) vectors word i below inside is_word)) (h.value n below);
}

pub words_all : (step : Step) (vectors made : List (Vec ℤ Global)) (i n : ℕ) → AreMovedUpTo step vectors made i
    → length vectors ≤ i
    → All (IsBelow n) (words_of vectors) → words_of made
    ≡ map (reduced_image (image_of_letter (move_of n step))) (words_of vectors)
words_all step vectors made i n h all below =
    all_words (reduced_image (image_of_letter (move_of n step))) vectors made i all (h.value n below)
