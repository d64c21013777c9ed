-- Letters of words as loops read them: the next one, the last one, and the test of two letters.
use Rattle.std.proofs.Common.{ℕ, ℤ, List, [], ◌∷◌, ◌++◌, ◌≡◌, ◌+◌, ◌-◌, ◌<◌, ◌≢◌, refl, sym, ◌∙◌, ap}
use Rattle.std.proofs.Common.{Bool, true, false, not, arith, length, take, drop, get_or}
use Rattle.std.specs.Ordering.{int_eq}
use Rattle.std.proofs.lemmas.Bool.Decides.{Decides-int_eq, not_from_Decides}
use Rattle.std.proofs.lemmas.List.{take_more, take_all, drop_more}
use Rattle.ideal_tri.specs.Words.{last_of}
use Rattle.ideal_tri.specs.WordLaws.{LetterLaws}
use Rattle.ideal_tri.proofs.Cyclic.{last_of-read}

-- the letter at i, and those after it
drop_read : (w : List ℤ) (i : ℕ) (x : ℤ) → i < length w → x ≡ get_or w i x → drop i w ≡ x ∷ drop (i + 1) w
drop_read w i x inside is_x = drop_more w i x inside ∙ ap (λ (z : ℤ). z ∷ drop (i + 1) w) (sym is_x)

-- the last letter, and those before it
last_split : (w : List ℤ) (n : ℕ) (x : ℤ) → n ≡ length w → 0 < n → x ≡ get_or w (n - 1) x
    → w ≡ take (n - 1) w ++ (x ∷ [])
last_split w n x is_n some is_x =
    sym (take_all (n - 1 + 1) w (omega arith))
    ∙ take_more w (n - 1) x (omega arith)
    ∙ ap (λ (z : ℤ). take (n - 1) w ++ (z ∷ [])) (sym is_x)

last_read : (x : ℤ) (w : List ℤ) (z : ℤ) → z ≡ get_or (x ∷ w) (length (x ∷ w) - 1) z → z ≡ last_of x w
last_read x w z e =
    e
    ∙ ap (λ (n : ℕ). get_or (x ∷ w) n z) (let place : length (x ∷ w) - 1 ≡ length w = omega arith in place)
    ∙ sym (last_of-read x w z)

-- ---- what the answer r of a test whether letters are different tells

differ : (x y : ℤ) (r : Bool) → r ≡ not (int_eq x y) → r ≡ true → x ≢ y
differ x y r e f = not_from_Decides _ (Decides-int_eq x y) (is_false (int_eq x y) (sym e ∙ f))
  where
    is_false : (b : Bool) → not b ≡ true → b ≡ false
    is_false false h = refl
    is_false true h = sym h

agree : (x y : ℤ) (r : Bool) → r ≡ not (int_eq x y) → r ≡ false → x ≡ y
agree x y r e f = (Decides-int_eq x y).0 (is_true (int_eq x y) (sym e ∙ f))
  where
    is_true : (b : Bool) → not b ≡ false → b ≡ true
    is_true true h = refl
    is_true false h = sym h

pub letter_laws : LetterLaws
letter_laws = record {
  next = drop_read;
  parts = last_split;
  last = last_read;
  differ = differ;
  agree = agree;
}
