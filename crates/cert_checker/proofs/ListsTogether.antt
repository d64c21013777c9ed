-- Lists whose entries belong together: the first that fails, and how many letters they have.
--
-- The number of letters is told as the least of it and 2^64 - 1, and adding the letters of one more word to the told
-- number, where that stops at 2^64 - 1, tells the whole number.
use Rattle.std.proofs.Common.{ℕ, ℤ, List, [], ◌∷◌, ◌++◌, ◌≡◌, ◌<◌, ◌≤◌, ◌+◌, ◌-◌, ◌^◌, inl, inr, sym, ◌∙◌}
use Rattle.std.proofs.Common.{ap, subst, arith, length, map, min, take, get_or}
use Rattle.std.specs.List.{sum}
use Rattle.std.specs.Prelude.{IfNone, None, Option}
use Rattle.std.proofs.lemmas.Bool.{cases_eq}
use Rattle.std.proofs.lemmas.List.{get_or-map, length-map, map-append, take_all, take_more}
use Rattle.std.proofs.lemmas.List.Sums.{sum_by-append}
use Rattle.free_groupoid.specs.MapRefusals.{told}
use Rattle.cert_text.specs.Limits.{letter_cap}
use Rattle.cert_text.specs.PseudoAnosov.{letters_of_words}
use Rattle.cert_checker.specs.FirstFailing.{AllPass}

-- ---- tests in order

pub pass_more : (P : ℕ → Type 0) (i : ℕ) → AllPass i P → P i → AllPass (i + 1) P
pass_more P i before here k less =
    elim (cases_eq k i) [
      | inl e ↦ subst P (sym e) here
      | inr apart ↦ before k (omega arith)
    ]

pub fewer_pass : (P : ℕ → Type 0) (n i : ℕ) → n ≤ i → AllPass i P → AllPass n P
fewer_pass P n i long all k less = all k (omega arith)

pub when_none : (P : Type 0) (o : Option ℕ) → o ≡ None → IfNone o P → P
when_none P o e h = subst (λ (q : Option ℕ). IfNone q P) e h

-- ---- letters

letters_pushed : (words : List (List ℤ)) (u : List ℤ)
    → letters_of_words (words ++ (u ∷ [])) ≡ letters_of_words words + length u
letters_pushed words u =
    ap sum (map-append length words (u ∷ []))
    ∙ sum_by-append (λ (n : ℕ). n) (map length words) (length u ∷ [])
    ∙ ap (λ (n : ℕ). letters_of_words words + n) (let one : 0 + length u ≡ length u = omega arith in one)

letters_more : (words : List (List ℤ)) (i : ℕ) (u : List ℤ) → i < length words → u ≡ get_or words i u
    → letters_of_words (take (i + 1) words) ≡ letters_of_words (take i words) + length u
letters_more words i u less e =
    ap letters_of_words (take_more words i u less)
    ∙ letters_pushed (take i words) (get_or words i u)
    ∙ ap (λ (v : List ℤ). letters_of_words (take i words) + length v) (sym e)

added : (a l n b new : ℕ) → l ≡ told a → n ≡ b → new ≡ min (l + n) (2 ^ 64 - 1) → new ≡ told (a + b)
added a l n b new e h is = omega arith

-- the letters of the words that f gives of the entries, one entry more
module _ {A : Type 0} (f : A → List ℤ) (xs : List A) (i l n new : ℕ) (x : A) where
  pub letters_told : i < length xs → x ≡ get_or xs i x → l ≡ told (letters_of_words (take i (map f xs)))
      → n ≡ length (f x) → new ≡ min (l + n) (2 ^ 64 - 1) → new ≡ told (letters_of_words (take (i + 1) (map f xs)))
  letters_told less e so_far long is =
      added (letters_of_words (take i (map f xs))) l n (length (f x)) new so_far long is
      ∙ ap told (sym (letters_more (map f xs) i (f x) (omega (arith, length-map xs f))
      (ap f e ∙ sym (get_or-map f xs i x (f x) less))))

pub all_told : {A : Type 0} (f : A → List ℤ) (xs : List A) (i l : ℕ) → length xs ≤ i
    → l ≡ told (letters_of_words (take i (map f xs))) → l ≡ told (letters_of_words (map f xs))
all_told f xs i l long so_far =
    so_far ∙ ap (λ (ws : List (List ℤ)). told (letters_of_words ws))
    (take_all i (map f xs) (omega (arith, length-map xs f)))

pub many : (n l : ℕ) → l ≡ told n → 262144 < l → letter_cap < n
many n l is more = omega arith

pub few : (n l : ℕ) → l ≡ told n → l ≤ 262144 → n ≤ letter_cap
few n l is less = omega arith
