-- Words put behind a reduced word, and reduced again: the word is the reduction of all that was put together.
use Rattle.std.proofs.Common.{ℕ, ℤ, List, [], ◌∷◌, ◌++◌, ◌≡◌, ◌+◌, ◌-◌, ◌<◌, refl, sym, ◌∙◌, ap, subst, append_assoc}
use Rattle.std.proofs.Common.{arith, length, take, drop, get_or}
use Rattle.std.specs.List.{flat_map}
use Rattle.std.proofs.lemmas.List.{append-nil, take_more, drop_more}
use Rattle.std.proofs.lemmas.List.Concat.{flat_map-append}
use Rattle.ideal_tri.specs.Labels.{inverse}
use Rattle.ideal_tri.specs.Words.{inverse_word, IsReduced, reduce}
use Rattle.ideal_tri.specs.WordLaws.{ReductionLaws}
use Rattle.free_groupoid.proofs.Words.{reduce-left}

-- w is the reduction of a: a record, so that antt finds a
pub record Reduces (a w : List ℤ) : Type 0 where
  pub value : w ≡ reduce a

pub is_reduced : ReductionLaws → (a w : List ℤ) → Reduces a w → IsReduced w
is_reduced r a w h = subst IsReduced (sym h.value) (r.is_reduced a)

-- a reduced word, with nothing behind it
pub reduces_itself : ReductionLaws → (w b : List ℤ) → IsReduced w → b ≡ [] → Reduces (w ++ b) w
reduces_itself r w b h e = record {
  value = sym (r.fixed w h) ∙ ap reduce (sym (append-nil w)) ∙ ap (λ (z : List ℤ). reduce (w ++ z)) (sym e);
}

-- p is put behind the word so far
pub next : ReductionLaws → (p a so_far b new : List ℤ) → Reduces a so_far → new ≡ reduce (so_far ++ p) → a ++ p ≡ b
    → Reduces b new
next r p a so_far b new h e f = record {
  value = e ∙ ap (λ (z : List ℤ). reduce (z ++ p)) h.value ∙ reduce-left r a p ∙ ap reduce f;
}

-- ---- what is put behind the words of loops

-- the inverse of a letter x of the word `more`, from its end on
pub letters_back : (a more : List ℤ) (n k : ℕ) (x : ℤ) → n ≡ length more → k < n → x ≡ get_or more (n - 1 - k) x
    → (a ++ inverse_word (drop (n - k) more)) ++ (inverse x ∷ []) ≡ a ++ inverse_word (drop (n - (k + 1)) more)
letters_back a more n k x long h e =
    let place : n - 1 - k ≡ n - (k + 1) = omega arith in
    let after : (n - (k + 1)) + 1 ≡ n - k = omega arith in
    append_assoc a (inverse_word (drop (n - k) more)) (inverse x ∷ [])
    ∙ ap (λ (i : ℕ). a ++ (inverse_word (drop i more) ++ (inverse x ∷ []))) (sym after)
    ∙ ap (λ (z : ℤ). a ++ (inverse_word (drop ((n - (k + 1)) + 1) more) ++ (inverse z ∷ []))) (e
    ∙ ap (λ (i : ℕ). get_or more i x) place)
    ∙ ap (λ (z : List ℤ). a ++ inverse_word z) (sym (drop_more more (n - (k + 1)) x (omega arith)))

-- the image p of a letter x of a word
pub images_on : (f : ℤ → List ℤ) (w : List ℤ) (i : ℕ) (x : ℤ) (p : List ℤ) → i < length w → x ≡ get_or w i x → p ≡ f x
    → flat_map f (take i w) ++ p ≡ flat_map f (take (i + 1) w)
images_on f w i x p h e g =
    ap (λ (z : List ℤ). flat_map f (take i w) ++ z) (g ∙ ap f e ∙ sym (append-nil (f (get_or w i x))))
    ∙ sym (flat_map-append f (take i w) (get_or w i x ∷ []))
    ∙ ap (flat_map f) (sym (take_more w i x h))

-- nothing is put behind a reduced word
pub nothing_behind : ReductionLaws → (w : List ℤ) → IsReduced w → w ≡ reduce (w ++ [])
nothing_behind r w h = let same : Reduces (w ++ []) w = reduces_itself r w [] h refl in same.value

-- a letter, with a word before it and one behind
pub letter_between : ReductionLaws → (word before behind first second third : List ℤ) (x : ℤ)
    → first ≡ reduce (word ++ before) → second ≡ reduce (first ++ (x ∷ [])) → third ≡ reduce (second ++ behind)
    → third ≡ reduce (word ++ (before ++ (x ∷ behind)))
letter_between r word before behind first second third x e f g =
    let front : Reduces (word ++ before) first = record { value = e } in
    let middle : Reduces ((word ++ before) ++ (x ∷ [])) second = next r (x ∷ []) _ _ _ _ front f refl in
    let all : ((word ++ before) ++ (x ∷ [])) ++ behind ≡ word ++ (before ++ (x ∷ behind)) =
    append_assoc (word ++ before) (x ∷ []) behind ∙ append_assoc word before (x ∷ behind) in
    let end : Reduces (word ++ (before ++ (x ∷ behind))) third = next r behind _ _ _ _ middle g all in
    end.value
