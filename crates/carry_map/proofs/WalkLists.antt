-- Lists of walks: their words, and how many letters they have together.
--
-- Lists are read entry by entry, and what has been made or shown of the first i entries grows by that of entry i: the
-- words of the walks, the number of their letters together, the walks made from words, and a property of each word.
-- The number of letters is told as the least of it and 2^64 - 1, and adding the letters of one more walk to the told
-- number, where that stops at 2^64 - 1, tells the whole number.
use Rattle.std.proofs.Common.{◌≤◌, inl, inr, subst, length-take-le}
use Rattle.std.proofs.Common.{ℕ, ℤ, List, [], ◌∷◌, ◌++◌, ◌≡◌, ◌<◌, ◌+◌, sym, ◌∙◌, ap, arith, length, map, get_or, take}
use Rattle.std.proofs.Common.{min, ◌-◌, ◌^◌}
use Rattle.std.specs.List.{sum}
use Rattle.std.specs.List.{All}
use Rattle.std.proofs.lemmas.Bool.{cases_eq}
use Rattle.std.proofs.lemmas.List.{get_or-map, get_or_default, get_or_push, get_or_append_left, length-map, map_more}
use Rattle.std.proofs.lemmas.List.{map-append, take_all}
use Rattle.std.proofs.lemmas.List.Sums.{sum_by-append}
use Rattle.free_groupoid.specs.Walks.{DualWalk, walk_at}
use Rattle.free_groupoid.specs.MapRefusals.{told}
use Rattle.train_track.specs.Branches.{words_of}
use Rattle.carry_map.specs.Anchors.{Place}
use Rattle.carry_map.specs.AnchorAnswers.{letters_together}

-- what f gives of an entry that was read stands at the same place
pub read_through : {A B : Type 0} (f : A → B) (xs : List A) (i : ℕ) (x : A) (none : B) → i < length xs
    → x ≡ get_or xs i x → f x ≡ get_or (map f xs) i none
read_through f xs i x none less e = ap f e ∙ sym (get_or-map f xs i x none less)

letters_pushed : (words : List (List ℤ)) (u : List ℤ)
    → letters_together (words ++ (u ∷ [])) ≡ letters_together words + length u
letters_pushed words u =
    ap sum (map-append length words (u ∷ []))
    ∙ sum_by-append (λ (n : ℕ). n) (map length words) (length u ∷ [])
    ∙ ap (λ (n : ℕ). letters_together words + n) (let one : 0 + length u ≡ length u = omega arith in one)

pub letters_more : (walks : List DualWalk) (i : ℕ) (w : DualWalk) → i < length walks → w ≡ get_or walks i w
    → letters_together (words_of (take (i + 1) walks))
    ≡ letters_together (words_of (take i walks)) + length w.letters
letters_more walks i w less e =
    ap letters_together (map_more (λ (v : DualWalk). v.letters) walks i w less)
    ∙ letters_pushed (words_of (take i walks)) (get_or walks i w).letters
    ∙ ap (λ (v : DualWalk). letters_together (words_of (take i walks)) + length v.letters) (sym e)

pub told_more : (a b l n : ℕ) → l ≡ told a → n ≡ b → min (l + n) (2 ^ 64 - 1) ≡ told (a + b)
told_more a b l n e h = omega arith

-- one more walk, made of the word of one more
pub one_more : (make : List ℤ → DualWalk) (walks made new : List DualWalk) (i : ℕ) (w more : DualWalk)
    → i < length walks → w ≡ get_or walks i w → made ≡ map make (words_of (take i walks)) → more ≡ make w.letters
    → new ≡ made ++ (more ∷ []) → new ≡ map make (words_of (take (i + 1) walks))
one_more make walks made new i w more less e h m n =
    n ∙ ap (λ (v : DualWalk). made ++ (v ∷ [])) (m ∙ ap (λ (v : DualWalk). make v.letters) e)
    ∙ ap (λ (vs : List DualWalk). vs ++ (make (get_or walks i w).letters ∷ [])) h
    ∙ sym (map-append make (words_of (take i walks)) ((get_or walks i w).letters ∷ []))
    ∙ ap (map make) (sym (map_more (λ (v : DualWalk). v.letters) walks i w less))

pub all_made : (make : List ℤ → DualWalk) (walks made : List DualWalk) (i : ℕ) → length walks ≤ i
    → made ≡ map make (words_of (take i walks)) → made ≡ map make (words_of walks)
all_made make walks made i long h =
    h ∙ ap (λ (vs : List DualWalk). map make (words_of vs)) (take_all i walks long)

pub words_long : (walks : List DualWalk) → length (words_of walks) ≡ length walks
words_long walks = length-map walks (λ (v : DualWalk). v.letters)

-- what holds of the first words, and of the next
pub up_to : (P : List ℤ → Type 0) (words : List (List ℤ)) (i : ℕ)
    → ((k : ℕ) → k < i → P (get_or words k [])) → P (get_or words i [])
    → (k : ℕ) → k < i + 1 → P (get_or words k [])
up_to P words i before here k less =
    elim (cases_eq k i) [
      | inl e ↦ subst (λ (n : ℕ). P (get_or words n [])) (sym e) here
      | inr apart ↦ before k (omega arith)
    ]

pub of_all : (P : List ℤ → Type 0) (words : List (List ℤ)) (i : ℕ) → length words ≤ i
    → ((k : ℕ) → k < i → P (get_or words k [])) → All P words
of_all P words i long each k d less =
    subst P (get_or_default words k [] d less) (each k (omega arith))

-- where the walks start, and where one more starts
pub starts_more : (start : ℕ → ℕ) (walks new : List DualWalk) (w : DualWalk) (i : ℕ) → length walks ≡ i
    → new ≡ walks ++ (w ∷ []) → ((k : ℕ) → k < i → (walk_at walks k).start ≡ start k) → w.start ≡ start i
    → (k : ℕ) → k < i + 1 → (walk_at new k).start ≡ start k
starts_more start walks new w i long e before here k less =
    ap (λ (vs : List DualWalk). (walk_at vs k).start) e
    ∙ elim (cases_eq k i) [
      | inl same ↦
          ap (λ (v : DualWalk). v.start)
          (ap (walk_at (walks ++ (w ∷ []))) same ∙ get_or_push walks w none i long)
          ∙ here ∙ ap start (sym same)
      | inr apart ↦
          ap (λ (v : DualWalk). v.start) (get_or_append_left walks (w ∷ []) none k (omega (arith, long)))
          ∙ before k (omega arith)
    ]
  where
    none : DualWalk
    none = record { start = 0; letters = [] }

-- the walks of the first anchors, and the next
pub connects_more : (anchors : List Place) (walks new : List DualWalk) (w : DualWalk) (i : ℕ) (p : Place)
    → i < length anchors → p ≡ get_or anchors i p
    → words_of walks ≡ map (λ (q : Place). q.connect) (take i anchors) → w.letters ≡ p.connect
    → new ≡ walks ++ (w ∷ []) → words_of new ≡ map (λ (q : Place). q.connect) (take (i + 1) anchors)
connects_more anchors walks new w i p less is before letters e =
    ap words_of e
    ∙ map-append (λ (v : DualWalk). v.letters) walks (w ∷ [])
    ∙ ap (λ (u : List ℤ). words_of walks ++ (u ∷ [])) (letters ∙ ap (λ (q : Place). q.connect) is)
    ∙ ap (λ (ws : List (List ℤ)). ws ++ ((get_or anchors i p).connect ∷ [])) before
    ∙ sym (map_more (λ (q : Place). q.connect) anchors i p less)

pub words_taken : (anchors : List Place) (walks : List DualWalk) (i : ℕ) → i < length anchors
    → words_of walks ≡ map (λ (q : Place). q.connect) (take i anchors) → length walks ≡ i
words_taken anchors walks i less e =
    sym (words_long walks) ∙ ap (λ (ws : List (List ℤ)). length ws) e
    ∙ length-map (take i anchors) (λ (q : Place). q.connect) ∙ length-take-le i anchors (omega arith)
