-- What is made switch by switch and branch by branch for the middle rule.
use Rattle.std.proofs.Common.{◌≡◌, ◌<◌, ◌≤◌, ◌+◌, ◌-◌, ◌/◌, ℕ, ℤ, pos, List, [], ◌∷◌, ◌++◌, length, get_or, take}
use Rattle.std.proofs.Common.{refl, sym, ◌∙◌, ap, ap₂, subst, arith, slice_index, inl, inr, append_assoc}
use Rattle.std.specs.List.{flat_map}
use Rattle.std.proofs.lemmas.Bool.{cases_eq}
use Rattle.std.proofs.lemmas.List.{length-append, get_or_push, get_or_append_left}
use Rattle.std.proofs.lemmas.List.{map_more, take_all, take_more, get_or_default}
use Rattle.std.proofs.lemmas.List.Concat.{flat_map-append}
use Rattle.free_groupoid.specs.Walks.{DualWalk}
use Rattle.ideal_tri.specs.Labels.{inverse}
use Rattle.train_track.specs.Branches.{letter_at, words_of}
use Rattle.carry_map.specs.CarriedMaps.{final}
use Rattle.carry_map.specs.Anchors.{Place}
use Rattle.carry_map.specs.AnchorAnswers.{place_at}
use Rattle.carry_map.specs.declared.heights.Step.{Step}
use Rattle.carry_map.specs.inside.Steps.{counts_of, number_of, steps_along, steps_of}

-- ---- what holds of each entry of a list that grows

module _ {A : Type 0} (none : A) where
  -- what is read at each place, and one entry more
  pub grown : (P : ℕ → A → Type 0) (found new : List A) (i : ℕ) (x : A) → length found ≡ i → new ≡ found ++ (x ∷ [])
      → ((k : ℕ) → k < i → P k (get_or found k none)) → P i x
      → (length new ≡ i + 1) × ((k : ℕ) → k < i + 1 → P k (get_or new k none))
  grown P found new i x long e before here = (
    ap (λ (xs : List A). length xs) e ∙ length-append found (x ∷ []) ∙ ap (λ (n : ℕ). n + 1) long,
    λ k less. subst (λ (xs : List A). P k (get_or xs k none)) (sym e)
        (elim (cases_eq k i) [
          | inl same ↦
              subst (λ (y : A). P k y) (sym (get_or_push found x none k (long ∙ sym same)))
              (subst (λ (n : ℕ). P n x) (sym same) here)
          | inr apart ↦
              subst (λ (y : A). P k y) (sym (get_or_append_left found (x ∷ []) none k (omega (arith, long))))
              (before k (omega arith))
        ]),
  )

-- ---- counts

abbrev pair : List Place → List ℕ
pair ps = length ps ∷ (length ps ∷ [])

-- the counts of one list more
pub counts_more : (lists : List (List Place)) (counts one two : List ℕ) (i n m : ℕ) (ps : List Place)
    → i < length lists → ps ≡ get_or lists i ps → counts ≡ counts_of (take i lists)
    → one ≡ counts ++ (n ∷ []) → two ≡ one ++ (m ∷ []) → n ≡ length ps → m ≡ length ps
    → two ≡ counts_of (take (i + 1) lists)
counts_more lists counts one two i n m ps less e before first second en em =
    second ∙ ap (λ (xs : List ℕ). xs ++ (m ∷ [])) first
    ∙ joined counts n m
    ∙ ap (λ (k : ℕ). counts ++ (k ∷ (m ∷ []))) en ∙ ap (λ (k : ℕ). counts ++ (length ps ∷ (k ∷ []))) em
    ∙ ap (λ (xs : List ℕ). xs ++ pair ps) before
    ∙ sym (flat_map-append pair (take i lists) (ps ∷ []))
    ∙ ap (λ (qs : List Place). flat_map pair (take i lists ++ (qs ∷ []))) e
    ∙ ap (flat_map pair) (sym (take_more lists i ps less))
  where
    joined : (xs : List ℕ) (a b : ℕ) → (xs ++ (a ∷ [])) ++ (b ∷ []) ≡ xs ++ (a ∷ (b ∷ []))
    joined [] a b = refl
    joined (x ∷ xs) a b = ap (λ (ys : List ℕ). x ∷ ys) (joined xs a b)

-- ---- branches

-- the steps of one branch more
pub steps_more : (switches : List ℤ) (between : List ℤ → ℕ) (walks : List DualWalk) (steps new : List Step)
    (gap j : ℕ) (w : DualWalk) → j < length walks → w ≡ get_or walks j w
    → steps ≡ steps_of switches between (words_of (take j walks)) → gap ≡ between w.letters
    → new ≡ steps ++ steps_along switches (λ b. gap) w.letters
    → new ≡ steps_of switches between (words_of (take (j + 1) walks))
steps_more switches between walks steps new gap j w less e before is more =
    more
    ∙ ap (λ (k : ℕ). steps ++ steps_along switches (λ b. k) w.letters) is
    ∙ ap (λ (xs : List Step). xs ++ steps_along switches between w.letters) before
    ∙ append_empty (steps_of switches between (words_of (take j walks))) w.letters
    ∙ sym (flat_map-append (steps_along switches between) (words_of (take j walks)) (w.letters ∷ []))
    ∙ ap (λ (v : DualWalk). steps_of switches between (words_of (take j walks) ++ (v.letters ∷ []))) e
    ∙ ap (steps_of switches between) (sym (map_more (λ (v : DualWalk). v.letters) walks j w less))
  where
    append_empty : (xs : List Step) (b : List ℤ) → xs ++ steps_along switches between b
        ≡ xs ++ flat_map (steps_along switches between) (b ∷ [])
    append_empty xs b = refl

-- the steps of one branch, added one after the other
pub two_pushed : (switches : List ℤ) (gap : ℕ) (b : List ℤ) (old one new : List Step) (s t : Step) (x y : ℤ)
    → x ≡ letter_at b 0 → y ≡ final b
    → s ≡ record { from = number_of switches x; to = number_of switches y; gap = gap }
    → t ≡ record { from = number_of switches (inverse y); to = number_of switches (inverse x); gap = gap }
    → one ≡ old ++ (s ∷ []) → new ≡ one ++ (t ∷ []) → new ≡ old ++ steps_along switches (λ c. gap) b
two_pushed switches gap b old one new s t x y ex ey es et first second =
    second ∙ ap (λ (ss : List Step). ss ++ (t ∷ [])) first
    ∙ append_assoc old (s ∷ []) (t ∷ [])
    ∙ ap (λ (r : Step). old ++ (r ∷ (t ∷ []))) (es ∙ ap₂ between ex ey)
    ∙ ap (λ (r : Step). old ++ (between (letter_at b 0) (final b) ∷ (r ∷ [])))
    (et ∙ ap₂ (λ (z w : ℤ). between (inverse z) (inverse w)) ey ex)
  where
    between : ℤ → ℤ → Step
    between z w = record { from = number_of switches z; to = number_of switches w; gap = gap }

pub all_steps : (switches : List ℤ) (between : List ℤ → ℕ) (walks : List DualWalk) (steps : List Step) (j : ℕ)
    → length walks ≤ j → steps ≡ steps_of switches between (words_of (take j walks))
    → steps ≡ steps_of switches between (words_of walks)
all_steps switches between walks steps j long h =
    h ∙ ap (λ (ws : List DualWalk). steps_of switches between (words_of ws)) (take_all j walks long)

-- ---- the place in the middle

-- it is one of them, as the last one is
pub last_below : (n : ℕ) → 0 < n → n - 1 < n
last_below n some = omega arith

pub middle_within : (n h back : ℕ) → h < n → back < n → (n - 1 - back + h) / 2 < n
middle_within n h back on below = omega arith

-- ---- picked places

-- one place more, that with the number of its list
pub picked_more : (lists : List (List Place)) (found new : List Place) (i : ℕ) (ps : List Place) (p : Place)
    (number : ℕ → ℕ)
    → ((length found ≡ i) × ((k : ℕ) → k < i → place_at found k ≡ place_at (get_or lists k []) (number k)))
    → i < length lists → ps ≡ get_or lists i ps → p ≡ place_at ps (number i) → new ≡ found ++ (p ∷ [])
    → (length new ≡ i + 1) × ((k : ℕ) → k < i + 1 → place_at new k ≡ place_at (get_or lists k []) (number k))
picked_more lists found new i ps p number (long, before) less read same more =
    grown none (λ k q. q ≡ place_at (get_or lists k []) (number k)) found new i p long more before
    (same ∙ ap (λ (qs : List Place). place_at qs (number i)) (read ∙ get_or_default lists i ps [] less))
  where
    none : Place
    none = record { connect = []; label = pos 0 }

-- one number more
pub number_more : (numbers new : List ℕ) (i n : ℕ) (number : ℕ → ℕ)
    → ((length numbers ≡ i) × ((k : ℕ) → k < i → slice_index numbers k ≡ number k)) → n ≡ number i
    → new ≡ numbers ++ (n ∷ [])
    → (length new ≡ i + 1) × ((k : ℕ) → k < i + 1 → slice_index new k ≡ number k)
number_more numbers new i n number (long, before) here more =
    grown 0 (λ k m. m ≡ number k) numbers new i n long more before here
