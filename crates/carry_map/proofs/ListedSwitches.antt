-- A label is one of a switch exactly where it or its inverse is listed among the switches.
--
-- Both labels of an edge are those of a switch, or neither, since the definition asks for a fork on either side. The
-- switches are listed by their labels that aren't negative. So a label that isn't negative is listed exactly where it
-- is one of a switch, and of any label either it or its inverse isn't negative. For the other way, what is listed is
-- a label of a switch. So to keep the places whose letter or its inverse is listed is to keep those at switches, as
-- long as their letters are labels.
use Rattle.std.proofs.Common.{ℕ, ℤ, pos, negsuc, Bool, true, false, List, [], ◌∷◌, ◌≡◌, ◌<◌, ◌⊎◌}
use Rattle.std.proofs.Common.{inl, inr, refl, sym, ◌∙◌, ap, subst, arith, map}
use Rattle.std.specs.Prelude.{cond}
use Rattle.std.specs.List.{All, Contains, filter, list_any, range_with_len}
use Rattle.std.specs.Ordering.{int_eq}
use Rattle.std.proofs.lemmas.Bool.{or_cases, or_left, or_right, true≢false}
use Rattle.std.proofs.lemmas.List.FromFn.{length-range_with_len, get_or-range_with_len}
use Rattle.ideal_tri.specs.LabelLaws.{LabelLaws}
use Rattle.ideal_tri.specs.Labels.{inverse}
use Rattle.ideal_tri.specs.Triangulations.{IsLabel, edge_count}
use Rattle.train_track.specs.Tracks.{is_fork, is_switch, switches_of}
use Rattle.carry_map.specs.Anchors.{Place}
use Rattle.carry_map.specs.inside.Rays.{is_listed, at_listed, at_switches}
use Rattle.carry_map.proofs.ElementsAndPairs.{contains_here, contains_later, contains_cases, contains_none}
use Rattle.carry_map.proofs.ElementsAndPairs.{contains_map}
use Rattle.carry_map.proofs.ElementsAndPairs.{contains_filtered, filtered_contains}

same_bool : (a b : Bool) → (a ≡ true → b ≡ true) → (b ≡ true → a ≡ true) → a ≡ b
same_bool true b on back = sym (on refl)
same_bool false true on back = back refl
same_bool false false on back = refl

any_from : (p : ℤ → Bool) (xs : List ℤ) (x : ℤ) → Contains xs x → p x ≡ true → list_any p xs ≡ true
any_from p [] x h passes = absurd (contains_none x h)
any_from p (y ∷ xs) x h passes = elim (contains_cases y xs x h) [
  | inl e ↦ or_left (p y) (list_any p xs) (ap p e ∙ passes)
  | inr later ↦ or_right (p y) (list_any p xs) (any_from p xs x later passes)
]

from_any : (p : ℤ → Bool) (xs : List ℤ) → list_any p xs ≡ true → (x : ℤ) × Contains xs x × (p x ≡ true)
from_any p [] h = absurd (true≢false (sym h))
from_any p (x ∷ xs) h = elim (or_cases (p x) (list_any p xs) h) [
  | inl here ↦ (x, contains_here x xs, here)
  | inr later ↦ (let (y, has, passes) = from_any p xs later in (y, contains_later x xs y has, passes))
]

-- both labels of an edge are those of a switch, or neither
pub switch_back : (ts : List (List ℤ)) (out : List ℤ) (labels : LabelLaws) (y : ℤ) → is_switch ts out (inverse y) ≡ true
    → is_switch ts out y ≡ true
unfolding is_switch
switch_back ts out labels y h =
    elim (or_cases (is_fork ts out (inverse y)) (is_fork ts out (inverse (inverse y))) h) [
      | inl fork ↦ or_right (is_fork ts out y) (is_fork ts out (inverse y)) fork
      | inr fork ↦
          or_left (is_fork ts out y) (is_fork ts out (inverse y))
          (subst (λ (z : ℤ). is_fork ts out z ≡ true) (labels.twice y) fork)
    ]

listed_cases : (xs : List ℤ) (y : ℤ) → is_listed xs y ≡ true
    → (list_any (λ x. int_eq x y) xs ≡ true) ⊎ (list_any (λ x. int_eq x (inverse y)) xs ≡ true)
unfolding is_listed
listed_cases xs y h = or_cases (list_any (λ x. int_eq x y) xs) (list_any (λ x. int_eq x (inverse y)) xs) h

listed_here : (xs : List ℤ) (y : ℤ) → list_any (λ x. int_eq x y) xs ≡ true → is_listed xs y ≡ true
unfolding is_listed
listed_here xs y h = or_left (list_any (λ x. int_eq x y) xs) (list_any (λ x. int_eq x (inverse y)) xs) h

listed_back : (xs : List ℤ) (y : ℤ) → list_any (λ x. int_eq x (inverse y)) xs ≡ true → is_listed xs y ≡ true
unfolding is_listed
listed_back xs y h = or_right (list_any (λ x. int_eq x y) xs) (list_any (λ x. int_eq x (inverse y)) xs) h

module _ (ts : List (List ℤ)) (out : List ℤ) (labels : LabelLaws) where
  tested : (x y : ℤ) → int_eq x y ≡ true → x ≡ y
  tested x y h = elim (labels.same_or_not x y) [
    | inl e ↦ e
    | inr other ↦ absurd (true≢false (sym h ∙ labels.test_other x y other))
  ]

  switch_listed : (n : ℕ) → n < edge_count ts → is_switch ts out (pos n) ≡ true
      → list_any (λ x. int_eq x (pos n)) (switches_of ts out) ≡ true
  switch_listed n less switch =
      any_from (λ x. int_eq x (pos n)) (switches_of ts out) (pos n)
      (contains_filtered (is_switch ts out) (map pos (range_with_len 0 (edge_count ts))) (pos n)
      (contains_map pos (range_with_len 0 (edge_count ts)) n (
        n,
        omega (arith, length-range_with_len 0 (edge_count ts)),
        get_or-range_with_len 0 (edge_count ts) n n less ∙ omega arith,
      ))
      switch)
      (labels.test_same (pos n) (pos n) refl)

  listed_switch : (y : ℤ) → list_any (λ x. int_eq x y) (switches_of ts out) ≡ true → is_switch ts out y ≡ true
  listed_switch y h =
      let (x, has, passes) = from_any (λ x. int_eq x y) (switches_of ts out) h in
      subst (λ (z : ℤ). is_switch ts out z ≡ true) (tested x y passes)
      (filtered_contains (is_switch ts out) (map pos (range_with_len 0 (edge_count ts))) x has).1

  pub listed_is_switch : (y : ℤ) → IsLabel ts y → is_listed (switches_of ts out) y ≡ is_switch ts out y
  listed_is_switch y label = same_bool (is_listed (switches_of ts out) y) (is_switch ts out y) on (back y label)
    where
      on : is_listed (switches_of ts out) y ≡ true → is_switch ts out y ≡ true
      on h = elim (listed_cases (switches_of ts out) y h) [
        | inl here ↦ listed_switch y here
        | inr there ↦ switch_back ts out labels y (listed_switch (inverse y) there)
      ]

      back : (z : ℤ) → IsLabel ts z → is_switch ts out z ≡ true → is_listed (switches_of ts out) z ≡ true
      back (pos n) l h = listed_here (switches_of ts out) (pos n) (switch_listed n l h)
      back (negsuc n) l h =
          listed_back (switches_of ts out) (negsuc n)
          (switch_listed n l (switch_back ts out labels (pos n) h))

filter_same : {X : Type 0} (p q : X → Bool) (xs : List X) → ((x : X) → Contains xs x → p x ≡ q x)
    → filter p xs ≡ filter q xs
filter_same p q [] h = refl
filter_same {X} p q (x ∷ xs) h =
    ap (λ (b : Bool). cond b (x ∷ filter p xs) (filter p xs)) (h x (contains_here x xs))
    ∙ ap (λ (r : List X). cond (q x) (x ∷ r) r) (filter_same p q xs (λ y has. h y (contains_later x xs y has)))

-- places with labels
pub listed_at_switches : (ts : List (List ℤ)) (out : List ℤ) (labels : LabelLaws) (places : List Place)
    → ((p : Place) → Contains places p → IsLabel ts p.label)
    → at_listed (switches_of ts out) places ≡ at_switches ts out places
listed_at_switches ts out labels places h =
    filter_same (λ (p : Place). is_listed (switches_of ts out) p.label) (λ (p : Place). is_switch ts out p.label) places
    (λ p has. listed_is_switch ts out labels p.label (h p has))

-- letters that are labels
pub listed_letters : (ts : List (List ℤ)) (out : List ℤ) (labels : LabelLaws) (w : List ℤ) → All (IsLabel ts) w
    → filter (is_listed (switches_of ts out)) w ≡ filter (is_switch ts out) w
listed_letters ts out labels w are =
    filter_same (is_listed (switches_of ts out)) (is_switch ts out) w
    (λ x (k, less, e). listed_is_switch ts out labels x (subst (IsLabel ts) e (are k x less)))
