-- Lists of words in order: none, one, and one list behind another.
use Rattle.std.proofs.Common.{ℕ, ℤ, List, [], ◌∷◌, ◌++◌, ◌≡◌, ◌⊎◌, inl, inr, ◌+◌, ◌-◌, ◌<◌, refl, sym, ◌∙◌}
use Rattle.std.proofs.Common.{subst, ap, arith, length, get_or, map, length-append, append_assoc}
use Rattle.std.specs.List.{Contains}
use Rattle.std.proofs.lemmas.Bool.{cases_lt}
use Rattle.std.proofs.lemmas.List.{append-nil, get_or_append_left, get_or-append_right, map-append}
use Rattle.std.proofs.lemmas.List.Elements.{All-nil, All-cons, All-append, All-weaker}
use Rattle.std.proofs.lemmas.List.Elements.{Contains-append_left, Contains-append_right}
use Rattle.free_groupoid.specs.Walks.{DualWalk, walk_of_letters}
use Rattle.multicurve_cert.specs.Cycles.{IsBefore}
use Rattle.multicurve_cert.specs.inside.CycleParts.{IsListOf, Adds}

pub list_none : (P : List ℤ → Type 0) → ((w : List ℤ) → P w → ⊥) → IsListOf P []
list_none P none = record {
  each = All-nil P;
  all = λ w h. absurd (none w h);
  rising = λ i short. absurd (omega arith);
}

pub list_one : (P : List ℤ → Type 0) (v : List ℤ) → P v → ((w : List ℤ) → P w → w ≡ v) → IsListOf P (v ∷ [])
list_one P v holds only = record {
  each = All-cons P v [] holds (All-nil P);
  all = λ w h. (0, omega arith, sym (only w h));
  rising = λ i short. absurd (omega arith);
}

-- the words of the second list come behind those of the first
rising_join : (us vs : List (List ℤ)) (i : ℕ)
    → ((j : ℕ) → j + 1 < length us → IsBefore (get_or us j []) (get_or us (j + 1) []))
    → ((j : ℕ) → j + 1 < length vs → IsBefore (get_or vs j []) (get_or vs (j + 1) []))
    → ((j k : ℕ) → j < length us → k < length vs → IsBefore (get_or us j []) (get_or vs k []))
    → i + 1 < length (us ++ vs) → IsBefore (get_or (us ++ vs) i []) (get_or (us ++ vs) (i + 1) [])
rising_join us vs i left right between inside =
    let long : length (us ++ vs) ≡ length us + length vs = length-append us vs in
    elim (cases_lt i (length us)) as (λ _. IsBefore (get_or (us ++ vs) i []) (get_or (us ++ vs) (i + 1) [])) [
      | inr after ↦
          subst (λ (w : List ℤ). IsBefore w (get_or (us ++ vs) (i + 1) []))
          (sym (get_or-append_right us vs (length us) i [] refl after))
          (subst (IsBefore (get_or vs (i - length us) []))
          (ap (λ (k : ℕ). get_or vs k []) (let k : i - length us + 1 ≡ i + 1 - length us = omega arith in k)
          ∙ sym (get_or-append_right us vs (length us) (i + 1) [] refl (omega arith)))
          (right (i - length us) (omega arith)))
      | inl before ↦
          subst (λ (w : List ℤ). IsBefore w (get_or (us ++ vs) (i + 1) [])) (sym (get_or_append_left us vs [] i before))
          (elim (cases_lt (i + 1) (length us)) as (λ _. IsBefore (get_or us i []) (get_or (us ++ vs) (i + 1) [])) [
            | inl still ↦
                subst (IsBefore (get_or us i [])) (sym (get_or_append_left us vs [] (i + 1) still)) (left i still)
            | inr ended ↦
                subst (IsBefore (get_or us i []))
                (sym (get_or-append_right us vs (length us) (i + 1) [] refl ended))
                (between i (i + 1 - length us) before (omega arith))
          ])
    ]

pub list_join : (P Q R : List ℤ → Type 0) (us vs : List (List ℤ)) → IsListOf P us → IsListOf Q vs
    → ((u v : List ℤ) → P u → Q v → IsBefore u v)
    → ((w : List ℤ) → P w → R w) → ((w : List ℤ) → Q w → R w) → ((w : List ℤ) → R w → P w ⊎ Q w)
    → IsListOf R (us ++ vs)
list_join P Q R us vs left right before from_left from_right either = record {
  each = All-append R us vs (All-weaker P R from_left us left.each) (All-weaker Q R from_right vs right.each);
  all = λ w h. elim (either w h) as (λ _. Contains (us ++ vs) w) [
    | inl p ↦ Contains-append_left us vs w (left.all w p)
    | inr q ↦ Contains-append_right us vs w (right.all w q)
  ];
  rising = λ i inside. rising_join us vs i left.rising right.rising
      (λ j k in_left in_right. before _ _ (left.each j [] in_left) (right.each k [] in_right)) inside;
}

pub list_same : (P R : List ℤ → Type 0) (us : List (List ℤ)) → IsListOf P us
    → ((w : List ℤ) → P w → R w) → ((w : List ℤ) → R w → P w) → IsListOf R us
list_same P R us h to back = record {
  each = All-weaker P R to us h.each;
  all = λ w r. h.all w (back w r);
  rising = h.rising;
}

-- ---- walks that are put behind others

pub adds_none : (triples : List (List ℤ)) (P : List ℤ → Type 0) (walks : List DualWalk) → ((w : List ℤ) → P w → ⊥)
    → Adds triples P walks walks
adds_none triples P walks none = record { words = []; added = sym (append-nil walks); list = list_none P none }

pub adds_one : (triples : List (List ℤ)) (P : List ℤ → Type 0) (old new : List DualWalk) (v : List ℤ) → P v
    → ((w : List ℤ) → P w → w ≡ v) → new ≡ old ++ (walk_of_letters triples v ∷ []) → Adds triples P old new
adds_one triples P old new v holds only is_new = record {
  words = v ∷ [];
  added = is_new;
  list = list_one P v holds only;
}

pub adds_join : (triples : List (List ℤ)) (P Q R : List ℤ → Type 0) (old mid new : List DualWalk)
    → Adds triples P old mid → Adds triples Q mid new
    → ((u v : List ℤ) → P u → Q v → IsBefore u v)
    → ((w : List ℤ) → P w → R w) → ((w : List ℤ) → Q w → R w) → ((w : List ℤ) → R w → P w ⊎ Q w)
    → Adds triples R old new
adds_join triples P Q R old mid new left right before from_left from_right either = record {
  words = left.words ++ right.words;
  added = right.added
      ∙ ap (λ (z : List DualWalk). z ++ map (walk_of_letters triples) right.words) left.added
      ∙ append_assoc old (map (walk_of_letters triples) left.words) (map (walk_of_letters triples) right.words)
      ∙ ap (λ (z : List DualWalk). old ++ z) (sym (map-append (walk_of_letters triples) left.words right.words));
  list = list_join P Q R left.words right.words left.list right.list before from_left from_right either;
}

pub adds_same : (triples : List (List ℤ)) (P R : List ℤ → Type 0) (old new : List DualWalk) → Adds triples P old new
    → ((w : List ℤ) → P w → R w) → ((w : List ℤ) → R w → P w) → Adds triples R old new
adds_same triples P R old new h to back = record {
  words = h.words;
  added = h.added;
  list = list_same P R h.words h.list to back;
}
