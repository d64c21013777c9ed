-- The places at listed labels along a word, as they are added one by one.
use Rattle.std.proofs.Common.{◌≡◌, ◌<◌, ◌+◌, ◌++◌, ℕ, ℤ, List, [], ◌∷◌, length, get_or, sym, ◌∙◌, ap}
use Rattle.std.proofs.lemmas.List.{drop_more, take_more}
use Rattle.std.proofs.lemmas.List.Elements.{filter-append}
use Rattle.ideal_tri.specs.Labels.{inverse}
use Rattle.std.specs.Prelude.{take, drop}
use Rattle.carry_map.specs.Anchors.{Place}
use Rattle.carry_map.specs.inside.Rays.{places_back, places_on, at_listed, is_listed}

-- back to so many letters
abbrev pub back_to : List ℤ → List ℤ → ℕ → List Place
back_to labels word d = at_listed labels (places_back (take d word) (drop d word))

-- from so many letters on
abbrev pub on_from : List ℤ → List ℤ → ℕ → List Place
on_from labels word d = at_listed labels (places_on (take d word) (drop d word))

-- one letter further back
pub back_one : (labels word : List ℤ) (d : ℕ) (x : ℤ) → d < length word → x ≡ get_or word d x
    → back_to labels word d
    ≡ back_to labels word (d + 1)
    ++ at_listed labels (record { connect = take (d + 1) word; label = inverse x } ∷ [])
back_one labels word d x less is =
    ap (λ (w : List ℤ). at_listed labels (places_back (take d word) w))
    (drop_more word d x less ∙ ap (λ (y : ℤ). y ∷ drop (d + 1) word) (sym is))
    ∙ ap (λ (c : List ℤ). at_listed labels (places_back c (drop (d + 1) word)
    ++ (record { connect = c; label = inverse x } ∷ [])))
    (ap (λ (y : ℤ). take d word ++ (y ∷ [])) is ∙ sym (take_more word d x less))
    ∙ filter-append (λ (p : Place). is_listed labels p.label) (places_back (take (d + 1) word) (drop (d + 1) word))
    (record { connect = take (d + 1) word; label = inverse x } ∷ [])
