-- A loop makes the trees of a list's entries one by one. At its end the tree of the list is made
-- (`all_made`); where the entries are first turned to something else, that is one step (`in_one`).
use Rattle.std.proofs.Common.{◌≡◌, ℕ, ◌≤◌, ◌<◌, ◌+◌, List, [], ◌∷◌, ◌++◌, length, map, take, get_or, sym, ap, refl}
use Rattle.std.proofs.Common.{◌∙◌}
use Rattle.std.proofs.lemmas.List.{take_all, take_more, map-append}
use Rattle.std.proofs.lemmas.Simd.{map-map}
use Rattle.serde_json.specs.Data.{Data, array, item}
use Rattle.serde_json.specs.View.{view, items_of, items_view}
use Rattle.serde_json.specs.declared.value.Value.{Value}
use Rattle.cert_text.specs.Texts.{list_of}

same_list : (ds : List Data) → items_of ds ≡ list_of ds
same_list [] = refl
same_list (d ∷ ds) = ap (item d) (same_list ds)

pub all_made : {X : Type 0} (f : X → Data) (xs : List X) (i : ℕ) (vs : List Value) → length xs ≤ i
    → map view vs ≡ map f (take i xs) → array (items_view vs) ≡ array (list_of (map f xs))
all_made f xs i vs h so_far =
    ap array
    (ap items_of (so_far ∙ ap (map f) (take_all i xs h)) ∙ same_list (map f xs))

pub in_one : {X Y : Type 0} (f : X → Y) (g : Y → Data) (xs : List X)
    → array (list_of (map (λ x. g (f x)) xs)) ≡ array (list_of (map g (map f xs)))
in_one f g xs = ap (λ (ds : List Data). array (list_of ds)) (sym (map-map g f xs))

-- one more entry, seen by s, is made
pub made_more : {X Y : Type 0} (f : Y → Data) (s : X → Y) (xs : List X) (i : ℕ) (vs : List Value) (x d : X) (v : Value)
    → i < length xs → x ≡ get_or xs i d → map view vs ≡ map (λ x. f (s x)) (take i xs) → view v ≡ f (s x)
    → map view (vs ++ v ∷ []) ≡ map (λ x. f (s x)) (take (i + 1) xs)
made_more f s xs i vs x d v h is so_far now =
    map-append view vs (v ∷ [])
    ∙ ap (λ (ds : List Data). ds ++ view v ∷ []) so_far
    ∙ ap (λ (d : Data). map (λ x. f (s x)) (take i xs) ++ d ∷ []) now
    ∙ sym (map-append (λ x. f (s x)) (take i xs) (x ∷ []))
    ∙ ap (map (λ x. f (s x))) (ap (λ (z : _). take i xs ++ z ∷ []) is ∙ sym (take_more xs i d h))
