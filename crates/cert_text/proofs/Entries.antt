-- What is read of the entries of a list, one after another.
--
-- `all_read f` reads each entry by f, from the first on, and is nothing where f reads nothing in some entry. A loop goes
-- the same way but builds its list at the end. So `all_read` of a list with one more entry behind it is what was read
-- before and the new entry behind it (`all_read-append`), which is a step of a loop (`read_more`) and its end
-- (`read_all`). An entry in which f reads nothing makes the whole nothing, wherever it stands (`read_stuck`).
use Rattle.std.proofs.Common.{◌≡◌, ℕ, zero, suc, ◌+◌, ◌<◌, ◌≤◌, List, [], ◌∷◌, ◌++◌, length}
use Rattle.std.proofs.Common.{map, take, get_or, Option, Some, None, option_and_then, refl, sym, ap, ◌∙◌, arith}
use Rattle.std.specs.Option.{option_map}
use Rattle.std.proofs.lemmas.List.{map-append, take_more, take_all}
use Rattle.serde_json.specs.Data.{Data}
use Rattle.serde_json.specs.View.{view, items_of}
use Rattle.serde_json.specs.declared.value.Value.{Value}
use Rattle.cert_text.specs.Shapes.{entries_of, all_read}

pub entries_of-items_of : (ds : List Data) → entries_of (items_of ds) ≡ ds
entries_of-items_of [] = refl
entries_of-items_of (d ∷ ds) = ap (λ (es : List Data). d ∷ es) (entries_of-items_of ds)

-- ---- one more entry

append_step : {X : Type 0} (first : Option X) (rest : Option (List X)) (last : Option X)
    → option_and_then (λ y. option_map (λ ys. y ∷ ys)
    (option_and_then (λ xs. option_map (λ x. xs ++ x ∷ []) last) rest)) first
    ≡ option_and_then (λ xs. option_map (λ x. xs ++ x ∷ []) last)
    (option_and_then (λ y. option_map (λ ys. y ∷ ys) rest) first)
append_step None rest last = refl
append_step (Some y) None last = refl
append_step (Some y) (Some ys) None = refl
append_step (Some y) (Some ys) (Some x) = refl

only_step : {X : Type 0} (last : Option X)
    → option_and_then (λ y. option_map (λ ys. y ∷ ys) (Some [])) last ≡ option_map (λ x. x ∷ []) last
only_step None = refl
only_step (Some x) = refl

pub all_read-append : {X : Type 0} (f : Data → Option X) (ds : List Data) (d : Data)
    → all_read f (ds ++ d ∷ []) ≡ option_and_then (λ xs. option_map (λ x. xs ++ x ∷ []) (f d)) (all_read f ds)
all_read-append f [] d = only_step (f d)
all_read-append f (e ∷ ds) d =
    ap (λ (r : Option (List _)). option_and_then (λ y. option_map (λ ys. y ∷ ys) r) (f e)) (all_read-append f ds d)
    ∙ append_step (f e) (all_read f ds) (f d)

-- a loop's step: the entry at i is read too
pub read_more : {X : Type 0} (f : Data → Option X) (vs : List Value) (i : ℕ) (v : Value) (xs : List X) (x : X)
    → i < length vs → v ≡ get_or vs i v → all_read f (map view (take i vs)) ≡ Some xs → Some x ≡ f (view v)
    → all_read f (map view (take (i + 1) vs)) ≡ Some (xs ++ x ∷ [])
read_more f vs i v xs x h is so_far now =
    ap (λ (z : List Value). all_read f (map view z))
    (take_more vs i v h ∙ ap (λ (z : Value). take i vs ++ z ∷ []) (sym is))
    ∙ ap (all_read f) (map-append view (take i vs) (v ∷ []))
    ∙ all_read-append f (map view (take i vs)) (view v)
    ∙ ap (option_and_then (λ ys. option_map (λ y. ys ++ y ∷ []) (f (view v)))) so_far
    ∙ ap (option_map (λ y. xs ++ y ∷ [])) (sym now)

-- the same where the entries are seen by s
pub seen_more : {X Y : Type 0} (f : Data → Option Y) (s : X → Y) (vs : List Value) (i : ℕ) (v : Value) (xs : List X)
    (x : X) → i < length vs → v ≡ get_or vs i v → all_read f (map view (take i vs)) ≡ Some (map s xs)
    → Some (s x) ≡ f (view v) → all_read f (map view (take (i + 1) vs)) ≡ Some (map s (xs ++ x ∷ []))
seen_more f s vs i v xs x h is so_far now =
    read_more f vs i v (map s xs) (s x) h is so_far now ∙ ap Some (sym (map-append s xs (x ∷ [])))

-- all entries are read
pub read_all : {X : Type 0} (f : Data → Option X) (vs : List Value) (i : ℕ) (xs : List X) → length vs ≤ i
    → all_read f (map view (take i vs)) ≡ Some xs → Some xs ≡ all_read f (map view vs)
read_all f vs i xs h so_far = sym so_far ∙ ap (λ (z : List Value). all_read f (map view z)) (take_all i vs h)

-- ---- an entry that reads nothing

nothing : {X Y : Type 0} (o : Option X) → None ≡ option_and_then {T = X} {U = Y} (λ x. None) o
nothing None = refl
nothing (Some x) = refl

pub read_stuck : {X : Type 0} (f : Data → Option X) (vs : List Value) (i : ℕ) (v : Value)
    → i < length vs → v ≡ get_or vs i v → None ≡ f (view v) → None ≡ all_read f (map view vs)
read_stuck f [] i v h is now = absurd (omega arith)
read_stuck f (w ∷ vs) zero v h is now =
    ap (option_and_then (λ y. option_map (λ ys. y ∷ ys) (all_read f (map view vs))))
    (now ∙ ap (λ (z : Value). f (view z)) is)
read_stuck f (w ∷ vs) (suc i) v h is now =
    nothing (f (view w))
    ∙ ap (λ (r : Option (List _)). option_and_then (λ y. option_map (λ ys. y ∷ ys) r) (f (view w)))
    (read_stuck f vs i v (omega arith) is now)
