-- Lemmas for the law `finite`: a map from names to files has finitely many names.
use Rattle.std.specs.Prelude.{◌≡◌, ℕ, List, [], ◌∷◌, map, Option, Some, None, Bool, true, false}
use Rattle.std.specs.Prelude.{cond, ◌||◌, String, string_bytes, refl}
use Rattle.std.proofs.Common.{ap, subst}
use Rattle.std.proofs.lemmas.Map.Text.{is_eq-slice_cmp}
use Rattle.std.specs.BTreeMap.{BTreeMap, get_by_text, is_at}
use Rattle.std.specs.Cmp.Lexicographic.{slice_cmp}
use Rattle.std.specs.List.{list_any}
use Rattle.std.specs.Map.{lookup}
use Rattle.std.specs.Option.{option_map}
use Rattle.std.specs.Ordering.{nat_cmp}
use Rattle.std.specs.Str.{bytes_eq}
use Rattle.std.specs.declared.alloc.Global.{Global}
use Rattle.flip_io.specs.Files.{Files}
use Rattle.flip_io.specs.Finite.{IsFinite}

abbrev pub no_value : {X : Type 0} → Option X → Type 0
no_value None = Unit {0}
no_value (Some x) = ⊥

pub not_none : {X : Type 0} (x : X) → None ≡ Some x → ⊥
not_none {X = X} x h = let P : Option X → Type 0 = λ o. no_value o in subst P h tt

-- what `f` makes of an option is there only where the option is
has_value : {X Y : Type 0} (f : X → Y) (o : Option X) (y : Y) → option_map f o ≡ Some y
    → (x : X) × (o ≡ Some x)
has_value f None y h = absurd (not_none y h)
has_value f (Some x) y h = (x, refl)

-- what was found is at the first entry or behind it
found_here_or_later : {X : Type 0} (b : Bool) (v : Option X) (rest : Bool) (x y : X)
    → cond b (Some y) v ≡ Some x → (v ≡ Some x → rest ≡ true) → (b || rest) ≡ true
found_here_or_later true v rest x y h next = refl
found_here_or_later false v rest x y h next = next h

-- a key that a look-up finds is one of the entries' keys
lookup-among_keys : {X : Type 0} (es : List (String Global × X)) (bs : List ℕ) (x : X)
    → lookup (is_at (λ k. slice_cmp nat_cmp bs (string_bytes k))) es ≡ Some x
    → list_any (bytes_eq bs) (map (λ e. string_bytes e.0) es) ≡ true
lookup-among_keys [] bs x h = absurd (not_none x h)
lookup-among_keys {X = X} (e ∷ es) bs x h =
    let later = lookup (is_at (λ k. slice_cmp nat_cmp bs (string_bytes k))) es in
    let P : Bool → Type 0 = λ b. cond b (Some e.1) later ≡ Some x in
    let here = subst P (is_eq-slice_cmp bs (string_bytes e.0)) h in
    found_here_or_later (bytes_eq bs (string_bytes e.0)) _ _ x e.1 here (lookup-among_keys es bs x)

pub map_is_finite : {X : Type 0} (f : X → List ℕ) (m : BTreeMap (String Global) X)
    → IsFinite (λ name. option_map f (get_by_text m name))
map_is_finite f m = record {
  names = map (λ e. string_bytes e.0) m.entries;
  all = λ name file h.
      let found = has_value f (get_by_text m name) file h in
      lookup-among_keys m.entries name found.0 found.1;
}

abbrev value_or : {A : Type 0} (a : A) → Option A → A
value_or a None = a
value_or a (Some b) = b

-- the law `finite` of a shelf that tells such a map
pub told_map_is_finite : {X : Type 0} (f : X → List ℕ) (m : BTreeMap (String Global) X)
    (files : Files)
    → Some (λ (name : List ℕ). option_map f (get_by_text m name)) ≡ Some files → IsFinite files
told_map_is_finite f m files h = let P : Files → Type 0 = λ z. IsFinite z in
    subst P (ap (λ o. value_or files o) h) (map_is_finite f m)
