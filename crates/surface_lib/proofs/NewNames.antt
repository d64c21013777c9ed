-- Names that no generator has yet.
use Rattle.std.proofs.Common.{◌≡◌, ℕ, false, List, [], ◌∷◌, ◌++◌, Option, Some, None, refl, ◌∙◌, ap}
use Rattle.std.proofs.Common.{inl, inr, is_some, map, String, Global, string_bytes, true≢false}
use Rattle.std.specs.Map.{lookup}
use Rattle.std.specs.Str.{bytes_eq}
use Rattle.std.specs.String.{string_eq}
use Rattle.std.proofs.lemmas.Bool.{cases_Bool}
use Rattle.std.proofs.lemmas.List.{map-append}
use Rattle.indexmap.specs.IndexMap.{IndexMap, insert_entry, get}
use Rattle.indexmap.proofs.CallerLemmas.{insert_entry-new}
use Rattle.tri_atlas.specs.Arena.{Arena}
use Rattle.tri_atlas.specs.Paths.{MovePath, moves_of}
use Rattle.surface_lib.specs.Described.{named_moves}
use Rattle.surface_lib.specs.GeneratorFiles.{is_taken}

-- a name is taken if the map has it
pub name_found : (arena : Arena) (es : List (String Global × MovePath)) (name : List ℕ)
    → is_some (lookup (λ k. bytes_eq name (string_bytes k)) es) ≡ is_taken (map (named_moves arena) es) name
name_found arena [] name = refl
name_found arena (e ∷ es) name =
    elim (cases_Bool (bytes_eq name (string_bytes e.0))) [
      | inl same ↦ rw same
      | inr apart ↦ rw apart (name_found arena es name)
    ]

key_found : (arena : Arena) (es : List (String Global × MovePath)) (k : String Global)
    → is_some (lookup (string_eq k) es) ≡ is_taken (map (named_moves arena) es) (string_bytes k)
key_found arena [] k = refl
key_found arena (e ∷ es) k =
    elim (cases_Bool (string_eq k e.0)) [
      | inl same ↦ rw same
      | inr apart ↦ rw apart (key_found arena es k)
    ]

nothing_found : {X : Type 0} (o : Option X) → is_some o ≡ false → o ≡ None
nothing_found None e = refl
nothing_found (Some x) e = absurd (true≢false e)

-- a generator with a new name goes last
pub stands_last : {S : Type 0} (arena : Arena) (m : IndexMap (String Global) MovePath S) (k : String Global) (path
    : MovePath) (name : List ℕ) (new : List (String Global × MovePath))
    → string_bytes k ≡ name → new ≡ insert_entry string_eq m.entries k path
    → is_taken (map (named_moves arena) m.entries) name ≡ false
    → map (named_moves arena) new
    ≡ map (named_moves arena) m.entries ++ record { spelt = name; moves = moves_of arena path } ∷ []
stands_last arena m k path name new spelt is fresh =
    let none : get string_eq m k ≡ None =
    nothing_found (get string_eq m k)
    (key_found arena m.entries k ∙ ap (is_taken (map (named_moves arena) m.entries)) spelt ∙ fresh) in
    ap (map (named_moves arena)) (is ∙ insert_entry-new string_eq m k path none)
    ∙ map-append (named_moves arena) m.entries ((k, path) ∷ [])
    ∙ ap (λ (z : List ℕ). map (named_moves arena) m.entries ++ record { spelt = z; moves = moves_of arena path } ∷ [])
    spelt
