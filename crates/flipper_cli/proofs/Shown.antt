-- Laws of lines with a word and values, such as that of the generators' names.
use Rattle.std.proofs.Common.{◌≡◌, ◌≤◌, ◌++◌, ℕ, List, [], ◌∷◌, map, length, drop, refl, sym, ◌∙◌, ap}
use Rattle.std.proofs.Common.{append_assoc, append-nil}
use Rattle.std.proofs.lemmas.List.{at_drop_all}
use Rattle.std.specs.List.{flat_map}
use Rattle.std.specs.Map.{keys_of}
use Rattle.std.specs.Prelude.{String, string_bytes}
use Rattle.std.specs.declared.alloc.Global.{Global}
use Rattle.tri_atlas.specs.Arena.{Arena}
use Rattle.tri_atlas.specs.Paths.{MovePath}
use Rattle.surface_lib.specs.Described.{named_moves}

-- the texts of values, each with one space before it
abbrev pub spaced : {A : Type 0} → (A → List ℕ) → List A → List ℕ
spaced text_of values = flat_map (λ v. 32 ∷ text_of v) values

-- one value more is written
pub spaced_on : {A : Type 0} (text_of : A → List ℕ) (text longer : List ℕ) (v : A) (before after : List A)
    → before ≡ v ∷ after → longer ≡ text ++ (32 ∷ text_of v)
    → longer ++ spaced text_of after ≡ text ++ spaced text_of before
spaced_on {A} text_of text longer v before after is written =
    ap (λ (z : List ℕ). z ++ spaced text_of after) written
    ∙ append_assoc text (32 ∷ text_of v) (spaced text_of after)
    ∙ sym (ap (λ (z : List A). text ++ spaced text_of z) is)

-- the texts of all values
pub spaced_texts : {A : Type 0} (text_of : A → List ℕ) (values : List A)
    → spaced text_of values ≡ flat_map (λ v. 32 ∷ v) (map text_of values)
spaced_texts text_of [] = refl
spaced_texts text_of (v ∷ values) =
    ap (λ (z : List ℕ). (32 ∷ text_of v) ++ z) (spaced_texts text_of values)

-- the names of the entries of a surface are those of its generators
pub spaced_keys : (arena : Arena) (entries : List (String Global × MovePath))
    → spaced string_bytes (keys_of entries) ≡ flat_map (λ v. 32 ∷ v) (map (λ g. g.spelt) (map (named_moves arena) entries))
spaced_keys arena [] = refl
spaced_keys arena (e ∷ entries) =
    ap (λ (z : List ℕ). (32 ∷ string_bytes e.0) ++ z) (spaced_keys arena entries)

-- the whole line is written
pub line_written : (start word names text written : List ℕ) → text ++ [] ≡ (start ++ word) ++ names
    → written ≡ text ++ 10 ∷ [] → written ≡ start ++ (word ++ (names ++ 10 ∷ []))
line_written start word names text written is ended =
    ended
    ∙ ap (λ (z : List ℕ). z ++ 10 ∷ []) (sym (append-nil text) ∙ is)
    ∙ append_assoc (start ++ word) names (10 ∷ [])
    ∙ append_assoc start word (names ++ 10 ∷ [])

-- the whole line of a word and values is written
pub values_written : {A : Type 0} (text_of : A → List ℕ) (start word text written : List ℕ) (values : List A) (k : ℕ)
    → length values ≤ k → text ++ spaced text_of (drop k values) ≡ (start ++ word) ++ spaced text_of values
    → written ≡ text ++ 10 ∷ []
    → written ≡ start ++ (word ++ (flat_map (λ v. 32 ∷ v) (map text_of values) ++ 10 ∷ []))
values_written {A} text_of start word text written values k all left ended =
    line_written start word (flat_map (λ v. 32 ∷ v) (map text_of values)) text written
    (sym (at_drop_all (λ (z : List A). text ++ spaced text_of z) values k all)
    ∙ left
    ∙ ap (λ (z : List ℕ). (start ++ word) ++ z) (spaced_texts text_of values))
    ended
