-- The generators of a surface file.
use Rattle.std.specs.Prelude.{◌≡◌, ◌+◌, ℕ, ℤ, List, [], ◌∷◌, ◌++◌, Bool, true, false, ◌&&◌, not}
use Rattle.std.specs.Prelude.{Option, Some, None}
use Rattle.std.specs.Prelude.{Result, Ok, Err, MatchResult, is_some, option_and_then, codes}
use Rattle.std.specs.Prelude.{if◌then◌else◌}
use Rattle.std.specs.List.{list_any}
use Rattle.std.specs.Option.{ok_or}
use Rattle.std.specs.Str.{bytes_eq}
use Rattle.serde_json.specs.Data.{Data}
use Rattle.serde_json.specs.Find.{get, as_object, as_str}
use Rattle.tri_atlas.specs.Moves.{Move}
use Rattle.surface_lib.specs.Described.{NamedMoves}
use Rattle.surface_lib.specs.FlipsForms.{IsReadAsFlips}
use Rattle.surface_lib.specs.Products.{product_form}
use Rattle.surface_lib.specs.Readings.{if_ok}
use Rattle.surface_lib.specs.Spelling.{is_generator_name}
use Rattle.surface_lib.specs.TwistForms.{IsReadAsTwist}
use Rattle.surface_lib.specs.Twists.{TwistRelation}
use Rattle.surface_lib.specs.declared.generators.Form.{Form}
use Rattle.surface_lib.specs.declared.generators.Form.TheVariants.{Flips, Twist, Product}
use Rattle.surface_lib.specs.declared.version.Version.{Version}
use Rattle.surface_lib.specs.declared.version.Version.TheVariants.{One, Two}
use Rattle.surface_lib.specs.declared.surface_error.Key.TheVariants.{Generator as Entry, Name}
use Rattle.surface_lib.specs.declared.surface_error.GeneratorFault.{GeneratorFault}
use Rattle.surface_lib.specs.declared.surface_error.GeneratorFault.TheVariants.{MissingKey}
use Rattle.surface_lib.specs.declared.surface_error.GeneratorFault.TheVariants.{BadShape, BadName}
use Rattle.surface_lib.specs.declared.surface_error.GeneratorFault.TheVariants.{SameName}
use Rattle.surface_lib.specs.declared.surface_error.SurfaceError.{SurfaceError}
use Rattle.surface_lib.specs.declared.surface_error.SurfaceError.TheVariants.{Generator}

-- ---- names

-- an earlier generator has the name
abbrev pub is_taken : List NamedMoves → List ℕ → Bool
is_taken earlier spelt = list_any (λ g. bytes_eq spelt g.spelt) earlier

abbrev pub name_in : Data → Option (List ℕ)
name_in d = option_and_then (λ s. if is_generator_name s then Some s else None) (as_str d)

-- the name of the entry behind the earlier generators
abbrev pub new_name : List NamedMoves → Data → Result (List ℕ) GeneratorFault
new_name earlier d =
    if not (is_some (as_object d)) then Err (BadShape Entry)
    else if_ok (ok_or (get (codes "name") d) (MissingKey Name)) (λ v.
    if_ok (ok_or (name_in v) BadName) (λ s.
    if is_taken earlier s then Err SameName else Ok s))

-- ---- the forms

abbrev pub has_products : Version → Bool
has_products One = false
has_products Two = true

-- which form an object has: that with a twist exactly where it has such a key; in version 2 that of
-- a product where it has a word
abbrev pub form_of : Version → Data → Form
form_of version d =
    if is_some (get (codes "twist") d) then Twist
    else if has_products version && is_some (get (codes "word") d) then Product
    else Flips

-- what the generator does that an object is, behind the earlier ones; or its first fault
abbrev pub IsReadAs : TwistRelation → Form → List (List ℤ) → List NamedMoves → Data
    → Result (List Move) GeneratorFault → Type 0
IsReadAs twists Flips base earlier d result = IsReadAsFlips base d result
IsReadAs twists Twist base earlier d result = IsReadAsTwist twists base d result
IsReadAs twists Product base earlier d result = result ≡ product_form earlier d

-- ---- the list

abbrev pub with_name : List ℕ → Result (List Move) GeneratorFault → Result NamedMoves GeneratorFault
with_name spelt (Ok moves) = Ok (record { spelt = spelt; moves = moves })
with_name spelt (Err fault) = Err fault

-- the generator that an entry is behind the earlier ones, or its first fault
abbrev pub IsGeneratorRead : TwistRelation → Version → List (List ℤ) → List NamedMoves → Data
    → Result NamedMoves GeneratorFault → Type 0
IsGeneratorRead twists version base earlier d result =
    MatchResult (new_name earlier d)
    (λ spelt. (moves : Result (List Move) GeneratorFault)
    × IsReadAs twists (form_of version d) base earlier d moves × (result ≡ with_name spelt moves))
    (λ fault. result ≡ Err fault)

-- the earlier generators and those of the entries behind them, the first of which has the index i;
-- or the first refusal
abbrev pub AreGeneratorsRead : TwistRelation → Version → List (List ℤ) → ℕ → List NamedMoves
    → List Data → Result (List NamedMoves) SurfaceError → Type 0
AreGeneratorsRead twists version base i earlier [] result = result ≡ Ok earlier
AreGeneratorsRead twists version base i earlier (d ∷ ds) result =
    (read : Result NamedMoves GeneratorFault) × IsGeneratorRead twists version base earlier d read
    × MatchResult read (λ g. AreGeneratorsRead twists version base (i + 1) (earlier ++ g ∷ []) ds result)
    (λ fault. result ≡ Err (Generator i fault))
