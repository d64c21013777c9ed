-- What stands at the keys of a surface file, or the first refusal.
use Rattle.std.specs.Prelude.{ℕ, ℤ, pos, List, Option, Some, None, option_and_then, ok_or, codes}
use Rattle.std.specs.Prelude.{Result, Ok, if◌then◌else◌, ⊤}
use Rattle.std.specs.Ordering.{int_eq}
use Rattle.std.specs.Str.{bytes_eq}
use Rattle.serde_json.specs.Data.{Data}
use Rattle.serde_json.specs.Find.{get, as_object, as_str}
use Rattle.surface_lib.specs.Json.{list_in, triangles_in, whole_in}
use Rattle.surface_lib.specs.Readings.{if_ok}
use Rattle.surface_lib.specs.Spelling.{is_surface_name}
use Rattle.surface_lib.specs.declared.surface_error.Key.{Key}
use Rattle.surface_lib.specs.declared.surface_error.Key.TheVariants as key
use Rattle.surface_lib.specs.declared.surface_error.SurfaceError.{SurfaceError}
use Rattle.surface_lib.specs.declared.surface_error.SurfaceError.TheVariants.{MissingKey, BadShape}
use Rattle.surface_lib.specs.declared.version.Version.{Version}
use Rattle.surface_lib.specs.declared.version.Version.TheVariants.{One, Two}

-- ---- the shape of each value

abbrev pub format_in : Data → Option ⊤
format_in d =
    option_and_then (λ s. if bytes_eq s (codes "flipper-surface") then Some tt else None) (as_str d)

abbrev pub version_of : ℤ → Option Version
version_of z = if int_eq z (pos 1) then Some One else if int_eq z (pos 2) then Some Two else None

abbrev pub version_in : Data → Option Version
version_in d = option_and_then version_of (whole_in d)

abbrev pub name_in : Data → Option (List ℕ)
name_in d = option_and_then (λ s. if is_surface_name s then Some s else None) (as_str d)

-- ---- the keys in their order

-- what is read in the value at a key of the root
abbrev pub at_key : {X : Type 0} → Key → List ℕ → (Data → Option X) → Data → Result X SurfaceError
at_key k spelt read d =
    if_ok (ok_or (get spelt d) (MissingKey k)) (λ v. ok_or (read v) (BadShape k))

-- what the keys of a file hold; the entries of its generators are read later
pub record Keys : Type 0 where
  pub version : Version
  pub name : List ℕ
  pub triangles : List (List ℤ)
  pub entries : List Data

abbrev pub keys_in : Data → Result Keys SurfaceError
keys_in d =
    if_ok (ok_or (as_object d) (BadShape key.File)) (λ _.
    if_ok (at_key key.Format (codes "format") format_in d) (λ _.
    if_ok (at_key key.Version (codes "version") version_in d) (λ version.
    if_ok (at_key key.Name (codes "name") name_in d) (λ name.
    if_ok (at_key key.Triangles (codes "triangles") triangles_in d) (λ triangles.
    if_ok (at_key key.Generators (codes "generators") list_in d) (λ entries.
    Ok (record { version = version; name = name; triangles = triangles; entries = entries })))))))
