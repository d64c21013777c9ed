-- What the program keeps of a surface file, as the definitions see it.
use Rattle.std.specs.Prelude.{map, Result, Ok, Err}
use Rattle.serde_json.specs.View.{view}
use Rattle.surface_lib.specs.SurfaceKeys.{Keys}
use Rattle.surface_lib.specs.declared.surface_keys.Keys.{Keys as Kept}

abbrev pub keys_of : Kept → Keys
keys_of keys = record {
  version = keys.version;
  name = keys.name.now;
  triangles = keys.triangles.items;
  entries = map view keys.entries.now;
}

-- a result, its value seen by f
abbrev pub seen : {X Y E : Type 0} → (X → Y) → Result X E → Result Y E
seen f (Ok x) = Ok (f x)
seen f (Err e) = Err e
