-- Reading a surface file, and each of its generators, one test after another.
use Rattle.std.specs.Prelude.{List, Option, Result, Ok, Err, ℕ}
use Rattle.std.specs.Option.{ok_or}
use Rattle.serde_json.specs.Data.{Data}
use Rattle.serde_json.specs.Find.{get}
use Rattle.surface_lib.specs.declared.surface_error.Key.{Key}
use Rattle.surface_lib.specs.declared.surface_error.GeneratorFault.{GeneratorFault}
use Rattle.surface_lib.specs.declared.surface_error.GeneratorFault.TheVariants.{MissingKey}
use Rattle.surface_lib.specs.declared.surface_error.GeneratorFault.TheVariants.{BadShape}

-- the next step, where the one before it has no refusal
abbrev pub if_ok : {X Y E : Type 0} → Result X E → (X → Result Y E) → Result Y E
if_ok (Ok x) next = next x
if_ok (Err refusal) next = Err refusal

-- what is read in the value at a key of a generator
abbrev pub read_at : {X : Type 0} → Key → List ℕ → (Data → Option X) → Data
    → Result X GeneratorFault
read_at key spelt read d =
    if_ok (ok_or (get spelt d) (MissingKey key)) (λ v. ok_or (read v) (BadShape key))
