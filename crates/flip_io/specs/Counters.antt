-- Which counter a name has on a shelf over the system's files, by the words of the command line.
use Rattle.std.specs.Prelude.{ℕ, List, Bool, false, String, string_bytes, slice_get, if◌then◌else◌}
use Rattle.std.specs.Option.{option_map_or}
use Rattle.std.specs.Str.{bytes_eq}
use Rattle.std.specs.declared.alloc.Global.{Global}
use Rattle.flip_io.specs.declared.dir.Counter.{Counter}
use Rattle.flip_io.specs.declared.dir.Counter.TheVariants.{First, Second, Third}

-- the word at this place is this name
abbrev pub is_word : List (String Global) → ℕ → List ℕ → Bool
is_word words at name =
    option_map_or (λ w. bytes_eq (string_bytes w) name) (slice_get words at) false

-- the first for word 1, the second for word 3 where that isn't word 1, and the third for all else
abbrev pub counter_of : List (String Global) → List ℕ → Counter
counter_of words name = if is_word words 1 name then First
    else if is_word words 3 name then Second
    else Third
