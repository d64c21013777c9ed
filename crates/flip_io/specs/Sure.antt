-- The forms in memory that never fail: which files the shelf has, and what the sink tells.
use Rattle.std.specs.Prelude.{ℕ, ◌-◌, List, Option, Some, None, Bool, Vec, String, vec_len}
use Rattle.std.specs.Prelude.{vec_capacity, if◌then◌else◌}
use Rattle.std.specs.BTreeMap.{BTreeMap, get_by_text}
use Rattle.std.specs.Option.{option_map}
use Rattle.std.specs.declared.alloc.Global.{Global}
use Rattle.flip_io.specs.Files.{Files}

-- the bytes of each name in the map
abbrev pub files_of : BTreeMap (String Global) (Vec ℕ Global) → Files
files_of files name = option_map (λ file. file.items) (get_by_text files name)

-- a sink that has dropped bytes tells nothing
abbrev pub told_unless : Bool → List ℕ → Option (List ℕ)
told_unless dropped bytes = if dropped then None else Some bytes

-- how many more bytes a buffer takes without memory
abbrev pub room_of : Vec ℕ Global → ℕ
room_of buffer = vec_capacity buffer - vec_len buffer
