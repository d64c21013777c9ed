-- What contracts see of a surface.
use Rattle.std.specs.Prelude.{◌≡◌, ◌<◌, ◌^◌, List, map, length, All, String, string_bytes}
use Rattle.std.specs.Prelude.{true}
use Rattle.std.specs.declared.alloc.Global.{Global}
use Rattle.tri_atlas.specs.Arena.{Arena, MoveHandle, back}
use Rattle.tri_atlas.specs.Paths.{MovePath, IsPathIn}
use Rattle.surface_lib.specs.Spelling.{is_generator_name}
use Rattle.surface_lib.specs.Words.{Generator, Names, moves_named}
use Rattle.surface_lib.specs.declared.surface.Surface.{Surface}

abbrev pub generator_of : String Global × MovePath → Generator MoveHandle
generator_of e = record { spelt = string_bytes e.0; moves = e.1.moves }

abbrev pub generators_in : List (String Global × MovePath) → List (Generator MoveHandle)
generators_in entries = map generator_of entries

abbrev pub generators_of : Surface → List (Generator MoveHandle)
generators_of s = generators_in s.generators.entries

-- the names of a surface's generators and of their inverses
abbrev pub names_of : Surface → Names MoveHandle
names_of s = moves_named back (generators_of s)

-- ---- surfaces

-- a path of the arena from the base to the base
pub record IsLoop (arena : Arena) (path : MovePath) : Type 0 where
  pub within : IsPathIn arena path
  pub start : path.start ≡ 0
  pub end : path.end ≡ 0

-- a generator of the arena: a loop with fewer than 2^31 moves
pub record IsGenerator (arena : Arena) (e : String Global × MovePath) : Type 0 where
  pub spelt : is_generator_name (string_bytes e.0) ≡ true
  pub loop : IsLoop arena e.1
  pub short : length e.1.moves < 2 ^ 31

-- what every call that takes a surface asks of its fields
abbrev pub IsSurface : Surface → Type 0
IsSurface s = All (IsGenerator s.atlas) s.generators.entries

-- a path from the base to the base
abbrev pub at_base : List MoveHandle → MovePath
at_base moves = record { start = 0; end = 0; moves = moves }
