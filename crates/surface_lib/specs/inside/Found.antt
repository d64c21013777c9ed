-- What contracts see of a generator that a name stands for.
use Rattle.std.specs.Prelude.{List, Option, Some, None, if◌then◌else◌}
use Rattle.tri_atlas.specs.Arena.{MoveHandle, back}
use Rattle.surface_lib.specs.Words.{backwards}
use Rattle.surface_lib.specs.declared.names.Named.{Named}

abbrev pub moves_of_named : Named → List MoveHandle
moves_of_named n = if n.backwards then backwards back n.path.now.moves else n.path.now.moves

abbrev pub moves_found : Option Named → Option (List MoveHandle)
moves_found None = None
moves_found (Some n) = Some (moves_of_named n)
