-- A surface as the definitions of files see it: nothing of it depends on handles of an atlas.
use Rattle.std.specs.Prelude.{ℕ, ℤ, List, map, String, string_bytes}
use Rattle.std.specs.declared.alloc.Global.{Global}
use Rattle.tri_atlas.specs.Arena.{Arena, step_of, triangulation}
use Rattle.tri_atlas.specs.Moves.{Move}
use Rattle.tri_atlas.specs.Paths.{MovePath}
use Rattle.surface_lib.specs.Words.{Generator}
use Rattle.surface_lib.specs.declared.surface.Surface.{Surface}

-- a generator: its name, and what the moves of its path do
abbrev pub NamedMoves : Type 0
NamedMoves = Generator Move

pub record Described : Type 0 where
  pub name : List ℕ
  pub triangles : List (List ℤ)
  pub generators : List NamedMoves

abbrev pub named_moves : Arena → String Global × MovePath → NamedMoves
named_moves arena e = record { spelt = string_bytes e.0; moves = map (step_of arena) e.1.moves }

-- what a surface holds
abbrev pub described : Surface → Described
described s = record {
  name = string_bytes s.name;
  triangles = triangulation s.atlas 0;
  generators = map (named_moves s.atlas) s.generators.entries;
}
