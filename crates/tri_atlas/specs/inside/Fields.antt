-- What contracts see of the fields of an atlas.
use Rattle.std.specs.Prelude.{◌≡◌, ◌≤◌, ◌-◌, ℕ, map, vec_len, vec_capacity}
use Rattle.ideal_tri.specs.Triangulations.{edge_count}
use Rattle.tri_atlas.specs.Arena.{Entry, Arena, IsArena, triangulation}
use Rattle.tri_atlas.specs.Steps.{move_of}
use Rattle.tri_atlas.specs.declared.atlas.Kept.{Kept}
use Rattle.tri_atlas.specs.declared.atlas.Atlas.TheInside.{Inside}

-- a kept move with n edges
abbrev pub entry_of : ℕ → Kept → Entry
entry_of n kept = record { source = kept.source; target = kept.target; move = move_of n kept.step }

-- the room is that of the moves, of which each push keeps one
abbrev pub arena_of : Inside → Arena
arena_of a = record {
  triangulations = a.triangulations.items;
  moves = map (entry_of a.edges) a.moves.items;
  spare = vec_capacity a.moves - vec_len a.moves;
}

-- what is true of the fields of every atlas
pub record IsKept (a : Inside) : Type 0 where
  pub arena : IsArena (arena_of a)
  pub edges : a.edges ≡ edge_count (triangulation (arena_of a) 0)
  pub room : vec_capacity a.moves - vec_len a.moves
      ≤ vec_capacity a.triangulations - vec_len a.triangulations
