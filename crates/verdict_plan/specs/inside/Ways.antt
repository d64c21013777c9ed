-- A path of an atlas with its map, which has no more letters than the cap after any move.
use Rattle.std.specs.Prelude.{◌≡◌, ℕ}
use Rattle.tri_atlas.specs.Arena.{Arena, triangulation}
use Rattle.tri_atlas.specs.Paths.{MovePath, IsPathIn, moves_of}
use Rattle.free_groupoid.specs.GroupoidMaps.{IsMapIn, identity_map}
use Rattle.free_groupoid.specs.MapRefusals.{StaysWithin}
use Rattle.free_groupoid.specs.Periodic.{IsFirstPast}
use Rattle.free_groupoid.specs.PeriodicLaws.{map_along}
use Rattle.cert_text.specs.Limits.{letter_cap}
use Rattle.verdict_plan.specs.declared.ways.Way.{Way}

-- the map is that of the path
pub record IsWay (arena : Arena) (way : Way) : Type 0 where
  pub path : IsPathIn arena way.path
  pub maps : IsMapIn arena way.map
  pub map : way.map ≡ map_along arena way.path
  pub within : StaysWithin arena (identity_map arena way.path.start) way.path.moves letter_cap

-- along this path
pub record IsWayAlong (arena : Arena) (path : MovePath) (way : Way) : Type 0 where
  pub kept : IsWay arena way
  pub is : way.path ≡ path

-- the map of this path passes the cap, and has so many letters after the first move that does
abbrev pub IsPast : Arena → MovePath → ℕ → Type 0
IsPast arena path letters =
    (made : ℕ)
    × IsFirstPast (triangulation arena path.start) (moves_of arena path) letter_cap made letters
