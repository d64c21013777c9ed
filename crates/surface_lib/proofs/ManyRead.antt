-- Generators that are read one after another.
use Rattle.std.proofs.Common.{◌≡◌, ℕ, List, map, drop}
use Rattle.std.proofs.Common.{Result}
use Rattle.serde_json.specs.View.{view}
use Rattle.serde_json.specs.declared.value.Value.{Value}
use Rattle.tri_atlas.specs.Arena.{triangulation}
use Rattle.surface_lib.specs.Described.{NamedMoves, described}
use Rattle.surface_lib.specs.GeneratorFiles.{AreGeneratorsRead}
use Rattle.surface_lib.specs.Surfaces.{IsSurface}
use Rattle.surface_lib.specs.Twists.{TwistRelation}
use Rattle.surface_lib.specs.declared.surface.Surface.{Surface}
use Rattle.surface_lib.specs.declared.surface_error.SurfaceError.{SurfaceError}
use Rattle.surface_lib.specs.declared.version.Version.{Version}

-- the generators of the first entries stand in the new surface, so many as the index tells: what
-- is read from there on is what is read from the old surface on
pub record AreRead (twists : TwistRelation) (version : Version) (old new : Surface) (entries : List Value) (index : ℕ) : Type 0 where
  pub surface : IsSurface new
  pub name : new.name ≡ old.name
  pub base : triangulation new.atlas 0 ≡ triangulation old.atlas 0
  pub left : (result : Result (List NamedMoves) SurfaceError)
      → AreGeneratorsRead twists version (triangulation old.atlas 0) index (described new).generators (map view (drop index entries)) result
      → AreGeneratorsRead twists version (triangulation old.atlas 0) 0 (described old).generators (map view entries) result
