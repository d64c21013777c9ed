-- What contracts see of the fields of a map.
use Rattle.std.specs.Prelude.{◌≤◌, length, take}
use Rattle.ideal_tri.specs.declared.tri.TheConstants.{EDGES}
use Rattle.free_groupoid.specs.GroupoidMaps.{GroupoidMap}
use Rattle.free_groupoid.specs.inside.Images.{words_of}
use Rattle.free_groupoid.specs.declared.triangles.TheConstants.{TRIANGLES}
use Rattle.free_groupoid.specs.declared.map.Map.TheInside.{Inside}

-- of the array of triangles those count that the source has
abbrev pub map_of : Inside → GroupoidMap
map_of a = record {
  source = a.source;
  target = a.target;
  images = words_of a.images.items;
  triangles = take a.count a.triangles;
}

-- there are no more images and triangles than a triangulation may have
pub record IsRoomy (a : Inside) : Type 0 where
  pub images : length a.images.items ≤ EDGES
  pub triangles : a.count ≤ TRIANGLES
