use Rattle.std.proofs.Common.{◌≡◌, sym, subst, arith, take}
use Rattle.std.proofs.lemmas.Grind.{common_steps}
use Rattle.free_groupoid.specs.GroupoidMaps.{GroupoidMap, IsMapIn, map_of_walks}
use Rattle.free_groupoid.specs.inside.Images.{words_of}
use Rattle.free_groupoid.proofs.map.Map.from_images.Goals as goal

pub returns-clause-maps : goal.returns-clause-maps
returns-clause-maps c =
    let (triangles, h) = c.requires in
    let value : ◌≡◌ {A = GroupoidMap} (record {
      source = c.args.source;
      target = c.args.target;
      images = words_of c.loop-walk.words.items;
      triangles = take c.triangles.result c.image_triangles-triangles.result;
    }) (map_of_walks c.args.source c.args.target c.args.images.items triangles) =
    grind (arith, common_steps) in
    subst (IsMapIn c.args.atlas.now) (sym value) h.maps
