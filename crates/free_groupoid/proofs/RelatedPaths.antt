-- Maps of paths are related exactly where they are alike at each test walk.
use Rattle.std.proofs.Common.{ℤ, List}
use Rattle.ideal_tri.specs.Triangulations.{IsTriangulation}
use Rattle.tri_atlas.specs.Moves.{back_along}
use Rattle.tri_atlas.specs.Maps.{path_map}
use Rattle.tri_atlas.specs.MapLaws.{MapLaws}
use Rattle.free_groupoid.specs.RelatedLaws.{RelatedLaws}
use Rattle.free_groupoid.proofs.Known.{Laws, glue_of}
use Rattle.free_groupoid.proofs.PathMaps.{path_inverse}
use Rattle.free_groupoid.proofs.RelatedTest.{related_alike, alike_related, same_relation}

pub related_laws : MapLaws → ((triples : List (List ℤ)) → IsTriangulation triples → Laws triples) → RelatedLaws
related_laws maps laws = record {
  alike = λ source target first second f0 g0 p f g h.
      related_alike source target (laws source f.start) (glue_of target (laws target f.end)) (path_map first)
      (path_map second) f0 g0 f.map g.map p h;
  related = λ source target first second f0 g0 f g alike.
      let (b0, o) = path_inverse maps source target first f0 f in
      alike_related source target (laws source f.start) (glue_of target (laws target f.end)) (path_map first)
      (path_map second) f0 g0 f.map g.map
      (path_map (back_along first)) b0 o alike;
  only = λ source target first second f0 g0 p q f g h k.
      let (b0, o) = path_inverse maps source target first f0 f in
      same_relation source target (laws source f.start) (glue_of target (laws target f.end)) (path_map first)
      (path_map second) f0 g0 f.map g.map
      (path_map (back_along first)) b0 o p q h k;
}
