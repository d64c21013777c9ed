-- What holds of the vertices of a triangulation.
use Rattle.std.specs.Prelude.{◌≡◌, ◌<◌, ◌≤◌, ◌+◌, ◌*◌, ◌↔◌, ℤ, List, length}
use Rattle.ideal_tri.specs.Triangulations.{IsTriangulation, IsLabel, edge_count}
use Rattle.ideal_tri.specs.Components.{component_count}
use Rattle.ideal_tri.specs.Vertices.{rank, IsSameVertex, least_corner, vertex_of, vertex_count}

pub record PunctureLaws (triples : List (List ℤ)) : Type 0 where
  -- corners have the same number exactly where they lie at one vertex
  pub same : (x y : ℤ) → IsLabel triples x → IsLabel triples y
      → (vertex_of triples x ≡ vertex_of triples y) ↔ IsSameVertex triples x y
  pub within : (x : ℤ) → IsLabel triples x → vertex_of triples x < vertex_count triples
  -- the least corner of a vertex lies there, and none there is less
  pub there : (x : ℤ) → IsLabel triples x → IsSameVertex triples x (least_corner triples x)
  pub least : (x y : ℤ) → IsLabel triples x → IsSameVertex triples x y
      → rank (least_corner triples x) ≤ rank y
  -- vertices are numbered in the order of their least corners
  pub ordered : (x y : ℤ) → IsLabel triples x → IsLabel triples y
      → rank (least_corner triples x) < rank (least_corner triples y)
      → vertex_of triples x < vertex_of triples y
  -- there are no more vertices than on spheres, one for each component
  pub bound : vertex_count triples + length triples
      ≤ edge_count triples + 2 * component_count triples

pub record VertexLaws : Type 0 where
  pub vertices : (triples : List (List ℤ)) → IsTriangulation triples → PunctureLaws triples
