-- What holds of the components of a triangulation.
use Rattle.std.specs.Prelude.{◌≡◌, ◌≢◌, ◌<◌, ◌≤◌, ◌↔◌, ℕ, ℤ, List, true, length}
use Rattle.ideal_tri.specs.Labels.{inverse}
use Rattle.ideal_tri.specs.Triangulations.{IsTriangulation, IsConnected, IsLabel, IsReached}
use Rattle.ideal_tri.specs.Triangulations.{triangle_of}
use Rattle.ideal_tri.specs.Components.{is_reached, least_triangle, component_of, component_count}

pub record ConnectionLaws (triples : List (List ℤ)) : Type 0 where
  -- the test of walks
  pub test : (s t : ℕ) → s < length triples
      → (is_reached triples s t ≡ true) ↔ IsReached triples s t
  -- triangles have the same number exactly where a walk joins them
  pub same : (s t : ℕ) → s < length triples → t < length triples
      → (component_of triples s ≡ component_of triples t) ↔ IsReached triples s t
  pub within : (t : ℕ) → t < length triples → component_of triples t < component_count triples
  -- each number below their count is that of a component
  pub used : (k : ℕ) → k < component_count triples
      → (t : ℕ) × (t < length triples) × (component_of triples t ≡ k)
  -- the least triangle of a component lies there, and none there is less
  pub there : (t : ℕ) → t < length triples → IsReached triples t (least_triangle triples t)
  pub least : (s t : ℕ) → t < length triples → IsReached triples t s → least_triangle triples t ≤ s
  -- components are numbered in the order of their least triangles
  pub ordered : (s t : ℕ) → s < length triples → t < length triples
      → least_triangle triples s < least_triangle triples t
      → component_of triples s < component_of triples t
  -- a connected triangulation has one component, and no other has
  pub connected : IsConnected triples ↔ (component_count triples ≡ 1)
  -- each triangle has another one beside it, so no component is a single triangle
  pub beside : (t : ℕ) → t < length triples
      → (x : ℤ) × IsLabel triples x × (triangle_of triples x ≡ t)
      × (triangle_of triples (inverse x) ≢ t)

-- for every triangulation
pub record ComponentLaws : Type 0 where
  pub components : (triples : List (List ℤ)) → IsTriangulation triples → ConnectionLaws triples
