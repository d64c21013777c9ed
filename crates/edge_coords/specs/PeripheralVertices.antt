-- Vertices round which a curve of a multicurve runs.
use Rattle.std.specs.Prelude.{◌≡◌, ◌<◌, ℕ, ℤ, List}
use Rattle.ideal_tri.specs.Triangulations.{IsLabel}
use Rattle.ideal_tri.specs.Vectors.{corner_count}
use Rattle.ideal_tri.specs.Vertices.{IsSameVertex, vertex_of}

-- v is a vertex all of whose corners have strands; one of its corners names it
pub record IsPeripheralAt (triples : List (List ℤ)) (w : List ℕ) (v : ℕ) : Type 0 where
  pub corner : ℤ
  pub label : IsLabel triples corner
  pub vertex : vertex_of triples corner ≡ v
  pub all : (y : ℤ) → IsSameVertex triples corner y → 0 < corner_count triples w y

-- v is the least such vertex
pub record IsLeastPeripheral (triples : List (List ℤ)) (w : List ℕ) (v : ℕ) : Type 0 where
  pub here : IsPeripheralAt triples w v
  pub before : (u : ℕ) → u < v → ¬ IsPeripheralAt triples w u
