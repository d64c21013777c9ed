-- The vertices where light edges end, listed, and the curves about those edges as coordinates.
use Rattle.std.specs.Prelude.{◌≡◌, ◌<◌, ◌≤◌, ◌↔◌, ℕ, ℤ, List, All}
use Rattle.std.specs.List.{Contains}
use Rattle.ideal_tri.specs.Labels.{edge_of}
use Rattle.ideal_tri.specs.Triangulations.{edge_count}
use Rattle.ideal_tri.specs.Vectors.{IsMulticurve, weight}
use Rattle.ideal_tri.specs.Vertices.{vertex_of}
use Rattle.tri_atlas.specs.Arena.{Arena, triangulation}
use Rattle.edge_coords.specs.Coordinates.{Coordinates, AreCoordinatesIn}
use Rattle.cycle_stages.specs.Light.{IsLight}
use Rattle.light_curves.specs.LightCurves.{IsAboutLight}

-- a light edge among the first n has a label at the vertex v
pub record IsEndBelow (triples : List (List ℤ)) (w : List ℕ) (n v : ℕ) : Type 0 where
  pub corner : ℤ
  pub below : edge_of corner < n
  pub light : IsLight w (weight w corner)
  pub vertex : vertex_of triples corner ≡ v

-- these are the vertices where the light edges among the first n end
abbrev pub AreTouchedBelow : List (List ℤ) → List ℕ → ℕ → List ℕ → Type 0
AreTouchedBelow triples w n vertices =
    (v : ℕ) → Contains vertices v ↔ IsEndBelow triples w n v

-- where all light edges do
abbrev pub AreTouched : List (List ℤ) → List ℕ → List ℕ → Type 0
AreTouched triples w vertices = AreTouchedBelow triples w (edge_count triples) vertices

-- no number is greater than 2
abbrev pub AreAtMostTwo : List ℕ → Type 0
AreAtMostTwo b = All (λ n. n ≤ 2) b

-- the curves about the light edges of a multicurve, as coordinates
pub record IsCurveAbout (arena : Arena) (w c : Coordinates) : Type 0 where
  pub here : AreCoordinatesIn arena c
  pub tri : c.tri ≡ w.tri
  pub about : IsAboutLight (triangulation arena w.tri) w.numbers c.numbers
  pub few : AreAtMostTwo c.numbers

-- the numbers of those curves are no multicurve's
abbrev pub IsNoCurveAbout : List (List ℤ) → List ℕ → Type 0
IsNoCurveAbout triples w = (b : List ℕ) × IsAboutLight triples w b × ¬ IsMulticurve triples b
