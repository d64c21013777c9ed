-- Further candidates for a multicurve that a word fixes: the curves about the light edges of a stage.
-- The word's path runs from the triangulation to itself, and these are its moves.
use Rattle.std.specs.Prelude.{◌≡◌, ◌⊎◌, ◌<◌, ◌+◌, ℕ, ℤ, pos, negsuc, List, length, slice_index}
use Rattle.std.specs.Prelude.{slice_index_or}
use Rattle.ideal_tri.specs.PeripheralParts.{stripped}
use Rattle.ideal_tri.specs.Triangulations.{IsLabel, edge_count}
use Rattle.ideal_tri.specs.Vectors.{IsMulticurve, weight}
use Rattle.ideal_tri.specs.Vertices.{IsSameVertex}
use Rattle.tri_atlas.specs.FlipPaths.{flips_along}
use Rattle.tri_atlas.specs.MovedVectors.{vector_along}
use Rattle.tri_atlas.specs.Moves.{Move, back_along}
use Rattle.edge_coords.specs.declared.lines.CurveLine.{CurveLine}
use Rattle.edge_coords.specs.declared.lines.CurveLine.TheVariants.{NotMulticurve}
use Rattle.multicurve_cert.specs.LastTests.{IsLastLine, PassesLast}
use Rattle.multicurve_cert.specs.declared.curve_search.Curves.{Curves}
use Rattle.multicurve_cert.specs.declared.curve_search.Curves.TheVariants.{Found, None}
use Rattle.cycle_stages.specs.Light.{IsLight}
use Rattle.cycle_stages.specs.StageLists.{depth_count}
use Rattle.cycle_stages.specs.Stages.{IsStage}

-- ---- the curves about the light edges

-- a light edge ends at the vertex of the corner x: one of its labels names a corner there
pub record IsTouched (triples : List (List ℤ)) (w : List ℕ) (x : ℤ) : Type 0 where
  pub corner : ℤ
  pub label : IsLabel triples corner
  pub light : IsLight w (weight w corner)
  pub here : IsSameVertex triples corner x

-- the curves cross an edge near its end at this corner once where a light edge ends there
abbrev pub IsCrossedAt : List (List ℤ) → List ℕ → ℤ → ℕ → Type 0
IsCrossedAt triples w x n =
    (IsTouched triples w x × (n ≡ 1)) ⊎ ((¬ IsTouched triples w x) × (n ≡ 0))

-- they don't cross light edges, and another edge near each of its ends
abbrev pub IsCrossed : List (List ℤ) → List ℕ → ℕ → ℕ → Type 0
IsCrossed triples w e n =
    (IsLight w (slice_index w e) × (n ≡ 0))
    ⊎ ((¬ IsLight w (slice_index w e)) × ((i : ℕ) × ((j : ℕ) × (IsCrossedAt triples w (pos e) i
    × IsCrossedAt triples w (negsuc e) j × (n ≡ i + j)))))

-- how often the curves about the light edges cross each edge
pub record IsAboutLight (triples : List (List ℤ)) (w b : List ℕ) : Type 0 where
  pub one_per_edge : length b ≡ edge_count triples
  pub each : (e : ℕ) → e < edge_count triples → IsCrossed triples w e (slice_index b e)

-- ---- candidates

-- the vector of those curves at the stage of this depth of the cycle with the vector w
pub record IsLightVector (triples : List (List ℤ)) (moves : List Move) (w : List ℕ) (depth : ℕ)
    (edges : List ℕ) (there : List (List ℤ)) (b : List ℕ) : Type 0 where
  pub vector : List ℕ
  pub stage : IsStage triples moves w depth edges there vector
  pub about : IsAboutLight there vector b

-- the candidate: carried back over the flips to the base, without the curves round vertices there
abbrev pub carried_back : List (List ℤ) → List ℕ → List ℕ → List ℕ
carried_back triples edges b =
    stripped triples (vector_along (back_along (flips_along triples edges)) b)

-- ---- tests

-- the first test that the candidate made of b fails
abbrev pub IsFirstFailing : List (List ℤ) → List Move → List (List ℤ) → List ℕ → List ℕ → CurveLine
    → Type 0
IsFirstFailing triples moves there edges b line =
    ((line ≡ NotMulticurve) × ¬ IsMulticurve there b)
    ⊎ (IsMulticurve there b × IsLastLine triples moves (carried_back triples edges b) line)

-- candidate n, of the stage of depth n, has this line
pub record IsLightLine (triples : List (List ℤ)) (moves : List Move) (w : List ℕ) (n : ℕ)
    (line : CurveLine) : Type 0 where
  pub edges : List ℕ
  pub there : List (List ℤ)
  pub b : List ℕ
  pub vector : IsLightVector triples moves w n edges there b
  pub fails : IsFirstFailing triples moves there edges b line

-- candidate n passes, and has these numbers
pub record PassesLight (triples : List (List ℤ)) (moves : List Move) (w : List ℕ) (n : ℕ)
    (numbers : List ℕ) : Type 0 where
  pub edges : List ℕ
  pub there : List (List ℤ)
  pub b : List ℕ
  pub vector : IsLightVector triples moves w n edges there b
  pub multicurve : IsMulticurve there b
  pub are_numbers : numbers ≡ carried_back triples edges b
  pub passes : PassesLast triples moves numbers

-- ---- answers

-- candidate n is the first that passes
pub record IsFirstLight (triples : List (List ℤ)) (moves : List Move) (w : List ℕ) (n : ℕ)
    (numbers : List ℕ) : Type 0 where
  pub within : n < depth_count
  pub passes : PassesLight triples moves w n numbers
  pub before : (k : ℕ) → k < n → (line : CurveLine) × IsLightLine triples moves w k line

-- one line for each
pub record AreLightLines (triples : List (List ℤ)) (moves : List Move) (w : List ℕ)
    (log : List CurveLine) : Type 0 where
  pub one_line_each : length log ≡ depth_count
  pub lines : (n : ℕ) (line : CurveLine) → n < length log
      → IsLightLine triples moves w n (slice_index_or log n line)

abbrev pub IsLightAnswer : List (List ℤ) → List Move → List ℕ → Curves → Type 0
IsLightAnswer triples moves w (Found number coords) =
    IsFirstLight triples moves w number coords.numbers
IsLightAnswer triples moves w (None log) = AreLightLines triples moves w log.items
