-- The candidate of one stage.
use Rattle.std.specs.Prelude.{◌≡◌, ◌<◌, ℕ, List, length, slice_index_or}
use Rattle.ideal_tri.specs.Vectors.{IsMulticurve}
use Rattle.tri_atlas.specs.Arena.{Arena, triangulation}
use Rattle.tri_atlas.specs.Moves.{Move}
use Rattle.edge_coords.specs.Coordinates.{Coordinates}
use Rattle.edge_coords.specs.declared.lines.CurveLine.{CurveLine}
use Rattle.multicurve_cert.specs.LastTests.{IsStripped, PassesLast}
use Rattle.cycle_stages.specs.KeptStages.{there}
use Rattle.cycle_stages.specs.StageLists.{place_of}
use Rattle.cycle_stages.specs.declared.stages.Stage.{Stage}
use Rattle.light_curves.specs.LightCurves.{IsAboutLight, IsFirstFailing, carried_back}

-- it has this line
pub record IsLineHere (arena : Arena) (moves : List Move) (s : Stage) (line : CurveLine)
    : Type 0 where
  pub b : List ℕ
  pub about : IsAboutLight (there arena s) s.coords.numbers b
  pub fails : IsFirstFailing (triangulation arena 0) moves (there arena s) s.edges.items b line

-- it passes, and these are its coordinates
pub record PassesHere (arena : Arena) (moves : List Move) (s : Stage) (c : Coordinates)
    : Type 0 where
  pub b : List ℕ
  pub about : IsAboutLight (there arena s) s.coords.numbers b
  pub multicurve : IsMulticurve (there arena s) b
  pub numbers : c.numbers ≡ carried_back (triangulation arena 0) s.edges.items b
  pub passes : PassesLast (triangulation arena 0) moves c.numbers
  pub stripped : IsStripped arena c

-- the lines of the first n candidates, each that of the stage of its depth
pub record AreLinesSoFar (arena : Arena) (moves : List Move) (stages : List Stage) (n : ℕ)
    (log : List CurveLine) : Type 0 where
  pub one_each : length log ≡ n
  pub lines : (k : ℕ) (other : Stage) (line : CurveLine) → k < n
      → IsLineHere arena moves (slice_index_or stages (place_of (length stages) k) other)
      (slice_index_or log k line)
