-- Candidates whose maps pass the cap on letters.
use Rattle.std.specs.Prelude.{◌≤◌, ℕ}
use Rattle.tri_atlas.specs.Arena.{Arena}
use Rattle.tri_atlas.specs.Paths.{MovePath}
use Rattle.free_groupoid.specs.Periodic.{IsFirstPast}
use Rattle.cert_text.specs.Limits.{letter_cap}
use Rattle.cycle_stages.specs.KeptStages.{there}
use Rattle.cycle_stages.specs.declared.stages.Stage.{Stage}
use Rattle.verdict_plan.specs.inside.Sites.{path_at}

-- all candidates of the stage with so high a power pass the cap
abbrev pub IsPastAt : Arena → MovePath → Stage → ℕ → Type 0
IsPastAt arena word s least =
    (power : ℕ) → least ≤ power → (letters : ℕ) × (made : ℕ)
    × IsFirstPast (there arena s) (path_at arena word s power) letter_cap made letters
