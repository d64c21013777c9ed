-- The limits of a budget.
use Rattle.std.specs.Prelude.{◌≤◌, ℕ}
use Rattle.cert_text.specs.Limits.{order_limit}
use Rattle.verdict_plan.specs.declared.budget.Budget.{Budget}

-- the most candidates for a fixed multicurve
abbrev pub curve_limit : ℕ
curve_limit = 65536

-- the most candidates for a carried train track
abbrev pub track_limit : ℕ
track_limit = 4096

pub record IsWithinLimits (b : Budget) : Type 0 where
  pub powers : b.powers ≤ order_limit
  pub curves : b.curves ≤ curve_limit
  pub tracks : b.tracks ≤ track_limit
