-- The lines of first candidates that were tried.
use Rattle.std.specs.Prelude.{ℕ, ℤ, List, All}
use Rattle.tri_atlas.specs.FlipPaths.{flipped_along}
use Rattle.tri_atlas.specs.Moves.{Move}
use Rattle.cert_text.specs.PseudoAnosov.{conjugated}
use Rattle.cert_text.specs.declared.lines.TrackLine.{TrackLine}
use Rattle.verdict_plan.specs.TrackTests.{IsTrackLine}
use Rattle.verdict_plan.specs.declared.known.Known.{Known}
use Rattle.verdict_plan.specs.declared.series.Series.TheVariants.{First}

-- the candidate with these flips, left-out corners and power has this line
abbrev pub IsLineFor : List (List ℤ) → List Move → List ℕ → List ℤ → ℕ → TrackLine → Type 0
IsLineFor triples moves flips left_out power line =
    IsTrackLine First (flipped_along triples flips) (conjugated triples moves flips power) left_out
    line

-- each has its line
abbrev pub AreKnown : List (List ℤ) → List Move → List Known → Type 0
AreKnown triples moves known =
    All (λ k. IsLineFor triples moves k.flips.items k.left_out.items k.power k.line) known
