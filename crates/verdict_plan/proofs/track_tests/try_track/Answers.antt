use Rattle.std.proofs.lemmas.Result.{IfErr-at_err}
use Rattle.verdict_plan.proofs.track_tests.try_track.Goals as goal

pub returns-in-Err-clause-line : goal.returns-in-Err-clause-line
returns-in-Err-clause-line c = IfErr-at_err _ c.in-Err.is c.in_ok-psi.ensures.line c.args.series
