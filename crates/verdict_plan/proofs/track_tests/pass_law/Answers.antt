use Rattle.verdict_plan.proofs.PassingTracks.{passing_holds}
use Rattle.verdict_plan.proofs.track_tests.pass_law.Goals as goal

pub returns : goal.returns
returns c = passing_holds c.matrix_laws.ensures.sums c.matrix_laws.ensures.column_sums
