use Rattle.verdict_plan.proofs.PastLines.{past_line}
use Rattle.verdict_plan.proofs.trials.is_ruled_out.Goals as goal

pub returns-in-Open : goal.returns-in-Open
returns-in-Open c is_past =
    let stands = rw c.in-Open.is at c.requires.standing in
    past_line c.args.atlas.now c.args.word.now c.args.site.now.stage c.args.power c.in-Open.track stands.0
    (c.is_past.ensures is_past)
