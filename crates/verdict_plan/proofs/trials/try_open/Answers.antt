use Rattle.std.proofs.Common.{arith}
use Rattle.verdict_plan.proofs.trials.try_open.Goals as goal

pub returns-in-Past : goal.returns-in-Past
returns-in-Past c =
    let past = rw c.in-Past.is at c.requires.progress in past c.args.power (omega arith)
