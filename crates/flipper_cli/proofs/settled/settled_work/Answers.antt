use Rattle.flipper_cli.specs.Commands.{command}
use Rattle.flipper_cli.specs.inside.Shown.{IsOutputOf}
use Rattle.flipper_cli.proofs.Answered.{settled_lacks, settled_lacking, settled_prints}
use Rattle.flipper_cli.proofs.settled.settled_work.Goals as goal

pub returns-clause-lacks : goal.returns-clause-lacks
returns-clause-lacks g c = λ files told.
    settled_lacks _ _ _ c.settle.ensures.settled (c.work-made.ensures.lacks files told)

pub returns-clause-lacking : goal.returns-clause-lacking
returns-clause-lacking g c = λ files told l.
    settled_lacking _ _ c.settle.ensures.settled (c.work-made.ensures.lacking files told l)

pub returns-clause-headline : goal.returns-clause-headline
returns-clause-headline g c = λ files told.
    settled_prints (λ output. IsOutputOf (command c.args.words.now) files files output) _ _ c.settle.ensures.settled
    (c.work-made.ensures.headline files told)
