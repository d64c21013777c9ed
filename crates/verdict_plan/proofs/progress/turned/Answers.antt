use Rattle.std.proofs.Common.{arith}
use Rattle.std.proofs.lemmas.Result.{IfOk-at_ok, IfErr-at_err}
use Rattle.verdict_plan.proofs.BackWays.{way_once_more, line_once_more}
use Rattle.verdict_plan.proofs.progress.turned.Goals as goal

pub returns-in-Err-clause-past : goal.returns-in-Err-clause-past
returns-in-Err-clause-past c power enough =
    line_once_more c.args.atlas.now c.args.word.now c.args.stage.now c.loop.counter c.loop.way
    c.atlas_laws.ensures.ways c.loop.invariant c.requires.kept c.args.track.now c.requires.track c.in-Err.letters
    (IfErr-at_err _ c.in-Err.is c.in_ok-on.ensures.past) power (omega (arith, c.loop-test.true, enough))

pub loop-preserved : goal.loop-preserved
loop-preserved c =
    way_once_more c.args.atlas.now c.args.word.now c.args.stage.now c.loop.counter c.loop.way
    c.atlas_laws.ensures.ways c.loop.invariant c.requires.closed c.in-Ok.on
    (IfOk-at_ok _ c.in-Ok.is c.in_ok-on.ensures.on)
