use Rattle.verdict_plan.proofs.PastCandidates.{turned_more}
use Rattle.verdict_plan.proofs.past.image_after.Goals as goal

pub loop-preserved : goal.loop-preserved
loop-preserved c =
    turned_more c.args.atlas.now c.args.word.now c.args.w.now c.power_laws.ensures c.requires.coordinates.multicurve
    c.requires.base c.loop.counter c.loop.image c.follow.new.self c.requires.closed.end c.loop.invariant
    c.in_ok-follow.ensures.moved c.in_ok-follow.ensures.here
