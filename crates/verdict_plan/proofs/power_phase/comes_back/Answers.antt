use Rattle.std.proofs.Common.{subst, ◌≢◌, rules}
use Rattle.tri_atlas.specs.Arena.{triangulation}
use Rattle.ideal_tri.specs.Vectors.{IsMulticurve}
use Rattle.verdict_plan.proofs.Following.{follow_more}
use Rattle.verdict_plan.proofs.power_phase.comes_back.Goals as goal

pub loop-preserved : goal.loop-preserved
loop-preserved c =
    let moved : c.follow.new.self.numbers ≢ c.args.w.now.numbers = search rules in
    follow_more c.args.atlas.now c.args.word.now c.args.w.now c.loop.counter c.loop.image c.follow.new.self
    c.power_laws.ensures
    (subst (λ t. IsMulticurve (triangulation c.args.atlas.now t) c.args.w.now.numbers) c.requires.base
    c.requires.coordinates.multicurve) c.requires.closed.end c.loop.invariant c.in_ok-follow.ensures.moved
    c.in_ok-follow.ensures.here moved
