use Rattle.std.proofs.lemmas.Result.{IfOk-weaker}
use Rattle.verdict_plan.proofs.SiteTurns.{deeper_follows, power_follows, serves_on}
use Rattle.verdict_plan.proofs.track_search.following.Goals as goal

pub returns-then-round-eq0-clause-next : goal.returns-then-round-eq0-clause-next
returns-then-round-eq0-clause-next c =
    IfOk-weaker c.next_depth.result _ _
    (λ new. deeper_follows c.args.atlas.now c.next_depth.new.atlas c.args.word.now c.args.round c.args.site new
    c.if-round-eq0.true)
    c.next_depth.ensures.next

pub returns-else-round-eq0-clause-next : goal.returns-else-round-eq0-clause-next
returns-else-round-eq0-clause-next c =
    power_follows c.args.atlas.now c.args.word.now c.args.round c.args.site c.args.site c.if-round-eq0.false
    (serves_on c.args.atlas.now c.args.word.now c.args.site)
