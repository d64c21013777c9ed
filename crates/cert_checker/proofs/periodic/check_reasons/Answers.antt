use Rattle.std.proofs.Common.{[], ◌≡◌, ◌∙◌, IsTrue, subst, get_or, below_more, rules}
use Rattle.free_groupoid.specs.InnerLaws.{IsReducedLoop}
use Rattle.cert_text.specs.Certificates.{walks_of}
use Rattle.cert_checker.proofs.WalkReading.{walk_read}
use Rattle.cert_checker.proofs.periodic.check_reasons.Goals as goal

pub loop-i-preserved : goal.loop-i-preserved
loop-i-preserved c =
    let reason : c.index-reasons-i.result.items ≡ get_or (walks_of c.args.reasons.now) c.loop-i.i [] =
    walk_read c.args.reasons.now c.loop-i.i c.index-reasons-i.result c.loop-i-test.true c.index-reasons-i.is in
    let loop : IsTrue c.is_reduced_loop.result = search rules in
    below_more _ _ c.loop-i.invariant
    (subst (IsReducedLoop c.args.tri.now) (c.deref.ensures.value ∙ reason) (c.is_reduced_loop.ensures.0 loop))
