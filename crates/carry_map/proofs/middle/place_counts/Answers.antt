use Rattle.std.proofs.Common.{◌≡◌, length, rules}
use Rattle.carry_map.proofs.MiddleSteps.{counts_more}
use Rattle.carry_map.proofs.middle.place_counts.Goals as goal

pub loop-places-preserved : goal.loop-places-preserved
loop-places-preserved c =
    let one : c.len.result ≡ length c.places-item.result = search rules in
    let two : c.len-in-loop-places.result ≡ length c.places-item.result = search rules in
    counts_more c.args.all.now c.loop-places.counts.items c.push.new.self.items c.push-in-loop-places.new.self.items
    c.loop-places.places-index c.len.result c.len-in-loop-places.result c.places-item.result c.loop-places-test.true
    c.places-item.is c.loop-places.invariant c.in_ok-push.ensures.items c.in_ok-push-2.ensures.items one two
