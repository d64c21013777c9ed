use Rattle.std.proofs.Common.{◌≢◌, sum, rules}
use Rattle.curve_shorten.proofs.Ways.{best_done}
use Rattle.curve_shorten.proofs.short.round.Goals as goal

pub returns-then-branch-clause-round : goal.returns-then-branch-clause-round
returns-then-branch-clause-round c =
    let above : sum c.args.at.now.coords.numbers ≢ 2 = search rules in
    best_done c.args.atlas.now c.flip_best.new.atlas c.args.at.now c.flip_best.new.at c.in_ok-flip_best.field-0
    c.if-branch.true above c.in_ok-flip_best.ensures.flipped
