use Rattle.std.proofs.Common.{◌∙◌, ap, arith}
use Rattle.tri_atlas.specs.Paths.{empty_path}
use Rattle.curve_shorten.proofs.Ways.{starts, goes_on, ends, runs_out, total_low, total_told}
use Rattle.curve_shorten.proofs.short.shortened.Goals as goal

pub loop-init : goal.loop-init
loop-init c =
    starts c.args.atlas.now c.args.curve.now c.new.result (c.new.ensures ∙ ap empty_path c.tri.ensures)
    (c.base.ensures.sound.sound c.args.curve.now.tri c.requires.coordinates.tri_in) c.requires.coordinates
    (total_low c.args.curve.now.numbers c.requires.small) c.requires.free c.requires.some c.atlas_laws.ensures.growth
    c.total-end.result (total_told c.args.curve.now.numbers c.total-end.result c.requires.small c.total-end.ensures)

pub returns-in_err-round-clause-grows : goal.returns-in_err-round-clause-grows
returns-in_err-round-clause-grows c =
    c.atlas_laws.ensures.growth.further c.args.atlas.now c.loop.atlas c.round.new.atlas c.loop.invariant.grows
    c.round.ensures.grows

pub returns-then-not-branch-clause-end : goal.returns-then-not-branch-clause-end
returns-then-not-branch-clause-end c =
    ends c.args.atlas.now c.loop.atlas c.round.new.atlas c.args.curve.now c.loop.counter c.total-end.result c.loop.at
    c.round.new.at c.in_ok-round.field-0 c.if-not-branch.true c.flipped_corner_laws.ensures c.loop.invariant
    c.in_ok-round.ensures.round

pub loop-preserved : goal.loop-preserved
loop-preserved c =
    goes_on c.args.atlas.now c.loop.atlas c.round.new.atlas c.args.curve.now c.loop.counter c.total-end.result c.loop.at
    c.round.new.at c.in_ok-round.field-0 c.if-not-branch.false c.atlas_laws.ensures.growth c.loop.invariant
    c.in_ok-round.ensures.round c.round.ensures.grows

pub returns-clause-end : goal.returns-clause-end
returns-clause-end c =
    runs_out c.args.atlas.now c.loop.atlas c.args.curve.now c.loop.counter c.total-end.result c.loop.at
    c.flipped_corner_laws.ensures c.loop.invariant (omega arith)
