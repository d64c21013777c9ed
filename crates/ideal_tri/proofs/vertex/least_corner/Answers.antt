use Rattle.std.proofs.Common.{◌≡◌, ◌+◌}
use Rattle.ideal_tri.specs.Vertices.{corner_after}
use Rattle.ideal_tri.proofs.Turning.{turned_more, least_more, least_label_label}
use Rattle.ideal_tri.proofs.vertex.least_corner.Goals as goal

pub loop-preserved : goal.loop-preserved
loop-preserved c =
    let turned : c.turn-corner.result ≡ corner_after c.args.tri.now (c.loop.counter + 1) c.args.x =
    turned_more c.args.tri.now c.loop.counter c.args.x c.loop.corner c.turn-corner.result c.loop.invariant.corner
    c.turn-corner.ensures.turned in
    record {
      corner = turned;
      label = c.turn-corner.ensures.label;
      least =
          least_more c.args.tri.now c.loop.counter c.args.x c.loop.least c.turn-corner.result c.lesser-least.result
          c.loop.invariant.least turned
          c.lesser-least.ensures;
      least_label =
          least_label_label c.args.tri.now c.loop.least c.turn-corner.result c.lesser-least.result
          c.lesser-least.ensures
          c.loop.invariant.least_label c.turn-corner.ensures.label;
    }
