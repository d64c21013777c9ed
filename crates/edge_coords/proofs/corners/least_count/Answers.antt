use Rattle.std.proofs.Common.{sym, ◌∙◌, ap, subst, arith}
use Rattle.ideal_tri.specs.Labels.{inverse}
use Rattle.ideal_tri.specs.Triangulations.{IsLabel}
use Rattle.edge_coords.proofs.Turns.{least_none, least_more}
use Rattle.edge_coords.proofs.corners.least_count.Goals as goal

pub loop-init : goal.loop-init
loop-init c = record {
  label = c.requires.label;
  so_far = least_none c.args.tri.now c.args.w.now c.args.x c.corner_count-least.result c.corner_count-least.ensures;
}

pub loop-preserved : goal.loop-preserved
loop-preserved c = record {
  label =
      subst (IsLabel c.args.tri.now) (sym c.inverse-corner.ensures)
      (c.label_laws.ensures.label c.args.tri.now c.next.result c.next.ensures.label);
  so_far =
      least_more c.args.tri.now c.args.w.now c.args.x c.loop.corner c.inverse-corner.result c.loop.least
      c.corner_count.result
      c.min-least.result c.loop.counter (omega (arith, c.loop-test.true, c.edges-end.ensures.count))
      (c.inverse-corner.ensures ∙ ap inverse c.next.ensures.next) c.corner_count.ensures c.min-least.ensures
      c.loop.invariant.so_far;
}
