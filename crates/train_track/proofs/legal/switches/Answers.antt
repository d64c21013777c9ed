use Rattle.std.proofs.Common.{pos, sym, ◌∙◌, rules}
use Rattle.train_track.specs.Tracks.{is_switch}
use Rattle.train_track.proofs.Gathered.{kept_more, dropped_more}
use Rattle.train_track.proofs.legal.switches.Goals as goal
use Rattle.train_track.proofs.legal.switches.Goals.{then-is_switch+in_ok-push, else-is_switch}

pub loop-e-preserved : goal.loop-e-preserved
loop-e-preserved c = elim c.if-is_switch.branch [
  | then-is_switch+in_ok-push w ↦
      kept_more (is_switch c.args.tri.now c.args.left_out.now) (λ n. pos n) c.loop-e.e c.label_of_edge-x.result
      c.loop-e.found.items c.if-is_switch.found.items
      c.loop-e.invariant c.label_of_edge-x.ensures (sym c.is_switch.ensures ∙ w.if-is_switch.true) (search rules)
  | else-is_switch w ↦
      dropped_more (is_switch c.args.tri.now c.args.left_out.now) (λ n. pos n) c.loop-e.e c.label_of_edge-x.result
      c.loop-e.found.items c.if-is_switch.found.items
      c.loop-e.invariant c.label_of_edge-x.ensures (sym c.is_switch.ensures ∙ w.if-is_switch.false) (search rules)
]
