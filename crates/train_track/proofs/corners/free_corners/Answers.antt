use Rattle.std.proofs.Common.{ℕ, sym, ◌∙◌, ap, rules, ◌==◌}
use Rattle.std.proofs.lemmas.Bool.{ne_eqb}
use Rattle.ideal_tri.specs.Vertices.{label_of_rank}
use Rattle.train_track.proofs.Gathered.{kept_more, dropped_more}
use Rattle.train_track.proofs.corners.free_corners.Goals as goal
use Rattle.train_track.proofs.corners.free_corners.Goals.{then-corner_count-eq0+in_ok-push, else-corner_count-eq0}

pub loop-k-preserved : goal.loop-k-preserved
loop-k-preserved c = elim c.if-corner_count-eq0.branch [
  | then-corner_count-eq0+in_ok-push w ↦
      kept_more _ label_of_rank c.loop-k.k c.label_of_rank-x.result c.loop-k.found.items
      c.if-corner_count-eq0.found.items
      c.loop-k.invariant c.label_of_rank-x.ensures
      (ap (λ (n : ℕ). n == 0) (sym c.corner_count.ensures ∙ w.if-corner_count-eq0.true)) (search rules)
  | else-corner_count-eq0 w ↦
      dropped_more _ label_of_rank c.loop-k.k c.label_of_rank-x.result c.loop-k.found.items
      c.if-corner_count-eq0.found.items
      c.loop-k.invariant c.label_of_rank-x.ensures
      (ne_eqb _ _ (λ e. w.if-corner_count-eq0.false (c.corner_count.ensures ∙ e))) (search rules)
]
