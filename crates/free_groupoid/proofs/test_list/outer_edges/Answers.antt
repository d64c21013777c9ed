use Rattle.std.proofs.Common.{◌≡◌, ◌<◌, ◌+◌, ◌∙◌, sym, ap, subst, arith, rules}
use Rattle.ideal_tri.specs.Triangulations.{edge_count}
use Rattle.free_groupoid.specs.TestWalks.{is_tree_edge}
use Rattle.free_groupoid.proofs.ForestReads.{IsSorting, sorting_none, sorting_kept, sorting_left, sorted_all, outer_below, edge_read}
use Rattle.free_groupoid.proofs.test_list.outer_edges.Goals as goal
use Rattle.free_groupoid.proofs.test_list.outer_edges.Goals.{then-not-crosses+in_ok-push, else-not-crosses}

pub loop-e-init : goal.loop-e-init
loop-e-init c = subst (λ es. IsSorting c.args.tri.now es 0) (sym c.new-edges.ensures.items) (sorting_none c.args.tri.now)

pub loop-e-preserved : goal.loop-e-preserved
loop-e-preserved c =
    let inside : c.loop-e.e < edge_count c.args.tri.now = omega (arith, c.edges-e-end.ensures.count) in
    let read : c.crosses.result ≡ is_tree_edge c.args.tri.now c.loop-e.e = c.crosses.ensures ∙ edge_read _ _ _ c.requires in
    elim c.if-not-crosses.branch [
      | then-not-crosses+in_ok-push w ↦
          subst (λ es. IsSorting c.args.tri.now es (c.loop-e.e + 1)) (sym w.in_ok-push.ensures.items ∙ ap (λ v. v.items) (sym w.edges-is))
          (sorting_kept _ _ _ c.loop-e.invariant inside (sym read ∙ search rules))
      | else-not-crosses w ↦
          subst (λ es. IsSorting c.args.tri.now es (c.loop-e.e + 1)) (ap (λ v. v.items) (sym w.edges-is))
          (sorting_left _ _ _ c.loop-e.invariant inside (sym read ∙ search rules))
    ]

pub returns-clause-edges : goal.returns-clause-edges
returns-clause-edges c =
    outer_below _ _ (sorted_all _ _ _ c.loop-e.invariant (omega (arith, c.edges-e-end.ensures.count)))
