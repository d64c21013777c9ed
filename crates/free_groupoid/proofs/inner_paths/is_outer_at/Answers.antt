use Rattle.std.proofs.Common.{◌≡◌, ◌∙◌, true, false, sym, arith, rules}
use Rattle.free_groupoid.proofs.ForestReads.{edge_read}
use Rattle.free_groupoid.proofs.ComputedWords.{outer_test, crossed_test, far_test}
use Rattle.free_groupoid.proofs.inner_paths.is_outer_at.Goals as goal
use Rattle.free_groupoid.proofs.inner_paths.is_outer_at.Goals.{then-e-edges, else-e-edges}

pub returns-then-not-crosses : goal.returns-then-not-crosses
returns-then-not-crosses c =
    elim c.if-e-edges.branch [
      | then-e-edges w ↦
          (let outside : w.crosses.result ≡ false = search rules in
          outer_test _ _ _ _ (omega (arith, w.if-e-edges.true, c.edges.ensures.count)) (sym (edge_read _ _ _
          c.requires) ∙ sym w.crosses.ensures ∙ outside)
          c.root_of_edge.ensures)
      | else-e-edges w ↦ search rules
    ]

pub returns-else-not-crosses : goal.returns-else-not-crosses
returns-else-not-crosses c =
    elim c.if-e-edges.branch [
      | then-e-edges w ↦
          (let crossed : w.crosses.result ≡ true = search rules in
          let none : c.if-e-edges.value ≡ false = search rules in
          none
          ∙ sym (crossed_test c.args.tri.now c.args.r c.args.e (omega (arith, w.if-e-edges.true, c.edges.ensures.count))
          (sym (edge_read _ _ _ c.requires) ∙ sym w.crosses.ensures ∙ crossed)))
      | else-e-edges w ↦
          (let none : c.if-e-edges.value ≡ false = search rules in
          none ∙ sym (far_test c.args.tri.now c.args.r c.args.e (omega (
            arith,
            w.if-e-edges.false,
            c.edges.ensures.count,
          ))))
    ]
