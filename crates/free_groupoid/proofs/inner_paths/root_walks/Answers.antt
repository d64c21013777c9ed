use Rattle.std.proofs.Common.{◌≡◌, ◌∙◌, sym, ap, arith}
use Rattle.std.proofs.lemmas.List.FromFn.{map-range_with_len_more}
use Rattle.free_groupoid.specs.inside.ComputedWalks.{root_word}
use Rattle.free_groupoid.proofs.Lists.{word_made}
use Rattle.free_groupoid.proofs.ForestReads.{root_read}
use Rattle.free_groupoid.proofs.ComputedWords.{of_root, of_other}
use Rattle.free_groupoid.proofs.inner_paths.root_walks.Goals as goal
use Rattle.free_groupoid.proofs.inner_paths.root_walks.Goals.{then-root-t+in_ok-walk, else-root-t}

pub loop-t-preserved : goal.loop-t-preserved
loop-t-preserved c =
    let f = root_word c.args.tri.now c.args.f.now in
    let walk : c.if-root-t.walk.items ≡ root_word c.args.tri.now c.args.f.now c.loop-t.t =
    elim c.if-root-t.branch [
      | then-root-t+in_ok-walk w ↦
          (ap (λ v. v.items) w.walk-is ∙ w.in_ok-walk.ensures
          ∙ sym (of_root c.args.tri.now c.args.f.now c.loop-t.t (sym (root_read _ _ _ c.requires.trees)
          ∙ sym c.root.ensures ∙ w.if-root-t.true)))
      | else-root-t w ↦
          (ap (λ v. v.items) w.walk-is ∙ w.new-walk.ensures.items
          ∙ sym (of_other c.args.tri.now c.args.f.now c.loop-t.t (λ e. w.if-root-t.false (c.root.ensures
          ∙ root_read _ _ _ c.requires.trees ∙ e))))
    ] in
    word_made _ _ c.if-root-t.walk _ _ c.in_ok-push.ensures.items walk c.loop-t.invariant
    ∙ sym (map-range_with_len_more f 0 c.loop-t.t c.loop-t.t (omega arith))
