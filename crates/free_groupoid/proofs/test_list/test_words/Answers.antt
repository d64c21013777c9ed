use Rattle.std.proofs.Common.{◌∙◌, ◌<◌, ◌+◌, drop, ap, map, pos, rules, length}
use Rattle.std.proofs.lemmas.List.{take_all, take_rest}
use Rattle.ideal_tri.specs.Words.{cyclic_reduce}
use Rattle.free_groupoid.specs.TestWalks.{loop}
use Rattle.free_groupoid.proofs.ForestReads.{multiplying_none, multiplying_more}
use Rattle.free_groupoid.proofs.test_list.test_words.Goals as goal

pub loop-k-init : goal.loop-k-init
loop-k-init c =
    multiplying_none _ _ _ c.in_ok-edges.ensures.value
    (c.loop-e.invariant
    ∙ ap (map (λ e. cyclic_reduce (loop c.args.tri.now (pos e)))) (take_all _ _ c.loop-e-test.false
    ∙ c.deref-e-items.ensures.value))

pub loop-k-preserved : goal.loop-k-preserved
loop-k-preserved c =
    let inside : c.loop-k.k < length c.in_ok-edges.edges.items = search rules in
    multiplying_more c.args.tri.now _ _ _ _ c.index.result.now _ c.loop-k.invariant inside c.index.ensures
    c.in_ok-push_products.ensures
    (take_rest c.deref.result.now (c.loop-k.k + 1) ∙ ap (drop (c.loop-k.k + 1)) c.deref.ensures.value)
