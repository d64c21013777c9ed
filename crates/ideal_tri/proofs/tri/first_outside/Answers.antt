use Rattle.std.proofs.Common.{◌≡◌, ◌<◌, ℤ, pos, get_or, arith, rules, w32, ap, ◌∙◌, to_z, of_z}
use Rattle.std.proofs.lemmas.List.Elements.{All-more}
use Rattle.ideal_tri.specs.Labels.{edge_of}
use Rattle.ideal_tri.proofs.tri.first_outside.Goals as goal

pub loop-x-preserved : goal.loop-x-preserved
loop-x-preserved c =
    let x : ℤ = get_or c.as_flattened-x-items.result.now c.loop-x.x-index (pos 0) in
    let same : to_z w32 (of_z w32 x) ≡ x = search rules in
    let n : c.new.result ≡ x = c.new.ensures ∙ same in
    let e : edge_of c.new.result ≡ edge_of x = ap edge_of n in
    let i : c.from.result < c.edge_count-edges.result = c.if-from-edges.false in
    All-more (λ x. edge_of x < c.edge_count-edges.result) c.as_flattened-x-items.result.now c.loop-x.x-index (pos 0)
    c.loop-x-test.true c.loop-x.invariant (omega arith)
