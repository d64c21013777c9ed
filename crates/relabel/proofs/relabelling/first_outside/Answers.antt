use Rattle.std.proofs.Common.{rules, arith, pos, ◌<◌, All, get_or, subst}
use Rattle.std.proofs.lemmas.List.{take_all}
use Rattle.std.proofs.lemmas.List.Elements.{All-more}
use Rattle.ideal_tri.specs.Labels.{edge_of}
use Rattle.relabel.proofs.relabelling.first_outside.Goals as goal

pub loop-place-preserved : goal.loop-place-preserved
loop-place-preserved c =
    let label : edge_of (get_or c.args.list.now c.loop-place.place (pos 0)) < c.args.edges = search rules in
    All-more (λ x. edge_of x < c.args.edges) c.args.list.now c.loop-place.place
    (pos 0) c.loop-place-test.true c.loop-place.invariant label

pub returns-clause-none : goal.returns-clause-none
returns-clause-none c =
    subst (All (λ x. edge_of x < c.args.edges))
    (take_all c.loop-place.place c.args.list.now (omega arith)) c.loop-place.invariant
