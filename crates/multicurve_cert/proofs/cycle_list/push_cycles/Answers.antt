use Rattle.std.proofs.Common.{rules, arith, pos, ◌≡◌, sym, subst, ap, ◌*◌, ◌<◌, ◌≤◌}
use Rattle.ideal_tri.specs.Triangulations.{edge_count, IsLabel}
use Rattle.multicurve_cert.proofs.CycleStages.{below_none, below_edge, below_all}
use Rattle.multicurve_cert.proofs.cycle_list.push_cycles.Goals as goal

pub loop-e-init : goal.loop-e-init
loop-e-init c = below_none _ _ _

pub push_from_letter-requires-clause-label : goal.push_from_letter-requires-clause-label
push_from_letter-requires-clause-label c =
    let is_x : c.new.result ≡ pos c.loop-e.e = search rules in
    let inside : c.loop-e.e < edge_count c.args.tri.now =
    omega (arith, c.edges-e-end.ensures.count, c.loop-e-test.true) in
    subst (IsLabel c.args.tri.now) (sym is_x) inside

pub loop-e-preserved : goal.loop-e-preserved
loop-e-preserved c =
    below_edge c.word_laws.ensures c.label_laws.ensures.order _ _ c.loop-e.e c.new.result _ c.loop-e.walks.items _
    (let is_x : c.new.result ≡ pos c.loop-e.e = search rules in is_x) c.loop-e.invariant
    c.in_ok-push_from_letter.ensures

pub returns : goal.returns
returns c =
    let count : c.edges-e-end.result ≡ edge_count c.args.tri.now = c.edges-e-end.ensures.count in
    let inside : c.loop-e.e ≤ c.edges-e-end.result = c.loop-e.auto.e-end in
    let ended : c.edges-e-end.result ≤ c.loop-e.e = c.loop-e-test.false in
    let last : c.loop-e.e ≡ edge_count c.args.tri.now = omega arith in
    below_all c.label_laws.ensures.order _ _ (2 * c.loop-e.e) _ _ (ap (λ e. 2 * e) last) c.loop-e.invariant
