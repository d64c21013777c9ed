use Rattle.std.proofs.Common.{rules, refl, sym, subst, List, []}
use Rattle.free_groupoid.specs.Walks.{DualWalk}
use Rattle.multicurve_cert.specs.inside.CycleParts.{Adds}
use Rattle.multicurve_cert.proofs.CycleStages.{IsShorter, shorter_none, shorter_more, all_cycles, some_walk}
use Rattle.multicurve_cert.proofs.cycle_list.cycles.Goals as goal

pub loop-n-init : goal.loop-n-init
loop-n-init c =
    subst (λ (walks : List DualWalk). Adds c.args.tri.now (IsShorter c.args.tri.now 1) [] walks)
    (sym c.new-walks.ensures.items) (shorter_none c.args.tri.now [])

pub loop-n-preserved : goal.loop-n-preserved
loop-n-preserved c = shorter_more _ _ _ c.loop-n.walks.items _ c.loop-n.invariant c.in_ok-push_cycles.ensures

pub returns : goal.returns
returns c =
    let cycles = all_cycles _ c.loop-n.n [] _ refl (search rules) c.loop-n.invariant in
    record { all = cycles; some = some_walk _ cycles.0 _ cycles.1 c.cycle_law.ensures }
