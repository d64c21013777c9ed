use Rattle.std.proofs.Common.{rules, IsTrue, [], ◌∷◌, ◌++◌, ◌∙◌, ap}
use Rattle.free_groupoid.specs.Walks.{DualWalk}
use Rattle.multicurve_cert.proofs.CyclePrefixes.{adds_cycle, adds_no_cycle, read_walk}
use Rattle.multicurve_cert.proofs.cycle_list.push_cycle.Goals as goal

pub returns-in_ok-push : goal.returns-in_ok-push
returns-in_ok-push c =
    let is_true : IsTrue c.in_ok-is_cycle.field-0 = search rules in
    adds_cycle _ _ _ _ (c.in_ok-is_cycle.ensures.0 is_true)
    (c.in_ok-push.ensures.items
    ∙ ap (λ (w : DualWalk). c.args.walks.now.items ++ (w ∷ []))
    (read_walk _ _ _ _ _ c.index-word-0.is c.place.ensures.triangle c.in_ok-from_slice.ensures.items c.requires.some))

pub returns-else-branch : goal.returns-else-branch
returns-else-branch c =
    adds_no_cycle _ _ _
    (λ cycle. let is_true : IsTrue c.in_ok-is_cycle.field-0 = c.in_ok-is_cycle.ensures.1 cycle in
    let absurdity : ⊥ = search rules in absurdity)
