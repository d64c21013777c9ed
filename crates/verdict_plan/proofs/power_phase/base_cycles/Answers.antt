use Rattle.std.proofs.Common.{subst, ◌∙◌, ap, All, ℤ, List}
use Rattle.tri_atlas.specs.Arena.{triangulation}
use Rattle.multicurve_cert.specs.Cycles.{IsCycle}
use Rattle.verdict_plan.proofs.CycleWalks.{each_cycle}
use Rattle.verdict_plan.proofs.power_phase.base_cycles.Goals as goal

pub returns : goal.returns
returns c =
    let told = c.in_ok-cycles.ensures.all in
    subst (λ (triples : List (List ℤ)). All (λ w. IsCycle triples w.letters) c.in_ok-cycles.field-0.items)
    (c.tri.ensures.value ∙ ap (triangulation c.args.atlas.now) c.base.ensures.number)
    (each_cycle _ told.0 c.in_ok-cycles.field-0.items told.1)
