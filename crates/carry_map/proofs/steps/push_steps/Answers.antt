use Rattle.std.proofs.Common.{ℕ, ℤ, List, pos, sym, subst}
use Rattle.std.specs.List.{Contains}
use Rattle.ideal_tri.specs.Labels.{edge_of}
use Rattle.carry_map.proofs.steps.push_steps.Goals as goal

pub number_of-back-requires : goal.number_of-back-requires
number_of-back-requires c =
    subst (λ (z : ℤ). Contains c.switches-switches.result.now (pos (edge_of z))) (sym c.inverse.ensures)
    (subst (λ (n : ℕ). Contains c.switches-switches.result.now (pos n))
    (sym (c.label_laws.ensures.edge c.last_letter-y.result))
    (subst (λ (xs : List ℤ). Contains xs (pos (edge_of c.last_letter-y.result))) (sym c.switches-switches.ensures)
    (c.last_letter-y.ensures.switch.listed _ c.args.track.now c.requires.track.on c.requires.branch)))
