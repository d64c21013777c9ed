use Rattle.std.proofs.Common.{ℕ, ℤ, List, refl, ◌∙◌, ap, subst}
use Rattle.tri_atlas.specs.Arena.{triangulation}
use Rattle.edge_coords.specs.Refusals.{IsRefusedFor}
use Rattle.cert_checker.specs.VectorRules.{fault_place, by_fault}
use Rattle.cert_checker.proofs.vectors.check_vector.Goals as goal

pub returns-in-Err-clause-refused : goal.returns-in-Err-clause-refused
returns-in-Err-clause-refused c =
    by_fault c.in-Err.fault refl
    (c.fault_place.ensures
    ∙ ap (λ (ts : List (List ℤ)). fault_place ts c.in-Err.fault) c.tri.ensures.value
    ∙ ap (λ (t : ℕ). fault_place (triangulation c.args.atlas.now t) c.in-Err.fault) c.base-base.ensures.number)
    (subst (λ (t : ℕ). IsRefusedFor (triangulation c.args.atlas.now t) c.args.coords.now c.in-Err.fault)
    c.base-base.ensures.number c.in-Err.ensures.refused)
