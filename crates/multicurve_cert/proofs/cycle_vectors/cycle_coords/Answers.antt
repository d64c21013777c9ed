use Rattle.std.proofs.Common.{◌≡◌, ℕ, ℤ, List, take, subst, rules}
use Rattle.ideal_tri.specs.Triangulations.{IsTriangulation}
use Rattle.tri_atlas.specs.Arena.{Arena, triangulation}
use Rattle.edge_coords.specs.Refusals.{IsRefusedFor}
use Rattle.multicurve_cert.specs.Cycles.{cycle_vector}
use Rattle.multicurve_cert.proofs.CycleCurves.{not_refused, cycle_curve, cycle_small}
use Rattle.multicurve_cert.proofs.cycle_vectors.cycle_coords.Goals as goal

pub unreachable-requires : goal.unreachable-requires
unreachable-requires c =
    let arena : Arena = c.args.atlas.now in
    let letters : List ℤ = c.args.cycle.now.letters in
    let sound : IsTriangulation (triangulation arena 0) = c.base.ensures.sound.sound 0 c.base.ensures.sound.base in
    let value : take c.edges.result c.numbers-numbers.result ≡ cycle_vector (triangulation arena 0) letters =
    search rules in
    not_refused (triangulation arena 0) (cycle_vector (triangulation arena 0) letters) c.in-Err.field-0
    (cycle_curve (triangulation arena 0) sound c.label_laws.ensures c.surface_laws.ensures
    (c.corner_laws.ensures (triangulation arena 0) sound) letters c.requires)
    (cycle_small (triangulation arena 0) letters c.requires)
    (subst (λ (w : List ℕ). IsRefusedFor (triangulation arena 0) w c.in-Err.field-0) value
    (subst (λ (t : ℕ). IsRefusedFor (triangulation arena t) (take c.edges.result c.numbers-numbers.result)
    c.in-Err.field-0) c.base-2.ensures.number c.in-Err.ensures.refused))
