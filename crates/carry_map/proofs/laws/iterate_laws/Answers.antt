use Rattle.carry_map.proofs.EveryIterate.{IterateBase}
use Rattle.carry_map.proofs.CarriedLoops.{carried_facts}
use Rattle.carry_map.proofs.IterateTheory.{iterate_laws}
use Rattle.carry_map.proofs.PassTheory.{pass_facts, loop_laws}
use Rattle.carry_map.proofs.laws.iterate_laws.Goals as goal

pub returns : goal.returns
returns c =
    let base : IterateBase = record {
      words = c.word_laws.ensures;
      substitutions = c.map_laws.ensures.substitutions;
      sums = c.matrix_laws.ensures.sums;
      growth = c.growth_laws.ensures;
    } in
    iterate_laws base c.map_laws.ensures.paths
    (pass_facts c.label_laws.ensures c.surface_laws.ensures c.word_laws.ensures c.track_laws.ensures)
    (loop_laws c.label_laws.ensures c.surface_laws.ensures c.word_laws.ensures c.track_laws.ensures)
    (λ ts out bs f triangles d m sound single list map carried transition.
    carried_facts c.label_laws.ensures c.word_laws.ensures c.map_laws.ensures c.track_laws.ensures ts out bs f
    triangles d m
    (pass_facts c.label_laws.ensures c.surface_laws.ensures c.word_laws.ensures c.track_laws.ensures ts out bs sound
    single list) sound single list map carried transition)
