use Rattle.std.proofs.Common.{◌≡◌, map, take, All}
use Rattle.tri_atlas.specs.Arena.{triangulation}
use Rattle.multicurve_cert.specs.Cycles.{cycle_vector}
use Rattle.multicurve_cert.specs.LastTests.{AreAtBase}
use Rattle.multicurve_cert.proofs.curve_search.vectors.Given as goal

abbrev pub invariant-loop-cycle : goal.invariant-loop-cycle
invariant-loop-cycle l = record {
  numbers : map (λ c. c.numbers) l.vectors.items
      ≡ map (λ w. cycle_vector (triangulation l.atlas 0) w.letters) (take l.cycle-index l.cycles);
  here : All (AreAtBase l.atlas) l.vectors.items;
}
