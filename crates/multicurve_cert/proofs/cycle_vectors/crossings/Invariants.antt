use Rattle.std.proofs.Common.{◌≡◌, ◌≤◌, nat_eq, take, count_by}
use Rattle.ideal_tri.specs.Labels.{edge_of}
use Rattle.multicurve_cert.proofs.cycle_vectors.crossings.Given as goal

abbrev pub invariant-loop-x : goal.invariant-loop-x
invariant-loop-x l = record {
  counted : l.count ≡ count_by (λ x. nat_eq (edge_of x) l.e) (take l.x-index l.letters);
  few : l.count ≤ l.x-index;
}
