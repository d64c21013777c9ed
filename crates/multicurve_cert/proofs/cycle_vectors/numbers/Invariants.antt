use Rattle.std.proofs.Common.{◌≡◌, [], ◌∷◌, length, map, take}
use Rattle.std.specs.List.{range_with_len}
use Rattle.ideal_tri.specs.Curves.{crossings}
use Rattle.ideal_tri.specs.declared.tri.TheConstants.{EDGES}
use Rattle.multicurve_cert.proofs.cycle_vectors.numbers.Given as goal

abbrev pub invariant-loop-e : goal.invariant-loop-e
invariant-loop-e l = record {
  room : length l.numbers ≡ EDGES;
  so_far : take l.e l.numbers ≡ map (λ e. crossings e (l.letters ∷ [])) (range_with_len 0 l.e);
}
