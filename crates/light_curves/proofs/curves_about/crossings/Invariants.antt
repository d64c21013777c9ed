use Rattle.std.proofs.Common.{◌≡◌, ◌≤◌, ◌<◌, ℕ, length, slice_index}
use Rattle.ideal_tri.specs.declared.tri.TheConstants.{EDGES}
use Rattle.light_curves.specs.LightCurves.{IsCrossed}
use Rattle.light_curves.proofs.curves_about.crossings.Given as goal

abbrev pub invariant-loop-e : goal.invariant-loop-e
invariant-loop-e l = record {
  room : length l.numbers ≡ EDGES;
  crossed : (k : ℕ) → k < l.e → IsCrossed l.tri l.w k (slice_index l.numbers k);
  few : (k : ℕ) → k < l.e → slice_index l.numbers k ≤ 2;
}
