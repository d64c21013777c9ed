use Rattle.std.proofs.Common.{◌≡◌, ◌<◌, take}
use Rattle.edge_coords.specs.declared.coords.TheConstants.{COORDINATE_LIMIT}
use Rattle.cycle_stages.specs.Light.{greatest_of}
use Rattle.cycle_stages.proofs.light.greatest.Given as goal

abbrev pub invariant-loop-n : goal.invariant-loop-n
invariant-loop-n l = record {
  so_far : l.greatest ≡ greatest_of (take l.n-index l.w);
  small : l.greatest < COORDINATE_LIMIT;
}
