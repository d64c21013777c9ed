use Rattle.std.proofs.Common.{◌≡◌}
use Rattle.tri_atlas.specs.Arena.{Grows}
use Rattle.tri_atlas.specs.Paths.{IsPathIn}
use Rattle.free_groupoid.proofs.tests.path_of.Given as goal

abbrev pub invariant-loop-x : goal.invariant-loop-x
invariant-loop-x g l = record {
  path : IsPathIn l.atlas l.path;
  start : l.path.start ≡ 0;
  grows : Grows l.fn.atlas l.atlas;
}
