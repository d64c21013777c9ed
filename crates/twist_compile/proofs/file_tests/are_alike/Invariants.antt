use Rattle.std.proofs.Common.{◌≡◌}
use Rattle.edge_coords.specs.Coordinates.{AreCoordinatesIn}
use Rattle.twist_compile.proofs.file_tests.are_alike.Given as goal

abbrev pub invariant-loop : goal.invariant-loop
invariant-loop l = AreCoordinatesIn l.s.atlas l.v × (l.v.tri ≡ 0)
