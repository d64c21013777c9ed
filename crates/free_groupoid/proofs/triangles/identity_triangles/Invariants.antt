use Rattle.std.specs.List.{range_with_len}
use Rattle.free_groupoid.proofs.Filling.{IsFilled}
use Rattle.free_groupoid.proofs.triangles.identity_triangles.Given as goal

abbrev pub invariant-loop-t : goal.invariant-loop-t
invariant-loop-t l = IsFilled (range_with_len 0 l.count) l.triangles l.t
