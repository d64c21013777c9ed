use Rattle.std.proofs.Common.{List, ℕ}
use Rattle.free_groupoid.specs.inside.Images.{JoinImages}
use Rattle.free_groupoid.proofs.Filling.{IsFilled}
use Rattle.free_groupoid.proofs.triangles.image_triangles.Given as goal

abbrev pub invariant-loop-t : goal.invariant-loop-t
invariant-loop-t l = (images : List ℕ) → JoinImages l.source l.target l.walks images → IsFilled images l.triangles l.t
