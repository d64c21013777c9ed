use Rattle.std.proofs.Common.{◌+◌, ◌-◌, ◌≤◌, take, length}
use Rattle.std.specs.Vec.{vec_capacity}
use Rattle.free_groupoid.proofs.Joining.{BackUpTo}
use Rattle.free_groupoid.proofs.word.append_inverse_reduced.Given as goal

abbrev pub invariant-loop-k : goal.invariant-loop-k
invariant-loop-k l = record {
  letters : BackUpTo (take (length l.fn.word.items - l.cancelled) l.fn.word.items) l.more l.kept l.word.items l.k;
  room : length l.word.items + (l.kept - l.k) ≤ vec_capacity l.word;
}
