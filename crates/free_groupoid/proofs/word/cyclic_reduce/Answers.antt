use Rattle.std.proofs.Common.{arith}
use Rattle.free_groupoid.proofs.Ends.{ends_taken_off}
use Rattle.free_groupoid.proofs.word.cyclic_reduce.Goals as goal

pub returns : goal.returns
returns c =
    ends_taken_off _ _ _ _ _ _ _ _ c.reduce.ensures c.deref.ensures.value (omega arith)
    c.matching_ends-ends.ensures.within
    c.matching_ends-ends.ensures.between c.truncate.ensures.items c.rotate_left.ensures.items c.truncate-2.ensures.items
