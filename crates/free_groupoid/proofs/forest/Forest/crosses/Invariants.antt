use Rattle.std.proofs.Common.{◌≡◌, drop}
use Rattle.std.specs.List.{list_any}
use Rattle.free_groupoid.specs.TestWalks.{ends_across}
use Rattle.free_groupoid.proofs.forest.Forest.crosses.Given as goal

abbrev pub invariant-loop-n : goal.invariant-loop-n
invariant-loop-n l = list_any (λ n. ends_across l.e n.walk) (drop l.n-index l.self)
    ≡ list_any (λ n. ends_across l.e n.walk) l.self
