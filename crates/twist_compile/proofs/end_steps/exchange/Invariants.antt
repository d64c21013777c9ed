use Rattle.std.proofs.Common.{◌≡◌, ℕ, pos, map}
use Rattle.std.specs.List.{range_with_len}
use Rattle.twist_compile.specs.TwistPaths.{exchanged}
use Rattle.twist_compile.proofs.end_steps.exchange.Given as goal

abbrev pub invariant-loop-e : goal.invariant-loop-e
invariant-loop-e l = l.images.items ≡ map (λ (e : ℕ). exchanged l.p l.q (pos e)) (range_with_len 0 l.e)
