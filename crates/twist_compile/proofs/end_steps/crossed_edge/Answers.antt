use Rattle.std.proofs.Common.{ℕ, ◌≡◌, inl, inr, arith, length}
use Rattle.std.specs.Prelude.{slice_index}
use Rattle.std.proofs.lemmas.Bool.{cases_lt}
use Rattle.std.proofs.lemmas.List.{get_or_past}
use Rattle.twist_compile.proofs.Sums.{none_of}
use Rattle.twist_compile.proofs.end_steps.crossed_edge.Goals as goal

pub unreachable-requires : goal.unreachable-requires
unreachable-requires c = omega (arith, c.requires, none_of c.args.w.now nothing)
  where
    nothing : (i : ℕ) → slice_index c.args.w.now i ≡ 0
    nothing i =
        elim (cases_lt i (length c.args.w.now)) [
          | inl b ↦ c.loop-e.invariant i (omega (arith, b, c.loop-e-test.false))
          | inr b ↦ get_or_past c.args.w.now i 0 b
        ]
