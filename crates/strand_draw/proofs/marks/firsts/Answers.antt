use Rattle.std.proofs.Common.{ℕ, ◌<◌, inl, inr, sym, ◌∙◌, ap, arith, length, take, get_or-set_other}
use Rattle.std.specs.List.{sum}
use Rattle.std.proofs.lemmas.Bool.{cases_eq}
use Rattle.std.proofs.lemmas.Grind.{get_or-set_at}
use Rattle.std.proofs.lemmas.List.{length-set}
use Rattle.strand_draw.proofs.Numbers.{sum_take_more}
use Rattle.strand_draw.proofs.marks.firsts.Goals as goal

pub loop-e-preserved : goal.loop-e-preserved
loop-e-preserved c = record {
  room = length-set c.loop-e.firsts c.loop-e.e c.loop-e.total ∙ c.loop-e.invariant.room;
  total = omega (arith, sum_take_more c.args.w.now c.loop-e.e (omega arith), c.loop-e.invariant.total);
  firsts = λ k b.
      elim (cases_eq k c.loop-e.e) [
        | inl e ↦
            let inside : c.loop-e.e < length c.loop-e.firsts =
            omega (arith, c.loop-e.invariant.room, c.requires.few) in
            get_or-set_at c.loop-e.firsts c.loop-e.e k c.loop-e.total 0 e inside
            ∙ c.loop-e.invariant.total
            ∙ ap (λ (n : ℕ). sum (take n c.args.w.now)) (sym e)
        | inr ne ↦
            get_or-set_other c.loop-e.firsts c.loop-e.e k c.loop-e.total 0 ne
            ∙ c.loop-e.invariant.firsts k (omega arith)
      ];
}
