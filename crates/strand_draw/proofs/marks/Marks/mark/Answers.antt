use Rattle.std.proofs.Common.{ℕ, ◌++◌, ◌∷◌, [], true, sym, ◌∙◌, subst}
use Rattle.std.proofs.Math.ListN.{set}
use Rattle.std.proofs.lemmas.List.{length-set}
use Rattle.strand_draw.proofs.Marking.{Passed, passed_more}
use Rattle.strand_draw.proofs.marks.Marks.mark.Goals as goal

pub returns-clause-marked : goal.returns-clause-marked
returns-clause-marked c = λ run h. record {
  numbered = record {
    few = h.numbered.few;
    room = length-set c.args.self.now.drawn.items c.number-number.result true ∙ h.numbered.room;
    firsts = h.numbered.firsts;
  };
  passed =
      subst
      (λ (k : ℕ). Passed c.args.w.now.numbers (set c.args.self.now.drawn.items k true) (run ++ (c.args.q ∷ [])))
      (sym c.number-number.ensures.value)
      (passed_more c.args.w.now.numbers c.args.self.now.drawn.items run c.args.q h.numbered.room c.requires.strand
      h.passed);
}
