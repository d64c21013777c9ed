use Rattle.std.proofs.Common.{◌≡◌, refl, sym, ◌∙◌, ap}
use Rattle.flipper_cli.specs.Answers.{number_of}
use Rattle.flipper_cli.specs.declared.answers.Status.{Status}
use Rattle.flipper_cli.specs.declared.answers.Status.TheVariants.{Done, InputRefused, WordsRefused, ShelfFault}
use Rattle.flipper_cli.specs.declared.answers.Status.TheVariants.{SinkFault, Memory, Overflow, RuleFailed}
use Rattle.flipper.proofs.run_words.Goals as goal

done_by_number : (s : Status) → number_of s ≡ 0 → s ≡ Done
done_by_number Done e = refl
done_by_number InputRefused e = absurd (cc)
done_by_number WordsRefused e = absurd (cc)
done_by_number (ShelfFault f) e = absurd (cc)
done_by_number SinkFault e = absurd (cc)
done_by_number Memory e = absurd (cc)
done_by_number Overflow e = absurd (cc)
done_by_number RuleFailed e = absurd (cc)

pub returns-clause-headline : goal.returns-clause-headline
returns-clause-headline g c = λ ok.
    let some = rw c.words_after_name-words.ensures at c.run.ensures.some_files in
    let (files, later, h) = some (done_by_number c.run.result (sym c.exit_code.ensures ∙ ok)) in
    (files, later, h.printed, h.true_of)
