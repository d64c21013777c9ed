use Rattle.flipper_cli.specs.Commands.{command}
use Rattle.flipper_cli.specs.inside.Shown.{made_as}
use Rattle.flipper_cli.proofs.Runs.{is_made, lacking, over_files, reported, silent, taken, taken_rule}
use Rattle.flipper_cli.proofs.program.run.Goals as goal

pub returns-clause-run : goal.returns-clause-run
returns-clause-run g c = λ files over.
    record {
      made = made_as c.settled_work-settled.result.made;
      fits = c.settled_work-settled.ensures.report files over;
      written = c.deliver.ensures.written;
    }

pub returns-clause-written : goal.returns-clause-written
returns-clause-written g c =
    let made = c.settled_work-settled.result.made in (made_as made, is_made made, c.deliver.ensures.written)

pub returns-clause-quiet : goal.returns-clause-quiet
returns-clause-quiet g c = λ files over quiet.
    reported _ _ files c.settled_work-settled.result.made _ _ _ _ _ _ _ _ _ _ _ (c.settled_work-settled.ensures.report files over)
    c.deliver.ensures.written quiet
    c.settled_work-settled.ensures.failed c.deliver.ensures.sinks

pub returns-clause-lacking : goal.returns-clause-lacking
returns-clause-lacking g c = λ files told lack.
    lacking c.settled_work-settled.result.made _ _ _ _ _ (c.settled_work-settled.ensures.lacking files told lack) c.deliver.ensures.written

pub returns-clause-silent : goal.returns-clause-silent
returns-clause-silent g c = silent c.settled_work-settled.result.made _ _ _ _ _ c.deliver.ensures.written

pub returns-clause-headline : goal.returns-clause-headline
returns-clause-headline g c = λ files told done.
    taken (command c.args.words.now) files files c.settled_work-settled.result.made _ _ _ _ _
    (c.settled_work-settled.ensures.headline files told) c.deliver.ensures.written done

pub returns-clause-some_files : goal.returns-clause-some_files
returns-clause-some_files g c = λ done.
    let (files, later, h) = over_files (command c.args.words.now) c.settled_work-settled.result.made
    c.settled_work-settled.ensures.some_files in (
      files,
      later,
      taken (command c.args.words.now) files later c.settled_work-settled.result.made _ _ _ _ _ h
          c.deliver.ensures.written done,
    )

pub returns-clause-rule : goal.returns-clause-rule
returns-clause-rule g c = λ files told rule.
    taken_rule (command c.args.words.now) files files c.settled_work-settled.result.made _ _ _ _ _
    (c.settled_work-settled.ensures.headline files told) c.deliver.ensures.written rule

pub returns-clause-some_rule : goal.returns-clause-some_rule
returns-clause-some_rule g c = λ rule.
    let (files, later, h) = over_files (command c.args.words.now) c.settled_work-settled.result.made
    c.settled_work-settled.ensures.some_files in (
      files,
      later,
      taken_rule (command c.args.words.now) files later c.settled_work-settled.result.made _ _ _ _ _ h
          c.deliver.ensures.written rule,
    )
