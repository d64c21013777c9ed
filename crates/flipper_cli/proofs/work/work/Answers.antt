use Rattle.flip_io.specs.Reads.{no_read}
use Rattle.flipper_cli.proofs.work.work.Goals as goal

pub returns-in-None-clause-reads : goal.returns-in-None-clause-reads
returns-in-None-clause-reads g c = no_read _

pub returns-in-Some-clause-report : goal.returns-in-Some-clause-report
returns-in-Some-clause-report g c = rw c.in-Some.ensures.0 c.answer.ensures.report

pub returns-in-Some-clause-headline : goal.returns-in-Some-clause-headline
returns-in-Some-clause-headline g c = rw c.in-Some.ensures.0 c.answer.ensures.headline

pub returns-in-Some-clause-lacking : goal.returns-in-Some-clause-lacking
returns-in-Some-clause-lacking g c = rw c.in-Some.ensures.0 c.answer.ensures.lacking
