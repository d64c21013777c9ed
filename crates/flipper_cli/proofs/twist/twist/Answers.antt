use Rattle.std.proofs.Common.{◌≡◌, Err}
use Rattle.surface_lib.specs.Described.{described}
use Rattle.flipper_cli.specs.Report.{IsTwistReport}
use Rattle.flipper_cli.specs.inside.Shown.{shown}
use Rattle.flipper_cli.specs.declared.refusal.Refusal.TheVariants.{Memory}
use Rattle.flipper_cli.proofs.Answered.{numbers_reported}
use Rattle.flipper_cli.proofs.twist.twist.Goals as goal

pub returns-clause-report : goal.returns-clause-report
returns-clause-report c =
    let d = described c.args.s.now in
    numbers_reported d (IsTwistReport d c.args.hand) c.args.coordinates.now c.in_ok-numbers.numbers.items
    (shown c.twist_about.result) (c.twist_about.result ≡ Err Memory) c.in_ok-numbers.ensures.read
    (rw c.deref.ensures.value at c.twist_about.ensures.report)
