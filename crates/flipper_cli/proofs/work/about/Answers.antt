use Rattle.std.proofs.Common.{None, ℕ, List, inl, inr, refl}
use Rattle.flip_io.specs.Reads.{no_read}
use Rattle.surface_lib.specs.Described.{described}
use Rattle.flipper_cli.specs.inside.SeenCommand.{seen, seen_source}
use Rattle.flipper_cli.specs.inside.Shown.{IsTrueOutput}
use Rattle.flipper_cli.proofs.Answered.{checked_output, checked_some, success_some}
use Rattle.flipper_cli.proofs.work.about.Goals as goal

-- ---- commands that read nothing behind the surface

pub returns-in_err-show-in-Show-clause-reads : goal.returns-in_err-show-in-Show-clause-reads
returns-in_err-show-in-Show-clause-reads g c = no_read _

pub returns-in_ok-show-in-Show-clause-some_files : goal.returns-in_ok-show-in-Show-clause-some_files
returns-in_ok-show-in-Show-clause-some_files g c =
    (λ (name : List ℕ). None, rw c.in-Show.is c.in_ok-show-in-Show.ensures)

pub returns-in_ok-show-in-Show-clause-reads : goal.returns-in_ok-show-in-Show-clause-reads
returns-in_ok-show-in-Show-clause-reads g c = no_read _

pub returns-in-Image-clause-some_files : goal.returns-in-Image-clause-some_files
returns-in-Image-clause-some_files g c =
    success_some (λ later output. IsTrueOutput (seen c.args.command) (described c.args.s.now) later output) _ _
    c.success.ensures (rw c.in-Image.is c.image.ensures.printed)

pub returns-in-Image-clause-reads : goal.returns-in-Image-clause-reads
returns-in-Image-clause-reads g c = no_read _

pub returns-in-Twist-clause-some_files : goal.returns-in-Twist-clause-some_files
returns-in-Twist-clause-some_files g c =
    success_some (λ later output. IsTrueOutput (seen c.args.command) (described c.args.s.now) later output) _ _
    c.success-in-Twist.ensures (rw c.in-Twist.is c.twist.ensures.printed)

pub returns-in-Twist-clause-reads : goal.returns-in-Twist-clause-reads
returns-in-Twist-clause-reads g c = no_read _

pub returns-in-Classify-clause-some_files : goal.returns-in-Classify-clause-some_files
returns-in-Classify-clause-some_files g c =
    success_some (λ later output. IsTrueOutput (seen c.args.command) (described c.args.s.now) later output) _ _
    c.success-in-Classify.ensures (rw c.in-Classify.is c.classify.ensures.printed)

pub returns-in-Classify-clause-reads : goal.returns-in-Classify-clause-reads
returns-in-Classify-clause-reads g c = no_read _

-- ---- the certificate

pub returns-in-Check-clause-report : goal.returns-in-Check-clause-report
returns-in-Check-clause-report g c =
    rw c.in-Check.is
    (λ files over. elim over [
      | inl told ↦ c.check.ensures.report files told
      | inr none ↦ absurd (none c.in-Check.certificate.now refl)
    ])

pub returns-in-Check-clause-output : goal.returns-in-Check-clause-output
returns-in-Check-clause-output g c =
    rw c.in-Check.is
    (λ files told. checked_output (seen_source c.in-Check.source) c.in-Check.word.now c.in-Check.certificate.now
    (described c.args.s.now) files c.check.result (c.check.ensures.output files told))

pub returns-in-Check-clause-some_files : goal.returns-in-Check-clause-some_files
returns-in-Check-clause-some_files g c =
    rw c.in-Check.is
    (checked_some (seen_source c.in-Check.source) c.in-Check.word.now c.in-Check.certificate.now
    (described c.args.s.now) c.check.result c.check.ensures.some_file)

pub returns-in-Check-clause-reads : goal.returns-in-Check-clause-reads
returns-in-Check-clause-reads g c = rw c.in-Check.is c.check.ensures.reads
