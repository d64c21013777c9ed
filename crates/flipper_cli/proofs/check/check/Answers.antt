use Rattle.std.proofs.Common.{inl}
use Rattle.surface_lib.specs.Described.{described}
use Rattle.flip_io.specs.Reads.{no_read}
use Rattle.flipper_cli.proofs.Answered.{handed_on}
use Rattle.flipper_cli.proofs.FileReads.{widened}
use Rattle.flipper_cli.proofs.Held.{checked_reported, unread_reported}
use Rattle.flipper_cli.proofs.check.check.Goals as goal

pub returns-in_err-path-clause-reads : goal.returns-in_err-path-clause-reads
returns-in_err-path-clause-reads g c = no_read _

-- ---- there is no certificate

pub returns-in_err-certificate-clause-report : goal.returns-in_err-certificate-clause-report
returns-in_err-certificate-clause-report g c = λ files told.
    unread_reported (described c.args.s.now) _ _ (files c.args.certificate.now) _ _ _ c.in_ok-path.ensures.accepted
    c.in_err-certificate.was (c.certificate_in.ensures.found files told) c.from_residual-in_err-certificate.ensures.1

pub returns-in_err-certificate-clause-reads : goal.returns-in_err-certificate-clause-reads
returns-in_err-certificate-clause-reads g c =
    widened _ _ _ (λ name is. (is, (_, c.in_ok-path.ensures.accepted))) c.certificate_in.ensures.reads

pub returns-in_err-certificate-clause-failed : goal.returns-in_err-certificate-clause-failed
returns-in_err-certificate-clause-failed g c = λ h.
    let handed = handed_on _ _ _ _ c.in_err-certificate.was c.from_residual-in_err-certificate.ensures.1 in
    (c.certificate_in.ensures.failed (handed.0 h), (_, c.in_ok-path.ensures.accepted))

pub returns-in_err-certificate-clause-lacks : goal.returns-in_err-certificate-clause-lacks
returns-in_err-certificate-clause-lacks g c = λ files told h.
    let handed = handed_on _ _ _ _ c.in_err-certificate.was c.from_residual-in_err-certificate.ensures.1 in
    (c.certificate_in.ensures.lacks files told (handed.0 h), (_, c.in_ok-path.ensures.accepted))

pub returns-in_err-certificate-clause-absent : goal.returns-in_err-certificate-clause-absent
returns-in_err-certificate-clause-absent g c = λ none h.
    let handed = handed_on _ _ _ _ c.in_err-certificate.was c.from_residual-in_err-certificate.ensures.1 in
    (c.certificate_in.ensures.absent none (handed.0 h), (_, c.in_ok-path.ensures.accepted))

-- ---- there is one

pub returns-in_err-verdict-clause-reads : goal.returns-in_err-verdict-clause-reads
returns-in_err-verdict-clause-reads g c =
    widened _ _ _ (λ name is. (is, (_, c.in_ok-path.ensures.accepted))) c.certificate_in.ensures.reads

pub returns-in_err-output_of-clause-reads : goal.returns-in_err-output_of-clause-reads
returns-in_err-output_of-clause-reads g c =
    widened _ _ _ (λ name is. (is, (_, c.in_ok-path.ensures.accepted))) c.certificate_in.ensures.reads

pub returns-clause-report : goal.returns-clause-report
returns-clause-report g c = λ files told.
    inl (checked_reported (described c.args.s.now) _ _ (files c.args.certificate.now) _ _ _ _
    c.in_ok-path.ensures.accepted c.in_ok-certificate.was (c.certificate_in.ensures.found files told)
    c.in_ok-verdict.ensures.verdict c.in_ok-output_of.ensures)

pub returns-clause-reads : goal.returns-clause-reads
returns-clause-reads g c =
    widened _ _ _ (λ name is. (is, (_, c.in_ok-path.ensures.accepted))) c.certificate_in.ensures.reads
