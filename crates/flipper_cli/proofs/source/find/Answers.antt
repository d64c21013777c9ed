use Rattle.std.proofs.Common.{refl, sym, ap, inl, inr, None, ℕ, List}
use Rattle.flip_io.specs.Reads.{no_read}
use Rattle.flipper_cli.specs.Report.{as_builtin}
use Rattle.flipper_cli.proofs.Found.{some_file}
use Rattle.flipper_cli.proofs.source.find.Goals as goal

pub returns-in-File-clause-found : goal.returns-in-File-clause-found
returns-in-File-clause-found g c =
    rw c.in-File.is
    (λ files over. elim over [
      | inl told ↦ c.in_file.ensures.found files told
      | inr none ↦ absurd (none c.in-File.name.now refl)
    ])

pub returns-in-File-clause-some_files : goal.returns-in-File-clause-some_files
returns-in-File-clause-some_files g c =
    rw c.in-File.is (some_file c.in-File.name.now c.in_file.result c.in_file.ensures.some_file)

pub returns-in-File-clause-reads : goal.returns-in-File-clause-reads
returns-in-File-clause-reads g c = rw c.in-File.is c.in_file.ensures.reads

pub returns-in_err-builtin-in-Builtin-clause-reads : goal.returns-in_err-builtin-in-Builtin-clause-reads
returns-in_err-builtin-in-Builtin-clause-reads g c = no_read _

pub returns-in_ok-builtin-in-Builtin-clause-some_files : goal.returns-in_ok-builtin-in-Builtin-clause-some_files
returns-in_ok-builtin-in-Builtin-clause-some_files g c =
    rw c.in-Builtin.is (λ (name : List ℕ). None, sym (ap as_builtin c.in_ok-builtin-in-Builtin.ensures.found))

pub returns-in_ok-builtin-in-Builtin-clause-reads : goal.returns-in_ok-builtin-in-Builtin-clause-reads
returns-in_ok-builtin-in-Builtin-clause-reads g c = no_read _
