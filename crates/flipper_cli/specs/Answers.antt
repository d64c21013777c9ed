-- What the program answers: its status, and the bytes on the output and on the error stream.
use Rattle.std.specs.Prelude.{ℕ, List, []}
use Rattle.flip_io.specs.declared.shelf.ShelfFault.TheVariants.{Absent as FileAbsent}
use Rattle.flip_io.specs.declared.shelf.ShelfFault.TheVariants.{Failed as ReadFailed}
use Rattle.cert_checker.specs.declared.verdict.Verdict.{Verdict}
use Rattle.cert_checker.specs.declared.verdict.Verdict.TheVariants.{Accepted, NoClaim, Refused}
use Rattle.flipper_cli.specs.RefusalLines.{line_for}
use Rattle.flipper_cli.specs.Verdicts.{checked_line}
use Rattle.flipper_cli.specs.declared.answers.Status.{Status}
use Rattle.flipper_cli.specs.declared.answers.Status.TheVariants.{Done, InputRefused, WordsRefused}
use Rattle.flipper_cli.specs.declared.answers.Status.TheVariants.{ShelfFault, SinkFault}
use Rattle.flipper_cli.specs.declared.answers.Status.TheVariants.{Memory as NoMemory}
use Rattle.flipper_cli.specs.declared.answers.Status.TheVariants.{Overflow as Overflows, RuleFailed}
use Rattle.flipper_cli.specs.declared.refusal.Refusal.{Refusal}
use Rattle.flipper_cli.specs.declared.refusal.Refusal.TheVariants.{Usage, Absent, Failed}
use Rattle.flipper_cli.specs.declared.refusal.Refusal.TheVariants.{UnknownBuiltin, Surface, Word}
use Rattle.flipper_cli.specs.declared.refusal.Refusal.TheVariants.{Coordinates, Twist, Certificate}
use Rattle.flipper_cli.specs.declared.refusal.Refusal.TheVariants.{Overflow, Memory}

-- the exit status
abbrev pub number_of : Status → ℕ
number_of Done = 0
number_of InputRefused = 1
number_of WordsRefused = 2
number_of (ShelfFault _) = 3
number_of SinkFault = 4
number_of NoMemory = 5
number_of Overflows = 6
number_of RuleFailed = 7

abbrev pub status_of : Refusal → Status
status_of Usage = WordsRefused
status_of Absent = ShelfFault FileAbsent
status_of Failed = ShelfFault ReadFailed
status_of UnknownBuiltin = InputRefused
status_of (Surface _) = InputRefused
status_of (Word _) = InputRefused
status_of (Coordinates _) = InputRefused
status_of (Twist _) = InputRefused
status_of (Certificate _) = InputRefused
status_of (Overflow _) = Overflows
status_of Memory = NoMemory

pub record Report : Type 0 where
  pub status : Status
  pub out : List ℕ
  pub err : List ℕ

abbrev pub printed : List ℕ → Report
printed bytes = record { status = Done; out = bytes; err = [] }

-- the line of a rule that fails
abbrev pub rule_failed : List ℕ → Report
rule_failed line = record { status = RuleFailed; out = line; err = [] }

-- the line of the checker's verdict
abbrev pub checked : Verdict → Report
checked Accepted = printed (checked_line Accepted)
checked NoClaim = printed (checked_line NoClaim)
checked (Refused rule place) = rule_failed (checked_line (Refused rule place))

abbrev pub refused : Refusal → Report
refused r = record { status = status_of r; out = []; err = line_for r }
