-- What the work found, as a report.
use Rattle.std.specs.Prelude.{ℕ, List, [], Option, Result, Ok, Err, Vec}
use Rattle.std.specs.declared.alloc.Global.{Global}
use Rattle.flip_io.specs.Files.{Files}
use Rattle.surface_lib.specs.Described.{Described}
use Rattle.flipper_cli.specs.Answers.{Report, printed, refused}
use Rattle.flipper_cli.specs.Commands.{Command}
use Rattle.flipper_cli.specs.Headline.{IsFailedLine, IsHeadline, IsPrinted, IsRuleLine}
use Rattle.flipper_cli.specs.declared.answers.Output.{Output}
use Rattle.flipper_cli.specs.declared.answers.Output.TheVariants.{Success, FailedRule}
use Rattle.flipper_cli.specs.declared.answers.Status.{Status}
use Rattle.flipper_cli.specs.declared.answers.Status.TheVariants.{Done, RuleFailed}
use Rattle.flipper_cli.specs.declared.refusal.Refusal.{Refusal}

-- ---- of a command that fails no rule

abbrev pub shown : Result (Vec ℕ Global) Refusal → Report
shown (Ok bytes) = printed bytes.items
shown (Err r) = refused r

abbrev pub as_output : Result (Vec ℕ Global) Refusal → Result Output Refusal
as_output (Ok bytes) = Ok (Success bytes)
as_output (Err r) = Err r

-- ---- of any command

abbrev pub bytes_of : Output → List ℕ
bytes_of (Success bytes) = bytes.items
bytes_of (FailedRule bytes) = bytes.items

abbrev pub status_with : Output → Status
status_with (Success bytes) = Done
status_with (FailedRule bytes) = RuleFailed

abbrev pub put_out : Output → Report
put_out output = record { status = status_with output; out = bytes_of output; err = [] }

abbrev pub made_as : Result Output Refusal → Report
made_as (Ok output) = put_out output
made_as (Err r) = refused r

-- what goes to the output about a surface is true, over these files of the certificate
abbrev pub IsTrueOutput : Command → Described → Files → Output → Type 0
IsTrueOutput asked d later (Success bytes) = IsPrinted asked d later bytes.items
IsTrueOutput asked d later (FailedRule bytes) = IsFailedLine asked d later bytes.items

-- what goes to the output of the command that the words fit is true over these files
abbrev pub IsOutputOf : Option Command → (files later : Files) → Output → Type 0
IsOutputOf asked files later (Success bytes) = IsHeadline asked files later bytes.items
IsOutputOf asked files later (FailedRule bytes) = IsRuleLine asked files later bytes.items
