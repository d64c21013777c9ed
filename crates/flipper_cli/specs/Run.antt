-- What a run promises: the answer to the words, the causes of the answers that are no part of the
-- report, what the sinks then hold, and the headline over what was printed.
use Rattle.std.specs.Prelude.{◌≡◌, ◌⊎◌, ℕ, List, Option, Some, None}
use Rattle.flip_io.specs.Counts.{Rose, raised}
use Rattle.flip_io.specs.Files.{Files}
use Rattle.flip_io.specs.Taken.{Took, TookPrefix}
use Rattle.flipper_cli.specs.Answers.{Report, printed, refused, rule_failed}
use Rattle.flipper_cli.specs.Commands.{Command}
use Rattle.flipper_cli.specs.Headline.{IsHeadline, IsRuleLine}
use Rattle.flipper_cli.specs.ReadNames.{IsReadBy, IsSurfaceOf}
use Rattle.flipper_cli.specs.Report.{IsReport}
use Rattle.flipper_cli.specs.declared.answers.Status.{Status}
use Rattle.flipper_cli.specs.declared.answers.Status.TheVariants.{ShelfFault, SinkFault}
use Rattle.flipper_cli.specs.declared.refusal.Refusal.{Refusal}
use Rattle.flipper_cli.specs.declared.refusal.Refusal.TheVariants.{Failed, Memory}

-- ---- the answer

-- bytes on the output, with the status of success or with that of a rule that fails; or the line of
-- a refusal, with its status
abbrev pub IsMade : Report → Type 0
IsMade r =
    ((bytes : List ℕ) × (r ≡ printed bytes))
    ⊎ (((line : List ℕ) × (r ≡ rule_failed line)) ⊎ ((e : Refusal) × (r ≡ refused e)))

-- these are the files that the shelf tells, or the words read none
abbrev pub IsOver : Option Files → Option Command → Files → Type 0
IsOver told asked files = (told ≡ Some files) ⊎ ((name : List ℕ) → ¬ IsReadBy asked None name)

-- the report of the words over the files, or one of the two that tell of a failed read and of want
-- of memory
abbrev pub IsAnswer : Option Command → Files → Report → Type 0
IsAnswer asked files r = IsReport asked files r ⊎ ((r ≡ refused Failed) ⊎ (r ≡ refused Memory))

-- ---- the causes

-- a read of a name that the words read failed: its count was raised by one
pub record ReadRaised (asked : Option Command) (told : Option Files) (before now : List ℕ → ℕ)
    : Type 0 where
  pub name : List ℕ
  pub read : IsReadBy asked told name
  pub once : now name ≡ raised (before name)

-- a write failed: the count of one sink was raised by one, and that of the other stayed
abbrev pub SinkRaised : (out out_now err err_now : ℕ) → Type 0
SinkRaised out out_now err err_now =
    ((out_now ≡ raised out) × (err_now ≡ err)) ⊎ ((out_now ≡ out) × (err_now ≡ raised err))

-- the files lack a name that the words read
pub record IsLacking (asked : Option Command) (files : Files) : Type 0 where
  pub name : List ℕ
  pub read : IsReadBy asked (Some files) name
  pub lacks : files name ≡ None

-- the files lack that of the surface
pub record LacksSurface (asked : Option Command) (files : Files) : Type 0 where
  pub name : List ℕ
  pub read : IsSurfaceOf asked name
  pub lacks : files name ≡ None

-- the status tells of no read that failed and of no absent file, and no failed write hides one
abbrev pub TellsNoFault : Status → Type 0
TellsNoFault (ShelfFault _) = ⊥
TellsNoFault SinkFault = ⊥
TellsNoFault _ = Unit {0}

-- no count rose: of the names that the words read, and of the two sinks
pub record IsQuiet (asked : Option Command) (told : Option Files) (reads reads_now : List ℕ → ℕ)
    (out out_now err err_now : ℕ) : Type 0 where
  pub shelf : (name : List ℕ) → IsReadBy asked told name → ¬ Rose (reads name) (reads_now name)
  pub output : ¬ Rose out out_now
  pub errors : ¬ Rose err err_now

-- ---- the sinks

-- the sinks took the report's bytes; or a write failed, and they took the first of them
abbrev pub IsWritten : Report → Status → (out out_now err err_now : Option (List ℕ)) → Type 0
IsWritten r status out out_now err err_now =
    ((status ≡ r.status) × Took out out_now r.out × Took err err_now r.err)
    ⊎ ((status ≡ SinkFault) × TookPrefix out out_now r.out × TookPrefix err err_now r.err)

-- the answer to these words over these files was written
pub record IsRun (asked : Option Command) (files : Files) (status : Status)
    (out out_now err err_now : Option (List ℕ)) : Type 0 where
  pub made : Report
  pub fits : IsAnswer asked files made
  pub written : IsWritten made status out out_now err err_now

-- the report of these words over these files was written whole, and its status answered
pub record IsReported (asked : Option Command) (files : Files) (status : Status)
    (out out_now err err_now : Option (List ℕ)) : Type 0 where
  pub made : Report
  pub fits : IsReport asked files made
  pub answered : status ≡ made.status
  pub out_took : Took out out_now made.out
  pub err_took : Took err err_now made.err

-- ---- the headline

-- the output took bytes of which the headline is true, over these files of the surface and, later,
-- of the certificate
pub record PrintsHeadline (asked : Option Command) (files later : Files)
    (out out_now : Option (List ℕ)) : Type 0 where
  pub printed : List ℕ
  pub taken : Took out out_now printed
  pub true_of : IsHeadline asked files later printed

-- the output took the line of the first rule that fails
pub record PrintsRule (asked : Option Command) (files later : Files)
    (out out_now : Option (List ℕ)) : Type 0 where
  pub printed : List ℕ
  pub taken : Took out out_now printed
  pub true_of : IsRuleLine asked files later printed
