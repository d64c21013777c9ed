-- What a run answers, from what the work found and how it was written.
use Rattle.std.proofs.Common.{◌≡◌, ◌⊎◌, inl, inr, ℕ, List, [], Option, None, Result, Ok, Err, IfOk}
use Rattle.std.proofs.Common.{IsErrOf, refl, sym, ap, ◌∙◌, arith}
use Rattle.flip_io.specs.Counts.{Rose, raised}
use Rattle.flip_io.specs.Files.{Files}
use Rattle.flip_io.specs.Taken.{Took}
use Rattle.flip_io.specs.declared.shelf.ShelfFault.TheVariants.{Absent as FileAbsent, Failed as ReadFailed}
use Rattle.flipper_cli.specs.Answers.{Report, refused, status_of}
use Rattle.flipper_cli.specs.Commands.{Command}
use Rattle.flipper_cli.specs.Run.{IsAnswer, IsMade, IsQuiet, IsReported, IsWritten, PrintsHeadline, PrintsRule}
use Rattle.flipper_cli.specs.Run.{ReadRaised, SinkRaised}
use Rattle.flipper_cli.specs.inside.Shown.{IsOutputOf, made_as}
use Rattle.flipper_cli.specs.declared.answers.Output.{Output}
use Rattle.flipper_cli.specs.declared.answers.Output.TheVariants.{Success, FailedRule}
use Rattle.flipper_cli.specs.declared.answers.Status.{Status}
use Rattle.flipper_cli.specs.declared.answers.Status.TheVariants.{Done, RuleFailed, ShelfFault, SinkFault}
use Rattle.flipper_cli.specs.declared.answers.Status.TheVariants.{Memory as NoMemory}
use Rattle.flipper_cli.specs.declared.refusal.Refusal.{Refusal}
use Rattle.flipper_cli.specs.declared.refusal.Refusal.TheVariants.{Usage, Absent, Failed, UnknownBuiltin}
use Rattle.flipper_cli.specs.declared.refusal.Refusal.TheVariants.{Surface, Word}
use Rattle.flipper_cli.specs.declared.refusal.Refusal.TheVariants.{Coordinates, Twist, Certificate, Overflow, Memory}

-- ---- refusals by their status

not_done : (r : Refusal) → status_of r ≡ Done → ⊥
not_done Usage h = cc
not_done Absent h = cc
not_done Failed h = cc
not_done UnknownBuiltin h = cc
not_done (Surface e) h = cc
not_done (Word e) h = cc
not_done (Coordinates e) h = cc
not_done (Twist f) h = cc
not_done (Certificate f) h = cc
not_done (Overflow o) h = cc
not_done Memory h = cc

not_rule : (r : Refusal) → status_of r ≡ RuleFailed → ⊥
not_rule Usage h = cc
not_rule Absent h = cc
not_rule Failed h = cc
not_rule UnknownBuiltin h = cc
not_rule (Surface e) h = cc
not_rule (Word e) h = cc
not_rule (Coordinates e) h = cc
not_rule (Twist f) h = cc
not_rule (Certificate f) h = cc
not_rule (Overflow o) h = cc
not_rule Memory h = cc

failed_by_status : (r : Refusal) → status_of r ≡ ShelfFault ReadFailed → r ≡ Failed
failed_by_status Failed h = refl
failed_by_status Usage h = cc
failed_by_status Absent h = cc
failed_by_status UnknownBuiltin h = cc
failed_by_status (Surface e) h = cc
failed_by_status (Word e) h = cc
failed_by_status (Coordinates e) h = cc
failed_by_status (Twist f) h = cc
failed_by_status (Certificate f) h = cc
failed_by_status (Overflow o) h = cc
failed_by_status Memory h = cc

-- a failed read is shown for itself alone
failed_by_report : (made : Result Output Refusal) → made_as made ≡ refused Failed → IsErrOf made Failed
failed_by_report (Ok (Success bytes)) h =
    let e : Done ≡ ShelfFault ReadFailed = ap (λ (r : Report). r.status) h in absurd (cc)
failed_by_report (Ok (FailedRule bytes)) h =
    let e : RuleFailed ≡ ShelfFault ReadFailed = ap (λ (r : Report). r.status) h in absurd (cc)
failed_by_report (Err r) h = ap (λ (e : Refusal). Err e) (failed_by_status r (ap (λ (x : Report). x.status) h))

-- ---- the answers

-- what was made is bytes or a refusal
pub is_made : (made : Result Output Refusal) → IsMade (made_as made)
is_made (Ok (Success bytes)) = inl (bytes.items, refl)
is_made (Ok (FailedRule bytes)) = inr (inl (bytes.items, refl))
is_made (Err r) = inr (inr (r, refl))

-- a count that was raised rose
rose : (before now : ℕ) → now ≡ raised before → Rose before now
rose before now once = omega arith

-- where nothing failed the report is written whole, or memory was short
pub reported : (asked : Option Command) (told : Option Files) (files : Files) (made : Result Output Refusal)
    (status : Status) (o o' e e' : Option (List ℕ)) (reads reads' : List ℕ → ℕ) (fo fo' fe fe' : ℕ)
    → IsAnswer asked files (made_as made) → IsWritten (made_as made) status o o' e e'
    → IsQuiet asked told reads reads' fo fo' fe fe' → (IsErrOf made Failed → ReadRaised asked told reads reads')
    → (status ≡ SinkFault → SinkRaised fo fo' fe fe')
    → IsReported asked files status o o' e e' ⊎ (status ≡ NoMemory)
reported asked told files made status o o' e e' reads reads' fo fo' fe fe' (inl fits) (inl w) quiet failed sinks =
    inl (record { made = made_as made; fits = fits; answered = w.0; out_took = w.1; err_took = w.2 })
reported asked told files made status o o' e e' reads reads' fo fo' fe fe' (inr (inl is)) (inl w) quiet failed sinks =
    let raised = failed (failed_by_report made is) in
    absurd (quiet.shelf raised.name raised.read (rose _ _ raised.once))
reported asked told files made status o o' e e' reads reads' fo fo' fe fe' (inr (inr is)) (inl w) quiet failed sinks =
    inr (w.0 ∙ ap (λ (r : Report). r.status) is)
reported asked told files made status o o' e e' reads reads' fo fo' fe fe' fits (inr w) quiet failed sinks =
    absurd (no_sink (sinks w.0))
  where
    no_sink : SinkRaised fo fo' fe fe' → ⊥
    no_sink (inl r) = quiet.output (rose fo fo' r.0)
    no_sink (inr r) = quiet.errors (rose fe fe' r.1)

-- an absent file is answered as such, unless a write failed
pub lacking : (made : Result Output Refusal) (status : Status) (o o' e e' : Option (List ℕ))
    → IsErrOf made Absent → IsWritten (made_as made) status o o' e e'
    → (status ≡ ShelfFault FileAbsent) ⊎ (status ≡ SinkFault)
lacking made status o o' e e' is (inl w) = inl (w.0 ∙ ap (λ (r : Result Output Refusal). (made_as r).status) is)
lacking made status o o' e e' is (inr w) = inr w.0

-- the files over which what goes to the output is true
pub over_files : (asked : Option Command) (made : Result Output Refusal)
    → IfOk made (λ output. (files : Files) × (later : Files) × IsOutputOf asked files later output)
    → (files : Files) × (later : Files) × IfOk made (λ output. IsOutputOf asked files later output)
over_files asked (Ok output) (files, later, h) = (files, later, h)
over_files asked (Err r) h = (λ (name : List ℕ). None, λ (name : List ℕ). None, tt)

-- with the status of success the output took the bytes that were made
pub taken : (asked : Option Command) (files later : Files) (made : Result Output Refusal) (status : Status)
    (o o' e e' : Option (List ℕ))
    → IfOk made (λ output. IsOutputOf asked files later output) → IsWritten (made_as made) status o o' e e'
    → status ≡ Done → PrintsHeadline asked files later o o'
taken asked files later (Ok (Success bytes)) status o o' e e' means (inl w) done =
    record { printed = bytes.items; taken = w.1; true_of = means }
taken asked files later (Ok (FailedRule bytes)) status o o' e e' means (inl w) done =
    let e : RuleFailed ≡ Done = sym w.0 ∙ done in absurd (cc)
taken asked files later (Err r) status o o' e e' means (inl w) done = absurd (not_done r (sym w.0 ∙ done))
taken asked files later made status o o' e e' means (inr w) done =
    let e : Done ≡ SinkFault = sym done ∙ w.0 in absurd (cc)

-- and with that of a rule that fails
pub taken_rule : (asked : Option Command) (files later : Files) (made : Result Output Refusal) (status : Status)
    (o o' e e' : Option (List ℕ))
    → IfOk made (λ output. IsOutputOf asked files later output) → IsWritten (made_as made) status o o' e e'
    → status ≡ RuleFailed → PrintsRule asked files later o o'
taken_rule asked files later (Ok (FailedRule bytes)) status o o' e e' means (inl w) rule =
    record { printed = bytes.items; taken = w.1; true_of = means }
taken_rule asked files later (Ok (Success bytes)) status o o' e e' means (inl w) rule =
    let e : Done ≡ RuleFailed = sym w.0 ∙ rule in absurd (cc)
taken_rule asked files later (Err r) status o o' e e' means (inl w) rule = absurd (not_rule r (sym w.0 ∙ rule))
taken_rule asked files later made status o o' e e' means (inr w) rule =
    let e : RuleFailed ≡ SinkFault = sym rule ∙ w.0 in absurd (cc)

-- with any other, unless a write failed, it took nothing
pub silent : (made : Result Output Refusal) (status : Status) (o o' e e' : Option (List ℕ))
    → IsWritten (made_as made) status o o' e e' → (status ≡ Done → ⊥) → (status ≡ RuleFailed → ⊥)
    → (status ≡ SinkFault → ⊥) → Took o o' []
silent (Ok (Success bytes)) status o o' e e' (inl w) not_done not_rule not_sink = absurd (not_done w.0)
silent (Ok (FailedRule bytes)) status o o' e e' (inl w) not_done not_rule not_sink = absurd (not_rule w.0)
silent (Err r) status o o' e e' (inl w) not_done not_rule not_sink = w.1
silent made status o o' e e' (inr w) not_done not_rule not_sink = absurd (not_sink w.0)
