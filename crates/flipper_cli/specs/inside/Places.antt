-- Refusals that tell of a place or a number, and answers whose lines are made.
use Rattle.std.specs.Prelude.{◌≡◌, ◌⊎◌, Result, Ok, Err, IfErr}
use Rattle.flipper_cli.specs.RefusalLines.{line_for}
use Rattle.flipper_cli.specs.declared.answers.Output.{Output}
use Rattle.flipper_cli.specs.declared.refusal.Refusal.{Refusal}
use Rattle.flipper_cli.specs.declared.refusal.Refusal.TheVariants.{Surface, Word, Coordinates}
use Rattle.flipper_cli.specs.declared.refusal.Refusal.TheVariants.{Twist, Certificate, Overflow, Memory}
use Rattle.flipper_cli.specs.declared.settled.Settled.{Settled}

abbrev pub HasPlace : Refusal → Type 0
HasPlace (Surface _) = Unit {0}
HasPlace (Word _) = Unit {0}
HasPlace (Coordinates _) = Unit {0}
HasPlace (Twist _) = Unit {0}
HasPlace (Certificate _) = Unit {0}
HasPlace (Overflow _) = Unit {0}
HasPlace _ = ⊥

-- the line is that of the refusal, if this tells of a place
abbrev pub HasLine : Settled → Type 0
HasLine s = IfErr s.made (λ r. HasPlace r → s.line.items ≡ line_for r)

-- it is a refusal that tells of a place
abbrev pub IsPlaced : Result Output Refusal → Type 0
IsPlaced (Ok _) = ⊥
IsPlaced (Err r) = HasPlace r

-- what was made stays; or there was no memory for the line of a refusal that tells of a place
abbrev pub IsSettled : Result Output Refusal → Result Output Refusal → Type 0
IsSettled made settled = (settled ≡ made) ⊎ (IsPlaced made × (settled ≡ Err Memory))
