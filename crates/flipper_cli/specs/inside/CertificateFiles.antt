-- What contracts see of the file of a certificate, and of the line of the checker's verdict.
use Rattle.std.specs.Prelude.{◌≡◌, ◌⊎◌, ℕ, List, Option, None, Result, Ok, Err}
use Rattle.flip_io.specs.Counts.{raised}
use Rattle.flip_io.specs.Files.{Files}
use Rattle.surface_lib.specs.Described.{Described}
use Rattle.cert_text.specs.Certificates.{Certificate as Said, seen}
use Rattle.cert_text.specs.declared.certificate.Certificate.{Certificate}
use Rattle.flipper_cli.specs.Commands.{Command}
use Rattle.flipper_cli.specs.Headline.{IsCheckedFor}
use Rattle.flipper_cli.specs.ReadNames.{IsCertificateOf, IsWordIn}
use Rattle.flipper_cli.specs.declared.answers.Output.{Output}
use Rattle.flipper_cli.specs.declared.refusal.Refusal.{Refusal}
use Rattle.flipper_cli.specs.declared.refusal.Refusal.TheVariants.{Failed, Memory}
use Rattle.flipper_cli.specs.inside.Shown.{put_out}

-- what was read, as contracts see it
abbrev pub held_as : Result Certificate Refusal → Result Said Refusal
held_as (Ok c) = Ok (seen c)
held_as (Err r) = Err r

-- P holds of what was read, unless a read failed or memory was short
abbrev pub IsHeldUnless : (Result Said Refusal → Type 0) → Result Certificate Refusal → Type 0
IsHeldUnless P result = P (held_as result) ⊎ ((result ≡ Err Failed) ⊎ (result ≡ Err Memory))

-- what goes to the output is the checker's verdict for the word
abbrev pub IsCheckedOutput : Described → List ℕ → Option (List ℕ) → Output → Type 0
IsCheckedOutput d word file output = IsCheckedFor d word file (put_out output)

-- ---- the read of the certificate's file, behind the surface and the word

abbrev pub IsReadBehind : Command → Described → List ℕ → Type 0
IsReadBehind asked d name = IsCertificateOf asked name × IsWordIn asked d

-- the files lack the certificate's
pub record LacksBehind (asked : Command) (d : Described) (files : Files) : Type 0 where
  pub name : List ℕ
  pub read : IsReadBehind asked d name
  pub lacks : files name ≡ None

-- the count of the certificate's was raised by one
pub record ReadBehindRaised (asked : Command) (d : Described) (before now : List ℕ → ℕ) : Type 0 where
  pub name : List ℕ
  pub read : IsReadBehind asked d name
  pub once : now name ≡ raised (before name)
