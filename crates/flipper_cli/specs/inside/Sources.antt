-- What contracts see of the surface that FILE stands for.
use Rattle.std.specs.Prelude.{◌≡◌, ◌⊎◌, ℕ, List, None, Result, Ok, Err}
use Rattle.flip_io.specs.Counts.{raised}
use Rattle.flip_io.specs.Files.{Files}
use Rattle.surface_lib.specs.Described.{Described, described}
use Rattle.surface_lib.specs.declared.surface.Surface.{Surface}
use Rattle.flipper_cli.specs.Commands.{Source, IsReadFrom}
use Rattle.flipper_cli.specs.declared.refusal.Refusal.{Refusal}
use Rattle.flipper_cli.specs.declared.refusal.Refusal.TheVariants.{Failed, Memory}

-- what was found, without the handles of an atlas
abbrev pub found_as : Result Surface Refusal → Result Described Refusal
found_as (Ok s) = Ok (described s)
found_as (Err r) = Err r

-- P holds of what was found, unless a read failed or memory was short
abbrev pub IsFoundUnless : (Result Described Refusal → Type 0) → Result Surface Refusal → Type 0
IsFoundUnless P result = P (found_as result) ⊎ ((result ≡ Err Failed) ⊎ (result ≡ Err Memory))

-- the files lack the file that FILE names
pub record LacksSource (source : Source) (files : Files) : Type 0 where
  pub name : List ℕ
  pub read : IsReadFrom source name
  pub lacks : files name ≡ None

-- the count of the file that FILE names was raised by one
pub record ReadOfSourceRaised (source : Source) (before now : List ℕ → ℕ) : Type 0 where
  pub name : List ℕ
  pub read : IsReadFrom source name
  pub once : now name ≡ raised (before name)
