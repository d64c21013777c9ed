-- The surface that FILE stands for, from what was read of the file.
use Rattle.std.proofs.Common.{◌≡◌, ◌⊎◌, inl, inr, ℕ, List, Option, Some, Result, Ok, Err, IfOk, IsErrAnd, refl, sym}
use Rattle.std.proofs.Common.{subst}
use Rattle.flip_io.specs.Files.{Files}
use Rattle.flip_io.specs.Whole.{IsWhole}
use Rattle.flip_io.specs.declared.whole.ReadError.{ReadError}
use Rattle.flip_io.specs.declared.whole.ReadError.TheVariants as read
use Rattle.surface_lib.specs.Described.{described}
use Rattle.surface_lib.specs.SurfaceFiles.{IsReadingOf, file_limit}
use Rattle.twist_compile.specs.TwistPaths.{IsCompiled}
use Rattle.surface_lib.specs.declared.surface.Surface.{Surface}
use Rattle.surface_lib.specs.declared.surface_error.SurfaceError.{SurfaceError}
use Rattle.surface_lib.specs.declared.surface_error.SurfaceError.TheVariants as surface
use Rattle.flipper_cli.specs.Commands.{file}
use Rattle.flipper_cli.specs.RefusalCauses.{for_read, for_surface}
use Rattle.flipper_cli.specs.Report.{IsFound, IsFoundIn}
use Rattle.flipper_cli.specs.inside.Sources.{IsFoundUnless}
use Rattle.flipper_cli.specs.declared.refusal.Refusal.{Refusal}
use Rattle.flipper_cli.specs.declared.refusal.Refusal.TheVariants.{Absent, Surface as Refused}

-- ---- a file that was not read

by_cause : (told : Option (List ℕ)) (e : ReadError) → IsWhole told file_limit (Err e)
    → IsFoundUnless (IsFoundIn told) (Err (for_read e))
by_cause told read.Absent none =
    inl (subst (λ (t : Option (List ℕ)). IsFoundIn t (Err Absent)) (sym none) refl)
by_cause told read.Failed h = inr (inl refl)
by_cause told read.Memory h = inr (inr refl)
by_cause told read.TooLong (bytes, is, long) =
    inl (subst (λ (t : Option (List ℕ)). IsFoundIn t (Err (Refused surface.FileTooLong))) (sym is)
    (Err surface.FileTooLong, inl (long, refl), refl))

pub not_read : (told : Option (List ℕ)) (e : ReadError) (r : Result Surface Refusal) → IsWhole told file_limit (Err e)
    → IsErrAnd r (λ z. z ≡ for_read e) → IsFoundUnless (IsFoundIn told) r
not_read told e (Ok s) whole h = absurd h
not_read told e (Err z) whole h =
    subst (λ (y : Refusal). IsFoundUnless (IsFoundIn told) (Err y)) (sym h) (by_cause told e whole)

-- ---- a file that was read

-- each refusal but want of memory is shown as itself
shown_as : (e : SurfaceError) → (e ≡ surface.Memory) ⊎ (for_surface e ≡ Refused e)
shown_as surface.FileTooLong = inr refl
shown_as surface.NotJson = inr refl
shown_as (surface.MissingKey k) = inr refl
shown_as (surface.BadShape k) = inr refl
shown_as surface.NoTriangle = inr refl
shown_as (surface.TooManyEdges n) = inr refl
shown_as (surface.LabelRange x) = inr refl
shown_as (surface.LabelTwice x) = inr refl
shown_as (surface.Disconnected t) = inr refl
shown_as (surface.TooManyGenerators n) = inr refl
shown_as (surface.Generator i f) = inr refl
shown_as surface.Memory = inl refl

no_memory : (bytes : List ℕ) (e : SurfaceError) → e ≡ surface.Memory
    → IsFoundUnless (IsFoundIn (Some bytes)) (Err (for_surface e))
no_memory bytes e is =
    subst (λ (y : SurfaceError). IsFoundUnless (IsFoundIn (Some bytes)) (Err (for_surface y))) (sym is) (inr (inr refl))

refused : (bytes : List ℕ) (e : SurfaceError) → (e ≡ surface.Memory) ⊎ IsReadingOf IsCompiled bytes (Err e)
    → IsFoundUnless (IsFoundIn (Some bytes)) (Err (for_surface e))
refused bytes e (inl is) = no_memory bytes e is
refused bytes e (inr reading) = by_name (shown_as e)
  where
    by_name : (e ≡ surface.Memory) ⊎ (for_surface e ≡ Refused e)
        → IsFoundUnless (IsFoundIn (Some bytes)) (Err (for_surface e))
    by_name (inl is) = no_memory bytes e is
    by_name (inr is) =
        subst (λ (y : Refusal). IsFoundUnless (IsFoundIn (Some bytes)) (Err y)) (sym is)
        (inl (Err e, reading, refl))

pub not_surface : (told : Option (List ℕ)) (bytes : List ℕ) (e : SurfaceError) (r : Result Surface Refusal)
    → told ≡ Some bytes → (e ≡ surface.Memory) ⊎ IsReadingOf IsCompiled bytes (Err e) → IsErrAnd r (λ z. z ≡ for_surface e)
    → IsFoundUnless (IsFoundIn told) r
not_surface told bytes e (Ok s) is reading h = absurd h
not_surface told bytes e (Err z) is reading h =
    subst (λ (t : Option (List ℕ)). IsFoundUnless (IsFoundIn t) (Err z)) (sym is)
    (subst (λ (y : Refusal). IsFoundUnless (IsFoundIn (Some bytes)) (Err y)) (sym h) (refused bytes e reading))

pub a_surface : (told : Option (List ℕ)) (bytes : List ℕ) (s : Surface) → told ≡ Some bytes
    → IsReadingOf IsCompiled bytes (Ok (described s)) → IsFoundUnless (IsFoundIn told) (Ok s)
a_surface told bytes s is reading =
    inl (subst (λ (t : Option (List ℕ)). IsFoundIn t (Ok (described s))) (sym is) (Ok (described s), reading, refl))

-- over some files
pub some_file : (name : List ℕ) (r : Result Surface Refusal)
    → IfOk r (λ s. (bytes : List ℕ) × IsFoundIn (Some bytes) (Ok (described s)))
    → IfOk r (λ s. (files : Files) × IsFound files (file name) (Ok (described s)))
some_file name (Ok s) (bytes, found) = (λ n. Some bytes, found)
some_file name (Err r) h = tt
