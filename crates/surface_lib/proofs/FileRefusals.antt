-- The refusal of a generator is that of the file.
use Rattle.std.proofs.Common.{◌≡◌, ◌⊎◌, ◌≤◌, [], length, inl, inr, refl, sym, subst, Result, Ok, Err}
use Rattle.std.proofs.Common.{IfErr, IsErrAnd}
use Rattle.surface_lib.specs.Described.{Described}
use Rattle.surface_lib.specs.GeneratorFiles.{AreGeneratorsRead}
use Rattle.surface_lib.specs.SurfaceFiles.{IsBase, IsReadingOfKeys, generator_limit}
use Rattle.surface_lib.specs.SurfaceKeys.{Keys}
use Rattle.surface_lib.specs.Twists.{TwistRelation}
use Rattle.surface_lib.specs.declared.surface.Surface.{Surface}
use Rattle.surface_lib.specs.declared.surface_error.SurfaceError.{SurfaceError}
use Rattle.surface_lib.specs.declared.surface_error.SurfaceError.TheVariants.{Memory}

abbrev IsRefusal : TwistRelation → Result Keys SurfaceError → SurfaceError → Type 0
IsRefusal twists told e = (e ≡ Memory) ⊎ IsReadingOfKeys twists told (Err e)

of_keys : (twists : TwistRelation) (keys : Keys) (before : Described) (e : SurfaceError) → IsBase keys.version keys.triangles
    → before ≡ record { name = keys.name; triangles = keys.triangles; generators = [] }
    → length keys.entries ≤ generator_limit
    → (e ≡ Memory) ⊎ AreGeneratorsRead twists keys.version before.triangles 0 before.generators keys.entries (Err e)
    → IsRefusal twists (Ok keys) e
of_keys twists keys before e good same few (inl memory) = inl memory
of_keys twists keys before e good same few (inr refused) =
    inr (inr (
      good,
      inr (
        few,
        (
          Err e,
          subst (λ (d : Described). AreGeneratorsRead twists keys.version d.triangles 0 d.generators keys.entries (Err e)) same refused,
          refl,
        ),
      ),
    ))

pub refused_generators : (twists : TwistRelation) (told : Result Keys SurfaceError) (keys : Keys) (before : Described) (e : SurfaceError)
    (r : Result Surface SurfaceError) → told ≡ Ok keys → IsBase keys.version keys.triangles
    → before ≡ record { name = keys.name; triangles = keys.triangles; generators = [] }
    → length keys.entries ≤ generator_limit
    → (e ≡ Memory) ⊎ AreGeneratorsRead twists keys.version before.triangles 0 before.generators keys.entries (Err e)
    → IsErrAnd r (λ z. z ≡ e) → IfErr r (λ z. (z ≡ Memory) ⊎ IsReadingOfKeys twists told (Err z))
refused_generators twists told keys before e (Ok s) is good same few refused h = absurd h
refused_generators twists told keys before e (Err z) is good same few refused h =
    subst (λ (y : SurfaceError). IsRefusal twists told y) (sym h)
    (subst (λ (t : Result Keys SurfaceError). IsRefusal twists t e) (sym is) (of_keys twists keys before e good same few refused))
