-- The surface that a file describes, or its first refusal.
use Rattle.std.specs.Prelude.{◌≡◌, ◌⊎◌, ◌≤◌, ◌<◌, ℕ, ℤ, List, [], length, Some, Result, Ok, Err, IsUtf8}
use Rattle.serde_json.specs.Data.{Data}
use Rattle.serde_json.specs.Read.{read}
use Rattle.ideal_tri.specs.Refusals.{IsOfGoodSize, IsRefusedFor, IsRefusedGluing}
use Rattle.ideal_tri.specs.Triangulations.{IsTriangulation, IsConnected}
use Rattle.ideal_tri.specs.declared.tri.TriError.{TriError}
use Rattle.ideal_tri.specs.declared.tri.TriError.TheVariants as tri
use Rattle.surface_lib.specs.Described.{Described, NamedMoves}
use Rattle.surface_lib.specs.GeneratorFiles.{AreGeneratorsRead}
use Rattle.surface_lib.specs.SurfaceKeys.{Keys, keys_in}
use Rattle.surface_lib.specs.Twists.{TwistRelation}
use Rattle.surface_lib.specs.declared.surface_error.SurfaceError.{SurfaceError}
use Rattle.surface_lib.specs.declared.surface_error.SurfaceError.TheVariants.{FileTooLong, NotJson}
use Rattle.surface_lib.specs.declared.surface_error.SurfaceError.TheVariants.{NoTriangle}
use Rattle.surface_lib.specs.declared.surface_error.SurfaceError.TheVariants.{TooManyEdges}
use Rattle.surface_lib.specs.declared.surface_error.SurfaceError.TheVariants.{LabelRange}
use Rattle.surface_lib.specs.declared.surface_error.SurfaceError.TheVariants.{LabelTwice}
use Rattle.surface_lib.specs.declared.surface_error.SurfaceError.TheVariants.{Disconnected}
use Rattle.surface_lib.specs.declared.surface_error.SurfaceError.TheVariants.{TooManyGenerators}
use Rattle.surface_lib.specs.declared.version.Version.{Version}
use Rattle.surface_lib.specs.declared.version.Version.TheVariants.{One, Two}

-- the most bytes of a file
abbrev pub file_limit : ℕ
file_limit = 1048576

-- the most generators of a surface
abbrev pub generator_limit : ℕ
generator_limit = 64

-- ---- the triangles

-- a surface is connected in version 1
abbrev pub IsBase : Version → List (List ℤ) → Type 0
IsBase One ts = IsOfGoodSize ts × IsTriangulation ts × IsConnected ts
IsBase Two ts = IsOfGoodSize ts × IsTriangulation ts

abbrev pub IsNoBase : Version → List (List ℤ) → TriError → Type 0
IsNoBase One ts e = IsRefusedFor ts e
IsNoBase Two ts e = IsRefusedGluing ts e

abbrev pub as_refusal : TriError → SurfaceError
as_refusal tri.NoTriangle = NoTriangle
as_refusal (tri.TooManyEdges n) = TooManyEdges n
as_refusal (tri.LabelRange x) = LabelRange x
as_refusal (tri.LabelTwice x) = LabelTwice x
as_refusal (tri.Disconnected t) = Disconnected t

-- the triples have a refusal, and this is how it reads for the file
pub record IsRefusedBase (version : Version) (ts : List (List ℤ)) (refusal : SurfaceError) : Type 0 where
  pub error : TriError
  pub refused : IsNoBase version ts error
  pub is : refusal ≡ as_refusal error

-- ---- the reading, from the last step back

abbrev pub with_generators : Keys → Result (List NamedMoves) SurfaceError
    → Result Described SurfaceError
with_generators keys (Ok generators) = Ok (record {
  name = keys.name;
  triangles = keys.triangles;
  generators = generators;
})
with_generators keys (Err e) = Err e

abbrev pub IsReadingOfGenerators : TwistRelation → Keys → Result Described SurfaceError → Type 0
IsReadingOfGenerators twists keys r =
    (generators : Result (List NamedMoves) SurfaceError)
    × AreGeneratorsRead twists keys.version keys.triangles 0 [] keys.entries generators
    × (r ≡ with_generators keys generators)

-- the reading of a file with these keys
abbrev pub IsReadingOfKeys : TwistRelation → Result Keys SurfaceError → Result Described SurfaceError
    → Type 0
IsReadingOfKeys twists (Err e) r = r ≡ Err e
IsReadingOfKeys twists (Ok keys) r =
    ((e : SurfaceError) × IsRefusedBase keys.version keys.triangles e × (r ≡ Err e))
    ⊎ (IsBase keys.version keys.triangles
    × ((generator_limit < length keys.entries
    × (r ≡ Err (TooManyGenerators (length keys.entries))))
    ⊎ (length keys.entries ≤ generator_limit × IsReadingOfGenerators twists keys r)))

-- the file is JSON of this tree
pub record IsTree (file : List ℕ) (d : Data) : Type 0 where
  pub utf8 : IsUtf8 file
  pub parsed : read file ≡ Some d

-- the reading of a file, where twists have this meaning
abbrev pub IsReadingOf : TwistRelation → List ℕ → Result Described SurfaceError → Type 0
IsReadingOf twists file r =
    (file_limit < length file × (r ≡ Err FileTooLong))
    ⊎ (length file ≤ file_limit
    × ((((d : Data) → ¬ IsTree file d) × (r ≡ Err NotJson))
    ⊎ ((d : Data) × IsTree file d × IsReadingOfKeys twists (keys_in d) r)))
