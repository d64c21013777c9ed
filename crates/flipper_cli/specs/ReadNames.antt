-- The names of the files that a call reads: that of the surface, and for `check` also that of the
-- certificate.
use Rattle.std.specs.Prelude.{◌≡◌, ◌⊎◌, ℕ, List, Option, Some, None, Ok}
use Rattle.flip_io.specs.Files.{Files}
use Rattle.tri_atlas.specs.Moves.{Move}
use Rattle.surface_lib.specs.Described.{Described}
use Rattle.surface_lib.specs.Refusals.{moves_kind, reading}
use Rattle.flipper_cli.specs.Commands.{Command, check, source_in, IsReadFrom}
use Rattle.flipper_cli.specs.Report.{IsFound}

-- the name is that of the surface's file
abbrev pub IsSurfaceOf : Option Command → List ℕ → Type 0
IsSurfaceOf None name = ⊥
IsSurfaceOf (Some asked) name = IsReadFrom (source_in asked) name

-- the name is that of the certificate's file
abbrev pub IsCertificateOf : Command → List ℕ → Type 0
IsCertificateOf (check source word certificate) name = name ≡ certificate
IsCertificateOf _ name = ⊥

-- the word is one in the generators of the surface
abbrev pub IsWordOf : Described → List ℕ → Type 0
IsWordOf d word = (moves : List Move) × (reading moves_kind d.generators word ≡ Ok moves)

-- the command's word is one, for which a certificate is checked
abbrev pub IsWordIn : Command → Described → Type 0
IsWordIn (check source word certificate) d = IsWordOf d word
IsWordIn _ d = ⊥

-- the steps before the certificate refuse nothing: there is a surface, and the word is one in its
-- generators
abbrev pub IsReached : Command → Files → Type 0
IsReached asked files = (d : Described) × IsFound files (source_in asked) (Ok d) × IsWordIn asked d

-- the name is one that the words make the program read. Over files that are told the certificate
-- is read only where the steps before it refuse nothing
abbrev pub IsReadBy : Option Command → Option Files → List ℕ → Type 0
IsReadBy None told name = ⊥
IsReadBy (Some asked) told name =
    IsReadFrom (source_in asked) name
    ⊎ (IsCertificateOf asked name × ((files : Files) → told ≡ Some files → IsReached asked files))
