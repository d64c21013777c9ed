-- The files that a command reads, one behind the other.
use Rattle.std.proofs.Common.{◌≡◌, inl, inr, ℕ, List, Option, Some, Ok, ap, ◌∙◌}
use Rattle.flip_io.specs.Counts.{SameCounts, raised}
use Rattle.flip_io.specs.Files.{Files}
use Rattle.flip_io.specs.Reads.{AfterReads, no_read, next_read}
use Rattle.surface_lib.specs.Described.{Described}
use Rattle.flipper_cli.specs.Commands.{Command, IsReadFrom, source_in}
use Rattle.flipper_cli.specs.ReadNames.{IsReadBy}
use Rattle.flipper_cli.specs.Report.{IsFound}
use Rattle.flipper_cli.specs.Run.{IsLacking, LacksSurface, ReadRaised}
use Rattle.flipper_cli.specs.inside.CertificateFiles.{IsReadBehind, LacksBehind, ReadBehindRaised}
use Rattle.flipper_cli.specs.inside.Sources.{LacksSource, ReadOfSourceRaised}

-- ---- reads

-- reads of some names are reads of these and others
pub widened : {S : Type 0} (after : S → List ℕ → S → Type 0) (P Q : List ℕ → Type 0)
    → ((name : List ℕ) → P name → Q name) → {s t : S} → AfterReads after P s t → AfterReads after Q s t
widened after P Q wider (no_read s) = no_read s
widened after P Q wider (next_read name reads is read) =
    next_read name (widened after P Q wider reads) (wider name is) read

-- reads, and behind them others
pub joined : {S : Type 0} (after : S → List ℕ → S → Type 0) (P : List ℕ → Type 0) {r s t : S}
    → AfterReads after P r s → AfterReads after P s t → AfterReads after P r t
joined after P first (no_read s) = first
joined after P first (next_read name reads is read) = next_read name (joined after P first reads) is read

-- ---- the surface's file, and behind it the certificate's

-- over files that are told this is the surface
abbrev pub IsFoundOver : Option Files → Command → Described → Type 0
IsFoundOver told asked d = (files : Files) → told ≡ Some files → IsFound files (source_in asked) (Ok d)

pub read_behind : (asked : Command) (told : Option Files) (d : Described) → IsFoundOver told asked d
    → (name : List ℕ) → IsReadBehind asked d name → IsReadBy (Some asked) told name
read_behind asked told d found name (is, word) =
    inr (is, λ (files : Files) (t : told ≡ Some files). (d, found files t, word))

pub reads_of_source : {S : Type 0} (after : S → List ℕ → S → Type 0) (asked : Command) (told : Option Files) {s t : S}
    → AfterReads after (IsReadFrom (source_in asked)) s t → AfterReads after (IsReadBy (Some asked) told) s t
reads_of_source after asked told reads =
    widened after (IsReadFrom (source_in asked)) (IsReadBy (Some asked) told)
    (λ (name : List ℕ) (read : IsReadFrom (source_in asked) name). inl read) reads

pub reads_behind : {S : Type 0} (after : S → List ℕ → S → Type 0) (asked : Command) (told : Option Files)
    (d : Described) {r s t : S} → IsFoundOver told asked d
    → AfterReads after (IsReadFrom (source_in asked)) r s → AfterReads after (IsReadBehind asked d) s t
    → AfterReads after (IsReadBy (Some asked) told) r t
reads_behind after asked told d found first later =
    joined after (IsReadBy (Some asked) told) (reads_of_source after asked told first)
    (widened after (IsReadBehind asked d) (IsReadBy (Some asked) told) (read_behind asked told d found) later)

-- ---- the causes

pub raised_source : (asked : Command) (told : Option Files) (before now : List ℕ → ℕ)
    → ReadOfSourceRaised (source_in asked) before now → ReadRaised (Some asked) told before now
raised_source asked told before now r = record { name = r.name; read = inl r.read; once = r.once }

pub raised_behind : (asked : Command) (told : Option Files) (d : Described) (before then now : List ℕ → ℕ)
    → IsFoundOver told asked d → SameCounts before then → ReadBehindRaised asked d then now
    → ReadRaised (Some asked) told before now
raised_behind asked told d before then now found same r =
    record {
      name = r.name;
      read = read_behind asked told d found r.name r.read;
      once = r.once ∙ ap raised (same r.name);
    }

pub lacks_source : (asked : Command) (files : Files) → LacksSource (source_in asked) files
    → IsLacking (Some asked) files
lacks_source asked files l = record { name = l.name; read = inl l.read; lacks = l.lacks }

pub lacks_surface : (asked : Command) (files : Files) → LacksSurface (Some asked) files
    → LacksSource (source_in asked) files
lacks_surface asked files l = record { name = l.name; read = l.read; lacks = l.lacks }

pub lacks_behind : (asked : Command) (files : Files) (d : Described) → IsFoundOver (Some files) asked d
    → LacksBehind asked d files → IsLacking (Some asked) files
lacks_behind asked files d found l =
    record { name = l.name; read = read_behind asked (Some files) d found l.name l.read; lacks = l.lacks }
