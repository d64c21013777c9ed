-- Refusals that come behind the words and the reads.
use Rattle.flipper_cli.specs.declared.refusal.Refusal.{Refusal}
use Rattle.flipper_cli.specs.declared.refusal.Refusal.TheVariants.{Usage, Absent, Failed}

-- the refusal tells of a surface, a word, coordinates, a twist, a certificate, an overflow, or of want
-- of memory
abbrev pub IsAboutSurface : Refusal → Type 0
IsAboutSurface Usage = ⊥
IsAboutSurface Absent = ⊥
IsAboutSurface Failed = ⊥
IsAboutSurface _ = Unit {0}
