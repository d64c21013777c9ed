-- A FILE that doesn't begin with `@`.
use Rattle.std.proofs.Common.{◌≡◌, ◌≢◌, ◌==◌, ℕ, List, [], ◌∷◌, refl, ap, if◌then◌else◌, arith}
use Rattle.std.proofs.lemmas.Bool.Decides.{nat_tests}
use Rattle.flipper_cli.specs.Commands.{Source, file, builtin, source_of}

unlike : (c : ℕ) (named read : Source) → c ≢ 64 → read ≡ (if c == 64 then named else read)
unlike c named read other = grind (arith, nat_tests)

pub source-file : (text : List ℕ) → ((rest : List ℕ) → text ≢ 64 ∷ rest) → file text ≡ source_of text
source-file [] other = refl
source-file (c ∷ text) other =
    unlike c (builtin text) (file (c ∷ text)) (λ e. other text (ap (λ (z : ℕ). z ∷ text) e))
