-- Words behind which too many others stand to fit a command.
use Rattle.std.proofs.Common.{◌≡◌, ◌≤◌, ◌∙◌, ℕ, List, [], ◌∷◌, true, false, Bool, Option, None, codes, length}
use Rattle.std.proofs.Common.{get_or, refl, ap, if◌then◌else◌, map, String, string_bytes, sym, arith}
use Rattle.std.specs.Str.{bytes_eq}
use Rattle.std.specs.declared.alloc.Global.{Global}
use Rattle.std.proofs.lemmas.List.{length-map}
use Rattle.flipper_cli.specs.Commands.{Command, command, command_named}

either : (b : Bool) (o : Option Command) → o ≡ None → (if b then None else o) ≡ None
either true o is = refl
either false o is = is

many : (name : List ℕ) (words : List (List ℕ)) → 4 ≤ length words → bytes_eq name (codes "classify") ≡ false
    → command_named name words ≡ None
many name [] long other = absurd (omega (arith, long))
many name (a ∷ []) long other = absurd (omega (arith, long))
many name (a ∷ (b ∷ [])) long other = absurd (omega (arith, long))
many name (a ∷ (b ∷ (c ∷ []))) long other = absurd (omega (arith, long))
many name (a ∷ (b ∷ (c ∷ (d ∷ words)))) long other =
    rw other
    (either (bytes_eq name (codes "image")) _
    (either (bytes_eq name (codes "twist")) _ (either (bytes_eq name (codes "check")) None refl)))

-- more words than three behind a name that isn't `classify`
pub too_many : (words : List (String Global)) (name none : String Global) → 5 ≤ length words
    → name ≡ get_or words 0 none → bytes_eq (string_bytes name) (codes "classify") ≡ false → command words ≡ None
too_many [] name none long is other = absurd (omega (arith, long))
too_many (w ∷ words) name none long is other =
    many (string_bytes w) (map string_bytes words) (omega (arith, long, length-map words string_bytes))
    (sym (ap (λ (z : String Global). bytes_eq (string_bytes z) (codes "classify")) is) ∙ other)
