-- The form of a generator with a word over the generators before it.
use Rattle.std.specs.Prelude.{List, ℕ, Result, option_and_then, codes}
use Rattle.std.specs.Option.{ok_or}
use Rattle.std.specs.Result.{result_map_both}
use Rattle.serde_json.specs.Data.{Data}
use Rattle.serde_json.specs.Find.{get, as_str}
use Rattle.tri_atlas.specs.Moves.{Move}
use Rattle.surface_lib.specs.Readings.{if_ok}
use Rattle.surface_lib.specs.Refusals.{moves_kind, reading}
use Rattle.surface_lib.specs.Words.{Generator}
use Rattle.surface_lib.specs.declared.surface_error.Key.TheVariants.{Word as WordKey}
use Rattle.surface_lib.specs.declared.surface_error.GeneratorFault.{GeneratorFault}
use Rattle.surface_lib.specs.declared.surface_error.GeneratorFault.TheVariants.{BadShape, Word}

-- what the word does that a text spells over the earlier generators; its refusal is a fault
abbrev pub word_over : List (Generator Move) → List ℕ → Result (List Move) GeneratorFault
word_over earlier text =
    result_map_both (λ moves. moves) (λ refusal. Word refusal) (reading moves_kind earlier text)

-- what the product does that an object is, behind the earlier generators; or its first fault
abbrev pub product_form : List (Generator Move) → Data → Result (List Move) GeneratorFault
product_form earlier d =
    if_ok (ok_or (option_and_then as_str (get (codes "word") d)) (BadShape WordKey)) (λ text.
    word_over earlier text)
