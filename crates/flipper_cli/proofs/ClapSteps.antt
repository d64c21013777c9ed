-- What `clap`'s walk makes of the words of one option that takes one value.
use Rattle.std.proofs.Common.{◌≡◌, ◌++◌, List, [], ◌∷◌, Bool, true, false}
use Rattle.std.proofs.Common.{Some, None, refl, ap}
use Rattle.std.specs.Str.{bytes_eq}
use Rattle.std.proofs.lemmas.Bool.{and_from, or_parts}
use Rattle.std.proofs.lemmas.Slice.Eq.{bytes_eq-Decides}
use Rattle.clap.specs.Walk.{Held, Row, Rule, Text, Walk, arg_by_id, arg_by_long, has_row, more_values, option, reacted, settled, used, walk_from, walked, without, at_row}
use Rattle.clap.specs.Simple.{Shape, filled}
use Rattle.clap.specs.Takes.{settle_passes, turn_passes, use_passes}
use Rattle.clap.specs.declared.builder.value_parser.Reading.TheVariants.{AsWritten}
use Rattle.clap.specs.declared.parser.matches.ValueSource.TheVariants.{CommandLine}
use Rattle.flipper_cli.specs.inside.OptionCommand.{option_rule}
use Rattle.flipper_cli.proofs.OptionTexts.{IsLong, IsPlain}

-- the option in a command that is built
abbrev pub built_option : Text → Rule
built_option name = filled (option_rule name)

-- `--name` is this option among the rules
pub record IsOption (rules : List Rule) (name : Text) : Type 0 where
  pub by_long : arg_by_long rules name ≡ Some (built_option name)
  pub by_id : arg_by_id rules name ≡ Some (built_option name)

-- what was found for the option
abbrev pub option_row : Text → Text → Row
option_row name value = record {
  id = name;
  values = value ∷ [];
  count = None;
  source = Some CommandLine;
  reading = AsWritten;
}

-- ---- the rows

without_new : (id : Text) (rows : List Row) → has_row id rows ≡ false → without id rows ≡ rows
without_new id [] new = refl
without_new id (r ∷ rows) new =
    let parts = or_parts (bytes_eq r.id id) (has_row id rows) new in
    rw parts.0 (ap (λ (rs : List Row). r ∷ rs) (without_new id rows parts.1))

added_new : (id : Text) (change : Row → List Row) (missing rows : List Row) → has_row id rows ≡ false
    → at_row id change missing rows ≡ rows ++ missing
added_new id change missing [] new = refl
added_new id change missing (r ∷ rows) new =
    let parts = or_parts (bytes_eq r.id id) (has_row id rows) new in
    rw parts.0 (ap (λ (rs : List Row). r ∷ rs) (added_new id change missing rows parts.1))

-- a first use of the option adds its row
pub used_new : (name value : Text) (rows : List Row) → has_row name rows ≡ false
    → used (built_option name) (value ∷ []) rows ≡ rows ++ option_row name value ∷ []
used_new name value rows new =
    rw (without_new name rows new) (added_new name (more_values CommandLine (value ∷ [])) (option_row name value ∷ []) rows new)

pub first_use_passes : (again : Bool) (name value : Text) (rows : List Row) → has_row name rows ≡ false
    → use_passes again (built_option name) (value ∷ []) rows ≡ true
first_use_passes again name value rows new = rw new refl

-- ---- one word

-- an option's name was read, and its number comes next
abbrev pub named : Shape → Text → Held → Walk
named s name h = record (walk_from (record (settled s.rules h) { pending = Some (name, []) })) {
  waiting = option name;
}

-- the option was used, with this number in a word of its own
abbrev pub numbered : Shape → Text → Text → Held → Held
numbered s name value h = record (settled s.rules h) { pending = Some (name, value ∷ []) }

-- `--name=value`
pub walked_joined : (s : Shape) (word name value : Text) (h : Held) → IsLong word name (Some value) → IsOption s.rules name
    → walked s.rules [] (walk_from h) word ≡ walk_from (reacted s.rules (built_option name) (value ∷ []) h)
unfolding walked
walked_joined s word name value h is known = rw (is.dashes, is.long, known.by_long) refl

pub passes_joined : (s : Shape) (word name value : Text) (h : Held) → IsLong word name (Some value) → IsOption s.rules name
    → settle_passes s.rules s.args_override_self h ≡ true → has_row name (settled s.rules h).rows ≡ false
    → turn_passes s [] (walk_from h) word ≡ true
passes_joined s word name value h is known settles new =
    rw (is.dashes, is.long, known.by_long)
    (and_from _ true (and_from _ _ settles (first_use_passes s.args_override_self name value _ new)) refl)

-- `--name`
pub walked_named : (s : Shape) (word name : Text) (h : Held) → IsLong word name None → IsOption s.rules name
    → walked s.rules [] (walk_from h) word ≡ named s name h
unfolding walked
walked_named s word name h is known = rw (is.dashes, is.long, known.by_long) refl

pub passes_named : (s : Shape) (word name : Text) (h : Held) → IsLong word name None → IsOption s.rules name
    → settle_passes s.rules s.args_override_self h ≡ true → turn_passes s [] (walk_from h) word ≡ true
passes_named s word name h is known settles = rw (is.dashes, is.long, known.by_long) (and_from _ true settles refl)

-- the number behind `--name`
same_bytes : (text : Text) → bytes_eq text text ≡ true
same_bytes text = (bytes_eq-Decides text text).1 refl

pub walked_number : (s : Shape) (word name : Text) (h : Held) → IsPlain word → IsOption s.rules name
    → walked s.rules [] (named s name h) word ≡ walk_from (numbered s name word h)
unfolding walked
walked_number s word name h is known =
    rw (is.dashes, is.long) (rw is.short (rw (known.by_id, same_bytes name) refl))

pub passes_number : (s : Shape) (word name : Text) (h : Held) → IsPlain word → turn_passes s [] (named s name h) word ≡ true
passes_number s word name h is = rw (is.dashes, is.long) (rw is.short refl)

-- ---- what is used after the words

pub numbered_settles : (s : Shape) (name value : Text) (h : Held) → IsOption s.rules name
    → has_row name (settled s.rules h).rows ≡ false
    → settle_passes s.rules s.args_override_self (numbered s name value h) ≡ true
numbered_settles s name value h known new =
    rw known.by_id (first_use_passes s.args_override_self name value _ new)

pub rows_joined : (s : Shape) (name value : Text) (h : Held) → has_row name (settled s.rules h).rows ≡ false
    → (settled s.rules (reacted s.rules (built_option name) (value ∷ []) h)).rows ≡ (settled s.rules h).rows ++ option_row name value ∷ []
rows_joined s name value h new = used_new name value _ new

pub rows_numbered : (s : Shape) (name value : Text) (h : Held) → IsOption s.rules name
    → has_row name (settled s.rules h).rows ≡ false
    → (settled s.rules (numbered s name value h)).rows ≡ (settled s.rules h).rows ++ option_row name value ∷ []
rows_numbered s name value h known new = rw known.by_id (used_new name value _ new)
