-- `clap` on words that are cut into fitting settings: it takes them, and finds just the settings.
use Rattle.std.proofs.Common.{◌≡◌, ◌||◌, ◌++◌, List, [], ◌∷◌, map, drop, fold, Bool, true, false, not}
use Rattle.std.proofs.Common.{Option, Some, None, is_some, refl, sym, ◌∙◌, ap, subst, if◌then◌else◌}
use Rattle.std.proofs.Common.{append_assoc, append-nil, unwrap_or, inl, inr, ◌⊎◌}
use Rattle.std.specs.List.{list_any, list_all}
use Rattle.std.specs.Str.{bytes_eq}
use Rattle.std.proofs.lemmas.Bool.{and_from, and_parts, both_ways, false_from_ne_true, not-true, not_from_false, or_from, or_parts}
use Rattle.std.proofs.lemmas.Slice.Eq.{bytes_eq-Decides}
use Rattle.std.proofs.lemmas.List.Folds.{list_any-append}
use Rattle.clap.specs.Walk.{Held, Row, Text, Walk, has_row, reacted, settled, walk_from, walked}
use Rattle.clap.specs.Simple.{Shape}
use Rattle.clap.specs.Takes.{settle_passes, turn_passes, walk_passes}
use Rattle.flipper_cli.specs.Options.{Setting, are_fitting, is_equals_sign, is_option_word}
use Rattle.flipper_cli.specs.Options.{is_set, limit_of, setting_in, settings_from, with_setting}
use Rattle.flipper_cli.proofs.Settings.{fits_first, fitting_name, fitting_number, some_more}
use Rattle.flipper_cli.proofs.OptionTexts.{IsLong, IsPlain, joined_word, named_word, number_plain}
use Rattle.flipper_cli.proofs.ClapSteps.{IsOption, named, numbered, numbered_settles, option_row, built_option}
use Rattle.flipper_cli.proofs.ClapSteps.{passes_joined, passes_named, passes_number, rows_joined, rows_numbered}
use Rattle.flipper_cli.proofs.ClapSteps.{walked_joined, walked_named, walked_number}

abbrev pub setting_row : Setting → Row
setting_row setting = option_row setting.name setting.number

-- each option that fits is one of the rules
abbrev pub HasOptions : Shape → Type 0
HasOptions s = (name : Text) → is_some (limit_of name) ≡ true → IsOption s.rules name

-- no row is one of an option that is set
abbrev pub are_new : List Setting → List Row → Bool
are_new settings rows = list_all (λ setting. not (has_row setting.name rows)) settings

-- the walk from w over the words passes, and ends with these rows
pub record Walks (s : Shape) (w : Walk) (words : List Text) (rows : List Row) : Type 0 where
  pub end : Held
  pub walks : fold (walked s.rules []) w words ≡ walk_from end
  pub passes : walk_passes s [] w words ≡ true
  pub settles : settle_passes s.rules s.args_override_self end ≡ true
  pub finds : (settled s.rules end).rows ≡ rows

-- one word, and then the rest
walks_on : (s : Shape) (w next : Walk) (word : Text) (words : List Text) (rows : List Row)
    → walked s.rules [] w word ≡ next → turn_passes s [] w word ≡ true → Walks s next words rows → Walks s w (word ∷ words) rows
unfolding walk_passes
walks_on s w next word words rows turn passes rest = record {
  end = rest.end;
  walks = ap (λ (x : Walk). fold (walked s.rules []) x words) turn ∙ rest.walks;
  passes = and_from _ _ passes (ap (λ (x : Walk). walk_passes s [] x words) turn ∙ rest.passes);
  settles = rest.settles;
  finds = rest.finds;
}

-- ---- rows

bytes_differ : (a b : Text) → bytes_eq b a ≡ false → bytes_eq a b ≡ false
bytes_differ a b differ = false_from_ne_true (bytes_eq a b) (λ same.
    both_ways (bytes_eq b a) differ ((bytes_eq-Decides b a).1 (sym ((bytes_eq-Decides a b).0 same))))

-- settings of other options stay new
still_new : (name value : Text) (others : List Setting) (rows : List Row) → are_new others rows ≡ true → is_set name others ≡ false
    → are_new others (rows ++ option_row name value ∷ []) ≡ true
still_new name value [] rows new once = refl
still_new name value (setting ∷ others) rows new once =
    let here = and_parts (not (has_row setting.name rows)) (are_new others rows) new in
    let apart = or_parts (bytes_eq setting.name name) (is_set name others) once in
    let absent : has_row setting.name (rows ++ option_row name value ∷ []) ≡ false =
    list_any-append (λ (r : Row). bytes_eq r.id setting.name) rows (option_row name value ∷ [])
    ∙ or_from (has_row setting.name rows) (bytes_eq name setting.name || false) (not-true _ here.0)
    (or_from _ false (bytes_differ name setting.name apart.0) refl) in
    and_from _ _ (not_from_false _ absent) (still_new name value others rows here.1 apart.1)

-- ---- one setting

-- the first of settings that fit and are new to the rows
record Sets (s : Shape) (rows : List Row) (setting : Setting) (others : List Setting) : Type 0 where
  known : IsOption s.rules setting.name
  plain : IsPlain setting.number
  absent : has_row setting.name rows ≡ false
  fits : are_fitting others ≡ true
  new : are_new others (rows ++ setting_row setting ∷ []) ≡ true

sets_first : (s : Shape) → HasOptions s → (rows : List Row) (setting : Setting) (others : List Setting)
    → are_fitting (setting ∷ others) ≡ true → are_new (setting ∷ others) rows ≡ true → Sets s rows setting others
sets_first s has rows setting others fits new =
    let first = fits_first setting others fits in
    let fresh = and_parts (not (has_row setting.name rows)) (are_new others rows) new in
    record {
      known = has setting.name (fitting_name setting first.fits);
      plain = number_plain setting.number (fitting_number setting first.fits);
      absent = not-true (has_row setting.name rows) fresh.0;
      fits = first.rest;
      new = still_new setting.name setting.number others rows fresh.1 first.once;
    }

-- the rows of the other settings come behind the first
walks_after : (s : Shape) (w : Walk) (words : List Text) (rows later : List Row) (setting : Setting) (others : List Setting)
    → later ≡ rows ++ setting_row setting ∷ [] → Walks s w words (later ++ map setting_row others)
    → Walks s w words (rows ++ map setting_row (setting ∷ others))
walks_after s w words rows later setting others is rest = record {
  end = rest.end;
  walks = rest.walks;
  passes = rest.passes;
  settles = rest.settles;
  finds =
      rest.finds
      ∙ ap (λ (rs : List Row). rs ++ map setting_row others) is
      ∙ append_assoc rows (setting_row setting ∷ []) (map setting_row others);
}

-- ---- all words

-- where the walk stands: before an option, or before the number of one
abbrev pub start : Shape → Option Text → Held → Walk
start s None h = walk_from h
start s (Some name) h = named s name h

-- what walking over the words needs, where they are cut into these settings
abbrev pub WalksOver : Shape → Option Text → List Text → List Setting → Type 0
WalksOver s waiting words all = (h : Held) → are_fitting all ≡ true → are_new all (settled s.rules h).rows ≡ true
    → settle_passes s.rules s.args_override_self h ≡ true
    → Walks s (start s waiting h) words ((settled s.rules h).rows ++ map setting_row all)

walks_setting : (s : Shape) (h next : Held) (words : List Text) (setting : Setting) (others : List Setting)
    → Sets s (settled s.rules h).rows setting others → (settled s.rules next).rows ≡ (settled s.rules h).rows ++ setting_row setting ∷ []
    → settle_passes s.rules s.args_override_self next ≡ true → WalksOver s None words others
    → Walks s (walk_from next) words ((settled s.rules h).rows ++ map setting_row (setting ∷ others))
walks_setting s h next words setting others sets later settles rest =
    walks_after s (walk_from next) words (settled s.rules h).rows (settled s.rules next).rows setting others later
    (rest next sets.fits (ap (are_new others) later ∙ sets.new) settles)

-- a number, whose name was the word before
number_first : (s : Shape) → HasOptions s → (name word : Text) (words : List Text) (others : List Setting) → WalksOver s None words others
    → WalksOver s (Some name) (word ∷ words) (record { name = name; number = word } ∷ others)
number_first s has name word words others rest h fits new settles =
    let setting : Setting = record { name = name; number = word } in
    let sets = sets_first s has (settled s.rules h).rows setting others fits new in
    walks_on s _ (walk_from (numbered s name word h)) word words _ (walked_number s word name h sets.plain sets.known)
    (passes_number s word name h sets.plain)
    (walks_setting s h (numbered s name word h) words setting others sets (rows_numbered s name word h sets.known sets.absent)
    (numbered_settles s name word h sets.known sets.absent) rest)

-- a name and its number in one word
joined_first : (s : Shape) → HasOptions s → (word name value : Text) (words : List Text) (others : List Setting) → IsLong word name (Some value)
    → WalksOver s None words others → WalksOver s None (word ∷ words) (record { name = name; number = value } ∷ others)
joined_first s has word name value words others long rest h fits new settles =
    let setting : Setting = record { name = name; number = value } in
    let sets = sets_first s has (settled s.rules h).rows setting others fits new in
    let next = reacted s.rules (built_option name) (value ∷ []) h in
    walks_on s _ (walk_from next) word words _ (walked_joined s word name value h long sets.known)
    (passes_joined s word name value h long sets.known settles sets.absent)
    (walks_setting s h next words setting others sets (rows_joined s name value h sets.absent) refl rest)

-- a name, whose number is the next word
name_first : (s : Shape) (word name : Text) (words : List Text) (all : List Setting) → IsLong word name None → IsOption s.rules name
    → WalksOver s (Some name) words all → WalksOver s None (word ∷ words) all
name_first s word name words all long known rest h fits new settles =
    walks_on s _ (named s name h) word words _ (walked_named s word name h long known) (passes_named s word name h long known settles)
    (rest h fits new settles)

-- how the first word begins settings
first_word : (option equals : Bool) (joined apart : Option (List Setting)) (all : List Setting)
    → (if not option then None else (if equals then joined else apart)) ≡ Some all
    → (option ≡ true) × (((equals ≡ true) × (joined ≡ Some all)) ⊎ ((equals ≡ false) × (apart ≡ Some all)))
first_word false equals joined apart all is = absurd (cc)
first_word true true joined apart all is = (refl, inl (refl, is))
first_word true false joined apart all is = (refl, inr (refl, is))

-- a name whose number is to come is one of an option
name_known : (name : Text) (words : List Text) (all : List Setting) → settings_from (Some name) words ≡ Some all → are_fitting all ≡ true
    → is_some (limit_of name) ≡ true
name_known name [] all is fits = absurd (cc)
name_known name (word ∷ words) all is fits =
    let setting : Setting = record { name = name; number = word } in
    let more = some_more setting (settings_from None words) all is in
    fitting_name setting (fits_first setting more.0 (ap are_fitting (sym more.2) ∙ fits)).fits

pub walk_words : (s : Shape) → HasOptions s → (waiting : Option Text) (words : List Text) (all : List Setting)
    → settings_from waiting words ≡ Some all → WalksOver s waiting words all
unfolding walk_passes
walk_words s has None [] all is = λ h fits new settles. record {
  end = h;
  walks = refl;
  passes = refl;
  settles = settles;
  finds = sym (ap (λ (o : Option (List Setting)). (settled s.rules h).rows ++ map setting_row (unwrap_or o [])) (sym is)
      ∙ append-nil (settled s.rules h).rows);
}
walk_words s has (Some name) [] all is = absurd (cc)
walk_words s has (Some name) (word ∷ words) all is =
    let more = some_more (record { name = name; number = word }) (settings_from None words) all is in
    subst (WalksOver s (Some name) (word ∷ words)) (sym more.2)
    (number_first s has name word words more.0 (walk_words s has None words more.0 more.1))
walk_words s has None (word ∷ words) all is =
    let text = drop 2 word in
    let setting = setting_in text in
    let first = first_word (is_option_word word) (list_any is_equals_sign text) (with_setting setting (settings_from None words))
    (settings_from (Some text) words) all is in
    elim first.1 [
      | inl joined ↦
          (let more = some_more setting (settings_from None words) all joined.1 in
          subst (WalksOver s None (word ∷ words)) (sym more.2)
          (joined_first s has word setting.name setting.number words more.0 (joined_word word first.0 joined.0)
          (walk_words s has None words more.0 more.1)))
      | inr apart ↦
          (λ h fits.
          let known = name_known text words all apart.1 fits in
          name_first s word text words all (named_word word first.0 apart.0 known) (has text known)
          (walk_words s has (Some text) words all apart.1) h fits)
    ]
