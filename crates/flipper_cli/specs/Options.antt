-- The options on the command line, as `--powers 40 --curves=100 --tracks 9`, and the budget that
-- they give.
use Rattle.std.specs.Prelude.{◌&&◌, ◌==◌, ℕ, Bool, true, false, not, List, [], ◌∷◌, Option, Some, None}
use Rattle.std.specs.Prelude.{length, drop, nat_le, nat_eq, find, codes, if◌then◌else◌}
use Rattle.std.specs.Prelude.{option_map, option_and_then}
use Rattle.std.specs.List.{list_any, before_first, after_first, starts_with}
use Rattle.std.specs.Option.{option_map_or}
use Rattle.std.specs.Str.{all_ascii_digits, bytes_eq}
use Rattle.std.specs.Str.Parse.{digits_value}
use Rattle.cert_text.specs.Limits.{order_limit}
use Rattle.verdict_plan.specs.Budgets.{curve_limit, track_limit}
use Rattle.verdict_plan.specs.declared.budget.Budget.{Budget}

-- an option as the words give it: its name, and the text of its number
pub record Setting : Type 0 where
  pub name : List ℕ
  pub number : List ℕ

-- ---- the words, cut into settings

-- the word begins with `--`
abbrev pub is_option_word : List ℕ → Bool
is_option_word word = starts_with nat_eq word (codes "--")

abbrev pub is_equals_sign : ℕ → Bool
is_equals_sign c = c == 61

-- the setting of `name=number`
abbrev pub setting_in : List ℕ → Setting
setting_in text = record {
  name = before_first is_equals_sign text;
  number = after_first is_equals_sign text;
}

abbrev pub with_setting : Setting → Option (List Setting) → Option (List Setting)
with_setting setting settings = option_map (λ others. setting ∷ others) settings

-- the settings that the words are cut into: each is one word `--name=number`, or two, `--name` and
-- `number`. With `Some name`, the first word is the number of that name
abbrev pub settings_from : Option (List ℕ) → List (List ℕ) → Option (List Setting)
settings_from None [] = Some []
settings_from (Some name) [] = None
settings_from (Some name) (word ∷ words) =
    with_setting (record { name = name; number = word }) (settings_from None words)
settings_from None (word ∷ words) =
    if not (is_option_word word) then None
    else (if list_any is_equals_sign (drop 2 word)
    then with_setting (setting_in (drop 2 word)) (settings_from None words)
    else settings_from (Some (drop 2 word)) words)

abbrev pub settings_of : List (List ℕ) → Option (List Setting)
settings_of words = settings_from None words

-- ---- which settings fit

-- the largest number that the option of this name takes
abbrev pub limit_of : List ℕ → Option ℕ
limit_of name =
    if bytes_eq name (codes "powers") then Some order_limit
    else if bytes_eq name (codes "curves") then Some curve_limit
    else if bytes_eq name (codes "tracks") then Some track_limit
    else None

-- 1 to 5 decimal digits
abbrev pub is_short_number : List ℕ → Bool
is_short_number text = nat_le 1 (length text) && (nat_le (length text) 5 && all_ascii_digits text)

abbrev pub is_number_up_to : ℕ → List ℕ → Bool
is_number_up_to limit text = is_short_number text && nat_le (digits_value 10 text) limit

-- there is an option of this name, and the number is within its limit
abbrev pub is_fitting : Setting → Bool
is_fitting setting =
    option_map_or (λ limit. is_number_up_to limit setting.number) (limit_of setting.name) false

abbrev pub is_set : List ℕ → List Setting → Bool
is_set name settings = list_any (λ setting. bytes_eq setting.name name) settings

-- each setting fits, and no option is set twice
abbrev pub are_fitting : List Setting → Bool
are_fitting [] = true
are_fitting (setting ∷ others) =
    is_fitting setting && (not (is_set setting.name others) && are_fitting others)

-- ---- the budget

-- the text of an option's number
abbrev pub number_text : List ℕ → List Setting → Option (List ℕ)
number_text name settings = option_map (λ setting. setting.number)
    (find (λ setting. bytes_eq setting.name name) settings)

-- the number of an option, or `otherwise` where it isn't set
abbrev pub number_of : List ℕ → ℕ → List Setting → ℕ
number_of name otherwise settings =
    option_map_or (digits_value 10) (number_text name settings) otherwise

abbrev pub budget_in : List Setting → Budget
budget_in settings = record {
  powers = number_of (codes "powers") 48 settings;
  curves = number_of (codes "curves") 256 settings;
  tracks = number_of (codes "tracks") 256 settings;
}

abbrev pub budget_if_fitting : List Setting → Option Budget
budget_if_fitting settings = if are_fitting settings then Some (budget_in settings) else None

-- the budget that the words give, if they fit: if they are settings of options that there are, each
-- with a number within its limit, and none set twice
abbrev pub budget_of : List (List ℕ) → Option Budget
budget_of words = option_and_then budget_if_fitting (settings_of words)
