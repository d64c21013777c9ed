-- Settings that fit.
use Rattle.std.proofs.Common.{◌≡◌, ℕ, List, ◌∷◌, Bool, true, false, not}
use Rattle.std.proofs.Common.{Option, Some, None, is_some, refl, if◌then◌else◌}
use Rattle.std.specs.Prelude.{option_and_then}
use Rattle.std.specs.Option.{option_map_or}
use Rattle.std.proofs.lemmas.Bool.{and_parts, not-true}
use Rattle.flipper_cli.specs.Options.{Setting, are_fitting, budget_if_fitting, budget_in, budget_of, is_fitting}
use Rattle.flipper_cli.specs.Options.{is_number_up_to, is_set, is_short_number, limit_of, settings_of, with_setting}

-- ---- one setting

limited : (limit : Option ℕ) (text : List ℕ) → option_map_or (λ most. is_number_up_to most text) limit false ≡ true
    → (is_some limit ≡ true) × (is_short_number text ≡ true)
limited None text fits = absurd (cc)
limited (Some most) text fits = (refl, (and_parts (is_short_number text) _ fits).0)

pub fitting_name : (setting : Setting) → is_fitting setting ≡ true → is_some (limit_of setting.name) ≡ true
fitting_name setting fits = (limited (limit_of setting.name) setting.number fits).0

pub fitting_number : (setting : Setting) → is_fitting setting ≡ true → is_short_number setting.number ≡ true
fitting_number setting fits = (limited (limit_of setting.name) setting.number fits).1

-- ---- the first of some settings

pub record FitsFirst (setting : Setting) (others : List Setting) : Type 0 where
  pub fits : is_fitting setting ≡ true
  pub once : is_set setting.name others ≡ false
  pub rest : are_fitting others ≡ true

pub fits_first : (setting : Setting) (others : List Setting) → are_fitting (setting ∷ others) ≡ true → FitsFirst setting others
fits_first setting others fits =
    let parts = and_parts (is_fitting setting) _ fits in
    let more = and_parts (not (is_set setting.name others)) (are_fitting others) parts.1 in
    record { fits = parts.0; once = not-true (is_set setting.name others) more.0; rest = more.1 }

pub some_more : (setting : Setting) (later : Option (List Setting)) (all : List Setting) → with_setting setting later ≡ Some all
    → (others : List Setting) × (later ≡ Some others) × (all ≡ setting ∷ others)
some_more setting None all is = absurd (cc)
some_more setting (Some others) all is = (others, refl, cc)

-- ---- words that fit

-- the settings of words that fit
pub record FitsBy (words : List (List ℕ)) (all : List Setting) : Type 0 where
  pub cut : settings_of words ≡ Some all
  pub fits : are_fitting all ≡ true

pub has_budget : (all : List Setting) → is_some (budget_if_fitting all) ≡ are_fitting all
has_budget all = go (are_fitting all)
  where
    go : (b : Bool) → is_some (if b then Some (budget_in all) else None) ≡ b
    go true = refl
    go false = refl

settings_in : (o : Option (List Setting)) → is_some (option_and_then budget_if_fitting o) ≡ true
    → (all : List Setting) × (o ≡ Some all) × (are_fitting all ≡ true)
settings_in None fits = absurd (cc)
settings_in (Some all) fits = (all, refl, rw has_budget at fits)

pub fits_by : (words : List (List ℕ)) → is_some (budget_of words) ≡ true → (all : List Setting) × FitsBy words all
fits_by words fits =
    let some = settings_in (settings_of words) fits in
    (some.0, record { cut = some.1; fits = some.2 })

-- there are no others
pub fits_with : (words : List (List ℕ)) (all : List Setting) → is_some (budget_of words) ≡ true → settings_of words ≡ Some all
    → FitsBy words all
fits_with words all fits cut = record { cut = cut; fits = rw (cut, has_budget) at fits }

-- the budget of words that fit
pub budget_by : (words : List (List ℕ)) (all : List Setting) → FitsBy words all → budget_of words ≡ Some (budget_in all)
budget_by words all by = rw (by.cut, by.fits) refl
