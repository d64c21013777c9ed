-- Powers behind a name or a group: `^`, then `-` or nothing, then one to four digits of value 1 to
-- 4,096.
use Rattle.std.specs.Prelude.{ℕ, ◌+◌, ◌-◌, ◌*◌, Bool, true, false, ◌&&◌, ◌==◌, nat_le, List, []}
use Rattle.std.specs.Prelude.{◌∷◌, Option, Some, None, if◌then◌else◌}
use Rattle.surface_lib.specs.Pieces.{power_sign}
use Rattle.surface_lib.specs.Spelling.{is_digit}
use Rattle.surface_lib.specs.declared.power.Power.{Power}

-- the largest exponent
abbrev pub power_limit : ℕ
power_limit = 4096

-- the number with these four digits, if it is at least 1 and at most the limit
abbrev pub number_of : ℕ → ℕ → ℕ → ℕ → Option ℕ
number_of a b c d =
    let n : ℕ = 1000 * (a - 48) + 100 * (b - 48) + 10 * (c - 48) + (d - 48) in
    if (is_digit a && is_digit b) && (is_digit c && is_digit d) && (nat_le 1 n && nat_le n
    power_limit)
    then Some n else None

-- one to four digits; fewer than four are as those with zeros (code 48) in front
abbrev pub exponent : List ℕ → Option ℕ
exponent (d ∷ []) = number_of 48 48 48 d
exponent (c ∷ d ∷ []) = number_of 48 48 c d
exponent (b ∷ c ∷ d ∷ []) = number_of 48 b c d
exponent (a ∷ b ∷ c ∷ d ∷ []) = number_of a b c d
exponent _ = None

abbrev pub with_times : Bool → Option ℕ → Option Power
with_times backwards None = None
with_times backwards (Some k) = Some (record { times = k; backwards = backwards })

-- what stands behind the `^`; the code of `-` is 45
abbrev pub signed : List ℕ → Option Power
signed [] = None
signed (c ∷ s) = if c == 45 then with_times true (exponent s) else with_times false (exponent (c ∷
    s))

-- where nothing is written the power is 1
abbrev pub power : List ℕ → Option Power
power [] = Some (record { times = 1; backwards = false })
power (c ∷ s) = if c == power_sign then signed s else None
