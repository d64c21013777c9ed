-- A power is at most the largest exponent.
use Rattle.std.proofs.Common.{◌≤◌, ◌+◌, ◌-◌, ◌*◌, ℕ, Bool, true, false, List, [], ◌∷◌, Option, Some, None, lit≤, arith}
use Rattle.std.proofs.Common.{◌≡◌, refl}
use Rattle.std.specs.Prelude.{◌==◌, ◌&&◌, nat_le, if◌then◌else◌}
use Rattle.std.proofs.lemmas.Grind.{common_steps}
use Rattle.surface_lib.specs.Pieces.{power_sign}
use Rattle.surface_lib.specs.Spelling.{is_digit}
use Rattle.surface_lib.specs.Powers.{power_limit, number_of, exponent, with_times, signed, power}
use Rattle.surface_lib.specs.declared.power.Power.{Power}

abbrev pub IsSmall : Option Power → Type 0
IsSmall None = Unit {0}
IsSmall (Some k) = k.times ≤ 4096

abbrev IsSmallNumber : Option ℕ → Type 0
IsSmallNumber None = Unit {0}
IsSmallNumber (Some n) = n ≤ 4096

tested_small : (n : ℕ) (digits few some : Bool) → nat_le n 4096 ≡ few
    → IsSmallNumber (if digits && (some && few) then Some n else None)
tested_small n true true true e = grind (arith, common_steps)
tested_small n true false true e = tt
tested_small n true true false e = tt
tested_small n true false false e = tt
tested_small n false few some e = tt

number_small : (a b c d : ℕ) → IsSmallNumber (number_of a b c d)
number_small a b c d =
    let n : ℕ = 1000 * (a - 48) + 100 * (b - 48) + 10 * (c - 48) + (d - 48) in
    by n (is_digit a && is_digit b) (is_digit c && is_digit d)
  where
    by : (n : ℕ) (u v : Bool) → IsSmallNumber (if u && v && (nat_le 1 n && nat_le n power_limit) then Some n else None)
    by n true true = tested_small n true (nat_le n 4096) (nat_le 1 n) refl
    by n true false = tt
    by n false v = tt

exponent_small : (s : List ℕ) → IsSmallNumber (exponent s)
exponent_small [] = tt
exponent_small (d ∷ []) = number_small 48 48 48 d
exponent_small (c ∷ d ∷ []) = number_small 48 48 c d
exponent_small (b ∷ c ∷ d ∷ []) = number_small 48 b c d
exponent_small (a ∷ b ∷ c ∷ d ∷ []) = number_small a b c d
exponent_small (a ∷ b ∷ c ∷ d ∷ e ∷ s) = tt

times_small : (b : Bool) (n : Option ℕ) → IsSmallNumber n → IsSmall (with_times b n)
times_small b None h = tt
times_small b (Some k) h = h

signed_small : (s : List ℕ) → IsSmall (signed s)
signed_small [] = tt
signed_small (c ∷ s) = by (c == 45)
  where
    by : (b : Bool) → IsSmall (if b then with_times true (exponent s) else with_times false (exponent (c ∷ s)))
    by true = times_small true (exponent s) (exponent_small s)
    by false = times_small false (exponent (c ∷ s)) (exponent_small (c ∷ s))

pub power_small : (s : List ℕ) → IsSmall (power s)
power_small [] = lit≤ tt
power_small (c ∷ s) = by (c == power_sign)
  where
    by : (b : Bool) → IsSmall (if b then signed s else None)
    by true = signed_small s
    by false = tt
