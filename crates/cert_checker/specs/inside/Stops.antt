-- Why a check ends before its last rule.
use Rattle.std.specs.Prelude.{◌≡◌, ℕ}
use Rattle.cert_checker.specs.declared.verdict.Stop.{Stop}
use Rattle.cert_checker.specs.declared.verdict.Stop.TheVariants.{Refused, Memory}

-- a rule fails so, or memory is wanting
abbrev pub IsStop : (ℕ → ℕ → Type 0) → Stop → Type 0
IsStop Fails (Refused rule place) = Fails rule place
IsStop Fails Memory = Unit {0}

-- this rule fails so
abbrev pub IsRule : ℕ → (ℕ → Type 0) → ℕ → ℕ → Type 0
IsRule number Fails rule place = (rule ≡ number) × Fails place
