-- Why a check ended, told by a rule that says more.
use Rattle.std.proofs.Common.{◌≡◌, ℕ, Result, Ok, Err, IfErr}
use Rattle.cert_checker.specs.inside.Stops.{IsStop, IsRule}
use Rattle.cert_checker.specs.declared.verdict.Stop.{Stop}
use Rattle.cert_checker.specs.declared.verdict.Stop.TheVariants.{Refused, Memory}

pub stopped : (Fails Follows : ℕ → ℕ → Type 0) → ((rule place : ℕ) → Fails rule place → Follows rule place)
    → (stop : Stop) → IsStop Fails stop → IsStop Follows stop
stopped Fails Follows follows (Refused rule place) h = follows rule place h
stopped Fails Follows follows Memory h = tt

pub refused_so : {T : Type 0} (Fails Follows : ℕ → ℕ → Type 0)
    → ((rule place : ℕ) → Fails rule place → Follows rule place) → (r : Result T Stop)
    → IfErr r (IsStop Fails) → IfErr r (IsStop Follows)
refused_so Fails Follows follows (Ok x) h = tt
refused_so Fails Follows follows (Err stop) h = stopped Fails Follows follows stop h

-- by the rule on the cap, of which 0 is told, for another reason
pub past_stop : (Cause Effect : Type 0) → (Cause → Effect) → (stop : Stop)
    → IsStop (IsRule 14 (λ (place : ℕ). (place ≡ 0) × Cause)) stop
    → IsStop (IsRule 14 (λ (place : ℕ). (place ≡ 0) × Effect)) stop
past_stop Cause Effect so stop h =
    stopped (IsRule 14 (λ (place : ℕ). (place ≡ 0) × Cause)) (IsRule 14 (λ (place : ℕ). (place ≡ 0) × Effect))
    (λ rule place k. (k.0, (k.1.0, so k.1.1))) stop h
