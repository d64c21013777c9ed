-- A power of a matrix is positive exactly where there is one up to it.
use Rattle.std.proofs.Common.{◌<◌, ◌≤◌, ◌↔◌, ℕ, Option, Some, None, IfSome, IfNone, IsTrue, is_some, refl, arith}
use Rattle.transition_matrix.specs.MatrixLaws.{MatrixLaws}
use Rattle.transition_matrix.specs.Matrices.{Square, IsLeastExponent, IsPositivePower}
use Rattle.cert_checker.specs.TrackRules.{IsExponent}

module _ (laws : MatrixLaws) (m : Square) (e : ℕ) (some : 0 < e) (few : e ≤ 1024) where
  pub found_power : (found : Option ℕ) → IfSome found (IsLeastExponent m) → IfSome found (λ k. k ≤ e)
      → IfNone found ((k : ℕ) → 0 < k → k ≤ e → ¬ IsPositivePower m k)
      → IsTrue (is_some found) ↔ IsExponent m e
  found_power (Some k) least below none =
      ((λ t. (some, few, laws.more m k e least.some below least.positive)), (λ is. refl))
  found_power None least below none = ((λ t. absurd (cc)), (λ is. absurd (none e some (omega arith) is.2)))
