-- Checks one after another: an error is handed on, and what follows from the last check that passes.
use Rattle.std.proofs.Common.{◌≡◌, ℕ, Ok, Err, Result, IfErr, IsErrAnd, OnOk, sym, subst}
use Rattle.cert_checker.specs.declared.verdict.Stop.{Stop}
use Rattle.cert_checker.specs.inside.Stops.{IsStop}
use Rattle.cert_checker.proofs.Stopped.{stopped}

pub all_on_ok : {T E A B : Type 0} (result : Result T E) → (A → B) → OnOk result A → OnOk result B
all_on_ok (Ok x) follows h = follows h
all_on_ok (Err e) follows h = tt

pub handed_on : {T : Type 0} (Fails Follows : ℕ → ℕ → Type 0)
    → ((rule place : ℕ) → Fails rule place → Follows rule place) → (result : Result T Stop) (stop : Stop)
    → IsErrAnd result (λ r. r ≡ stop) → IsStop Fails stop → IfErr result (IsStop Follows)
handed_on Fails Follows follows (Ok x) stop is h = absurd is
handed_on Fails Follows follows (Err r) stop is h =
    subst (IsStop Follows) (sym is) (stopped Fails Follows follows stop h)
