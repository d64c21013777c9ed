-- Checks that end before their last rule, at a `?`.
use Rattle.std.proofs.Common.{ℕ, ◌≡◌, sym, subst, Result, Ok, Err}
use Rattle.std.specs.Result.{IsErrAnd, IfErr, OnOk}
use Rattle.std.proofs.lemmas.Result.{err_from_is_err_and}
use Rattle.cert_checker.specs.declared.verdict.Stop.{Stop}
use Rattle.cert_checker.specs.declared.verdict.Stop.TheVariants.{Refused, Memory}
use Rattle.cert_checker.specs.inside.Stops.{IsStop}

module _ {T : Type 0} (F : ℕ → ℕ → Type 0) (r : Result T Stop) where
  pub handed_on : (stop : Stop) → IsErrAnd r (λ e. e ≡ stop) → IsStop F stop → IfErr r (IsStop F)
  handed_on stop ends fails =
      let (e, is_err, is_stop) = err_from_is_err_and r ends in
      subst (λ (q : Result T Stop). IfErr q (IsStop F)) (sym is_err) (subst (IsStop F) (sym is_stop) fails)

  pub out_of_memory : IsErrAnd r (λ e. e ≡ Memory) → IfErr r (IsStop F)
  out_of_memory ends = handed_on Memory ends tt

-- the answer of a last check, in other words
pub fails_as : (F G : ℕ → ℕ → Type 0) → {T : Type 0} (r : Result T Stop)
    → ((stop : Stop) → IsStop F stop → IsStop G stop) → IfErr r (IsStop F) → IfErr r (IsStop G)
fails_as F G (Ok x) there fails = tt
fails_as F G (Err stop) there fails = there stop fails

pub holds_as : (P Q : Type 0) → {T : Type 0} (r : Result T Stop) → (P → Q) → OnOk r P → OnOk r Q
holds_as P Q (Ok x) there holds = there holds
holds_as P Q (Err stop) there holds = tt
