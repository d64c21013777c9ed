use Rattle.std.proofs.Common.{◌≤◌, ℕ, List, Some, length, sym, ap, ◌∙◌, subst}
use Rattle.flipper_cli.specs.Limits.{certificate_limit}
use Rattle.flipper_cli.proofs.Held.{certificate_held, not_certificate}
use Rattle.flipper_cli.proofs.check.certificate_in.Goals as goal

pub returns-in_err-read-clause-found : goal.returns-in_err-read-clause-found
returns-in_err-read-clause-found g c = λ files told.
    let whole = c.in-Ok.ensures.whole files told in
    let found = whole.0 ∙ ap Some (sym c.as_slice.ensures.value) in
    let within = subst (λ (xs : List ℕ). length xs ≤ certificate_limit) (sym c.as_slice.ensures.value) whole.1 in
    not_certificate _ _ _ _ found within c.in_err-read.ensures.refused c.from_residual.ensures.1

pub returns-clause-found : goal.returns-clause-found
returns-clause-found g c = λ files told.
    let whole = c.in-Ok.ensures.whole files told in
    let found = whole.0 ∙ ap Some (sym c.as_slice.ensures.value) in
    let within = subst (λ (xs : List ℕ). length xs ≤ certificate_limit) (sym c.as_slice.ensures.value) whole.1 in
    certificate_held _ _ _ found within c.in_ok-read.ensures.read
