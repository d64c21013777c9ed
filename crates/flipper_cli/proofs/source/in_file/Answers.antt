use Rattle.std.proofs.Common.{Some, sym, ap, ◌∙◌}
use Rattle.flipper_cli.proofs.Found.{not_read, not_surface, a_surface}
use Rattle.flipper_cli.proofs.source.in_file.Goals as goal

pub returns-in_err-bytes-clause-found : goal.returns-in_err-bytes-clause-found
returns-in_err-bytes-clause-found g c = λ files told.
    not_read _ _ _ (c.in_err-bytes.ensures.whole files told) c.from_residual.ensures.1

pub returns-in_err-read_surface-clause-found : goal.returns-in_err-read_surface-clause-found
returns-in_err-read_surface-clause-found g c = λ files told.
    let found = (c.in_ok-bytes.ensures.whole files told).0 ∙ ap Some (sym c.as_slice.ensures.value) in
    not_surface _ _ _ _ found c.in_err-read_surface.ensures.refused c.from_residual-in_err-read_surface.ensures.1

pub returns-clause-found : goal.returns-clause-found
returns-clause-found g c = λ files told.
    let found = (c.in_ok-bytes.ensures.whole files told).0 ∙ ap Some (sym c.as_slice.ensures.value) in
    a_surface _ _ _ found c.in_ok-read_surface.ensures.read
