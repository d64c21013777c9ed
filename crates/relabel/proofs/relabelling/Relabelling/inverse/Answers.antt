use Rattle.std.proofs.Common.{arith, sym, subst}
use Rattle.ideal_tri.specs.Relabellings.{IsBijection}
use Rattle.relabel.proofs.Slots.{laid_out_back}
use Rattle.relabel.proofs.relabelling.Relabelling.inverse.Goals as goal

pub invariant_of-result : goal.invariant_of-result
invariant_of-result c =
    laid_out_back c.self.inside.count c.inverse_images.result c.self.invariant.fits
    (omega arith) c.inverse_images.ensures.rest
    (subst IsBijection (sym c.inverse_images.ensures.images) (c.bijection_laws.ensures.back _ c.self.invariant.sound))
