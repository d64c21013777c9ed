use Rattle.std.proofs.Common.{◌∙◌, ap}
use Rattle.ideal_tri.specs.Flips.{flipped}
use Rattle.curve_shorten.proofs.FlippedTotals.{lower_told}
use Rattle.curve_shorten.proofs.rounds.is_lower_after.Goals as goal

pub returns : goal.returns
returns c =
    lower_told c.flipped-after.result _ _ _ c.best.result c.is_some.result
    (c.flipped-after.ensures ∙ ap (flipped c.args.tri.now) c.label_of.ensures) c.flipped_vector.ensures
    c.is_some.ensures c.best.ensures.some c.best.ensures.none
