use Rattle.flipper_cli.proofs.Drawn.{one_curve, two_curves, parting, rotated, images, counts}
use Rattle.flipper_cli.proofs.drawings.worked_drawings.Goals as goal

pub returns : goal.returns
returns c = record {
  one_curve = one_curve;
  two_curves = two_curves;
  parting = parting;
  rotated = rotated;
  images = images;
  counts = counts;
}
