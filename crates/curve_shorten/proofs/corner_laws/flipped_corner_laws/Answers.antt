use Rattle.curve_shorten.proofs.FlippedSides.{Given}
use Rattle.curve_shorten.proofs.FreeCorners.{free_after}
use Rattle.curve_shorten.proofs.NewCorners.{crossed_after}
use Rattle.curve_shorten.proofs.SmallTotals.{two_at_least}
use Rattle.curve_shorten.proofs.corner_laws.flipped_corner_laws.Goals as goal

pub returns : goal.returns
returns c =
    let given : Given = record {
      labels = c.label_laws.ensures;
      surfaces = c.surface_laws.ensures;
      flips = c.flip_laws.ensures;
      drawings = c.drawing_laws.ensures;
      vectors = c.vector_laws.ensures;
    } in
    record {
      free = λ before after e a b c d w p h m. free_after given before after e a b c d w p h m;
      some = λ before after e a b c d w p h m. crossed_after given before after e a b c d w p h m;
      two = λ triples w p m free. two_at_least given triples p w m free;
    }
