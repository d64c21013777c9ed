-- What the layer below proves of its definitions, in one record.
use Rattle.ideal_tri.specs.LabelLaws.{LabelLaws}
use Rattle.ideal_tri.specs.WordLaws.{WordLaws}
use Rattle.ideal_tri.specs.SurfaceLaws.{SurfaceLaws}
use Rattle.ideal_tri.specs.FlipLaws.{FlipLaws}
use Rattle.ideal_tri.specs.BijectionLaws.{BijectionLaws}
use Rattle.ideal_tri.specs.RelabellingLaws.{RelabellingLaws}

pub record LowerLaws : Type 0 where
  pub labels : LabelLaws
  pub words : WordLaws
  pub surfaces : SurfaceLaws
  pub flips : FlipLaws
  pub bijections : BijectionLaws
  pub relabellings : RelabellingLaws
