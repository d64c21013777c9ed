use Rattle.std.proofs.Common.{arith}
use Rattle.multicurve_cert.proofs.ImageList.{read_image}
use Rattle.multicurve_cert.proofs.SumsAndDifferences.{difference_made, no_difference}
use Rattle.multicurve_cert.proofs.candidates.difference.Goals as goal

pub returns-in-Ok-clause-made : goal.returns-in-Ok-clause-made
returns-in-Ok-clause-made c =
    difference_made c.args.atlas.now _ _ c.args.kind c.requires.difference _ _
    (read_image _ _ _ _ c.requires.images c.upper.result _ _ c.upper.ensures.value (omega arith) c.index-list-upper.is)
    (read_image _ _ _ _ c.requires.images c.lower.result _ _ c.lower.ensures.value (omega arith) c.index-list-lower.is)
    c.try_sub.new.self c.in-Ok.ensures.taken c.in-Ok.ensures.here c.in-Ok.ensures.part

pub returns-in-Err-clause-line : goal.returns-in-Err-clause-line
returns-in-Err-clause-line c =
    no_difference c.args.atlas.now _ _ c.args.kind c.requires.difference _ _
    (read_image _ _ _ _ c.requires.images c.upper.result _ _ c.upper.ensures.value (omega arith) c.index-list-upper.is)
    (read_image _ _ _ _ c.requires.images c.lower.result _ _ c.lower.ensures.value (omega arith) c.index-list-lower.is)
    c.in-Err.ensures.refused
