use Rattle.tri_atlas.specs.Paths.{moves_of}
use Rattle.multicurve_cert.specs.inside.Images.{first_of}
use Rattle.multicurve_cert.proofs.SumsAndDifferences.{IsSumTo}
use Rattle.multicurve_cert.proofs.candidates.sum.Given as goal

abbrev pub invariant-loop-k : goal.invariant-loop-k
invariant-loop-k l = IsSumTo l.atlas (moves_of l.atlas l.word) (first_of l.list) l.k l.sum
