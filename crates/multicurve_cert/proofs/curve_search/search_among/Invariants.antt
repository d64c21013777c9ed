use Rattle.tri_atlas.specs.Arena.{triangulation}
use Rattle.tri_atlas.specs.Paths.{moves_of}
use Rattle.multicurve_cert.specs.inside.Among.{AreFailingAmong, AreKept}
use Rattle.multicurve_cert.proofs.curve_search.search_among.Given as goal

abbrev pub invariant-loop-n : goal.invariant-loop-n
invariant-loop-n l = record {
  kept : AreKept l.atlas (moves_of l.atlas l.word) l.vectors l.n l.kept.items;
  failing : AreFailingAmong (triangulation l.atlas 0) (moves_of l.atlas l.word) l.vectors l.n l.log.items;
}
