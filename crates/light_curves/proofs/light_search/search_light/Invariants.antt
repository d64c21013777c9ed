use Rattle.tri_atlas.specs.Paths.{moves_of}
use Rattle.light_curves.specs.inside.StageCurves.{AreLinesSoFar}
use Rattle.light_curves.proofs.light_search.search_light.Given as goal

abbrev pub invariant-loop-n : goal.invariant-loop-n
invariant-loop-n l = AreLinesSoFar l.atlas (moves_of l.atlas l.word) l.stages l.n l.log.items
