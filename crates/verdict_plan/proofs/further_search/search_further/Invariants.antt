use Rattle.tri_atlas.specs.Arena.{triangulation, Grows}
use Rattle.tri_atlas.specs.Paths.{moves_of}
use Rattle.surface_lib.specs.Surfaces.{IsLoop}
use Rattle.verdict_plan.specs.inside.FurtherStages.{AreLinesFrom, sites_of}
use Rattle.verdict_plan.proofs.further_search.search_further.Given as goal

abbrev pub invariant-loop-n : goal.invariant-loop-n
invariant-loop-n l = record {
  grows : Grows l.fn.atlas l.atlas;
  closed : IsLoop l.atlas l.word;
  lines : AreLinesFrom (triangulation l.fn.atlas 0) (moves_of l.fn.atlas l.word)
      (sites_of l.fn.atlas l.stages) l.n l.log.items;
}
