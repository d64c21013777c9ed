use Rattle.std.specs.Prelude.{◌<◌, ◌+◌, length}
use Rattle.tri_atlas.specs.Arena.{triangulation, Grows}
use Rattle.tri_atlas.specs.Paths.{moves_of}
use Rattle.surface_lib.specs.Surfaces.{IsLoop}
use Rattle.cycle_stages.specs.KeptStages.{IsKept}
use Rattle.verdict_plan.specs.FurtherTracks.{depths}
use Rattle.verdict_plan.specs.inside.FurtherSites.{IsReached, site_of}
use Rattle.verdict_plan.proofs.repairs.try_stage.Given as goal

abbrev pub invariant-loop : goal.invariant-loop
invariant-loop l = record {
  grows : Grows l.fn.atlas l.atlas;
  closed : IsLoop l.atlas l.word;
  kept : IsKept l.atlas l.here;
  short : length l.here.edges.items < depths + l.counter;
  reached : IsReached (triangulation l.fn.atlas 0) (moves_of l.fn.atlas l.word) l.power
      (site_of l.fn.atlas l.stage) l.counter (site_of l.atlas l.here);
}
