use Rattle.std.proofs.Common.{◌≡◌, true, length}
use Rattle.tri_atlas.specs.Arena.{triangulation, Grows}
use Rattle.tri_atlas.specs.Paths.{moves_of}
use Rattle.surface_lib.specs.Surfaces.{IsLoop}
use Rattle.train_track.specs.Branches.{words_of}
use Rattle.multicurve_cert.specs.Cycles.{AreCycles}
use Rattle.verdict_plan.specs.inside.Known.{AreKnown}
use Rattle.verdict_plan.specs.inside.Sites.{AreSites}
use Rattle.verdict_plan.specs.inside.Turns.{AreSomeLines}
use Rattle.verdict_plan.proofs.track_search.search_first.Given as goal

abbrev pub invariant-loop-n : goal.invariant-loop-n
invariant-loop-n l = record {
  grows : Grows l.fn.atlas l.atlas;
  closed : IsLoop l.atlas l.word;
  cycles : AreCycles (triangulation l.atlas 0) (words_of l.cycles);
  sites : AreSites l.atlas l.word (words_of l.cycles) l.n l.sites.items;
  known : AreKnown (triangulation l.fn.atlas 0) (moves_of l.fn.atlas l.word) l.known.items;
  lines : AreSomeLines (triangulation l.fn.atlas 0) (moves_of l.fn.atlas l.word) (words_of l.cycles) l.n l.log.items;
  exact : l.is_exact ≡ true → length l.log.items ≡ l.n;
}
