use Rattle.std.proofs.Common.{◌∙◌}
use Rattle.free_groupoid.proofs.tests.path_of.Goals as goal

-- src/tests.rt:83:5
pub loop-x-preserved : goal.loop-x-preserved
loop-x-preserved g c = record {
  path = c.in_ok-push_flip.ensures.path;
  start = c.in_ok-push_flip.ensures.start ∙ c.loop-x.invariant.start;
  grows =
      c.atlas_laws.ensures.growth.further c.args.atlas.now c.loop-x.atlas c.push_flip.new.atlas
      c.loop-x.invariant.grows c.in_ok-push_flip.ensures.grows;
}
