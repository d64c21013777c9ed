use Rattle.std.proofs.Common.{arith}
use Rattle.ideal_tri.specs.Vertices.{label_of_rank}
use Rattle.free_groupoid.specs.Walks.{walk_of_letters}
use Rattle.train_track.specs.inside.Growing.{listed_from}
use Rattle.train_track.proofs.Gathered.{gathered_more}
use Rattle.train_track.proofs.branches.branches.Goals as goal

pub loop-k-preserved : goal.loop-k-preserved
loop-k-preserved c = record {
  found =
      gathered_more (walk_of_letters c.args.tri.now) (listed_from c.args.tri.now c.args.left_out.now) label_of_rank c.loop-k.k
      c.label_of_rank.result c.loop-k.found.items _ c.loop-k.invariant.found c.label_of_rank.ensures
      (c.in_ok-push_from.ensures.value);
  few = (let more = c.in_ok-push_from.ensures.few in let so_far = c.loop-k.invariant.few in omega arith);
}
