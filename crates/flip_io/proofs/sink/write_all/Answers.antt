use Rattle.std.proofs.Common.{rules}
use Rattle.flip_io.proofs.Takes.{took_rest}
use Rattle.flip_io.proofs.sink.write_all.Goals as goal

pub loop-done-preserved : goal.loop-done-preserved
loop-done-preserved g c = record {
  within = search rules;
  uncounted = search rules;
  took = took_rest _ _ _ _ _ _ c.loop-done.invariant.took c.in_ok-done.ensures.took;
}
