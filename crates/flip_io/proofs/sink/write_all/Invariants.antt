use Rattle.std.proofs.Common.{◌≡◌, length, ◌-◌, ◌≤◌, take}
use Rattle.flip_io.specs.Taken.{Took}
use Rattle.flip_io.proofs.sink.write_all.Given as goal

abbrev pub invariant-loop-done : goal.invariant-loop-done
invariant-loop-done g l = record {
  within : l.done ≤ length l.bytes;
  uncounted : g.K.Sink.faults l.sink ≡ g.K.Sink.faults l.fn.sink;
  took : Took (g.K.Sink.told l.fn.sink) (g.K.Sink.told l.sink) (take l.done l.bytes);
}

abbrev pub decreases-loop-done : goal.decreases-loop-done
decreases-loop-done g l = length l.bytes - l.done
