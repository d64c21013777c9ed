use Rattle.std.proofs.Common.{◌≡◌, pos, map}
use Rattle.std.specs.List.{filter, range_with_len}
use Rattle.train_track.specs.Tracks.{is_switch}
use Rattle.train_track.proofs.legal.switches.Given as goal

abbrev pub invariant-loop-e : goal.invariant-loop-e
invariant-loop-e l = l.found.items ≡ filter (is_switch l.tri l.left_out) (map pos (range_with_len 0 l.e))
