use Rattle.free_groupoid.proofs.Paths.{IsFollowedTo}
use Rattle.free_groupoid.proofs.map.Map.follow_path.Given as goal

abbrev pub invariant-loop-m : goal.invariant-loop-m
invariant-loop-m l = IsFollowedTo l.atlas l.fn.self l.self l.m-items l.cap l.p.end l.m-index
