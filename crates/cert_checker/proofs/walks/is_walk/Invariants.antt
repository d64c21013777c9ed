use Rattle.std.proofs.Common.{◌↔◌, drop}
use Rattle.ideal_tri.specs.Triangulations.{IsWalk}
use Rattle.cert_checker.proofs.walks.is_walk.Given as goal

abbrev pub invariant-loop-n : goal.invariant-loop-n
invariant-loop-n l = IsWalk l.tri l.start l.letters l.end ↔ IsWalk l.tri l.stand (drop l.n-index l.letters) l.end
