use Rattle.std.proofs.Common.{◌≡◌, ◌<◌, ℕ, length, take, get_or}
use Rattle.std.specs.List.{sum}
use Rattle.ideal_tri.specs.declared.tri.TheConstants.{EDGES}
use Rattle.strand_draw.proofs.marks.firsts.Given as goal

abbrev pub invariant-loop-e : goal.invariant-loop-e
invariant-loop-e l = record {
  room : length l.firsts ≡ EDGES;
  total : l.total ≡ sum (take l.e l.w);
  firsts : (k : ℕ) → k < l.e → get_or l.firsts k 0 ≡ sum (take k l.w);
}
