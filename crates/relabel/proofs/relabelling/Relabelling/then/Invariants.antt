use Rattle.std.proofs.Common.{ℕ, ◌≡◌, ◌<◌, length, get_or, pos}
use Rattle.ideal_tri.specs.Relabellings.{image_of}
use Rattle.relabel.proofs.relabelling.Relabelling.then.Given as goal

abbrev pub invariant-loop-edge : goal.invariant-loop-edge
invariant-loop-edge l = record {
  room : length l.images ≡ 48;
  made : (d : ℕ) → d < l.edge → get_or l.images d (pos 0) ≡ image_of l.next (get_or l.self d (pos 0));
}
