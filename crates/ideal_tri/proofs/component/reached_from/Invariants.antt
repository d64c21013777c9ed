use Rattle.std.proofs.Common.{◌≡◌, ℕ, ℤ, true, false, length, get_or}
use Rattle.ideal_tri.specs.declared.tri.TheConstants.{TRIANGLES}
use Rattle.ideal_tri.specs.Labels.{inverse}
use Rattle.ideal_tri.specs.Triangulations.{IsLabel, IsReached, triangle_of}
use Rattle.ideal_tri.proofs.Reaching.{unmarked}
use Rattle.ideal_tri.proofs.component.reached_from.Given as goal

abbrev pub invariant-loop-t : goal.invariant-loop-t
invariant-loop-t l = record {
  room : length l.reached ≡ TRIANGLES;
  done_room : length l.done ≡ TRIANGLES;
  start : get_or l.reached l.start false ≡ true;
  sound : (u : ℕ) → get_or l.reached u false ≡ true → IsReached l.tri l.start u;
  crossed : (x : ℤ) → IsLabel l.tri x → get_or l.done (triangle_of l.tri x) false ≡ true
      → get_or l.reached (triangle_of l.tri (inverse x)) false ≡ true;
}

abbrev pub decreases-loop-t : goal.decreases-loop-t
decreases-loop-t l = unmarked l.done
