use Rattle.std.proofs.Common.{◌≡◌, ◌≤◌, drop}
use Rattle.surface_lib.specs.Pieces.{bad_bracket}
use Rattle.surface_lib.proofs.piece.bad_bracket.Given as goal

abbrev pub invariant-loop-c : goal.invariant-loop-c
invariant-loop-c l = record {
  left : bad_bracket l.depth l.place (drop l.c-index l.text) ≡ bad_bracket 0 0 l.text;
  place : l.place ≡ l.c-index;
  depth : l.depth ≤ l.c-index;
}
