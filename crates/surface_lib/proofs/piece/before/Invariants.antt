use Rattle.std.proofs.Common.{◌≡◌, ◌≤◌, ◌+◌, drop}
use Rattle.surface_lib.specs.Pieces.{before}
use Rattle.surface_lib.proofs.piece.before.Given as goal

abbrev pub invariant-loop-place : goal.invariant-loop-place
invariant-loop-place l = record {
  left : before l.b l.depth (drop l.place l.text) + l.place ≡ before l.b 0 l.text;
  depth : l.depth ≤ l.place;
}
