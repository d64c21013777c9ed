use Rattle.std.proofs.Common.{◌≡◌, ◌+◌, drop}
use Rattle.surface_lib.specs.Pieces.{before_first}
use Rattle.surface_lib.proofs.piece.before_first.Given as goal

abbrev pub invariant-loop-place : goal.invariant-loop-place
invariant-loop-place l = before_first l.b (drop l.place l.text) + l.place ≡ before_first l.b l.text
