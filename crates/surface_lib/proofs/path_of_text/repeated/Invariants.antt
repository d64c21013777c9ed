use Rattle.std.proofs.Common.{◌≡◌, ◌-◌, ◌++◌}
use Rattle.std.specs.List.{repeat}
use Rattle.surface_lib.specs.Surfaces.{IsLoop}
use Rattle.surface_lib.proofs.path_of_text.repeated.Given as goal

abbrev pub invariant-loop-turn : goal.invariant-loop-turn
invariant-loop-turn l = record {
  closed : IsLoop l.s.atlas l.whole;
  left : l.whole.moves ++ repeat (l.times - l._turn) l.path.moves ≡ repeat l.times l.path.moves;
}
