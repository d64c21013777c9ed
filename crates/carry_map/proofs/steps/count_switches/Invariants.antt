use Rattle.std.proofs.Common.{◌≡◌, ◌≤◌, length, take}
use Rattle.std.specs.List.{filter}
use Rattle.carry_map.specs.inside.Rays.{is_listed}
use Rattle.carry_map.proofs.steps.count_switches.Given as goal

abbrev pub invariant-loop-y : goal.invariant-loop-y
invariant-loop-y l =
    (l.count ≡ length (filter (is_listed l.track.switches) (take l.y-index l.letters))) × (l.count ≤ l.y-index)
