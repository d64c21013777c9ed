use Rattle.std.proofs.Common.{◌≡◌, take}
use Rattle.carry_map.specs.inside.Steps.{counts_of}
use Rattle.carry_map.proofs.middle.place_counts.Given as goal

abbrev pub invariant-loop-places : goal.invariant-loop-places
invariant-loop-places l = l.counts.items ≡ counts_of (take l.places-index l.all)
