use Rattle.std.proofs.Common.{◌≡◌, ◌≤◌, ◌++◌, ◌⊎◌, ℤ, List, length, take}
use Rattle.carry_map.specs.inside.Rays.{places_at}
use Rattle.carry_map.proofs.ListedPlaces.{back_to}
use Rattle.carry_map.proofs.places.push_back.Given as goal

abbrev pub invariant-loop-d : goal.invariant-loop-d
invariant-loop-d l = record {
  within : l.d ≤ length l.back;
  reached : l.n ≤ l.d ⊎ (l.d ≡ length l.back);
  few : length l.spots.items ≤ l.most;
  places : (on : List ℤ) → places_at l.back on l.spots.items
      ≡ take l.most (places_at l.back on l.initial.spots.items ++ back_to l.track.switches l.back l.d);
}

abbrev pub decreases-loop-d : goal.decreases-loop-d
decreases-loop-d l = l.d
