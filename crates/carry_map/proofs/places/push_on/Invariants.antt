use Rattle.std.proofs.Common.{◌≡◌, ◌≤◌, ◌++◌, ℤ, List, length, take}
use Rattle.carry_map.specs.inside.Rays.{places_at}
use Rattle.carry_map.proofs.ListedPlaces.{on_from}
use Rattle.carry_map.proofs.places.push_on.Given as goal

abbrev pub invariant-loop-d : goal.invariant-loop-d
invariant-loop-d l = record {
  few : length l.spots.items ≤ l.most;
  places : (back : List ℤ)
      → take l.most (places_at back l.on l.spots.items ++ on_from l.track.switches l.on l.d)
      ≡ take l.most (places_at back l.on l.initial.spots.items ++ on_from l.track.switches l.on l.n);
}
