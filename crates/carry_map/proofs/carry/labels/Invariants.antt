use Rattle.std.proofs.Common.{◌≡◌, map, take}
use Rattle.carry_map.proofs.carry.labels.Given as goal

abbrev pub invariant-loop-place : goal.invariant-loop-place
invariant-loop-place l = l.labels.items ≡ map (λ p. p.label) (take l.place-index l.anchors)
