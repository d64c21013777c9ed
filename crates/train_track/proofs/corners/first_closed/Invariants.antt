use Rattle.std.proofs.Common.{◌≡◌, ◌<◌, ℕ}
use Rattle.std.specs.Prelude.{true, nat_eq}
use Rattle.std.specs.List.{list_any}
use Rattle.train_track.proofs.corners.first_closed.Given as goal

abbrev pub invariant-loop-v : goal.invariant-loop-v
invariant-loop-v l = (u : ℕ) → u < l.v-counter → list_any (λ y. nat_eq y u) l.vertices.items ≡ true
