use Rattle.std.proofs.Common.{◌≡◌, ◌+◌, ◌-◌, ◌≤◌, drop, length, nat_eq}
use Rattle.std.specs.List.{prefix_len}
use Rattle.ideal_tri.specs.Labels.{edge_of}
use Rattle.free_groupoid.proofs.inner_paths.front_of.Given as goal

abbrev pub invariant-loop-count : goal.invariant-loop-count
invariant-loop-count l =
    (l.count ≤ length l.word) ×
    (l.count + prefix_len (λ y. nat_eq (edge_of y) l.e) (drop l.count l.word)
    ≡ prefix_len (λ y. nat_eq (edge_of y) l.e) l.word)

abbrev pub decreases-loop-count : goal.decreases-loop-count
decreases-loop-count l = length l.word - l.count
