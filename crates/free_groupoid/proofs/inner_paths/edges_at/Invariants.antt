use Rattle.std.proofs.Common.{◌<◌}
use Rattle.std.specs.List.{All}
use Rattle.ideal_tri.specs.Triangulations.{edge_count}
use Rattle.free_groupoid.proofs.ComputedWords.{IsChoosing}
use Rattle.free_groupoid.proofs.inner_paths.edges_at.Given as goal

abbrev pub invariant-loop-e : goal.invariant-loop-e
invariant-loop-e l = IsChoosing l.tri l.r l.e-items l.edges.items l.e-index
    × All (λ e. e < edge_count l.tri) l.edges.items
