use Rattle.std.proofs.Common.{ℤ, List, ◌≡◌, ◌<◌, ◌≤◌, length, ◌∙◌, ap, arith}
use Rattle.ideal_tri.specs.Labels.{edge_of}
use Rattle.ideal_tri.specs.Triangulations.{edge_count}
use Rattle.carry_map.specs.CarriedMaps.{final}
use Rattle.cert_checker.proofs.WalkLetters.{ends_with_label}
use Rattle.cert_checker.proofs.train_paths.walk_start.Goals as goal

pub returns-then-edge-edges-2-clause-none : goal.returns-then-edge-edges-2-clause-none
returns-then-edge-edges-2-clause-none c is =
    let w : List ℤ = c.args.letters.now in
    let long : 2 ≤ length w = is.long in
    let last : edge_of (final w) < edge_count c.args.tri.now =
    ends_with_label c.args.tri.now _ _ w (omega arith) is.walk in
    let edge : c.edge-2.result ≡ edge_of (final w) = c.edge-2.ensures ∙ ap edge_of c.ends-first.ensures.last in
    let edges : c.edges-2.result ≡ edge_count c.args.tri.now = c.edges-2.ensures.count in
    let outside : c.edges-2.result ≤ c.edge-2.result = c.if-edge-edges-2.true in
    omega arith
