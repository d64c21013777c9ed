use Rattle.free_groupoid.proofs.Sprouting.{IsTrying}
use Rattle.free_groupoid.proofs.forest.sprout.Given as goal

abbrev pub invariant-loop-e : goal.invariant-loop-e
invariant-loop-e l =
    IsTrying l.tri record {
      triangle = l.node-inside.triangle;
      root = l.node-inside.root;
      walk =
          l.node-inside.walk.items;
    }
    l.initial.nodes.items l.e l.nodes.items
