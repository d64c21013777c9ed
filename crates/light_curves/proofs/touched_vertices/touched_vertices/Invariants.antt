use Rattle.light_curves.specs.inside.Touched.{AreTouchedBelow}
use Rattle.light_curves.proofs.touched_vertices.touched_vertices.Given as goal

abbrev pub invariant-loop-e : goal.invariant-loop-e
invariant-loop-e l = AreTouchedBelow l.tri l.w l.e l.touched.items
