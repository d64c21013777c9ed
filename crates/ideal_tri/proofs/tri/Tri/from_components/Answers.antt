use Rattle.ideal_tri.specs.Triangulations.{IsTriangulation}
use Rattle.ideal_tri.proofs.Laying.{triangulation, view_again, laid_out}
use Rattle.ideal_tri.proofs.Refusals.{repeated_no_gluing}
use Rattle.ideal_tri.proofs.tri.Tri.from_components.Goals as goal

accepted : (c : goal.After-copy_sides) → IsTriangulation c.args.triples.now
accepted c = triangulation c.args.triples.now c.in-Ok.place c.in-Ok.ensures.placed

pub invariant_of-result : goal.invariant_of-result
invariant_of-result c =
    laid_out c.args.triples.now c.copy_sides.result c.in-Ok.place c.in-Ok.ensures.placed (accepted c)
    c.copy_sides.ensures

pub returns-clause-accepted : goal.returns-clause-accepted
returns-clause-accepted c = (accepted c, view_again c.args.triples.now c.copy_sides.result c.copy_sides.ensures)

pub returns-in-Err-clause-exact : goal.returns-in-Err-clause-exact
returns-in-Err-clause-exact c = λ h. repeated_no_gluing c.args.triples.now c.in-Err.x c.in-Err.ensures.repeated h.1
