use Rattle.ideal_tri.proofs.Triangles.{triangle_laws}
use Rattle.ideal_tri.proofs.Walks.{walk_laws, walk_labels}
use Rattle.ideal_tri.proofs.laws.surface_laws.Goals as goal

pub returns : goal.returns
returns c = record { triangles = triangle_laws; walks = λ triples h. walk_laws triples; letters = walk_labels }
