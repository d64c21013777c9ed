use Rattle.ideal_tri.proofs.Triangles.{triangle_laws}
use Rattle.ideal_tri.proofs.Strands.{corner_sum}
use Rattle.ideal_tri.proofs.Crossings.{drawing_counts}
use Rattle.ideal_tri.proofs.Drawings.States.{setting}
use Rattle.ideal_tri.proofs.Drawings.Words.{drawing_walks, drawing_reduced}
use Rattle.ideal_tri.proofs.Drawings.Draw.{draw_is_drawing, draw_starts, draw_rises, draw_only, drawings_alike}
use Rattle.ideal_tri.proofs.Drawings.Draw.{drawing_none}
use Rattle.ideal_tri.proofs.laws.drawing_laws.Goals as goal

pub returns : goal.returns
returns c = λ triples h. record {
  corners = corner_sum triples h;
  exists = λ w m. draw_is_drawing triples w (setting triples w h m);
  starts = λ w m. draw_starts triples w (setting triples w h m);
  order = λ w m. draw_rises triples w (setting triples w h m);
  only = λ w runs m. draw_only triples w (setting triples w h m) runs;
  unique = λ w runs others m. drawings_alike triples w (setting triples w h m) runs others;
  walks = λ w runs m d. drawing_walks triples w runs (triangle_laws triples h) d;
  reduced = λ w runs m d. drawing_reduced triples w runs (triangle_laws triples h) d;
  counts = λ w runs m d. drawing_counts triples w runs d;
  none = λ w runs m. drawing_none triples w (setting triples w h m) runs;
}
