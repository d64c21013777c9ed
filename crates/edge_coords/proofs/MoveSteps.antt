-- The step that the numbers take across a move: its labels are of edges of the vector, and the number of the flipped
-- edge can be taken from the greater sum.
use Rattle.std.proofs.Common.{◌≡◌, ◌<◌, ℕ, ℤ, pos, List, length, sym, ◌∙◌, subst}
use Rattle.ideal_tri.specs.Labels.{inverse, edge_of}
use Rattle.ideal_tri.specs.Triangulations.{IsTriangulation, IsLabel, edge_count, next, previous}
use Rattle.ideal_tri.specs.Vectors.{IsMulticurve}
use Rattle.ideal_tri.specs.LabelLaws.{LabelLaws}
use Rattle.ideal_tri.specs.RelabellingLaws.{RelabellingLaws}
use Rattle.ideal_tri.specs.SurfaceLaws.{TriangleLaws}
use Rattle.ideal_tri.specs.Relabellings.{image_of, IsRelabelling}
use Rattle.tri_atlas.specs.Moves.{Move, flip, unflip, relabel, IsFlip, IsMove}
use Rattle.tri_atlas.specs.VectorLaws.{VectorLaws}
use Rattle.edge_coords.specs.inside.Steps.{IsFlipOf, IsRelabellingOf, IsStepOf}

-- the labels of a flip are labels where it is made
record AreSides (triples : List (List ℤ)) (e a b c d : ℤ) : Type 0 where
  at_e : IsLabel triples e
  at_a : IsLabel triples a
  at_b : IsLabel triples b
  at_c : IsLabel triples c
  at_d : IsLabel triples d

sides : (before target : List (List ℤ)) (e a b c d : ℤ) → LabelLaws → TriangleLaws before
    → IsFlip before target e a b c d
    → AreSides before e a b c d
sides before target e a b c d labels triangles h =
    let there : IsLabel before (next before e) = triangles.label e h.label in
    let back : IsLabel before (inverse e) = labels.label before e h.label in
    let across : IsLabel before (next before (inverse e)) = triangles.label (inverse e) back in
    record {
      at_e = h.label;
      at_a = subst (IsLabel before) (sym h.side_a) there;
      at_b = subst (IsLabel before) (sym h.side_b) (triangles.label (next before e) there);
      at_c = subst (IsLabel before) (sym h.side_c) across;
      at_d = subst (IsLabel before) (sym h.side_d) (triangles.label (next before (inverse e)) across);
    }

in_vector : (triples : List (List ℤ)) (w : List ℕ) (x : ℤ) → length w ≡ edge_count triples → IsLabel triples x
    → edge_of x < length w
in_vector triples w x many l = subst (λ (n : ℕ). edge_of x < n) (sym many) l

module _ (laws : VectorLaws) (labels : LabelLaws) (relabellings : RelabellingLaws) (before target : List (List ℤ))
    (w : List ℕ) (sound : IsTriangulation before) (other : IsTriangulation target) (multicurve : IsMulticurve before w)
    (edges : edge_count target ≡ edge_count before) where
  there : (e a b c d : ℤ) → TriangleLaws before → IsFlip before target e a b c d → IsFlipOf w e a b c d
  there e a b c d triangles h =
      let here : AreSides before e a b c d = sides before target e a b c d labels triangles h in
      record {
        e_in = in_vector before w e multicurve.one_per_edge here.at_e;
        a_in = in_vector before w a multicurve.one_per_edge here.at_a;
        b_in = in_vector before w b multicurve.one_per_edge here.at_b;
        c_in = in_vector before w c multicurve.one_per_edge here.at_c;
        d_in = in_vector before w d multicurve.one_per_edge here.at_d;
        enough = laws.numbers.enough before target e a b c d w sound h multicurve;
      }

  many : length w ≡ edge_count target
  many = multicurve.one_per_edge ∙ sym edges

  back : (e a b c d : ℤ) → TriangleLaws target → IsFlip target before e a b c d → IsFlipOf w e a b c d
  back e a b c d triangles h =
      let here : AreSides target e a b c d = sides target before e a b c d labels triangles h in
      record {
        e_in = in_vector target w e many here.at_e;
        a_in = in_vector target w a many here.at_a;
        b_in = in_vector target w b many here.at_b;
        c_in = in_vector target w c many here.at_c;
        d_in = in_vector target w d many here.at_d;
        enough = laws.numbers.enough_back target before e a b c d w other h multicurve;
      }

  moves : (images : List ℤ) → IsRelabelling before target images → IsRelabellingOf w images
  moves images h = record {
    as_many = h.one_per_edge ∙ sym multicurve.one_per_edge;
    as_long = (laws.moves before target (relabel images) w sound other h multicurve).multicurve.one_per_edge ∙ sym many;
    within = λ k low. in_vector target w (image_of images (pos k)) many
        (h.labels k (pos 0) (subst (λ (n : ℕ). k < n) (multicurve.one_per_edge ∙ sym h.one_per_edge) low));
    moved = λ k low. laws.numbers.moved before target images w (pos k) h (subst (λ (n : ℕ). k < n)
        multicurve.one_per_edge low);
    onto = λ e low.
        (let (d, within, is) = relabellings.onto before target images h e (subst (λ (n : ℕ). e < n) many low) in
        (d, subst (λ (n : ℕ). d < n) (sym multicurve.one_per_edge) within, is));
  }

  pub step_of_move : (m : Move) → TriangleLaws before → TriangleLaws target → IsMove before target m → IsStepOf w m
  step_of_move (flip e a b c d) here after h = there e a b c d here h
  step_of_move (unflip e a b c d) here after h = back e a b c d after h
  step_of_move (relabel images) here after h = moves images h
