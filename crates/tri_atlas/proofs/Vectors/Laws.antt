-- The laws of vectors, for every move and path.
use Rattle.std.proofs.Common.{ℕ, ℤ, List, ◌≡◌, ◌<◌, sym, ◌∙◌, subst}
use Rattle.std.proofs.lemmas.Grind.{same_number_lists}
use Rattle.ideal_tri.specs.Triangulations.{IsTriangulation, edge_count}
use Rattle.ideal_tri.specs.Vectors.{IsMulticurve}
use Rattle.ideal_tri.specs.Strands.{State, IsDrawing, words_of}
use Rattle.tri_atlas.specs.Moves.{Move, IsFlip, ArePath}
use Rattle.tri_atlas.specs.Maps.{path_map, images_under, IsFixed}
use Rattle.tri_atlas.specs.MovedVectors.{vector_along}
use Rattle.tri_atlas.specs.VectorLaws.{AlongLaws, NumberLaws, VectorLaws}
use Rattle.tri_atlas.proofs.Vectors.Given.{Given}
use Rattle.tri_atlas.proofs.Vectors.Flipped.{enough, enough_back}
use Rattle.tri_atlas.proofs.Vectors.Relabelled.{weight-image}
use Rattle.tri_atlas.proofs.Vectors.Along.{moved_laws, vector_along-append, along_laws}
use Rattle.tri_atlas.proofs.Vectors.Beginnings.{vector_along-next}
use Rattle.tri_atlas.proofs.Vectors.Overflow.{overflow_laws}

module _ (g : Given) (triples : List (List ℤ)) (moves : List Move) (w : List ℕ) (runs : List (List State))
    (p : IsTriangulation triples)
    (h : ArePath triples moves triples) (m : IsMulticurve triples w) (d : IsDrawing triples w runs) where
  laws : AlongLaws triples triples moves w
  laws = along_laws g triples triples moves w p h m

  -- the same curves cross each edge as often
  fixed_vector : IsFixed (path_map moves) (words_of runs) → vector_along moves w ≡ w
  fixed_vector same =
      same_number_lists (vector_along moves w) w (laws.multicurve.one_per_edge ∙ sym m.one_per_edge)
      (λ e below.
      let edge : e < edge_count triples = subst (λ (n : ℕ). e < n) laws.multicurve.one_per_edge below in
      laws.image.counts runs d e edge
      ∙ g.same.crossed e (images_under (path_map moves) (words_of runs)) (words_of runs) same
      ∙ (g.drawings triples p).counts w runs m d e edge)

  -- a drawing of w is one of the vector at the end
  fixed_curves : vector_along moves w ≡ w → IsFixed (path_map moves) (words_of runs)
  fixed_curves same = laws.curves runs runs d (subst (λ (v : List ℕ). IsDrawing triples v runs) (sym same) d)

flipped_triangulation : Given → (before target : List (List ℤ)) (e a b c d : ℤ) → IsTriangulation before
    → IsFlip before target e a b c d → IsTriangulation target
flipped_triangulation g before target e a b c d p h =
    subst IsTriangulation (sym h.result) (g.lower.flips.flips before e p h.label h.flippable).triangulation

number_laws : Given → NumberLaws
number_laws g = record {
  enough =
      λ before target e a b c d w p h m. enough g before target e a b c d p
      (flipped_triangulation g before target e a b c d p h) h w m;
  enough_back =
      λ before target e a b c d w p h m. enough_back g before target e a b c d p
      (flipped_triangulation g before target e a b c d p h) h w m;
  moved = λ before target images w x h l. weight-image g.lower before target images w h x l;
}

pub vector_laws : Given → VectorLaws
vector_laws g = record {
  numbers = number_laws g;
  join = vector_along-append;
  next = vector_along-next;
  moves = moved_laws g;
  paths = along_laws g;
  fixed =
      λ triples moves w runs p h m d.
      (fixed_vector g triples moves w runs p h m d, fixed_curves g triples moves w runs p h m d);
  overflow = λ before target moves w bound p h m small. overflow_laws g before target moves w bound p h m small;
}
