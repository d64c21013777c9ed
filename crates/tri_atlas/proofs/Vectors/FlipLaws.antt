-- The vector after a flip, and after a backward flip: its multicurve, its curves, and the way back.
--
-- The pair of the two vectors has the properties by which drawings are carried, forwards and backwards; so the images
-- of the words of any drawing are the words of any drawing after the move, and these cross each edge as often as the
-- new vector says.
use Rattle.std.proofs.Common.{ℕ, ℤ, List, ◌≡◌, ◌≢◌, ◌<◌, refl, sym, ◌∙◌, subst, arith, length, set}
use Rattle.ideal_tri.specs.Labels.{inverse, edge_of}
use Rattle.ideal_tri.specs.Curves.{IsSameCurves}
use Rattle.ideal_tri.specs.Triangulations.{IsTriangulation, edge_count}
use Rattle.ideal_tri.specs.Vectors.{IsMulticurve, weight}
use Rattle.ideal_tri.specs.Drawings.{draw}
use Rattle.ideal_tri.specs.Strands.{State, IsDrawing, words_of}
use Rattle.tri_atlas.specs.Moves.{IsFlip, flip, unflip}
use Rattle.tri_atlas.specs.Maps.{step_before, image_of_letter, images_under, IsImageVector}
use Rattle.tri_atlas.specs.MovedVectors.{greater_sum, flipped_number}
use Rattle.tri_atlas.specs.VectorLaws.{MovedLaws}
use Rattle.tri_atlas.proofs.Flips.{flip_edges}
use Rattle.tri_atlas.proofs.FlipImages.{step_before-inverse}
use Rattle.tri_atlas.proofs.Vectors.Given.{Given}
use Rattle.tri_atlas.proofs.Vectors.Pairs.{IsFlippedPair}
use Rattle.tri_atlas.proofs.Vectors.Flipped.{IsFlippedVector, flipped_vector, flip_back, pair_of, same_sum}
use Rattle.tri_atlas.proofs.Vectors.Flipped.{enough, enough_back, flip_multicurve, unflip_multicurve}
use Rattle.tri_atlas.proofs.Vectors.CarriedDrawings.{passed_words}
use Rattle.tri_atlas.proofs.Vectors.Passing.{flip_passing, passing_back}

-- ---- from the curves to their crossings

-- a vector whose curves are the images of those of w counts the crossings of these images
pub image_of_curves : Given → (before target : List (List ℤ)) (w v : List ℕ) (f : ℤ → List ℤ) → IsTriangulation target
    → IsMulticurve before w → IsMulticurve target v → edge_count target ≡ edge_count before
    → ((runs after : List (List State)) → IsDrawing before w runs → IsDrawing target v after
    → IsSameCurves (images_under f (words_of runs)) (words_of after))
    → IsImageVector before w f v
image_of_curves g before target w v f t given m edges curves = record {
  multicurve = given;
  one_per_edge = m.one_per_edge ∙ edges;
  counts = λ runs d e below.
      let after : List (List State) = draw target v in
      let drawn : IsDrawing target v after = (g.drawings target t).exists v m in
      sym ((g.drawings target t).counts v after m drawn e (subst (λ (n : ℕ). e < n) (sym edges) below))
      ∙ sym (g.same.crossed e (images_under f (words_of runs)) (words_of after) (curves runs after d drawn));
}

-- ---- the laws of a flip

module _ (g : Given) (before target : List (List ℤ)) (e a b c d : ℤ) (p : IsTriangulation before)
    (t : IsTriangulation target) (h : IsFlip before target e a b c d) (w : List ℕ) where
  abbrev v : List ℕ
  v = set w (edge_of e) (flipped_number w e a b c d)

  edges : edge_count target ≡ edge_count before
  edges = flip_edges g.lower before target e a b c d h

  pub flip_laws : IsMulticurve before w → MovedLaws before target (flip e a b c d) w
  flip_laws m =
      let within : edge_of e < length w = subst (λ (n : ℕ). edge_of e < n) (sym m.one_per_edge) h.label in
      let new : IsFlippedVector w v e a b c d =
      flipped_vector w e a b c d within (enough g before target e a b c d p t h w m) in
      let k : IsMulticurve target v = flip_multicurve g before target e a b c d p t h w m v new in
      let pair : IsFlippedPair before target w v e (inverse e) a b c d =
      pair_of g before target e a b c d p t h w v m k new.numbers new.sum in
      let curves =
      passed_words g before target w v (edge_of e) (step_before e b d)
      (flip_passing g.lower before target w v e (inverse e) a b c d (g.strands before p)
      (g.strands target t) m k pair) p t m k edges in
      record {
        multicurve = k;
        curves = λ runs after drawn other. curves runs drawn after other;
        image = image_of_curves g before target w v (image_of_letter (flip e a b c d)) t m k edges
            (λ runs after drawn other. curves runs drawn after other);
        back = flip_back w v e a b c d refl new (same_sum g before target e a b c d p t h w v new.numbers) within;
      }

  -- w on the triangulation after the flip, which goes back
  pub unflip_laws : IsMulticurve target w → MovedLaws target before (unflip e a b c d) w
  unflip_laws m =
      let within : edge_of e < length w = subst (λ (n : ℕ). edge_of e < n) (sym (m.one_per_edge ∙ edges)) h.label in
      let new : IsFlippedVector w v e a b c d =
      flipped_vector w e a b c d within (enough_back g before target e a b c d p t h w m) in
      let k : IsMulticurve before v = unflip_multicurve g before target e a b c d p t h w m v new in
      let numbers : (x : ℤ) → edge_of x ≢ edge_of e → weight w x ≡ weight v x = λ x ne. sym (new.numbers x ne) in
      let same : greater_sum w a b c d ≡ greater_sum v a b c d = same_sum g before target e a b c d p t h v w numbers in
      let pair : IsFlippedPair before target v w e (inverse e) a b c d =
      pair_of g before target e a b c d p t h v w k m numbers (omega (arith, new.sum, same)) in
      let curves =
      passed_words g target before w v (edge_of e) (step_before (inverse e) b d)
      (passing_back g.lower before target v w (edge_of e) (step_before e b d) (step_before (inverse e) b d)
      (flip_passing g.lower before target v w e (inverse e) a b c d (g.strands before p) (g.strands target t) k m pair)
      (step_before-inverse g.lower e b d)) t p m k (sym edges) in
      record {
        multicurve = k;
        curves = λ runs after drawn other. curves runs drawn after other;
        image = image_of_curves g target before w v (image_of_letter (unflip e a b c d)) p m k (sym edges)
            (λ runs after drawn other. curves runs drawn after other);
        back = flip_back w v e a b c d refl new (sym same) within;
      }
