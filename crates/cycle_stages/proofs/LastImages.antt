-- The last image that stays small, as the word is taken once more and once more.
use Rattle.std.proofs.Common.{◌≡◌, ◌≤◌, ◌+◌, ℕ, List, sym, ◌∙◌, ap, subst, arith}
use Rattle.ideal_tri.specs.Vectors.{IsMulticurve}
use Rattle.tri_atlas.specs.Arena.{Arena, triangulation}
use Rattle.tri_atlas.specs.MovedVectors.{vector_along, OverflowsAt}
use Rattle.tri_atlas.specs.Paths.{MovePath, moves_of}
use Rattle.edge_coords.specs.Coordinates.{Coordinates, AreCoordinatesIn, AreSmall}
use Rattle.edge_coords.specs.MovedCoordinates.{moved_along}
use Rattle.edge_coords.specs.declared.coords.TheConstants.{COORDINATE_LIMIT}
use Rattle.multicurve_cert.specs.Candidates.{HasSmallImage, Overflows, image_number}
use Rattle.multicurve_cert.specs.PowerLaws.{PowerLaws}
use Rattle.cycle_stages.specs.Stages.{image_limit}
use Rattle.cycle_stages.specs.inside.NextFlips.{IsLastImage}

-- the image under the n-th power, small on the way
pub record IsSmallImage (arena : Arena) (word : MovePath) (w : Coordinates) (n : ℕ) (image : Coordinates)
    : Type 0 where
  pub coordinates : AreCoordinatesIn arena image
  pub base : image.tri ≡ 0
  pub numbers : image.numbers ≡ image_number (triangulation arena 0) (moves_of arena word) w.numbers n
  pub small : ¬ Overflows (triangulation arena 0) (moves_of arena word) w.numbers n

module _ (arena : Arena) (word : MovePath) (w : Coordinates)
    (laws : PowerLaws (triangulation arena 0) (moves_of arena word)) (here : AreCoordinatesIn arena w)
    (base : w.tri ≡ 0) where
  curve : IsMulticurve (triangulation arena 0) w.numbers
  curve = subst (λ (t : ℕ). IsMulticurve (triangulation arena t) w.numbers) base here.multicurve

  module _ (n : ℕ) (image : Coordinates) (h : IsSmallImage arena word w n image) where
    small_there : AreSmall (image_number (triangulation arena 0) (moves_of arena word) w.numbers n)
    small_there = subst AreSmall h.numbers h.coordinates.small

    -- once more
    pub small_more : (new : Coordinates) → word.end ≡ 0 → new ≡ moved_along arena word image
        → AreCoordinatesIn arena new
        → HasSmallImage (triangulation arena image.tri) (moves_of arena word) image.numbers
        → IsSmallImage arena word w (n + 1) new
    small_more new end is_moved there low = record {
      coordinates = there;
      base = ap (λ (c : Coordinates). c.tri) is_moved ∙ end;
      numbers =
          ap (λ (c : Coordinates). c.numbers) is_moved ∙ ap (vector_along (moves_of arena word)) h.numbers
          ∙ sym (laws.next w.numbers n curve);
      small = laws.next_small w.numbers n curve here.small small_there h.small
          (subst (HasSmallImage (triangulation arena 0) (moves_of arena word)) h.numbers
          (subst (λ (t : ℕ). HasSmallImage (triangulation arena t) (moves_of arena word) image.numbers) h.base low));
    }

    -- or the next one is too large
    pub small_last : n ≤ image_limit → (k : ℕ)
        → OverflowsAt COORDINATE_LIMIT (triangulation arena image.tri) image.numbers (moves_of arena word) k
        → IsLastImage (triangulation arena 0) (moves_of arena word) w.numbers image.numbers
    small_last within k large = record {
      times = n;
      last = record {
        within = within;
        small = h.small;
        last = λ m more few. laws.later w.numbers (n + 1) m curve here.small (omega arith)
            (laws.next_large w.numbers n k curve here.small small_there h.small
            (subst (λ (v : List ℕ). OverflowsAt COORDINATE_LIMIT (triangulation arena 0) v (moves_of arena word) k)
            h.numbers
            (subst (λ (t : ℕ). OverflowsAt COORDINATE_LIMIT (triangulation arena t) image.numbers
            (moves_of arena word) k) h.base large)));
      };
      numbers = h.numbers;
    }
