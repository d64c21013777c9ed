-- The coordinates that follow a path, power by power.
use Rattle.std.proofs.Common.{◌≡◌, ◌≢◌, ◌<◌, ◌≤◌, ◌⊎◌, inl, inr, ◌+◌, ℕ, List, sym, ◌∙◌, ap, arith}
use Rattle.std.proofs.Math.Nat.{eq-or-lt_of_le}
use Rattle.ideal_tri.specs.Vectors.{IsMulticurve}
use Rattle.tri_atlas.specs.Arena.{Arena, triangulation}
use Rattle.tri_atlas.specs.MovedVectors.{vector_along}
use Rattle.tri_atlas.specs.Paths.{MovePath, moves_of}
use Rattle.edge_coords.specs.Coordinates.{Coordinates, AreCoordinatesIn}
use Rattle.edge_coords.specs.MovedCoordinates.{moved_along}
use Rattle.multicurve_cert.specs.Candidates.{image_number}
use Rattle.multicurve_cert.specs.PowerLaws.{PowerLaws}

-- the image under the n-th power; no power so far, but for the 0th, has given the coordinates back
pub record IsFollowed (arena : Arena) (word : MovePath) (w : Coordinates) (n : ℕ) (image : Coordinates)
    : Type 0 where
  pub coordinates : AreCoordinatesIn arena image
  pub base : image.tri ≡ 0
  pub numbers : image.numbers ≡ image_number (triangulation arena 0) (moves_of arena word) w.numbers n
  pub moved : (k : ℕ) → 0 < k → k ≤ n
      → image_number (triangulation arena 0) (moves_of arena word) w.numbers k ≢ w.numbers

module _ (arena : Arena) (word : MovePath) (w : Coordinates) where
  after_power : ℕ → List ℕ
  after_power k = image_number (triangulation arena 0) (moves_of arena word) w.numbers k

  -- all powers up to the next have moved w, where those before and the next have
  moved_up_to : (n k : ℕ) (numbers : List ℕ)
      → ((i : ℕ) → 0 < i → i ≤ n → after_power i ≢ w.numbers) → numbers ≡ after_power (n + 1)
      → numbers ≢ w.numbers → 0 < k → (k ≡ n + 1) ⊎ (k < n + 1) → after_power k ≢ w.numbers
  moved_up_to n k numbers before is_next moves some (inl last) fixed =
      moves (is_next ∙ sym (ap after_power last) ∙ fixed)
  moved_up_to n k numbers before is_next moves some (inr less) fixed = before k some (omega arith) fixed

  -- one power more
  pub follow_more : (n : ℕ) (image new : Coordinates) → PowerLaws (triangulation arena 0) (moves_of arena word)
      → IsMulticurve (triangulation arena 0) w.numbers → word.end ≡ 0 → IsFollowed arena word w n image
      → new ≡ moved_along arena word image → AreCoordinatesIn arena new → new.numbers ≢ w.numbers
      → IsFollowed arena word w (n + 1) new
  unfolding after_power
  follow_more n image new powers curve end h is_moved here moves =
      let numbers : new.numbers ≡ after_power (n + 1) =
      ap (λ (c : Coordinates). c.numbers) is_moved ∙ ap (vector_along (moves_of arena word)) h.numbers
      ∙ sym (powers.next w.numbers n curve) in record {
        coordinates = here;
        base = ap (λ (c : Coordinates). c.tri) is_moved ∙ end;
        numbers = numbers;
        moved = λ k some within.
            moved_up_to n k new.numbers h.moved numbers moves some (eq-or-lt_of_le within);
      }
