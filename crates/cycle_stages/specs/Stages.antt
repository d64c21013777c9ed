-- The stages of a cycle: the last of its first images under the word that stays small, and flips of
-- the edges that it crosses most. The word's path runs from the triangulation to itself, and these
-- are its moves.
use Rattle.std.specs.Prelude.{◌<◌, ◌≤◌, ℕ, zero, suc, ℤ, pos, List, [], ◌∷◌, slice_index}
use Rattle.ideal_tri.specs.Flips.{flipped}
use Rattle.tri_atlas.specs.Arena.{flip_of}
use Rattle.tri_atlas.specs.FlipPaths.{IsFlippableEdge}
use Rattle.tri_atlas.specs.MovedVectors.{vector_after, IsOver}
use Rattle.tri_atlas.specs.Moves.{Move}
use Rattle.edge_coords.specs.declared.coords.TheConstants.{COORDINATE_LIMIT}
use Rattle.multicurve_cert.specs.Candidates.{image_number, Overflows}

-- ---- the image

-- the most times that the word is taken
abbrev pub image_limit : ℕ
image_limit = 12

-- the images under the powers up to the n-th stay below the limit on the way, and no further one does
-- among the first
pub record IsLastSmall (triples : List (List ℤ)) (moves : List Move) (w : List ℕ) (n : ℕ)
    : Type 0 where
  pub within : n ≤ image_limit
  pub small : ¬ Overflows triples moves w n
  pub last : (k : ℕ) → n < k → k ≤ image_limit → Overflows triples moves w k

-- ---- the flips

-- the flippable edge of the greatest number, the least one of these
pub record IsGreatest (triples : List (List ℤ)) (w : List ℕ) (e : ℕ) : Type 0 where
  pub flippable : IsFlippableEdge triples e
  pub greatest : (f : ℕ) → IsFlippableEdge triples f → slice_index w f ≤ slice_index w e
  pub first : (f : ℕ) → f < e → IsFlippableEdge triples f → slice_index w f < slice_index w e

-- the flip of the greatest edge would give it a number that reaches the limit, or no edge can be
-- flipped
abbrev pub HasNoNext : List (List ℤ) → List ℕ → Type 0
HasNoNext triples w =
    (e : ℕ) → IsGreatest triples w e → IsOver COORDINATE_LIMIT (flip_of triples (pos e)) w

-- so many flips of greatest edges, fewer where the next new number would reach the limit: from a
-- triangulation and a vector over the flips of these edges to another triangulation and vector
pub data AreGreatestFlips
    : List (List ℤ) → List ℕ → ℕ → List ℕ → List (List ℤ) → List ℕ → Type 0 where
  made : (triples : List (List ℤ)) (w : List ℕ) → AreGreatestFlips triples w zero [] triples w
  ended : (triples : List (List ℤ)) (w : List ℕ) (depth : ℕ)
      → HasNoNext triples w → AreGreatestFlips triples w (suc depth) [] triples w
  flip : (triples after : List (List ℤ)) (w v edges : List ℕ) (e depth : ℕ) → IsGreatest triples w e
      → ¬ IsOver COORDINATE_LIMIT (flip_of triples (pos e)) w
      → AreGreatestFlips (flipped triples (pos e)) (vector_after (flip_of triples (pos e)) w) depth
      edges after v
      → AreGreatestFlips triples w (suc depth) (e ∷ edges) after v

-- ---- the stage

-- the stage of this depth of the cycle with the vector w: the flips, the triangulation behind them,
-- and the vector there
pub record IsStage (triples : List (List ℤ)) (moves : List Move) (w : List ℕ) (depth : ℕ)
    (edges : List ℕ) (there : List (List ℤ)) (v : List ℕ) : Type 0 where
  pub times : ℕ
  pub last : IsLastSmall triples moves w times
  pub flips : AreGreatestFlips triples (image_number triples moves w times) depth edges there v
