-- What holds of the corners of a vector across a flip.
use Rattle.std.specs.Prelude.{◌≡◌, ◌≤◌, ℕ, ℤ, List, sum, All}
use Rattle.ideal_tri.specs.PeripheralParts.{HasFreeCorners}
use Rattle.ideal_tri.specs.Triangulations.{IsTriangulation}
use Rattle.ideal_tri.specs.Vectors.{IsMulticurve}
use Rattle.tri_atlas.specs.Moves.{flip, IsFlip}
use Rattle.tri_atlas.specs.MovedVectors.{vector_after}

pub record FlippedCornerLaws : Type 0 where
  -- a flip keeps that each vertex has a corner without strands
  pub free : (before after : List (List ℤ)) (e a b c d : ℤ) (w : List ℕ) → IsTriangulation before
      → IsFlip before after e a b c d → IsMulticurve before w → HasFreeCorners before w
      → HasFreeCorners after (vector_after (flip e a b c d) w)
  -- and that something is crossed
  pub some : (before after : List (List ℤ)) (e a b c d : ℤ) (w : List ℕ) → IsTriangulation before
      → IsFlip before after e a b c d → IsMulticurve before w → ¬ All (λ n. n ≡ 0) w
      → ¬ All (λ n. n ≡ 0) (vector_after (flip e a b c d) w)
  -- such a vector has a total of at least 2
  pub two : (triples : List (List ℤ)) (w : List ℕ) → IsTriangulation triples
      → IsMulticurve triples w → HasFreeCorners triples w → ¬ All (λ n. n ≡ 0) w
      → 2 ≤ sum w
