-- What holds of the triples of a triangulation, read from any of their sides.
use Rattle.std.specs.Prelude.{◌≡◌, ◌<◌, ◌⊎◌, ℕ, ℤ, List, [], ◌∷◌, length, slice_index_or}
use Rattle.ideal_tri.specs.Words.{IsRotation}
use Rattle.ideal_tri.specs.Triangulations.{IsTriangulation, IsLabel, next, previous}
use Rattle.ideal_tri.specs.Relabellings.{IsTriangleOf}

pub record TripleLaws : Type 0 where
  -- a triple lists three labels, and has three rotations
  pub listed : (t : List ℤ) → length t ≡ 3 → (x : ℤ) × (y : ℤ) × (z : ℤ) × (t ≡ x ∷ (y ∷ (z ∷ [])))
  pub rotations : (x y z : ℤ) (t : List ℤ) → IsRotation (x ∷ (y ∷ (z ∷ []))) t
      → (t ≡ x ∷ (y ∷ (z ∷ []))) ⊎ ((t ≡ y ∷ (z ∷ (x ∷ []))) ⊎ (t ≡ z ∷ (x ∷ (y ∷ []))))
  -- each triple is a triangle, read from any of its sides
  pub stands : (triples : List (List ℤ)) (k : ℕ) → k < length triples
      → IsTriangleOf triples (slice_index_or triples k [])
  pub turned : (triples : List (List ℤ)) (s t : List ℤ) → IsRotation s t → IsTriangleOf triples t
      → IsTriangleOf triples s
  -- a label and the two that follow it are a triangle, and in a triangle the labels follow each
  -- other
  pub at_label : (triples : List (List ℤ)) (x : ℤ) → IsTriangulation triples → IsLabel triples x
      → IsTriangleOf triples (x ∷ (next triples x ∷ (previous triples x ∷ [])))
  pub sides : (triples : List (List ℤ)) (x y z : ℤ) → IsTriangulation triples
      → IsTriangleOf triples (x ∷ (y ∷ (z ∷ [])))
      → IsLabel triples x × (next triples x ≡ y) × (next triples y ≡ z)
