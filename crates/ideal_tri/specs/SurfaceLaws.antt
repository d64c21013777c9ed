-- What holds of triangulations, and of walks on them.
use Rattle.std.specs.Prelude.{◌≡◌, ◌≢◌, ◌<◌, ◌⊎◌, ◌++◌, ℕ, ℤ, List, [], length, slice_index_or}
use Rattle.std.specs.Prelude.{All, Contains}
use Rattle.ideal_tri.specs.Vertices.{corner_step, corner_after}
use Rattle.ideal_tri.specs.Words.{inverse_word, reduce, cyclic_reduce}
use Rattle.ideal_tri.specs.Triangulations.{IsLabel, IsTriangulation, IsWalk, triangle_of, next}
use Rattle.ideal_tri.specs.Triangulations.{previous}

-- next runs round the three sides of a triangle
pub record TriangleLaws (triples : List (List ℤ)) : Type 0 where
  pub triangle : (x : ℤ) → IsLabel triples x → triangle_of triples x < length triples
  -- the sides of the triangle with the number t are labels, and t is their triangle
  pub listed : (t : ℕ) (x : ℤ) → t < length triples → Contains (slice_index_or triples t []) x
      → IsLabel triples x × (triangle_of triples x ≡ t)
  pub label : (x : ℤ) → IsLabel triples x → IsLabel triples (next triples x)
  pub round : (x : ℤ) → IsLabel triples x → next triples (previous triples x) ≡ x
  pub moves : (x : ℤ) → IsLabel triples x → (next triples x ≢ x) × (previous triples x ≢ x)
  pub stays : (x : ℤ) → IsLabel triples x
      → triangle_of triples (next triples x) ≡ triangle_of triples x
  pub sides : (x y : ℤ) → IsLabel triples x → IsLabel triples y
      → triangle_of triples y ≡ triangle_of triples x
      → (y ≡ x) ⊎ ((y ≡ next triples x) ⊎ (y ≡ previous triples x))
  -- a corner that is alone at its vertex comes after itself, however often it is turned
  pub alone : (n : ℕ) (x : ℤ) → corner_step triples x ≡ x → corner_after triples n x ≡ x

-- walks join, go back, have walks as parts, and may be reduced; the cyclic reduction of a closed
-- walk is closed
pub record WalkLaws (triples : List (List ℤ)) : Type 0 where
  pub join : (r s t : ℕ) (u v : List ℤ) → IsWalk triples r u s → IsWalk triples s v t
      → IsWalk triples r (u ++ v) t
  pub back : (s t : ℕ) (w : List ℤ) → IsWalk triples s w t → IsWalk triples t (inverse_word w) s
  pub reduced : (s t : ℕ) (w : List ℤ) → IsWalk triples s w t → IsWalk triples s (reduce w) t
  pub parts : (s t : ℕ) (u v : List ℤ) → IsWalk triples s (u ++ v) t
      → (r : ℕ) × IsWalk triples s u r × IsWalk triples r v t
  pub core : (s : ℕ) (w : List ℤ) → IsWalk triples s w s
      → (r : ℕ) × IsWalk triples r (cyclic_reduce w) r

-- all of them, for every triangulation; and the letters of a walk are labels
pub record SurfaceLaws : Type 0 where
  pub triangles : (triples : List (List ℤ)) → IsTriangulation triples → TriangleLaws triples
  pub walks : (triples : List (List ℤ)) → IsTriangulation triples → WalkLaws triples
  pub letters : (triples : List (List ℤ)) (s t : ℕ) (w : List ℤ) → IsWalk triples s w t
      → All (IsLabel triples) w
