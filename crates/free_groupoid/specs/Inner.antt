-- Inner maps: those that conjugate each walk by walks of their own (Farb and Margalit, chapter 8).
use Rattle.std.specs.Prelude.{◌≡◌, ◌<◌, ◌++◌, ℕ, ℤ, List, ◌∷◌, length}
use Rattle.std.specs.List.{flat_map}
use Rattle.ideal_tri.specs.Labels.{inverse}
use Rattle.ideal_tri.specs.Words.{reduce, cyclic_reduce, IsRotation}
use Rattle.ideal_tri.specs.Triangulations.{IsLabel, IsWalk, triangle_of}

-- the map f of the triangulation to itself is inner by these walks, one from each triangle t to
-- its image: across x and on, or on and along the image of x, is the same reduced walk
pub record IsInner (triples : List (List ℤ)) (f : ℤ → List ℤ) (triangles : ℕ → ℕ)
    (paths : ℕ → List ℤ) : Type 0 where
  pub walks : (t : ℕ) → t < length triples → IsWalk triples t (paths t) (triangles t)
  pub equations : (x : ℤ) → IsLabel triples x
      → reduce (paths (triangle_of triples x) ++ f x)
      ≡ reduce (x ∷ paths (triangle_of triples (inverse x)))

-- the map carries the closed walk to itself, up to rotation
abbrev pub IsKept : (ℤ → List ℤ) → List ℤ → Type 0
IsKept f v = IsRotation (cyclic_reduce (flat_map f v)) v
