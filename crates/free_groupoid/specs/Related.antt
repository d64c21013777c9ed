-- Related maps: two maps from one triangulation to another that differ by walks in the second.
use Rattle.std.specs.Prelude.{◌≡◌, ◌<◌, ◌++◌, ℕ, ℤ, List, length}
use Rattle.std.specs.List.{flat_map}
use Rattle.ideal_tri.specs.Labels.{inverse}
use Rattle.ideal_tri.specs.Words.{reduce, cyclic_reduce, IsRotation}
use Rattle.ideal_tri.specs.Triangulations.{IsLabel, IsWalk, triangle_of}

-- the maps f and g from source to target, with where they send the triangles, are related by these
-- walks, one for each triangle t of source, from the one image of t to the other: the image under f
-- of a letter and on, or on and along its image under g, is the same reduced walk
pub record IsRelated (source target : List (List ℤ)) (f : ℤ → List ℤ) (f_triangles : ℕ → ℕ)
    (g : ℤ → List ℤ) (g_triangles : ℕ → ℕ) (paths : ℕ → List ℤ) : Type 0 where
  pub walks : (t : ℕ) → t < length source
      → IsWalk target (f_triangles t) (paths t) (g_triangles t)
  pub equations : (x : ℤ) → IsLabel source x
      → reduce (paths (triangle_of source x) ++ g x)
      ≡ reduce (f x ++ paths (triangle_of source (inverse x)))

-- the two maps carry the closed walk to the same one, up to rotation
abbrev pub AreAlikeAt : (ℤ → List ℤ) → (ℤ → List ℤ) → List ℤ → Type 0
AreAlikeAt f g v = IsRotation (cyclic_reduce (flat_map f v)) (cyclic_reduce (flat_map g v))
