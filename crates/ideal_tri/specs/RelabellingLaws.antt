-- What holds of relabellings: they are bijections that go with `next`; their inverses and
-- compositions are relabellings; they carry the curves of a vector to curves counted by the moved
-- vector.
use Rattle.std.specs.Prelude.{◌≡◌, ◌<◌, ℕ, ℤ, pos, List, length, map, slice_index, All}
use Rattle.ideal_tri.specs.Labels.{edge_of}
use Rattle.ideal_tri.specs.Triangulations.{IsTriangulation, IsLabel, edge_count, triangle_of, next}
use Rattle.ideal_tri.specs.Vectors.{IsMulticurve}
use Rattle.ideal_tri.specs.Strands.{State, IsDrawing, words_of}
use Rattle.ideal_tri.specs.Curves.{crossings}
use Rattle.ideal_tri.specs.Relabellings.{image_of, IsBijection, inverse_images, IsTriangleOf}
use Rattle.ideal_tri.specs.Relabellings.{IsCarried, IsRelabelling, reduced_images}

-- each edge of `to` is the image of one of `from`
abbrev pub IsOnto : List (List ℤ) → List (List ℤ) → List ℤ → Type 0
IsOnto from to images =
    (e : ℕ) → e < edge_count to
    → (d : ℕ) × (d < edge_count from) × (edge_of (image_of images (pos d)) ≡ e)

-- the images of the curves that draw a vector of `from` cross the image of each edge as often as
-- the vector says of the edge
abbrev pub MovesCounts : List (List ℤ) → List ℤ → Type 0
MovesCounts from images =
    (w : List ℕ) (runs : List (List State)) → IsMulticurve from w → IsDrawing from w runs
    → (e : ℕ) → e < edge_count from
    → crossings (edge_of (image_of images (pos e))) (reduced_images images (words_of runs))
    ≡ slice_index w e

pub record RelabellingLaws : Type 0 where
  -- ---- labels
  pub bijection : (from to : List (List ℤ)) (images : List ℤ) → IsRelabelling from to images
      → IsBijection images
  pub edges : (from to : List (List ℤ)) (images : List ℤ) → IsRelabelling from to images
      → edge_count from ≡ edge_count to
  pub label : (from to : List (List ℤ)) (images : List ℤ) (x : ℤ) → IsRelabelling from to images
      → IsLabel from x
      → IsLabel to (image_of images x)
  pub made : (from to : List (List ℤ)) (images : List ℤ) → IsBijection images
      → length images ≡ edge_count from → edge_count from ≡ edge_count to
      → All (IsCarried to images) from → IsRelabelling from to images
  pub onto : (from to : List (List ℤ)) (images : List ℤ) → IsRelabelling from to images
      → IsOnto from to images
  -- ---- triangles
  pub triangle : (from to : List (List ℤ)) (images t : List ℤ) → IsRelabelling from to images
      → IsTriangleOf from t → IsTriangleOf to (map (image_of images) t)
  pub next : (from to : List (List ℤ)) (images : List ℤ) (x : ℤ) → IsTriangulation from
      → IsTriangulation to → IsRelabelling from to images
      → IsLabel from x → next to (image_of images x) ≡ image_of images (next from x)
  pub one_triangle : (from to : List (List ℤ)) (images : List ℤ) (x y : ℤ) → IsTriangulation from
      → IsTriangulation to → IsRelabelling from to images → IsLabel from x → IsLabel from y
      → triangle_of from x ≡ triangle_of from y
      → triangle_of to (image_of images x) ≡ triangle_of to (image_of images y)
  -- ---- relabellings back, and one after another
  pub back : (from to : List (List ℤ)) (images : List ℤ) → IsTriangulation from → IsTriangulation to
      → IsRelabelling from to images
      → IsRelabelling to from (inverse_images images)
  pub through : (from between to : List (List ℤ)) (images others : List ℤ) → IsTriangulation from
      → IsRelabelling from between images → IsRelabelling between to others
      → IsRelabelling from to (map (image_of others) images)
  -- ---- curves
  pub counts : (from to : List (List ℤ)) (images : List ℤ) → IsTriangulation from
      → IsRelabelling from to images
      → MovesCounts from images
