-- What holds of the corners of a vector, and of the curves round vertices.
use Rattle.std.specs.Prelude.{◌≡◌, ◌<◌, ◌≤◌, ◌+◌, ◌↔◌, ℕ, ℤ, List, length, slice_index, All}
use Rattle.ideal_tri.specs.Labels.{inverse}
use Rattle.ideal_tri.specs.Triangulations.{IsLabel, edge_count, previous}
use Rattle.ideal_tri.specs.Vectors.{IsMulticurve, weight, corner_count}
use Rattle.ideal_tri.specs.Strands.{State, IsDrawing, words_of}
use Rattle.ideal_tri.specs.Vertices.{IsSameVertex}
use Rattle.ideal_tri.specs.PeripheralParts.{IsNonperipheral, HasFreeCorners, least_count, stripped}

-- w has these counts at its corners
abbrev pub HasCorners : List (List ℤ) → List ℕ → (ℤ → ℕ) → Type 0
HasCorners triples w count = (x : ℤ) → IsLabel triples x → corner_count triples w x ≡ count x

pub record CornerLaws (triples : List (List ℤ)) : Type 0 where
  -- a vector whose sides are sums of counts at their two ends is a multicurve, with these counts
  pub from_counts : (w : List ℕ) (count : ℤ → ℕ) → length w ≡ edge_count triples
      → ((x : ℤ) → IsLabel triples x → weight w x ≡ count x + count (previous triples x))
      → IsMulticurve triples w × HasCorners triples w count
  -- a sum of multicurves is one, and its corner counts are the sums
  pub sum : (u v w : List ℕ) → IsMulticurve triples u → IsMulticurve triples v
      → length w ≡ edge_count triples
      → ((e : ℕ) → e < edge_count triples → slice_index w e ≡ slice_index u e + slice_index v e)
      → IsMulticurve triples w
      × HasCorners triples w (λ x. corner_count triples u x + corner_count triples v x)
  -- the corners at the two ends of a side
  pub tail : (x : ℤ) → IsLabel triples x → IsSameVertex triples (previous triples x) (inverse x)
  -- the least count of a vertex is that of a corner there, and no corner there has less
  pub there : (w : List ℕ) (x : ℤ) → IsLabel triples x
      → (y : ℤ) × IsSameVertex triples x y × (corner_count triples w y ≡ least_count triples w x)
  pub least : (w : List ℕ) (x y : ℤ) → IsLabel triples x → IsSameVertex triples x y
      → least_count triples w x ≤ corner_count triples w y
  pub same : (w : List ℕ) (x y : ℤ) → IsLabel triples x → IsSameVertex triples x y
      → least_count triples w x ≡ least_count triples w y
  -- a drawing has a word, and none round a vertex, exactly where something is crossed and each
  -- vertex has a free corner
  pub criterion : (w : List ℕ) (runs : List (List State)) → IsMulticurve triples w
      → IsDrawing triples w runs
      → IsNonperipheral triples (words_of runs)
      ↔ ((¬ All (λ n. n ≡ 0) w) × HasFreeCorners triples w)
  -- without the curves round vertices: each corner has lost the least count of its vertex, and
  -- there are no more to take off
  pub stripped_is : (w : List ℕ) → IsMulticurve triples w
      → IsMulticurve triples (stripped triples w)
  pub stripped_corners : (w : List ℕ) (x : ℤ) → IsMulticurve triples w → IsLabel triples x
      → corner_count triples (stripped triples w) x + least_count triples w x
      ≡ corner_count triples w x
  pub stripped_free : (w : List ℕ) → IsMulticurve triples w
      → HasFreeCorners triples (stripped triples w)
  pub stripped_again : (w : List ℕ) → IsMulticurve triples w
      → stripped triples (stripped triples w) ≡ stripped triples w
