-- Train tracks (after Penner and Harer). A track leaves out some corners of the triangles. At each
-- other corner, which is kept, it joins the two sides there. The corner named x lies between x and
-- the side after it.
use Rattle.std.specs.Prelude.{◌≡◌, ◌≢◌, ◌<◌, ◌+◌, ◌&&◌, ◌||◌, ◌⊎◌, ℕ, ℤ, pos, Bool, true, false}
use Rattle.std.specs.Prelude.{not, List, []}
use Rattle.std.specs.Prelude.{length, map, filter, slice_index_or}
use Rattle.std.specs.List.{list_any, range_with_len}
use Rattle.std.specs.Ordering.{int_eq}
use Rattle.ideal_tri.specs.Labels.{inverse}
use Rattle.ideal_tri.specs.Words.{closed_up}
use Rattle.ideal_tri.specs.Triangulations.{IsLabel, edge_count, triangle_of, next, previous}
use Rattle.ideal_tri.specs.Peripheral.{AllNeighbours}
use Rattle.ideal_tri.specs.Vertices.{rank, IsSameVertex}

-- the corner is one of those left out
unfoldable pub is_left_out : List ℤ → ℤ → Bool
is_left_out left_out x = list_any (λ y. int_eq y x) left_out

-- the entry at i is a label, and above the one before in the order of labels
abbrev pub IsPlaced : List (List ℤ) → List ℤ → ℕ → Type 0
IsPlaced triples xs i =
    IsLabel triples (slice_index_or xs i (pos 0))
    × ((j : ℕ) → j + 1 ≡ i → rank (slice_index_or xs j (pos 0)) < rank
    (slice_index_or xs i (pos 0)))

-- all entries are
abbrev pub ArePlaced : List (List ℤ) → List ℤ → Type 0
ArePlaced triples xs = (i : ℕ) → i < length xs → IsPlaced triples xs i

-- ---- filling tracks

-- no two left-out corners lie in one triangle
abbrev pub IsSingleInTriangles : List (List ℤ) → List ℤ → Type 0
IsSingleInTriangles triples left_out = (x y : ℤ) → IsLabel triples x → IsLabel triples y
    → is_left_out left_out x ≡ true → is_left_out left_out y ≡ true
    → triangle_of triples x ≡ triangle_of triples y → x ≡ y

-- some left-out corner lies at each vertex
abbrev pub IsOpenAtVertices : List (List ℤ) → List ℤ → Type 0
IsOpenAtVertices triples left_out = (x : ℤ) → IsLabel triples x
    → (y : ℤ) × IsLabel triples y × IsSameVertex triples x y × (is_left_out left_out y ≡ true)

-- each triangle has at most one left-out corner, and each vertex at least one
pub record IsFilling (triples : List (List ℤ)) (left_out : List ℤ) : Type 0 where
  pub single : IsSingleInTriangles triples left_out
  pub opened : IsOpenAtVertices triples left_out

-- ---- legal walks

-- the neighbours u, v of a walk use the corner x, which lies between the sides inverse u and v of
-- the triangle that they meet in; so v is not inverse u
abbrev pub UsesCorner : List (List ℤ) → ℤ → ℤ → ℤ → Type 0
UsesCorner triples u v x =
    ((v ≡ next triples (inverse u)) × (x ≡ inverse u)) ⊎ ((inverse u ≡ next triples v) × (x ≡ v))

-- they use a kept corner
pub record IsLegalPair (triples : List (List ℤ)) (left_out : List ℤ) (u v : ℤ) : Type 0 where
  pub corner : ℤ
  pub used : UsesCorner triples u v corner
  pub kept : is_left_out left_out corner ≡ false

-- each two neighbours do
abbrev pub IsLegal : List (List ℤ) → List ℤ → List ℤ → Type 0
IsLegal triples left_out w = AllNeighbours (IsLegalPair triples left_out) w

-- of a closed walk, which has at least one letter, the last and the first letter too
abbrev pub IsClosedLegal : List (List ℤ) → List ℤ → List ℤ → Type 0
IsClosedLegal triples left_out w = (w ≢ []) × IsLegal triples left_out (closed_up w)

-- ---- switches

-- both corners of the side x are kept
unfoldable pub is_fork : List (List ℤ) → List ℤ → ℤ → Bool
is_fork triples left_out x =
    not (is_left_out left_out x) && not (is_left_out left_out (previous triples x))

-- the edge of x has such a side
unfoldable pub is_switch : List (List ℤ) → List ℤ → ℤ → Bool
is_switch triples left_out x = is_fork triples left_out x || is_fork triples left_out (inverse x)

-- the switches, each by its label that is not negative, in the order of their numbers
abbrev pub switches_of : List (List ℤ) → List ℤ → List ℤ
switches_of triples left_out =
    filter (is_switch triples left_out) (map pos (range_with_len 0 (edge_count triples)))
