-- The curves of a vector that run round vertices, and the vector without them.
use Rattle.std.specs.Prelude.{◌≡◌, ◌≢◌, ◌-◌, ◌*◌, ℕ, zero, suc, ℤ, pos, negsuc, List, [], map, min}
use Rattle.std.specs.Prelude.{slice_index, All}
use Rattle.std.specs.List.{range_with_len}
use Rattle.ideal_tri.specs.Triangulations.{IsLabel, edge_count}
use Rattle.ideal_tri.specs.Vectors.{corner_count}
use Rattle.ideal_tri.specs.Peripheral.{IsPeripheral}
use Rattle.ideal_tri.specs.Vertices.{corner_step, IsSameVertex}

-- there is a word, and none runs round a vertex
pub record IsNonperipheral (triples words : List (List ℤ)) : Type 0 where
  pub some : words ≢ []
  pub none_round : All (λ word. ¬ IsPeripheral triples word) words

-- each vertex has a corner without strands
abbrev pub HasFreeCorners : List (List ℤ) → List ℕ → Type 0
HasFreeCorners triples w = (x : ℤ) → IsLabel triples x
    → (y : ℤ) × IsSameVertex triples x y × (corner_count triples w y ≡ 0)

-- the least count among the corner x and those up to so many steps on
abbrev pub least_count_within : List (List ℤ) → List ℕ → ℕ → ℤ → ℕ
least_count_within triples w zero x = corner_count triples w x
least_count_within triples w (suc n) x =
    min (corner_count triples w x) (least_count_within triples w n (corner_step triples x))

-- the least count among the corners at the vertex of x: so many curves run round it
abbrev pub least_count : List (List ℤ) → List ℕ → ℤ → ℕ
least_count triples w x = least_count_within triples w (2 * edge_count triples) x

-- the vector without those curves. They cross an edge near each of its ends: its head is the vertex
-- of the corner named by its label, its tail that of the corner named by the inverse label
abbrev pub stripped : List (List ℤ) → List ℕ → List ℕ
stripped triples w =
    map (λ e. slice_index w e - least_count triples w (pos e) - least_count triples w (negsuc e))
    (range_with_len 0 (edge_count triples))
