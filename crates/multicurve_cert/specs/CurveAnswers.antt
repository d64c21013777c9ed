-- What the search for a multicurve that a word fixes answers. Its candidates are tried in order.
use Rattle.std.specs.Prelude.{◌≡◌, ◌<◌, ◌*◌, ◌/◌, ◌%◌, ℕ, ℤ, List, [], length, min, slice_index_or}
use Rattle.ideal_tri.specs.PeripheralParts.{HasFreeCorners}
use Rattle.tri_atlas.specs.Arena.{Arena, triangulation}
use Rattle.tri_atlas.specs.Moves.{Move}
use Rattle.edge_coords.specs.Coordinates.{AreCoordinatesIn}
use Rattle.edge_coords.specs.declared.lines.CurveLine.{CurveLine}
use Rattle.multicurve_cert.specs.Candidates.{candidate, kinds, IsLineOf, Passes}
use Rattle.multicurve_cert.specs.Cycles.{AreCycles, cycle_vector}
use Rattle.multicurve_cert.specs.declared.curve_search.Curves.{Curves}
use Rattle.multicurve_cert.specs.declared.curve_search.Curves.TheVariants.{Found, None}

-- candidate n, of C cycles, has the cycle n mod C and the kind n div C: its vector
abbrev pub vector_of : List (List ℤ) → List (List ℤ) → ℕ → List ℕ
vector_of triples cycles n = cycle_vector triples (slice_index_or cycles (n % length cycles) [])

abbrev pub kind_of : List (List ℤ) → ℕ → ℕ
kind_of cycles n = n / length cycles

-- how many candidates there are within the budget
abbrev pub candidate_count : List (List ℤ) → ℕ → ℕ
candidate_count cycles budget = min budget (kinds * length cycles)

-- candidate n passes
abbrev pub PassesAt : List (List ℤ) → List Move → List (List ℤ) → ℕ → Type 0
PassesAt triples moves cycles n = Passes triples moves (vector_of triples cycles n) (kind_of cycles n)

-- with these cycles, candidate `number` is the first within the budget that passes, and has these
-- numbers
pub record IsFirstPassing (triples : List (List ℤ)) (moves : List Move) (budget number : ℕ)
    (numbers : List ℕ) : Type 0 where
  pub cycles : List (List ℤ)
  pub are_cycles : AreCycles triples cycles
  pub within : number < candidate_count cycles budget
  pub passes : PassesAt triples moves cycles number
  pub are_numbers : numbers
      ≡ candidate triples moves (vector_of triples cycles number) (kind_of cycles number)
  pub before : (n : ℕ) → n < number → ¬ PassesAt triples moves cycles n

-- one line for each candidate within the budget: the first test that it fails
pub record AreAllFailing (triples : List (List ℤ)) (moves : List Move) (budget : ℕ)
    (log : List CurveLine) : Type 0 where
  pub cycles : List (List ℤ)
  pub are_cycles : AreCycles triples cycles
  pub one_line_each : length log ≡ candidate_count cycles budget
  pub lines : (n : ℕ) (line : CurveLine) → n < length log
      → IsLineOf triples moves (vector_of triples cycles n) (kind_of cycles n)
      (slice_index_or log n line)

-- the answer of the search among so many candidates
abbrev pub IsCurvesAnswer : List (List ℤ) → List Move → ℕ → Curves → Type 0
IsCurvesAnswer triples moves budget (Found number coords) =
    IsFirstPassing triples moves budget number coords.numbers
IsCurvesAnswer triples moves budget (None log) = AreAllFailing triples moves budget log.items

-- what is found stands at the base, and none of its curves runs round a vertex
abbrev pub IsFoundIn : Arena → Curves → Type 0
IsFoundIn arena (Found number coords) =
    (coords.tri ≡ 0) × AreCoordinatesIn arena coords
    × HasFreeCorners (triangulation arena 0) coords.numbers
IsFoundIn arena (None log) = Unit {0}
