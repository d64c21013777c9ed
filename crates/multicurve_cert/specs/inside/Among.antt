-- The search among the candidates that are made of given vectors.
use Rattle.std.specs.Prelude.{◌≡◌, ◌<◌, ◌*◌, ◌/◌, ◌%◌, ℕ, ℤ, List, length, min, slice_index_or}
use Rattle.tri_atlas.specs.Arena.{Arena}
use Rattle.tri_atlas.specs.Moves.{Move}
use Rattle.edge_coords.specs.Coordinates.{Coordinates}
use Rattle.edge_coords.specs.declared.lines.CurveLine.{CurveLine}
use Rattle.multicurve_cert.specs.Candidates.{candidate, kinds, IsLineOf, Passes}
use Rattle.multicurve_cert.specs.inside.Images.{AreImages, coords_at, first_of}
use Rattle.multicurve_cert.specs.declared.curve_search.Curves.{Curves}
use Rattle.multicurve_cert.specs.declared.curve_search.Curves.TheVariants.{Found, None}
use Rattle.multicurve_cert.specs.declared.images.Images.{Images}

-- the vector and the kind of candidate n
abbrev pub vector_at : List Coordinates → ℕ → List ℕ
vector_at vectors n = (coords_at vectors (n % length vectors)).numbers

abbrev pub kind_at : List Coordinates → ℕ → ℕ
kind_at vectors n = n / length vectors

-- how many candidates there are within the budget
abbrev pub count_among : List Coordinates → ℕ → ℕ
count_among vectors budget = min budget (kinds * length vectors)

-- candidate n passes
abbrev pub PassesAmong : List (List ℤ) → List Move → List Coordinates → ℕ → Type 0
PassesAmong triples moves vectors n = Passes triples moves (vector_at vectors n) (kind_at vectors n)

-- it is the first within the budget that does, and has these numbers
pub record IsFirstAmong (triples : List (List ℤ)) (moves : List Move) (vectors : List Coordinates)
    (budget number : ℕ) (numbers : List ℕ) : Type 0 where
  pub within : number < count_among vectors budget
  pub passes : PassesAmong triples moves vectors number
  pub are_numbers : numbers
      ≡ candidate triples moves (vector_at vectors number) (kind_at vectors number)
  pub before : (n : ℕ) → n < number → ¬ PassesAmong triples moves vectors n

-- the first candidates have these lines
pub record AreFailingAmong (triples : List (List ℤ)) (moves : List Move)
    (vectors : List Coordinates) (n : ℕ) (log : List CurveLine) : Type 0 where
  pub one_line_each : length log ≡ n
  pub lines : (k : ℕ) (line : CurveLine) → k < length log
      → IsLineOf triples moves (vector_at vectors k) (kind_at vectors k)
      (slice_index_or log k line)

abbrev pub IsAnswerAmong : List (List ℤ) → List Move → List Coordinates → ℕ → Curves → Type 0
IsAnswerAmong triples moves vectors budget (Found number coords) =
    IsFirstAmong triples moves vectors budget number coords.numbers
IsAnswerAmong triples moves vectors budget (None log) =
    AreFailingAmong triples moves vectors (count_among vectors budget) log.items

-- ---- the images that are kept

-- the images of w
pub record AreImagesFrom (arena : Arena) (moves : List Move) (w : List ℕ) (images : Images)
    : Type 0 where
  pub in_order : AreImages arena moves images.ended images.list.items
  pub first : first_of images.list.items ≡ w

-- those of the vectors that the first n candidates are made of
pub record AreKept (arena : Arena) (moves : List Move) (vectors : List Coordinates) (n : ℕ)
    (kept : List Images) : Type 0 where
  pub counted : length kept ≡ min n (length vectors)
  pub each : (i : ℕ) (images : Images) → i < length kept
      → AreImagesFrom arena moves (coords_at vectors i).numbers (slice_index_or kept i images)
