-- Why numbers are no coordinates: the first of these that holds.
use Rattle.std.specs.Prelude.{◌≡◌, ◌≢◌, ◌<◌, ◌≤◌, ℕ, ℤ, List, [], length, All}
use Rattle.std.specs.Prelude.{slice_index, slice_index_or}
use Rattle.ideal_tri.specs.Triangulations.{edge_count}
use Rattle.ideal_tri.specs.Vectors.{IsEven, HasNoLongSide}
use Rattle.edge_coords.specs.Coordinates.{AreSmall}
use Rattle.edge_coords.specs.declared.coords.TheConstants.{COORDINATE_LIMIT}
use Rattle.edge_coords.specs.declared.coords.CoordsError.{CoordsError}
use Rattle.edge_coords.specs.declared.coords.CoordsError.TheVariants.{WrongLength, TooLarge}
use Rattle.edge_coords.specs.declared.coords.CoordsError.TheVariants.{OddTriangle, LongSide}

-- i is the least place of a number that is too large
pub record IsLeastTooLarge (numbers : List ℕ) (i : ℕ) : Type 0 where
  pub within : i < length numbers
  pub large : COORDINATE_LIMIT ≤ slice_index numbers i
  pub before : (k : ℕ) → k < i → slice_index numbers k < COORDINATE_LIMIT

-- t is the least triangle that fails the test
pub record IsLeastFailing (triples : List (List ℤ)) (Passes : List ℤ
    → Type 0) (t : ℕ) : Type 0 where
  pub within : t < length triples
  pub fails : ¬ Passes (slice_index_or triples t [])
  pub before : (s : ℕ) → s < t → Passes (slice_index_or triples s [])

-- this refusal fits, and none that is tested before it
abbrev pub IsRefusedFor : List (List ℤ) → List ℕ → CoordsError → Type 0
IsRefusedFor triples numbers (WrongLength n) = (n ≡ length numbers)
    × (length numbers ≢ edge_count triples)
IsRefusedFor triples numbers (TooLarge i) = (length numbers ≡ edge_count triples)
    × IsLeastTooLarge numbers i
IsRefusedFor triples numbers (OddTriangle t) =
    (length numbers ≡ edge_count triples) × AreSmall numbers
    × IsLeastFailing triples (IsEven numbers) t
IsRefusedFor triples numbers (LongSide t) =
    (length numbers ≡ edge_count triples) × AreSmall numbers
    × All (IsEven numbers) triples × IsLeastFailing triples (HasNoLongSide numbers) t
