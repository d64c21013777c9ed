-- Which triples are no triangulation, and why: the first of these that holds.
use Rattle.std.specs.Prelude.{◌≡◌, ◌≢◌, ◌<◌, ◌≤◌, ℕ, ℤ, pos, List, length, take, slice_index_or}
use Rattle.std.specs.Prelude.{All, Contains}
use Rattle.ideal_tri.specs.Triangulations.{labels_of, edge_count, IsLabel, IsReached}
use Rattle.ideal_tri.specs.Triangulations.{IsTriangulation}
use Rattle.ideal_tri.specs.declared.tri.TheConstants.{EDGES}
use Rattle.ideal_tri.specs.declared.tri.TriError.{TriError}
use Rattle.ideal_tri.specs.declared.tri.TriError.TheVariants.{NoTriangle, TooManyEdges, LabelRange}
use Rattle.ideal_tri.specs.declared.tri.TriError.TheVariants.{LabelTwice, Disconnected}

-- all entries are different
abbrev pub IsDistinct : List ℤ → Type 0
IsDistinct xs =
    (i j : ℕ) → i < j → j < length xs → slice_index_or xs i (pos 0) ≢ slice_index_or xs j (pos 0)

-- there is a triangle, and there are not too many edges
pub record IsOfGoodSize (triples : List (List ℤ)) : Type 0 where
  pub some : 0 < length triples
  pub few : edge_count triples ≤ EDGES

-- x is the first label read that is out of range
pub record IsFirstOutside (triples : List (List ℤ)) (x : ℤ) : Type 0 where
  pub place : ℕ
  pub within : place < length (labels_of triples)
  pub is : slice_index_or (labels_of triples) place x ≡ x
  pub outside : ¬ IsLabel triples x
  pub before : All (IsLabel triples) (take place (labels_of triples))

-- x is the first label read that was read before
pub record IsFirstRepeated (triples : List (List ℤ)) (x : ℤ) : Type 0 where
  pub place : ℕ
  pub within : place < length (labels_of triples)
  pub is : slice_index_or (labels_of triples) place x ≡ x
  pub again : Contains (take place (labels_of triples)) x
  pub before : IsDistinct (take place (labels_of triples))

-- t is the least triangle that can't be reached from triangle 0
pub record IsLeastUnreached (triples : List (List ℤ)) (t : ℕ) : Type 0 where
  pub within : t < length triples
  pub unreached : ¬ IsReached triples 0 t
  pub before : (s : ℕ) → s < t → IsReached triples 0 s

-- this refusal of a gluing fits, and none that is tested before it
abbrev pub IsRefusedGluing : List (List ℤ) → TriError → Type 0
IsRefusedGluing triples NoTriangle = length triples ≡ 0
IsRefusedGluing triples (TooManyEdges n) = (EDGES < edge_count triples) × (n ≡ edge_count triples)
IsRefusedGluing triples (LabelRange x) = IsOfGoodSize triples × IsFirstOutside triples x
IsRefusedGluing triples (LabelTwice x) =
    IsOfGoodSize triples × All (IsLabel triples) (labels_of triples) × IsFirstRepeated triples x
IsRefusedGluing triples (Disconnected t) = ⊥

-- the same for a connected gluing: connection is tested last
abbrev pub IsRefusedFor : List (List ℤ) → TriError → Type 0
IsRefusedFor triples (Disconnected t) =
    IsOfGoodSize triples × IsTriangulation triples × IsLeastUnreached triples t
IsRefusedFor triples e = IsRefusedGluing triples e
