-- Which left-out corners give no filling track, and why: the first of these that holds.
use Rattle.std.specs.Prelude.{◌≡◌, ◌≢◌, ◌<◌, ◌==◌, ℕ, ℤ, true, false, List, length, filter}
use Rattle.ideal_tri.specs.Triangulations.{IsLabel, triangle_of}
use Rattle.ideal_tri.specs.Vectors.{corner_count}
use Rattle.ideal_tri.specs.Vertices.{ordered_labels, vertex_of, vertex_count}
use Rattle.train_track.specs.Tracks.{is_left_out, IsPlaced, ArePlaced, IsSingleInTriangles}
use Rattle.train_track.specs.declared.track.TrackError.{TrackError}
use Rattle.train_track.specs.declared.track.TrackError.TheVariants.{NotLabel, TwoLeftOut}
use Rattle.train_track.specs.declared.track.TrackError.TheVariants.{VertexClosed, Memory}

-- i is the first place of an entry that is no label, or not above the one before
pub record IsFirstMisplaced (triples : List (List ℤ)) (left_out : List ℤ) (i : ℕ) : Type 0 where
  pub within : i < length left_out
  pub misplaced : ¬ IsPlaced triples left_out i
  pub before : (j : ℕ) → j < i → IsPlaced triples left_out j

-- two left-out corners lie in triangle t
pub record HasTwo (triples : List (List ℤ)) (left_out : List ℤ) (t : ℕ) : Type 0 where
  pub first : ℤ
  pub second : ℤ
  pub first_label : IsLabel triples first
  pub second_label : IsLabel triples second
  pub different : first ≢ second
  pub first_there : triangle_of triples first ≡ t
  pub second_there : triangle_of triples second ≡ t
  pub first_out : is_left_out left_out first ≡ true
  pub second_out : is_left_out left_out second ≡ true

-- t is the least such triangle
pub record IsLeastWithTwo (triples : List (List ℤ)) (left_out : List ℤ) (t : ℕ) : Type 0 where
  pub within : t < length triples
  pub two : HasTwo triples left_out t
  pub before : (s : ℕ) → s < t → ¬ HasTwo triples left_out s

-- no left-out corner lies at vertex v
abbrev pub IsVertexClosed : List (List ℤ) → List ℤ → ℕ → Type 0
IsVertexClosed triples left_out v =
    (y : ℤ) → IsLabel triples y → vertex_of triples y ≡ v → is_left_out left_out y ≡ false

-- v is the least such vertex
pub record IsLeastClosed (triples : List (List ℤ)) (left_out : List ℤ) (v : ℕ) : Type 0 where
  pub within : v < vertex_count triples
  pub closed : IsVertexClosed triples left_out v
  pub before : (u : ℕ) → u < v → ¬ IsVertexClosed triples left_out u

-- this refusal of labels in rising order fits, and none that is tested before it
abbrev pub IsNotFilling : List (List ℤ) → List ℤ → TrackError → Type 0
IsNotFilling triples left_out (NotLabel i) = ⊥
IsNotFilling triples left_out (TwoLeftOut t) = IsLeastWithTwo triples left_out t
IsNotFilling triples left_out (VertexClosed v) =
    IsSingleInTriangles triples left_out × IsLeastClosed triples left_out v
IsNotFilling triples left_out Memory = Unit {0}

-- the same of a list: its entries are tested first
abbrev pub IsRefusedFor : List (List ℤ) → List ℤ → TrackError → Type 0
IsRefusedFor triples left_out (NotLabel i) = IsFirstMisplaced triples left_out i
IsRefusedFor triples left_out (TwoLeftOut t) =
    ArePlaced triples left_out × IsNotFilling triples left_out (TwoLeftOut t)
IsRefusedFor triples left_out (VertexClosed v) =
    ArePlaced triples left_out × IsNotFilling triples left_out (VertexClosed v)
IsRefusedFor triples left_out Memory = Unit {0}

-- the corners of a vector without strands, in the order of labels
abbrev pub free_corners : List (List ℤ) → List ℕ → List ℤ
free_corners triples w = filter (λ x. corner_count triples w x == 0) (ordered_labels triples)
