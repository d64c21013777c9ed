-- Which lists are the images of no relabelling, and why: the first of these that holds.
use Rattle.std.specs.Prelude.{◌≡◌, ◌≢◌, ◌<◌, ◌≤◌, ℕ, ℤ, pos, List, [], length, take, slice_index_or}
use Rattle.std.specs.Prelude.{All}
use Rattle.ideal_tri.specs.Labels.{edge_of}
use Rattle.ideal_tri.specs.Triangulations.{edge_count, IsLabel}
use Rattle.ideal_tri.specs.Relabellings.{hits, IsCarried}
use Rattle.relabel.specs.declared.relabelling.RelabelError.{RelabelError}
use Rattle.relabel.specs.declared.relabelling.RelabelError.TheVariants.{WrongLength, NotLabel}
use Rattle.relabel.specs.declared.relabelling.RelabelError.TheVariants.{NotBijective}
use Rattle.relabel.specs.declared.relabelling.RelabelError.TheVariants.{BreaksTriangle}

-- i is the first place whose entry is no label of a triangulation with so many edges
pub record IsFirstOutside (edges : ℕ) (list : List ℤ) (i : ℕ) : Type 0 where
  pub within : i < length list
  pub outside : ¬ edge_of (slice_index_or list i (pos 0)) < edges
  pub before : All (λ x. edge_of x < edges) (take i list)

-- e is the least edge that is hit twice or more
pub record IsLeastHitTwice (list : List ℤ) (e : ℕ) : Type 0 where
  pub twice : 1 < hits list e
  pub before : (d : ℕ) → d < e → hits list d ≤ 1

-- no edge is hit twice
abbrev pub HitsNoneTwice : List ℤ → Type 0
HitsNoneTwice list = (e : ℕ) → hits list e ≤ 1

-- t is the least triangle of `from` whose image is no triangle of `to`
pub record IsLeastBroken (from to : List (List ℤ)) (list : List ℤ) (t : ℕ) : Type 0 where
  pub within : t < length from
  pub broken : ¬ IsCarried to list (slice_index_or from t [])
  pub before : All (IsCarried to list) (take t from)

-- this refusal fits, and none that is tested before it
abbrev pub IsRefusedFor : List (List ℤ) → List (List ℤ) → List ℤ → RelabelError → Type 0
IsRefusedFor from to list (WrongLength n) = (length list ≢ edge_count from) × (n ≡ length list)
IsRefusedFor from to list (NotLabel i) =
    (length list ≡ edge_count from) × IsFirstOutside (edge_count to) list i
IsRefusedFor from to list (NotBijective x) =
    (length list ≡ edge_count from) × All (IsLabel to) list × IsLeastHitTwice list x
IsRefusedFor from to list (BreaksTriangle t) =
    (length list ≡ edge_count from) × All (IsLabel to) list × HitsNoneTwice list
    × IsLeastBroken from to list t
