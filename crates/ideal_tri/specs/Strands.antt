-- Strands of a vector: how the arcs inside the triangles join, and the closed curves they draw.
use Rattle.std.specs.Prelude.{◌≡◌, ◌<◌, ◌+◌, ◌-◌, ◌&&◌, ℕ, ℤ, pos, List, [], ◌∷◌, length, map, Bool}
use Rattle.std.specs.Prelude.{nat_eq, nat_le, if◌then◌else◌, All}
use Rattle.std.specs.List.{count_by, flat_map}
use Rattle.std.specs.Ordering.{int_eq}
use Rattle.ideal_tri.specs.Labels.{inverse}
use Rattle.ideal_tri.specs.Triangulations.{IsLabel, edge_count, next, previous}
use Rattle.ideal_tri.specs.Vectors.{weight, corner_count}

-- a place on the side `label`, counted from its tail, from 0
pub record State : Type 0 where
  pub label : ℤ
  pub place : ℕ

abbrev pub state_at : ℤ → ℕ → State
state_at x i = record { label = x; place = i }

-- the vector has a strand there
pub record IsStrand (triples : List (List ℤ)) (w : List ℕ) (q : State) : Type 0 where
  pub is_label : IsLabel triples q.label
  pub within : q.place < weight w q.label

-- the two states are equal
abbrev pub same_state : State → State → Bool
same_state q r = int_eq q.label r.label && nat_eq q.place r.place

-- the same strand, seen from the other side of its edge
abbrev pub opposite : List ℕ → State → State
opposite w q = state_at (inverse q.label) (weight w q.label - 1 - q.place)

-- through the triangle of the side, from that strand to the side where it leaves. Strands within
-- the corner at the tail of the side turn to the side before; all others go on to the side after
abbrev pub cross : List (List ℤ) → List ℕ → State → State
cross triples w q =
    if nat_le (corner_count triples w (previous triples q.label)) q.place
    then state_at (next triples q.label) (weight w q.label - 1 - q.place)
    else state_at (previous triples q.label) (weight w (previous triples q.label) - 1 - q.place)

-- out of the triangle through the side, and through the next triangle to the side where the strand
-- leaves that
abbrev pub strand_step : List (List ℤ) → List ℕ → State → State
strand_step triples w q = cross triples w (opposite w q)

-- the states from q on, step by step; r comes after the last
abbrev pub Runs : List (List ℤ) → List ℕ → State → List State → State → Type 0
Runs triples w q [] r = q ≡ r
Runs triples w q (p ∷ run) r = (p ≡ q) × Runs triples w (strand_step triples w q) run r

-- a closed curve, strand by strand
pub record IsClosedRun (triples : List (List ℤ)) (w : List ℕ) (run : List State) : Type 0 where
  pub start : State
  pub not_empty : 0 < length run
  pub strands : All (IsStrand triples w) run
  pub closes : Runs triples w start run start

-- how often the runs pass a strand, in either direction
abbrev pub uses : List ℕ → State → List State → ℕ
uses w q run = count_by (same_state q) run + count_by (same_state (opposite w q)) run

-- closed curves that use each strand of the vector once
pub record IsDrawing (triples : List (List ℤ)) (w : List ℕ) (runs : List (List State))
    : Type 0 where
  pub closed : All (IsClosedRun triples w) runs
  pub once : (e i : ℕ) → e < edge_count triples → i < weight w (pos e)
      → uses w (state_at (pos e) i) (flat_map (λ run. run) runs) ≡ 1

-- the letters that a run crosses
abbrev pub word_of : List State → List ℤ
word_of run = map (λ q. q.label) run

-- the closed words of a drawing
abbrev pub words_of : List (List State) → List (List ℤ)
words_of runs = map word_of runs
