-- Marks: which strands of a vector a run has passed, in either direction.
use Rattle.std.specs.Prelude.{◌≡◌, ◌<◌, ◌^◌, ◌↔◌, ℕ, List, false, length, sum, take}
use Rattle.std.specs.Prelude.{slice_index, slice_index_or}
use Rattle.ideal_tri.specs.Labels.{edge_of}
use Rattle.ideal_tri.specs.Vectors.{weight}
use Rattle.ideal_tri.specs.Strands.{State, uses}
use Rattle.ideal_tri.specs.Drawings.{strand_number}
use Rattle.strand_draw.specs.declared.marks.Marks.{Marks}

-- the vector has a strand there
pub record HasStrand (w : List ℕ) (q : State) : Type 0 where
  pub edge : edge_of q.label < length w
  pub within : q.place < weight w q.label

-- there is one mark for each strand, and they are numbered edge after edge
pub record AreNumbered (w : List ℕ) (m : Marks) : Type 0 where
  pub few : sum w < 2 ^ 63
  pub room : length m.drawn.items ≡ sum w
  pub firsts : (e : ℕ) → e < length w → slice_index m.firsts e ≡ sum (take e w)

-- the strands that are marked are those that the run passes
pub record AreMarked (w : List ℕ) (m : Marks) (run : List State) : Type 0 where
  pub numbered : AreNumbered w m
  pub passed : (q : State) → HasStrand w q
      → (slice_index_or m.drawn.items (strand_number w q) false ≡ false) ↔ (uses w q run ≡ 0)
