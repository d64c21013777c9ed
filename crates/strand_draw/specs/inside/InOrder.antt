-- How far a vector has been drawn, strand by strand in the order of their numbers.
use Rattle.std.specs.Prelude.{◌≡◌, ◌++◌, ℕ, ℤ, pos, List, map, take}
use Rattle.std.specs.List.{range_with_len, flat_map}
use Rattle.ideal_tri.specs.Labels.{edge_of}
use Rattle.ideal_tri.specs.Strands.{State, state_at, words_of}
use Rattle.ideal_tri.specs.Drawings.{strands_from, curves_among}
use Rattle.free_groupoid.specs.Walks.{DualWalk, walk_of_letters}
use Rattle.strand_draw.specs.inside.Marks.{AreMarked}
use Rattle.strand_draw.specs.declared.marks.Marks.{Marks}

-- the strands before this one, seen from the labels that are not negative
abbrev pub strands_before : List ℕ → State → List State
strands_before w q =
    strands_from 0 (take (edge_of q.label) w)
    ++ map (state_at (pos (edge_of q.label))) (range_with_len 0 q.place)

-- the curves from those of the strands on that are least in them are listed, and their strands are
-- marked
pub record AreDrawn (triples : List (List ℤ)) (w : List ℕ) (before : List State)
    (m : Marks) (walks : List DualWalk) : Type 0 where
  pub marked : AreMarked w m (flat_map (λ run. run) (curves_among triples w before))
  pub listed : walks ≡ map (walk_of_letters triples) (words_of (curves_among triples w before))
