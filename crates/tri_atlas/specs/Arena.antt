-- An atlas: triangulations and the moves between them, and handles of its triangulations, edges and
-- moves.
use Rattle.std.specs.Prelude.{◌≡◌, ◌<◌, ◌≤◌, ◌+◌, ℕ, ℤ, Bool, false, List, [], ◌++◌, length, take}
use Rattle.std.specs.Prelude.{slice_index_or, if◌then◌else◌, ◌||◌, not}
use Rattle.std.specs.Ordering.{int_eq}
use Rattle.ideal_tri.specs.Labels.{inverse}
use Rattle.ideal_tri.specs.Triangulations.{IsTriangulation, IsLabel, edge_count, next, previous}
use Rattle.ideal_tri.specs.Relabellings.{image_of}
use Rattle.ideal_tri.specs.declared.tri.TheConstants.{EDGES}
use Rattle.tri_atlas.specs.Moves.{Move, flip, unflip, relabel, IsMove, back_of}

-- a move as it is kept, read forwards: the numbers of the triangulations where it starts and ends,
-- and what it does
pub record Entry : Type 0 where
  pub source : ℕ
  pub target : ℕ
  pub move : Move

-- the triangulations and the moves between them, and for how many pushes there is room: so many
-- take no memory
pub record Arena : Type 0 where
  pub triangulations : List (List (List ℤ))
  pub moves : List Entry
  pub spare : ℕ

-- a label, and the number of the triangulation that it belongs to
pub record EdgeHandle : Type 0 where
  pub tri : ℕ
  pub label : ℤ

-- the number of a move, and whether it is read backwards
pub record MoveHandle : Type 0 where
  pub number : ℕ
  pub backwards : Bool

-- ---- what the handles stand for

-- the triangulation with this number
abbrev pub triangulation : Arena → ℕ → List (List ℤ)
triangulation arena t = slice_index_or arena.triangulations t []

-- the move with this number, as it is kept
abbrev pub entry_at : List Entry → ℕ → Entry
entry_at entries k = slice_index_or entries k (record { source = 0; target = 0; move = relabel [] })

-- where a move starts
abbrev pub source_of : Arena → MoveHandle → ℕ
source_of arena m =
    if m.backwards then (entry_at arena.moves m.number).target
    else (entry_at arena.moves m.number).source

-- where a move ends
abbrev pub target_of : Arena → MoveHandle → ℕ
target_of arena m =
    if m.backwards then (entry_at arena.moves m.number).source
    else (entry_at arena.moves m.number).target

-- what a move does
abbrev pub step_of : Arena → MoveHandle → Move
step_of arena m =
    if m.backwards then back_of (entry_at arena.moves m.number).move
    else (entry_at arena.moves m.number).move

-- the same move, the other way
abbrev pub back : MoveHandle → MoveHandle
back m = record { number = m.number; backwards = not m.backwards }

-- ---- handles of an arena

-- there is a triangulation with this number
abbrev pub IsTriIn : Arena → ℕ → Type 0
IsTriIn arena t = t < length arena.triangulations

-- its triangulation is there, and its label is a label there
pub record IsEdgeIn (arena : Arena) (e : EdgeHandle) : Type 0 where
  pub tri : IsTriIn arena e.tri
  pub label : IsLabel (triangulation arena e.tri) e.label

-- there is a move with its number
abbrev pub IsMoveIn : Arena → MoveHandle → Type 0
IsMoveIn arena m = m.number < length arena.moves

-- ---- arenas

-- the move leads from one of the triangulations to another
pub record IsEntryOf (triangulations : List (List (List ℤ))) (entry : Entry) : Type 0 where
  pub source_in : entry.source < length triangulations
  pub target_in : entry.target < length triangulations
  pub move : IsMove (slice_index_or triangulations entry.source [])
      (slice_index_or triangulations entry.target []) entry.move

-- what is true of every atlas: triangulations with the same number of edges, at most EDGES, and
-- moves between them
pub record IsArena (arena : Arena) : Type 0 where
  pub base : IsTriIn arena 0
  pub sound : (t : ℕ) → IsTriIn arena t → IsTriangulation (triangulation arena t)
  pub edges : (t : ℕ) → IsTriIn arena t
      → edge_count (triangulation arena t) ≡ edge_count (triangulation arena 0)
  pub few : edge_count (triangulation arena 0) ≤ EDGES
  pub moves : (k : ℕ) → k < length arena.moves
      → IsEntryOf arena.triangulations (entry_at arena.moves k)

-- the list begins with the other
abbrev pub IsBeginning : {A : Type 0} → List A → List A → Type 0
IsBeginning {A} xs ys = (rest : List A) × (ys ≡ xs ++ rest)

-- the old triangulations and moves are still there, with the same numbers
pub record Grows (old new : Arena) : Type 0 where
  pub triangulations : IsBeginning old.triangulations new.triangulations
  pub moves : IsBeginning old.moves new.moves

-- where there was room, that of one push is used
abbrev pub UsesRoom : Arena → Arena → Type 0
UsesRoom old new = 0 < old.spare → new.spare + 1 ≡ old.spare

-- ---- edges across moves

-- the label of an edge after a move
abbrev pub label_after : Move → ℤ → ℤ
label_after (flip e a b c d) x = x
label_after (unflip e a b c d) x = x
label_after (relabel images) x = image_of images x

-- x is one of the two labels of the flipped edge
abbrev pub is_flipped_by : Move → ℤ → Bool
is_flipped_by (flip e a b c d) x = int_eq x e || int_eq x (inverse e)
is_flipped_by (unflip e a b c d) x = int_eq x e || int_eq x (inverse e)
is_flipped_by (relabel images) x = false

-- the edge after a move: at the target, with its label there
abbrev pub edge_after : Arena → MoveHandle → EdgeHandle → EdgeHandle
edge_after arena m e = record {
  tri = target_of arena m;
  label = label_after (step_of arena m) e.label;
}

-- ---- what is kept by a push

-- the flip of an edge, with the sides of its two triangles
abbrev pub flip_of : List (List ℤ) → ℤ → Move
flip_of triples e =
    flip e (next triples e) (previous triples e) (next triples (inverse e))
    (previous triples (inverse e))

-- the flip of an edge, to the next triangulation that is kept
abbrev pub flip_entry : Arena → EdgeHandle → Entry
flip_entry arena e = record {
  source = e.tri;
  target = length arena.triangulations;
  move = flip_of (triangulation arena e.tri) e.label;
}

-- the last move, read forwards
abbrev pub newest : List Entry → MoveHandle
newest earlier = record { number = length earlier; backwards = false }

-- the images that count: as many as the triangulation has edges
abbrev pub images_kept : Arena → ℕ → List ℤ → List ℤ
images_kept arena source images = take (edge_count (triangulation arena source)) images

-- a relabelling from one triangulation onto another
abbrev pub relabel_entry : Arena → ℕ → ℕ → List ℤ → Entry
relabel_entry arena source target images = record {
  source = source;
  target = target;
  move = relabel (images_kept arena source images);
}
