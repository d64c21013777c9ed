-- The states of a descent: the path so far, the triangulation where it ends, and the curve there.
use Rattle.std.specs.Prelude.{◌≡◌, ◌<◌, ◌≤◌, ℕ, ℤ, Bool, true, false, List, [], ◌∷◌, ◌++◌, sum, All, pos}
use Rattle.ideal_tri.specs.Flips.{flipped}
use Rattle.ideal_tri.specs.PeripheralParts.{HasFreeCorners}
use Rattle.ideal_tri.specs.Triangulations.{IsTriangulation}
use Rattle.tri_atlas.specs.Arena.{Arena, MoveHandle, triangulation, IsMoveIn, source_of, target_of}
use Rattle.tri_atlas.specs.Arena.{step_of, flip_of}
use Rattle.tri_atlas.specs.Paths.{IsPathIn, moves_of}
use Rattle.edge_coords.specs.Coordinates.{Coordinates, AreCoordinatesIn}
use Rattle.edge_coords.specs.MovedCoordinates.{moved_along}
use Rattle.curve_shorten.specs.Descents.{vector_flipped, HasNoLower, IsBest, IsLevel}
use Rattle.curve_shorten.specs.Descents.{HasEnded, IsDescent}
use Rattle.tri_atlas.specs.FlipPaths.{flips_along}
use Rattle.curve_shorten.specs.ShortCurves.{total_limit}
use Rattle.curve_shorten.specs.declared.short.Short.{Short}

-- the triangulation where a state is
abbrev pub there : Arena → Short → List (List ℤ)
there arena s = triangulation arena s.coords.tri

-- what is true of each state
pub record IsState (arena : Arena) (s : Short) : Type 0 where
  pub path : IsPathIn arena s.path
  pub end : s.path.end ≡ s.coords.tri
  pub sound : IsTriangulation (there arena s)
  pub here : AreCoordinatesIn arena s.coords
  pub small : sum s.coords.numbers ≤ total_limit
  pub free : HasFreeCorners (there arena s) s.coords.numbers
  pub some : ¬ All (λ n. n ≡ 0) s.coords.numbers

-- the path leads there from a curve, over the flips of these edges
pub record IsAlong (triples : List (List ℤ)) (curve : Coordinates) (arena : Arena) (s : Short)
    (edges : List ℕ) : Type 0 where
  pub start : s.path.start ≡ curve.tri
  pub moves : (more : List ℕ) → flips_along triples (edges ++ more)
      ≡ moves_of arena s.path ++ flips_along (there arena s) more
  pub moved : s.coords ≡ moved_along arena s.path curve

-- and the descent of the curve begins with these flips
pub record IsReached (triples : List (List ℤ)) (curve : Coordinates) (arena : Arena) (s : Short)
    : Type 0 where
  pub edges : List ℕ
  pub along : IsAlong triples curve arena s edges
  pub descent : (more v : List ℕ) (after : List (List ℤ))
      → IsDescent (there arena s) s.coords.numbers more after v
      → IsDescent triples curve.numbers (edges ++ more) after v

-- ---- from one state to the next

-- the move is the flip of an edge of a triangulation
pub record IsFlipIn (old new : Arena) (t e : ℕ) (m : MoveHandle) : Type 0 where
  pub here : IsMoveIn new m
  pub source : source_of new m ≡ t
  pub after : triangulation new (target_of new m) ≡ flipped (triangulation old t) (pos e)
  pub step : step_of new m ≡ flip_of (triangulation old t) (pos e)

-- over the flip of an edge
pub record IsAfterFlip (e : ℕ) (old : Arena) (s : Short) (new : Arena) (t : Short) : Type 0 where
  pub state : IsState new t
  pub tri : there new t ≡ flipped (there old s) (pos e)
  pub numbers : t.coords.numbers ≡ vector_flipped (there old s) s.coords.numbers e
  pub along : (triples : List (List ℤ)) (curve : Coordinates) (edges : List ℕ)
      → IsAlong triples curve old s edges → IsAlong triples curve new t (edges ++ e ∷ [])

-- nothing has changed
pub record IsSame (old : Arena) (s : Short) (new : Arena) (t : Short) : Type 0 where
  pub arena : new ≡ old
  pub state : t ≡ s

-- over the flip of the best edge, or there is none
abbrev pub IsAfterBest : Arena → Short → Arena → Short → Bool → Type 0
IsAfterBest old s new t true =
    (e : ℕ) × IsBest (there old s) s.coords.numbers e × IsAfterFlip e old s new t
IsAfterBest old s new t false = HasNoLower (there old s) s.coords.numbers × IsSame old s new t

-- over a round
pub record IsAfterRound (old : Arena) (s : Short) (new : Arena) (t : Short) : Type 0 where
  pub state : IsState new t
  pub lowers : sum t.coords.numbers < sum s.coords.numbers
  pub reached : (triples : List (List ℤ)) (curve : Coordinates) → IsReached triples curve old s
      → IsReached triples curve new t

-- over the flip of the first level edge and then the best one, or there is none
abbrev pub IsAfterLevel : Arena → Short → Arena → Short → Bool → Type 0
IsAfterLevel old s new t true = IsAfterRound old s new t
IsAfterLevel old s new t false =
    ((e : ℕ) → ¬ IsLevel (there old s) s.coords.numbers e) × IsSame old s new t

-- over a round, or the descent has ended
abbrev pub IsRound : Arena → Short → Arena → Short → Bool → Type 0
IsRound old s new t true = IsAfterRound old s new t
IsRound old s new t false = HasEnded (there old s) s.coords.numbers × IsSame old s new t

-- where the descent of a curve ends
pub record IsEnd (triples : List (List ℤ)) (curve : Coordinates) (arena : Arena) (s : Short)
    : Type 0 where
  pub state : IsState arena s
  pub reached : IsReached triples curve arena s
  pub ended : HasEnded (there arena s) s.coords.numbers
  pub least : 2 ≤ sum s.coords.numbers
