-- Along the moves of a path: each starts where the one before ended, so that the numbers after the first k + 1 moves
-- are those after one more move, and the first move that cannot be made is the first flip whose new number is too
-- large.
use Rattle.std.proofs.Common.{◌≡◌, ◌<◌, ◌≤◌, ◌+◌, ◌⊎◌, inl, inr, ℕ, suc, ℤ, List, [], ◌∷◌, ◌++◌, length, map, take}
use Rattle.std.proofs.Common.{drop, get_or, count_by, All, refl, sym, ◌∙◌, ap, subst, arith, add-one}
use Rattle.std.proofs.lemmas.Bool.{cases_eq}
use Rattle.std.proofs.lemmas.List.{take_more, drop_more, drop_all, get_or-map, get_or_read, length-map, take-map}
use Rattle.std.proofs.lemmas.List.Elements.{All-nil, All-cons, All-append}
use Rattle.tri_atlas.specs.Moves.{Move, relabel}
use Rattle.tri_atlas.specs.Arena.{Arena, MoveHandle, IsMoveIn, source_of, target_of, step_of}
use Rattle.tri_atlas.specs.Paths.{Lead, is_flip}
use Rattle.tri_atlas.specs.MovedVectors.{vector_after, vector_along, move_at, IsOver, IsFirstOver}
use Rattle.tri_atlas.specs.VectorLaws.{OverflowLaws}
use Rattle.edge_coords.specs.MovedCoordinates.{IsOverflowOf, IsFirstOverflow, IsOverflowAlong}
use Rattle.edge_coords.specs.declared.coords.TheConstants.{COORDINATE_LIMIT}
use Rattle.edge_coords.specs.declared.moves.Overflow.{Overflow}
use Rattle.edge_coords.specs.declared.moves.OverflowAt.{OverflowAt}

-- ---- the moves

-- the first k + 1 moves are of the arena where the first k and the next one are
pub here_more : (arena : Arena) (handles : List MoveHandle) (k : ℕ) (m : MoveHandle) → k < length handles
    → m ≡ get_or handles k m
    → IsMoveIn arena m → All (IsMoveIn arena) (take k handles) → All (IsMoveIn arena) (take (k + 1) handles)
here_more arena handles k m within is here before =
    subst (All (IsMoveIn arena))
    (sym (take_more handles k m within ∙ ap (λ (x : MoveHandle). take k handles ++ x ∷ []) (sym is)))
    (All-append (IsMoveIn arena) (take k handles) (m ∷ []) before (All-cons (IsMoveIn arena) m [] here (All-nil
    (IsMoveIn arena))))

-- the moves from place k on begin with m
pub lead_here : (arena : Arena) (s t : ℕ) (handles : List MoveHandle) (k : ℕ) (m : MoveHandle) → k < length handles
    → m ≡ get_or handles k m → Lead arena s (drop k handles) t
    → IsMoveIn arena m × (source_of arena m ≡ s) × Lead arena (target_of arena m) (drop (k + 1) handles) t
lead_here arena s t handles k m within is h =
    let split : drop k handles ≡ m ∷ drop (k + 1) handles =
    drop_more handles k m within ∙ ap (λ (x : MoveHandle). x ∷ drop (k + 1) handles) (sym is) in
    subst (λ (ms : List MoveHandle). Lead arena s ms t) split h

pub lead_end : (arena : Arena) (s t : ℕ) (handles : List MoveHandle) (k : ℕ) → length handles ≤ k
    → Lead arena s (drop k handles) t → s ≡ t
lead_end arena s t handles k past h = subst (λ (ms : List MoveHandle). Lead arena s ms t) (drop_all k handles past) h

move_here : (arena : Arena) (handles : List MoveHandle) (k : ℕ) (m : MoveHandle) → k < length handles
    → m ≡ get_or handles k m
    → move_at (map (step_of arena) handles) k ≡ step_of arena m
move_here arena handles k m within is = get_or-map (step_of arena) handles k m (relabel []) within
    ∙ ap (step_of arena) (sym is)

-- ---- the numbers

-- what the law of the numbers along these moves says
abbrev pub GoOn : List Move → List ℕ → Type 0
GoOn moves w = (k : ℕ) → k < length moves
    → vector_along (take (suc k) moves) w ≡ vector_after (move_at moves k) (vector_along (take k moves) w)

pub numbers_more : (arena : Arena) (handles : List MoveHandle) (w v : List ℕ) (k : ℕ) (m : MoveHandle)
    → GoOn (map (step_of arena) handles) w → k < length handles → m ≡ get_or handles k m
    → v ≡ vector_along (take k (map (step_of arena) handles)) w
    → vector_after (step_of arena m) v ≡ vector_along (take (k + 1) (map (step_of arena) handles)) w
numbers_more arena handles w v k m next within is now =
    let moves : List Move = map (step_of arena) handles in
    ap (vector_after (step_of arena m)) now
    ∙ ap (λ (move : Move). vector_after move (vector_along (take k moves) w)) (sym (move_here arena handles k m within
    is))
    ∙ sym (next k (subst (λ (n : ℕ). k < n) (sym (length-map handles (step_of arena))) within))
    ∙ ap (λ (n : ℕ). vector_along (take n moves) w) (sym (add-one k))

-- ---- the first number that is too large

-- none of the first k moves gives one
abbrev pub FitBefore : List Move → List ℕ → ℕ → Type 0
FitBefore moves w k = (j : ℕ) → j < k → ¬ IsOver COORDINATE_LIMIT (move_at moves j) (vector_along (take j moves) w)

over_here : (arena : Arena) (handles : List MoveHandle) (w v : List ℕ) (k : ℕ) (m : MoveHandle) → k < length handles
    → m ≡ get_or handles k m → v ≡ vector_along (take k (map (step_of arena) handles)) w → (P : Move → List ℕ → Type 0)
    → P (step_of arena m) v
    → P (move_at (map (step_of arena) handles) k) (vector_along (take k (map (step_of arena) handles)) w)
over_here arena handles w v k m within is now P h =
    subst (λ (move : Move). P move (vector_along (take k (map (step_of arena) handles)) w))
    (sym (move_here arena handles k m within is)) (subst (P (step_of arena m)) now h)

pub fit_more : (arena : Arena) (handles : List MoveHandle) (w v : List ℕ) (k : ℕ) (m : MoveHandle) → k < length handles
    → m ≡ get_or handles k m → v ≡ vector_along (take k (map (step_of arena) handles)) w
    → ¬ IsOver COORDINATE_LIMIT (step_of arena m) v → FitBefore (map (step_of arena) handles) w k
    → FitBefore (map (step_of arena) handles) w (k + 1)
fit_more arena handles w v k m within is now fits before j low = elim (cases_eq j k) [
  | inl e ↦
      subst (λ (i : ℕ). ¬ IsOver COORDINATE_LIMIT (move_at (map (step_of arena) handles) i)
      (vector_along (take i (map (step_of arena) handles)) w)) (sym e)
      (over_here arena handles w v k m within is now (λ move u. ¬ IsOver COORDINATE_LIMIT move u) fits)
  | inr apart ↦ before j (omega arith)
]

pub first_overflow : (arena : Arena) (handles : List MoveHandle) (w v : List ℕ) (k flip : ℕ) (m : MoveHandle) (o :
    Overflow)
    → k < length handles → m ≡ get_or handles k m → v ≡ vector_along (take k (map (step_of arena) handles)) w
    → IsOverflowOf (step_of arena m) v o → FitBefore (map (step_of arena) handles) w k
    → flip ≡ count_by is_flip (map (step_of arena) (take (k + 1) handles))
    → IsFirstOverflow w (map (step_of arena) handles) (record { flip = flip; edge = o.edge; value = o.value })
first_overflow arena handles w v k flip m o within is now refused before flips =
    let there : IsOverflowOf (move_at (map (step_of arena) handles) k)
    (vector_along (take k (map (step_of arena) handles)) w) o =
    over_here arena handles w v k m within is now (λ move u. IsOverflowOf move u o) refused in
    record {
      place = k;
      first = record {
        within = subst (λ (n : ℕ). k < n) (sym (length-map handles (step_of arena))) within;
        over = there.over;
        first = before;
      };
      flip =
          flips ∙ ap (count_by is_flip) (sym (take-map (step_of arena) (k + 1) handles))
          ∙ ap (λ (n : ℕ). count_by is_flip (take n (map (step_of arena) handles))) (add-one k);
      edge = there.edge;
      value = there.value;
    }

-- the image of the vector overflows after the same flip
pub overflow_along : (triples : List (List ℤ)) (w : List ℕ) (moves : List Move) (o : OverflowAt)
    → OverflowLaws triples moves w COORDINATE_LIMIT → IsFirstOverflow w moves o → IsOverflowAlong triples w moves o
overflow_along triples w moves o laws h = record { first = h; overflows = (laws.first h.place).1 h.first }
