-- Arenas as they grow: what is kept stays, and the invariant holds after each push.
--
-- A push puts one element at the end of a list. What held of each element, and holds of the new one, holds of each
-- element of the longer list; and the elements that were there have the same numbers. So the moves that were kept
-- still lead from their sources to their targets. A flip that is pushed leads from its triangulation to the flipped
-- one, pushed with it as the last; the flipped triangulation is one, with as many edges. A relabelling leads between
-- two triangulations that are there.
--
-- A move read backwards is the backward move of what is kept, which leads from the target to the source. An edge that
-- is carried has a label at its end: a flip keeps the labels, and the image of a label under a relabelling is the
-- first letter of a walk, so a label.
use Rattle.std.proofs.Common.{◌≡◌, ◌∙◌, ◌<◌, ◌≤◌, ◌++◌, [], ◌∷◌, ℕ, zero, suc, ℤ, Bool, true, false, List, refl, sym}
use Rattle.std.proofs.Common.{ap}
use Rattle.std.proofs.Common.{subst, length, get_or, arith, length-append}
use Rattle.std.proofs.lemmas.List.{append-nil, get_or_append_left, get_or_push}
use Rattle.ideal_tri.specs.declared.tri.TheConstants.{EDGES}
use Rattle.ideal_tri.specs.Flips.{IsFlippable, flipped}
use Rattle.ideal_tri.specs.FlipLaws.{OneFlipLaws, FlipLaws}
use Rattle.ideal_tri.specs.Relabellings.{IsRelabelling}
use Rattle.ideal_tri.specs.Triangulations.{IsTriangulation, IsLabel, edge_count}
use Rattle.ideal_tri.specs.Labels.{edge_of}
use Rattle.tri_atlas.specs.Moves.{Move, flip, unflip, relabel, IsMove}
use Rattle.tri_atlas.specs.MapLaws.{MoveLaws}
use Rattle.tri_atlas.specs.Arena.{Entry, Arena, EdgeHandle, MoveHandle, triangulation, entry_at, IsTriIn, IsEdgeIn}
use Rattle.tri_atlas.specs.Arena.{IsMoveIn, IsEntryOf, IsArena, Grows, flip_of, flip_entry, source_of, target_of}
use Rattle.tri_atlas.specs.Arena.{step_of, label_after, edge_after}

-- ---- lists with one more element

pub each_pushed : {A : Type 0} (P : A → Type 0) (xs : List A) (x d : A) → ((k : ℕ) → k < length xs → P (get_or xs k d))
    → P x
    → (k : ℕ) → k < length (xs ++ x ∷ []) → P (get_or (xs ++ x ∷ []) k d)
each_pushed P [] x d h p zero b = p
each_pushed P [] x d h p (suc k) b = absurd (omega arith)
each_pushed P (y ∷ xs) x d h p zero b = h 0 (omega arith)
each_pushed P (y ∷ xs) x d h p (suc k) b = each_pushed P xs x d (λ j l. h (suc j) (omega arith)) p k (omega arith)

pub entry_equal : (s s' t t' : ℕ) (m m' : Move) → s ≡ s' → t ≡ t' → m ≡ m'
    → ◌≡◌ {A = Entry} (record { source = s; target = t; move = m }) (record { source = s'; target = t'; move = m' })
entry_equal s s' t t' m m' a b c =
    let from : ℕ → Entry = λ z. record { source = z; target = t; move = m } in
    let to : ℕ → Entry = λ z. record { source = s'; target = z; move = m } in
    let does : Move → Entry = λ z. record { source = s'; target = t'; move = z } in
    ap from a ∙ ap to b ∙ ap does c

-- ---- what is kept stays

pub grows_by : (old new : Arena) (triangulations : List (List (List ℤ))) (moves : List Entry)
    → new.triangulations ≡ old.triangulations ++ triangulations → new.moves ≡ old.moves ++ moves → Grows old new
grows_by old new triangulations moves t m = record { triangulations = (triangulations, t); moves = (moves, m) }

-- the same triangulations are the old ones, and none more
pub no_more : (old new : List (List (List ℤ))) → new ≡ old → new ≡ old ++ []
no_more old new e = e ∙ sym (append-nil old)

pub triangulation_stays : (old new more : List (List (List ℤ))) (t : ℕ) → t < length old → new ≡ old ++ more
    → get_or new t [] ≡ get_or old t []
triangulation_stays old new more t h e =
    ap (λ (z : List (List (List ℤ))). get_or z t []) e ∙ get_or_append_left old more [] t h

-- the entry that was pushed is found
pub newest_entry : (old new : List Entry) (entry : Entry) (k : ℕ) → new ≡ old ++ entry ∷ [] → k ≡ length old
    → entry_at new k ≡ entry
newest_entry old new entry k is at =
    ap (λ (z : List Entry). entry_at z k) is
    ∙ get_or_push old entry (record { source = 0; target = 0; move = relabel [] }) k (sym at)

-- ---- the invariant

IsArena-same : (old new : Arena) → new.triangulations ≡ old.triangulations → new.moves ≡ old.moves → IsArena old
    → IsArena new
IsArena-same old new t m h =
    let kept : IsArena (record { triangulations = old.triangulations; moves = old.moves; spare = new.spare }) =
    record { base = h.base; sound = h.sound; edges = h.edges; few = h.few; moves = h.moves } in
    let by_triangulations : List (List (List ℤ)) → Type 0 =
    λ z. IsArena (record { triangulations = z; moves = old.moves; spare = new.spare }) in
    let by_moves : List Entry → Type 0 =
    λ z. IsArena (record { triangulations = new.triangulations; moves = z; spare = new.spare }) in
    subst by_moves (sym m) (subst by_triangulations (sym t) kept)

pub entry_stays : (triangulations more : List (List (List ℤ))) (entry : Entry) → IsEntryOf triangulations entry
    → IsEntryOf (triangulations ++ more) entry
entry_stays triangulations more entry h =
    let same_source : get_or (triangulations ++ more) entry.source [] ≡ get_or triangulations entry.source [] =
    get_or_append_left triangulations more [] entry.source h.source_in in
    let same_target : get_or (triangulations ++ more) entry.target [] ≡ get_or triangulations entry.target [] =
    get_or_append_left triangulations more [] entry.target h.target_in in
    let from : List (List ℤ) → Type 0 = λ z. IsMove z (get_or triangulations entry.target []) entry.move in
    let to : List (List ℤ) → Type 0 = λ z. IsMove (get_or (triangulations ++ more) entry.source []) z entry.move in
    let source_in : entry.source < length triangulations = h.source_in in
    let target_in : entry.target < length triangulations = h.target_in in
    record {
      source_in = omega (arith, length-append triangulations more);
      target_in = omega (arith, length-append triangulations more);
      move = subst to (sym same_target) (subst from (sym same_source) h.move);
    }

-- one more move between triangulations that are there
pub IsArena-move : (old new : Arena) (entry : Entry) → IsArena old → IsEntryOf old.triangulations entry
    → new.triangulations ≡ old.triangulations → new.moves ≡ old.moves ++ entry ∷ [] → IsArena new
IsArena-move old new entry h is t m =
    let more : Arena = record { triangulations = old.triangulations; moves = old.moves ++ entry ∷ []; spare = 0 } in
    IsArena-same more new t m (record {
      base = h.base;
      sound = h.sound;
      edges = h.edges;
      few = h.few;
      moves = each_pushed (IsEntryOf old.triangulations) old.moves entry _ h.moves is;
    })

-- one more triangulation, with the same number of edges
pub IsArena-triangulation : (old : Arena) (triples : List (List ℤ)) → IsArena old → IsTriangulation triples
    → edge_count triples ≡ edge_count (triangulation old 0)
    → IsArena (record { triangulations = old.triangulations ++ triples ∷ []; moves = old.moves; spare = 0 })
IsArena-triangulation old triples h is e =
    let new : Arena = record { triangulations = old.triangulations ++ triples ∷ []; moves = old.moves; spare = 0 } in
    let first : triangulation new 0 ≡ triangulation old 0 =
    triangulation_stays old.triangulations new.triangulations (triples ∷ []) 0 h.base refl in
    let base : 0 < length old.triangulations = h.base in
    let as_base : List (List ℤ) → Type 0 = λ z. edge_count z ≡ edge_count (triangulation old 0) in
    record {
      base = omega (arith, length-append old.triangulations (triples ∷ []));
      sound = each_pushed IsTriangulation old.triangulations triples [] h.sound is;
      edges = λ t l. each_pushed as_base old.triangulations triples [] h.edges e t l ∙ sym (ap edge_count first);
      few = subst (λ (n : ℕ). n ≤ EDGES) (sym (ap edge_count first)) h.few;
      moves = λ k l. entry_stays old.triangulations (triples ∷ []) (entry_at old.moves k) (h.moves k l);
    }

-- the flip of an edge leads to the triangulation that is pushed with it
flip_entry_kept : (old : Arena) (e : EdgeHandle) (after : List (List ℤ)) → IsEdgeIn old e
    → IsFlippable (triangulation old e.tri) e.label → after ≡ flipped (triangulation old e.tri) e.label
    → IsEntryOf (old.triangulations ++ after ∷ []) (flip_entry old e)
flip_entry_kept old e after here flippable is =
    let same : get_or (old.triangulations ++ after ∷ []) e.tri [] ≡ triangulation old e.tri =
    get_or_append_left old.triangulations (after ∷ []) [] e.tri here.tri in
    let last : get_or (old.triangulations ++ after ∷ []) (length old.triangulations) [] ≡ after =
    get_or_push old.triangulations after [] (length old.triangulations) refl in
    let move : IsMove (triangulation old e.tri) after (flip_of (triangulation old e.tri) e.label) = record {
      label = here.label;
      flippable = flippable;
      side_a = refl;
      side_b = refl;
      side_c = refl;
      side_d = refl;
      result = is;
    } in
    let from : List (List ℤ) → Type 0 = λ z. IsMove z after (flip_of (triangulation old e.tri) e.label) in
    let to : List (List ℤ) → Type 0 =
    λ z. IsMove (get_or (old.triangulations ++ after ∷ []) e.tri []) z (flip_of (triangulation old e.tri) e.label) in
    let tri : e.tri < length old.triangulations = here.tri in
    record {
      source_in = omega (arith, length-append old.triangulations (after ∷ []));
      target_in = omega (arith, length-append old.triangulations (after ∷ []));
      move = subst to (sym last) (subst from (sym same) move);
    }

-- a flip and its triangulation
pub IsArena-flip : (old new : Arena) (e : EdgeHandle) (after : List (List ℤ)) → FlipLaws → IsArena old
    → IsEdgeIn old e
    → IsFlippable (triangulation old e.tri) e.label → after ≡ flipped (triangulation old e.tri) e.label
    → new.triangulations ≡ old.triangulations ++ after ∷ [] → new.moves ≡ old.moves ++ flip_entry old e ∷ []
    → IsArena new
IsArena-flip old new e after laws h here flippable is t m =
    let flip_laws : OneFlipLaws (triangulation old e.tri) e.label =
    laws.flips (triangulation old e.tri) e.label (h.sound e.tri here.tri) here.label flippable in
    let between : Arena = record { triangulations = old.triangulations ++ after ∷ []; moves = old.moves; spare = 0 } in
    let sound : IsTriangulation after = subst IsTriangulation (sym is) flip_laws.triangulation in
    let edges : edge_count after ≡ edge_count (triangulation old 0) =
    ap edge_count is ∙ flip_laws.edges ∙ h.edges e.tri here.tri in
    IsArena-move between new (flip_entry old e) (IsArena-triangulation old after h sound edges)
    (flip_entry_kept old e after here flippable is) t m

-- a relabelling between triangulations that are there
pub IsArena-relabel : (old new : Arena) (source target : ℕ) (images : List ℤ) → IsArena old → IsTriIn old source
    → IsTriIn old target
    → IsRelabelling (triangulation old source) (triangulation old target) images
    → new.triangulations ≡ old.triangulations
    → new.moves ≡ old.moves ++ record { source = source; target = target; move = relabel images } ∷ [] → IsArena new
IsArena-relabel old new source target images h source_in target_in carries t m =
    IsArena-move old new (record { source = source; target = target; move = relabel images }) h
    (record { source_in = source_in; target_in = target_in; move = carries }) t m

-- ---- moves

-- a move starts and ends at triangulations that are there
pub ends_in : (arena : Arena) (m : MoveHandle) → IsArena arena → IsMoveIn arena m
    → IsTriIn arena (source_of arena m) × IsTriIn arena (target_of arena m)
ends_in arena m h here = by_direction m.backwards
  where
    kept : IsEntryOf arena.triangulations (entry_at arena.moves m.number)
    kept = h.moves m.number here

    by_direction : (b : Bool)
        → IsTriIn arena (source_of arena (record { number = m.number; backwards = b }))
        × IsTriIn arena (target_of arena (record { number = m.number; backwards = b }))
    by_direction true = (kept.target_in, kept.source_in)
    by_direction false = (kept.source_in, kept.target_in)

-- a move leads from its start to its end
pub leads : MoveLaws → (arena : Arena) (m : MoveHandle) → IsArena arena → IsMoveIn arena m
    → IsMove (triangulation arena (source_of arena m)) (triangulation arena (target_of arena m)) (step_of arena m)
leads laws arena m h here = by_direction m.backwards
  where
    kept : IsEntryOf arena.triangulations (entry_at arena.moves m.number)
    kept = h.moves m.number here

    by_direction : (b : Bool) → let way : MoveHandle = record { number = m.number; backwards = b } in
        IsMove (triangulation arena (source_of arena way)) (triangulation arena (target_of arena way))
        (step_of arena way)
    by_direction true =
        laws.back _ _ (entry_at arena.moves m.number).move (h.sound _ kept.source_in)
        (h.sound _ kept.target_in) kept.move
    by_direction false = kept.move

-- a label of the first triangulation goes to a label of the second
label_carried : MoveLaws → (before target : List (List ℤ)) (m : Move) (x : ℤ) → IsTriangulation before
    → IsTriangulation target → edge_count before ≡ edge_count target → IsMove before target m → IsLabel before x
    → IsLabel target (label_after m x)
label_carried laws before target (flip e a b c d) x p t n h l = subst (λ (k : ℕ). edge_of x < k) n l
label_carried laws before target (unflip e a b c d) x p t n h l = subst (λ (k : ℕ). edge_of x < k) n l
label_carried laws before target (relabel images) x p t n h l =
    ((laws.maps before target (relabel images) p t h).walks x l).0

-- an edge that is carried is an edge of the atlas
pub edge_carried : MoveLaws → (arena : Arena) (m : MoveHandle) (e : EdgeHandle) → IsArena arena → IsMoveIn arena m
    → IsEdgeIn arena e
    → e.tri ≡ source_of arena m → IsEdgeIn arena (edge_after arena m e)
edge_carried laws arena m e h here edge at =
    let ends : IsTriIn arena (source_of arena m) × IsTriIn arena (target_of arena m) = ends_in arena m h here in
    let label : IsLabel (triangulation arena (source_of arena m)) e.label =
    subst (λ (t : ℕ). IsLabel (triangulation arena t) e.label) at edge.label in
    record {
      tri = ends.1;
      label = label_carried laws _ _ (step_of arena m) e.label (h.sound _ ends.0) (h.sound _ ends.1)
          (h.edges _ ends.0 ∙ sym (h.edges _ ends.1)) (leads laws arena m h here) label;
    }
