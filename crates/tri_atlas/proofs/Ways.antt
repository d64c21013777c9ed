-- The moves of paths of an arena: where they lead, and their maps.
--
-- A move of an arena, read forwards, leads from its source to its target by what every arena is known to satisfy; read
-- backwards it does the backward move, which leads back. So the moves of a path, each beginning where the one before
-- ended, lead from its start to its end, and those of the inverse path are the backward moves in the other order.
--
-- The map of a path is that of its first move and then that of the rest. Maps of walks compose, so by induction it is a
-- map of walks from the start to the end, and triangles go along with it: the map of a move says where a triangle goes
-- across it, and along the path it goes across each move in turn. Back along the path the moves are undone from the
-- last to the first, and a move undone brings each triangle back; so does the whole path.
use Rattle.std.proofs.Common.{◌≡◌, ◌∙◌, ◌<◌, ◌++◌, [], ◌∷◌, ℕ, zero, suc, ℤ, Bool, true, false, List, refl, sym, ap, subst}
use Rattle.std.proofs.Common.{length, map, reverse, take}
use Rattle.std.specs.List.{repeat}
use Rattle.std.proofs.lemmas.List.{map-append, reverse-append}
use Rattle.tri_atlas.specs.Moves.{Move, IsMove, ArePath, back_of, triangle_image}
use Rattle.tri_atlas.specs.Maps.{identity, after, image_of_letter, path_map, IsMap}
use Rattle.tri_atlas.specs.MapLaws.{MoveLaws, MapLaws}
use Rattle.tri_atlas.specs.Arena.{Arena, MoveHandle, IsEntryOf, triangulation, entry_at, source_of, target_of, step_of}
use Rattle.tri_atlas.specs.Arena.{back, IsTriIn, IsMoveIn, IsArena}
use Rattle.tri_atlas.specs.Paths.{MovePath, Lead, IsPathIn, moves_of, triangle_across, triangle_along}
use Rattle.tri_atlas.specs.AtlasLaws.{HandleLaws, WayLaws}
use Rattle.tri_atlas.proofs.Arenas.{ends_in, leads}
use Rattle.tri_atlas.proofs.AtlasPaths.{source_of-back, target_of-back, lead_join}
use Rattle.tri_atlas.proofs.Repeats.{repeat_laws, map-repeat}
use Rattle.tri_atlas.proofs.WalkMaps.{IsMap-same}

-- ---- moves

-- a move read backwards does the backward move
step_of-back : MoveLaws → (arena : Arena) (m : MoveHandle) → IsArena arena → IsMoveIn arena m
    → step_of arena (back m) ≡ back_of (step_of arena m)
step_of-back laws arena m h here = by_direction m.backwards
  where
    kept : IsEntryOf arena.triangulations (entry_at arena.moves m.number)
    kept = h.moves m.number here

    by_direction : (b : Bool) → let way : MoveHandle = record { number = m.number; backwards = b } in
        step_of arena (back way) ≡ back_of (step_of arena way)
    by_direction true = sym (laws.twice _ _ (entry_at arena.moves m.number).move kept.move)
    by_direction false = refl

-- the map of a move
move_map : MoveLaws → (arena : Arena) (m : MoveHandle) → IsArena arena → IsMoveIn arena m
    → IsMap (triangulation arena (source_of arena m)) (triangulation arena (target_of arena m))
    (image_of_letter (step_of arena m)) (triangle_across arena m)
move_map laws arena m h here =
    let (source, target) = ends_in arena m h here in
    laws.maps _ _ (step_of arena m) (h.sound _ source) (h.sound _ target) (leads laws arena m h here)

-- and the way back brings each triangle back
triangle_back : MoveLaws → (arena : Arena) (m : MoveHandle) (t : ℕ) → IsArena arena → IsMoveIn arena m
    → t < length (triangulation arena (source_of arena m))
    → triangle_across arena (back m) (triangle_across arena m t) ≡ t
triangle_back laws arena m t h here below =
    ap (λ (i : ℕ). triangle_image (triangulation arena i) (triangulation arena (target_of arena (back m)))
    (step_of arena (back m)) there)
    (source_of-back arena m)
    ∙ ap (λ (i : ℕ). triangle_image (triangulation arena (target_of arena m)) (triangulation arena i)
    (step_of arena (back m)) there)
    (target_of-back arena m)
    ∙ ap (λ (n : Move). triangle_image (triangulation arena (target_of arena m))
    (triangulation arena (source_of arena m))
    n there)
    (step_of-back laws arena m h here)
    ∙ laws.undo_triangle _ _ (step_of arena m) t (h.sound _ ends.0) (h.sound _ ends.1) (leads laws arena m h here) below
  where
    there : ℕ
    there = triangle_across arena m t

    ends : IsTriIn arena (source_of arena m) × IsTriIn arena (target_of arena m)
    ends = ends_in arena m h here

-- ---- where paths lead

moves_lead : MoveLaws → (arena : Arena) (s t : ℕ) (moves : List MoveHandle) → IsArena arena → Lead arena s moves t
    → ArePath (triangulation arena s) (map (step_of arena) moves) (triangulation arena t)
moves_lead laws arena s t [] h l = ap (triangulation arena) l
moves_lead laws arena s t (m ∷ moves) h (here, at, rest) = (
  triangulation arena (target_of arena m),
  h.sound _ (ends_in arena m h here).1,
  subst (λ (z : ℕ). IsMove (triangulation arena z) (triangulation arena (target_of arena m)) (step_of arena m)) at
      (leads laws arena m h here),
  moves_lead laws arena (target_of arena m) t moves h rest,
)

moves_back : MoveLaws → (arena : Arena) (s t : ℕ) (moves : List MoveHandle) → IsArena arena → Lead arena s moves t
    → map (step_of arena) (reverse (map back moves)) ≡ reverse (map back_of (map (step_of arena) moves))
moves_back laws arena s t [] h l = refl
moves_back laws arena s t (m ∷ moves) h (here, at, rest) =
    ap (map (step_of arena)) (reverse-append (back m ∷ []) (map back moves))
    ∙ map-append (step_of arena) (reverse (map back moves)) (back m ∷ [])
    ∙ ap (λ (z : List Move). z ++ (step_of arena (back m) ∷ []))
    (moves_back laws arena (target_of arena m) t moves h rest)
    ∙ ap (λ (z : Move). reverse (map back_of (map (step_of arena) moves)) ++ (z ∷ []))
    (step_of-back laws arena m h here)
    ∙ sym (reverse-append (back_of (step_of arena m) ∷ []) (map back_of (map (step_of arena) moves)))

-- the first of the moves lead somewhere
first_lead : (arena : Arena) (s t : ℕ) (i : ℕ) (moves : List MoveHandle) → IsArena arena → IsTriIn arena s
    → Lead arena s moves t → (end : ℕ) × IsTriIn arena end × Lead arena s (take i moves) end
first_lead arena s t zero moves h start l = (s, start, refl)
first_lead arena s t (suc i) [] h start l = (s, start, refl)
first_lead arena s t (suc i) (m ∷ moves) h start (here, at, rest) =
    let (end, there, on) = first_lead arena (target_of arena m) t i moves h (ends_in arena m h here).1 rest in
    (end, there, (here, at, on))

beginning : (arena : Arena) (path : MovePath) (i : ℕ) → IsArena arena → IsPathIn arena path
    → (end : ℕ) × IsPathIn arena (record { start = path.start; end = end; moves = take i path.moves })
beginning arena path i h p =
    let (end, there, on) = first_lead arena path.start path.end i path.moves h p.start_in p.moves_lead in
    (end, record { start_in = p.start_in; end_in = there; moves_lead = on })

-- and moves that lead back lead back several times
lead_often : (arena : Arena) (s n : ℕ) (moves : List MoveHandle) → Lead arena s moves s
    → Lead arena s (repeat n moves) s
lead_often arena s zero moves once = refl
lead_often arena s (suc n) moves once =
    lead_join arena s s s moves (repeat n moves) once (lead_often arena s n moves once)

-- ---- maps of paths

-- where triangles go along moves that follow others
along-append : (arena : Arena) (u v : List MoveHandle) (t : ℕ)
    → triangle_along arena (u ++ v) t ≡ triangle_along arena v (triangle_along arena u t)
along-append arena [] v t = refl
along-append arena (m ∷ u) v t = along-append arena u v (triangle_across arena m t)

moves_map : MapLaws → (arena : Arena) (s t : ℕ) (moves : List MoveHandle) → IsArena arena → IsTriIn arena t
    → Lead arena s moves t
    → IsMap (triangulation arena s) (triangulation arena t) (path_map (map (step_of arena) moves))
    (triangle_along arena moves)
moves_map laws arena s t [] h end l =
    subst (λ (z : ℕ). IsMap (triangulation arena s) (triangulation arena z) identity (λ k. k)) l
    (laws.walks.identity (triangulation arena s))
moves_map laws arena s t (m ∷ moves) h end (here, at, rest) =
    subst (λ (z : ℕ). IsMap (triangulation arena z) (triangulation arena t) whole (triangle_along arena (m ∷ moves))) at
    (IsMap-same _ _ (after (path_map (map (step_of arena) moves)) (image_of_letter (step_of arena m))) whole _
    (λ x. sym (laws.paths.cons (step_of arena m) (map (step_of arena) moves) x))
    (laws.walks.compose _ _ _ _ _ _ _ (h.sound t end) (move_map laws.moves arena m h here)
    (moves_map laws arena (target_of arena m) t moves h end rest)))
  where
    whole : ℤ → List ℤ
    whole x = path_map (map (step_of arena) (m ∷ moves)) x

-- there and back
triangles_back : MoveLaws → (arena : Arena) (s e t : ℕ) (moves : List MoveHandle) → IsArena arena → Lead arena s moves e
    → t < length (triangulation arena s)
    → triangle_along arena (reverse (map back moves)) (triangle_along arena moves t) ≡ t
triangles_back laws arena s e t [] h l below = refl
triangles_back laws arena s e t (m ∷ moves) h (here, at, rest) below =
    let starts : t < length (triangulation arena (source_of arena m)) =
    subst (λ (z : ℕ). t < length (triangulation arena z)) (sym at) below in
    let there : ℕ = triangle_across arena m t in
    let end : ℕ = triangle_along arena moves there in
    ap (λ (z : List MoveHandle). triangle_along arena z end) (reverse-append (back m ∷ []) (map back moves))
    ∙ along-append arena (reverse (map back moves)) (back m ∷ []) end
    ∙ ap (triangle_across arena (back m))
    (triangles_back laws arena (target_of arena m) e there moves h rest
    ((move_map laws arena m h here).within t starts))
    ∙ triangle_back laws arena m t h here starts

-- ---- the laws

pub handle_laws : MoveLaws → HandleLaws
handle_laws laws = record {
  ends = ends_in;
  leads = leads laws;
  maps = move_map laws;
  back_source = source_of-back;
  back_target = target_of-back;
  back = step_of-back laws;
  repeats = repeat_laws MoveHandle;
  repeated = λ arena n moves. map-repeat (step_of arena) n moves;
}

pub way_laws : MapLaws → WayLaws
way_laws laws = record {
  leads = λ arena path h p. moves_lead laws.moves arena path.start path.end path.moves h p.moves_lead;
  join = λ arena path other. map-append (step_of arena) path.moves other.moves;
  beginning = beginning;
  often = λ arena path n h p closed. record {
    start_in = p.start_in;
    end_in = p.start_in;
    moves_lead = lead_often arena path.start n path.moves
        (subst (λ (z : ℕ). Lead arena path.start path.moves z) closed p.moves_lead);
  };
  repeats = repeat_laws Move;
  back = λ arena path h p. moves_back laws.moves arena path.start path.end path.moves h p.moves_lead;
  maps = maps;
  walks = λ arena path s t w h p walk.
      laws.walks.reduced _ _ _ _ s t w (h.sound path.end p.end_in) (maps arena path h p) walk;
  join_triangle = λ arena path other t. along-append arena path.moves other.moves t;
  undo_triangle = λ arena path t h p below.
      triangles_back laws.moves arena path.start path.end t path.moves h p.moves_lead below;
}
  where
    maps : (arena : Arena) (path : MovePath) → IsArena arena → IsPathIn arena path
        → IsMap (triangulation arena path.start) (triangulation arena path.end) (path_map (moves_of arena path))
        (triangle_along arena path.moves)
    maps arena path h p = moves_map laws arena path.start path.end path.moves h p.end_in p.moves_lead
