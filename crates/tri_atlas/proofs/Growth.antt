-- What is of an arena stays so, and means the same, as the arena grows.
--
-- The lists of a grown arena begin with the old ones. So a number below the old length is below the new one, and the
-- element with that number is the same: a handle of the old arena is one of the new arena, and stands for the same
-- triangulation, edge or move. Paths follow by induction on their moves. Where triangles go across a move is said by
-- its two triangulations and what it does, all of which are the same.
use Rattle.std.proofs.Common.{◌≡◌, ◌∙◌, ◌<◌, ◌++◌, [], ◌∷◌, ℕ, List, ℤ, refl, sym, ap, subst, length}
use Rattle.std.proofs.Common.{map, arith, length-append, if◌then◌else◌}
use Rattle.std.proofs.lemmas.List.{append-nil, append_assoc, get_or_append_left}
use Rattle.ideal_tri.specs.Triangulations.{IsLabel}
use Rattle.tri_atlas.specs.Moves.{Move, back_of, triangle_image}
use Rattle.tri_atlas.specs.Arena.{Entry, Arena, EdgeHandle, MoveHandle, triangulation, entry_at, source_of, target_of}
use Rattle.tri_atlas.specs.Arena.{step_of, IsTriIn, IsEdgeIn, IsMoveIn, IsBeginning, IsArena, Grows}
use Rattle.tri_atlas.specs.Paths.{MovePath, Lead, IsPathIn, triangle_across, triangle_along}
use Rattle.tri_atlas.specs.AtlasLaws.{GrowthLaws}
use Rattle.tri_atlas.proofs.Arenas.{triangulation_stays, ends_in}

-- ---- beginnings of lists

begins_with_itself : {A : Type 0} (xs : List A) → IsBeginning xs xs
begins_with_itself xs = ([], sym (append-nil xs))

begins_through : {A : Type 0} (xs ys zs : List A) → IsBeginning xs ys → IsBeginning ys zs → IsBeginning xs zs
begins_through {A} xs ys zs (u, e) (v, f) = (u ++ v, f ∙ ap (λ (z : List A). z ++ v) e ∙ append_assoc xs u v)

longer : {A : Type 0} (xs ys : List A) (k : ℕ) → IsBeginning xs ys → k < length xs → k < length ys
longer {A} xs ys k (u, e) h = subst (λ (z : List A). k < length z) (sym e) (omega (arith, length-append xs u))

-- ---- handles

grows_none : (arena : Arena) → Grows arena arena
grows_none arena =
    record { triangulations = begins_with_itself arena.triangulations; moves = begins_with_itself arena.moves }

grows_further : (first second third : Arena) → Grows first second → Grows second third → Grows first third
grows_further first second third g h = record {
  triangulations =
      begins_through first.triangulations second.triangulations third.triangulations g.triangulations h.triangulations;
  moves = begins_through first.moves second.moves third.moves g.moves h.moves;
}

tri_stays_in : (old new : Arena) (t : ℕ) → Grows old new → IsTriIn old t → IsTriIn new t
tri_stays_in old new t g h = longer old.triangulations new.triangulations t g.triangulations h

same_triangulation : (old new : Arena) (t : ℕ) → Grows old new → IsTriIn old t
    → triangulation new t ≡ triangulation old t
same_triangulation old new t g h =
    triangulation_stays old.triangulations new.triangulations g.triangulations.0 t h g.triangulations.1

edge_stays_in : (old new : Arena) (e : EdgeHandle) → Grows old new → IsEdgeIn old e → IsEdgeIn new e
edge_stays_in old new e g h = record {
  tri = tri_stays_in old new e.tri g h.tri;
  label = subst (λ (t : List (List ℤ)). IsLabel t e.label) (sym (same_triangulation old new e.tri g h.tri)) h.label;
}

move_stays_in : (old new : Arena) (m : MoveHandle) → Grows old new → IsMoveIn old m → IsMoveIn new m
move_stays_in old new m g h = longer old.moves new.moves m.number g.moves h

same_entry : (old new : Arena) (m : MoveHandle) → Grows old new → IsMoveIn old m
    → entry_at new.moves m.number ≡ entry_at old.moves m.number
same_entry old new m g h =
    ap (λ (z : List Entry). entry_at z m.number) g.moves.1 ∙ get_or_append_left old.moves g.moves.0 _ m.number h

same_source : (old new : Arena) (m : MoveHandle) → Grows old new → IsMoveIn old m → source_of new m ≡ source_of old m
same_source old new m g h = ap (λ (e : Entry). if m.backwards then e.target else e.source) (same_entry old new m g h)

same_target : (old new : Arena) (m : MoveHandle) → Grows old new → IsMoveIn old m → target_of new m ≡ target_of old m
same_target old new m g h = ap (λ (e : Entry). if m.backwards then e.source else e.target) (same_entry old new m g h)

same_step : (old new : Arena) (m : MoveHandle) → Grows old new → IsMoveIn old m → step_of new m ≡ step_of old m
same_step old new m g h = ap (λ (e : Entry). if m.backwards then back_of e.move else e.move) (same_entry old new m g h)

-- ---- paths

lead_stays : (old new : Arena) (s t : ℕ) (moves : List MoveHandle) → Grows old new → Lead old s moves t
    → Lead new s moves t
lead_stays old new s t [] g h = h
lead_stays old new s t (m ∷ moves) g h = (
  move_stays_in old new m g h.0,
  same_source old new m g h.0 ∙ h.1,
  subst (λ (z : ℕ). Lead new z moves t) (sym (same_target old new m g h.0))
      (lead_stays old new (target_of old m) t moves g h.2),
)

path_stays_in : (old new : Arena) (path : MovePath) → Grows old new → IsPathIn old path → IsPathIn new path
path_stays_in old new path g h = record {
  start_in = tri_stays_in old new path.start g h.start_in;
  end_in = tri_stays_in old new path.end g h.end_in;
  moves_lead = lead_stays old new path.start path.end path.moves g h.moves_lead;
}

same_steps : (old new : Arena) (s t : ℕ) (moves : List MoveHandle) → Grows old new → Lead old s moves t
    → map (step_of new) moves ≡ map (step_of old) moves
same_steps old new s t [] g h = refl
same_steps old new s t (m ∷ moves) g h =
    ap (λ (z : Move). z ∷ map (step_of new) moves) (same_step old new m g h.0)
    ∙ ap (λ (z : List Move). step_of old m ∷ z) (same_steps old new (target_of old m) t moves g h.2)

-- triangles go the same way
same_way : (old new : Arena) (m : MoveHandle) (t : ℕ) → IsArena old → Grows old new → IsMoveIn old m
    → triangle_across new m t ≡ triangle_across old m t
same_way old new m t h g here =
    ap (λ (z : List (List ℤ)). triangle_image z (triangulation new (target_of new m)) (step_of new m) t)
    (ap (triangulation new) (same_source old new m g here) ∙ same_triangulation old new (source_of old m) g ends.0)
    ∙ ap (λ (z : List (List ℤ)). triangle_image (triangulation old (source_of old m)) z (step_of new m) t)
    (ap (triangulation new) (same_target old new m g here) ∙ same_triangulation old new (target_of old m) g ends.1)
    ∙ ap (λ (n : Move). triangle_image (triangulation old (source_of old m)) (triangulation old (target_of old m)) n t)
    (same_step old new m g here)
  where
    ends : IsTriIn old (source_of old m) × IsTriIn old (target_of old m)
    ends = ends_in old m h here

same_triangles : (old new : Arena) (s e t : ℕ) (moves : List MoveHandle) → IsArena old → Grows old new
    → Lead old s moves e
    → triangle_along new moves t ≡ triangle_along old moves t
same_triangles old new s e t [] h g l = refl
same_triangles old new s e t (m ∷ moves) h g (here, at, rest) =
    ap (triangle_along new moves) (same_way old new m t h g here)
    ∙ same_triangles old new (target_of old m) e _ moves h g rest

pub growth_laws : GrowthLaws
growth_laws = record {
  none = grows_none;
  further = grows_further;
  tri_in = tri_stays_in;
  triangulation = same_triangulation;
  edge_in = edge_stays_in;
  move_in = move_stays_in;
  source = same_source;
  target = same_target;
  step = same_step;
  path_in = path_stays_in;
  triangles = λ old new path t a g h. same_triangles old new path.start path.end t path.moves a g h.moves_lead;
  moves = λ old new path g h. same_steps old new path.start path.end path.moves g h.moves_lead;
}
