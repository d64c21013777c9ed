-- A stage over one flip: what is kept, and what stage it is then.
--
-- A stage is kept as a path of an atlas, the edges of its flips, and the coordinates at its end. As the atlas grows,
-- triangulations and moves keep their numbers, so the path is there and makes the same flips from the same base.
--
-- Let the stage lead to S, and let the atlas now have the move that flips the edge e of S. With the move at the end of
-- the path and e at the end of the edges, the path makes the flips of these edges, since flips along a list with one
-- more edge are those along the list and then the flip of this edge where they lead. The coordinates that the move
-- gives are at S with e flipped, and their numbers are the vector after that flip. Where e is the greatest edge of S
-- and its new number is below the limit, this is the stage one flip deeper. Where there is no such edge, the stage as
-- it is is the deeper one.
use Rattle.std.proofs.Common.{◌≡◌, ◌++◌, ◌+◌, ℕ, ℤ, pos, List, [], ◌∷◌, sym, ◌∙◌, ap, subst}
use Rattle.ideal_tri.specs.Flips.{flipped}
use Rattle.ideal_tri.specs.Vectors.{IsMulticurve}
use Rattle.tri_atlas.specs.Arena.{Arena, MoveHandle, triangulation, IsTriIn, Grows, target_of, flip_of}
use Rattle.tri_atlas.specs.AtlasLaws.{AtlasLaws, GrowthLaws}
use Rattle.tri_atlas.specs.Moves.{Move}
use Rattle.tri_atlas.specs.MovedVectors.{vector_after}
use Rattle.tri_atlas.specs.Paths.{MovePath, IsPathIn, moves_of, then_move}
use Rattle.edge_coords.specs.Coordinates.{Coordinates, AreCoordinatesIn}
use Rattle.edge_coords.specs.MovedCoordinates.{moved_by}
use Rattle.tri_atlas.specs.FlipPaths.{IsFlippableEdge, CanBeFlipped, flips_along, flipped_along}
use Rattle.cycle_stages.specs.Stages.{IsStage}
use Rattle.cycle_stages.specs.Stages.{HasNoNext}
use Rattle.cycle_stages.specs.KeptStages.{there, IsKept, IsSame, IsDeeper}
use Rattle.cycle_stages.specs.FlippedStages.{IsFlippedOn}
use Rattle.cycle_stages.specs.inside.NextFlips.{IsFlipIn, IsNext}
use Rattle.cycle_stages.specs.declared.stages.Stage.{Stage}
use Rattle.cycle_stages.proofs.FlipPaths.{flippable_more, flips_more, flipped_more}
use Rattle.cycle_stages.proofs.GreatestFlips.{stage_more, stage_no_more}

-- ---- the atlas grows

module _ (old new : Arena) (growth : GrowthLaws) (grows : Grows old new) where
  pub coordinates_kept : (c : Coordinates) → AreCoordinatesIn old c → AreCoordinatesIn new c
  coordinates_kept c h = record {
    tri_in = growth.tri_in old new c.tri grows h.tri_in;
    multicurve = subst (λ (ts : List (List ℤ)). IsMulticurve ts c.numbers)
        (sym (growth.triangulation old new c.tri grows h.tri_in)) h.multicurve;
    small = h.small;
  }

  -- where the path starts
  same_base : (s : Stage) → IsKept old s → triangulation old 0 ≡ triangulation new 0
  same_base s h =
      sym (growth.triangulation old new 0 grows (subst (IsTriIn old) h.start h.path.start_in))

  pub kept_as_it_grows : (s : Stage) → IsKept old s → IsKept new s
  kept_as_it_grows s h = record {
    path = growth.path_in old new s.path grows h.path;
    start = h.start;
    end = h.end;
    flippable = subst (λ (ts : List (List ℤ)). CanBeFlipped ts s.edges.items) (same_base s h) h.flippable;
    moves =
        growth.moves old new s.path grows h.path ∙ h.moves
        ∙ ap (λ (ts : List (List ℤ)). flips_along ts s.edges.items) (same_base s h);
    leads =
        growth.triangulation old new s.coords.tri grows h.here.tri_in ∙ h.leads
        ∙ ap (λ (ts : List (List ℤ)). flipped_along ts s.edges.items) (same_base s h);
    here = coordinates_kept s.coords h.here;
  }

-- the same stage
pub kept_the_same : (arena : Arena) (s t : Stage) → IsKept arena s → IsSame s t → IsKept arena t
kept_the_same arena s t h same = record {
  path = subst (IsPathIn arena) (sym same.path) h.path;
  start = ap (λ (p : MovePath). p.start) same.path ∙ h.start;
  end =
      ap (λ (p : MovePath). p.end) same.path ∙ h.end ∙ sym (ap (λ (c : Coordinates). c.tri) same.coords);
  flippable = subst (CanBeFlipped (triangulation arena 0)) (sym same.edges) h.flippable;
  moves =
      ap (moves_of arena) same.path ∙ h.moves ∙ sym (ap (flips_along (triangulation arena 0)) same.edges);
  leads =
      ap (λ (c : Coordinates). triangulation arena c.tri) same.coords ∙ h.leads
      ∙ sym (ap (flipped_along (triangulation arena 0)) same.edges);
  here = subst (AreCoordinatesIn arena) (sym same.coords) h.here;
}

-- ---- one flip

module _ (old new : Arena) (s t : Stage) (e : ℕ) (m : MoveHandle) (atlas : AtlasLaws) (grows : Grows old new)
    (kept : IsKept old s) (is : IsFlipIn old new s.coords.tri e m)
    (pushed : t.path ≡ then_move s.path m (target_of new m)) (edges : t.edges.items ≡ s.edges.items ++ e ∷ [])
    (moved : t.coords ≡ moved_by new m s.coords) where
  -- the stage as it was, in the new atlas
  before : IsKept new s
  before = kept_as_it_grows old new atlas.growth grows s kept

  abbrev base : List (List ℤ)
  base = triangulation new 0

  same_there : there old s ≡ flipped_along base s.edges.items
  same_there = sym (atlas.growth.triangulation old new s.coords.tri grows kept.here.tri_in) ∙ before.leads

  there_after : there new t ≡ flipped (there old s) (pos e)
  there_after = ap (λ (c : Coordinates). triangulation new c.tri) moved ∙ is.after

  numbers_after : t.coords.numbers ≡ vector_after (flip_of (there old s) (pos e)) s.coords.numbers
  numbers_after =
      ap (λ (c : Coordinates). c.numbers) moved ∙ ap (λ (k : Move). vector_after k s.coords.numbers) is.step

  moves_after : moves_of new t.path ≡ moves_of new s.path ++ flip_of (there old s) (pos e) ∷ []
  moves_after =
      ap (moves_of new) pushed
      ∙ atlas.ways.join new s.path (record { start = s.path.end; end = target_of new m; moves = m ∷ [] })
      ∙ ap (λ (k : Move). moves_of new s.path ++ k ∷ []) is.step

  pub kept_after : IsFlippableEdge (there old s) e → IsPathIn new t.path → AreCoordinatesIn new t.coords
      → IsKept new t
  kept_after flippable path here = record {
    path = path;
    start = ap (λ (p : MovePath). p.start) pushed ∙ kept.start;
    end = ap (λ (p : MovePath). p.end) pushed ∙ sym (ap (λ (c : Coordinates). c.tri) moved);
    flippable = subst (CanBeFlipped base) (sym edges)
        (flippable_more base s.edges.items e before.flippable
        (subst (λ (ts : List (List ℤ)). IsFlippableEdge ts e) same_there flippable));
    moves =
        moves_after
        ∙ ap (λ (ms : List Move). ms ++ flip_of (there old s) (pos e) ∷ []) before.moves
        ∙ ap (λ (ts : List (List ℤ)). flips_along base s.edges.items ++ flip_of ts (pos e) ∷ []) same_there
        ∙ sym (flips_more base s.edges.items e)
        ∙ sym (ap (flips_along base) edges);
    leads =
        there_after
        ∙ ap (λ (ts : List (List ℤ)). flipped ts (pos e)) same_there
        ∙ sym (flipped_more base s.edges.items e)
        ∙ sym (ap (flipped_along base) edges);
    here = here;
  }

  pub flipped_after : IsFlippedOn old s new t e
  flipped_after = record { edges = edges; leads = there_after; numbers = numbers_after }

-- the greatest edge
pub deeper_after : (old new : Arena) (s t : Stage) (e : ℕ) → IsFlippedOn old s new t e
    → IsNext (there old s) s.coords.numbers e → IsDeeper old s new t
deeper_after old new s t e h next triples moves w depth stage =
    subst (λ (es : List ℕ). IsStage triples moves w (depth + 1) es (there new t) t.coords.numbers) (sym h.edges)
    (subst (λ (ts : List (List ℤ)). IsStage triples moves w (depth + 1) (s.edges.items ++ e ∷ []) ts t.coords.numbers)
    (sym h.leads)
    (subst (IsStage triples moves w (depth + 1) (s.edges.items ++ e ∷ []) (flipped (there old s) (pos e)))
    (sym h.numbers)
    (stage_more triples (there old s) moves w s.coords.numbers s.edges.items depth stage e next)))

-- the greatest edge, of the same triangulation and vector
pub next_here : (triples others : List (List ℤ)) (w v : List ℕ) (e : ℕ) → triples ≡ others → w ≡ v → IsNext triples w e
    → IsNext others v e
next_here triples others w v e p q h =
    subst (λ (ts : List (List ℤ)). IsNext ts v e) p (subst (λ (u : List ℕ). IsNext triples u e) q h)

-- ---- none

pub no_next_here : (triples others : List (List ℤ)) (w v : List ℕ) → triples ≡ others → w ≡ v → HasNoNext triples w
    → HasNoNext others v
no_next_here triples others w v p q h =
    subst (λ (ts : List (List ℤ)). HasNoNext ts v) p (subst (HasNoNext triples) q h)

pub deeper_without : (arena : Arena) (s : Stage) → HasNoNext (there arena s) s.coords.numbers
    → IsDeeper arena s arena s
deeper_without arena s none triples moves w depth h =
    stage_no_more triples (there arena s) moves w s.coords.numbers s.edges.items depth h none
