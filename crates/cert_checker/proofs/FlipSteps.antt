-- The path of the flips of a certificate, one flip after another, as the atlas grows.
--
-- Flips along a list with one more edge are those along the list and then the flip of this edge where they lead. So
-- the path with the move of that flip at its end makes the flips of the longer list. The first edge that can't be
-- flipped where the path ends is the first of the list, since each before it could be.
use Rattle.std.proofs.Common.{◌≡◌, ◌<◌, ◌≤◌, ◌+◌, ◌++◌, ℕ, zero, suc, ℤ, pos, List, [], ◌∷◌, refl, sym, ◌∙◌}
use Rattle.std.proofs.Common.{ap, subst, arith, length, take}
use Rattle.std.proofs.Math.Seq.{take-suc}
use Rattle.std.specs.Prelude.{slice_index_or}
use Rattle.ideal_tri.specs.Flips.{flipped}
use Rattle.tri_atlas.specs.Arena.{Arena, EdgeHandle, MoveHandle, triangulation, IsTriIn, IsEdgeIn, Grows, target_of}
use Rattle.tri_atlas.specs.Arena.{flip_of}
use Rattle.tri_atlas.specs.AtlasLaws.{AtlasLaws}
use Rattle.tri_atlas.specs.FlipPaths.{IsFlippableEdge, CanBeFlipped, flips_along, flipped_along}
use Rattle.tri_atlas.specs.Moves.{Move}
use Rattle.tri_atlas.specs.Paths.{MovePath, IsPathIn, moves_of, then_move}
use Rattle.flip_move.specs.Flipped.{IsFlipped, IsFlippableIn}
use Rattle.cert_checker.specs.FirstFailing.{IsFirstFailing}
use Rattle.cert_text.specs.Certificates.{CarriedTrack}
use Rattle.cert_text.specs.Limits.{flip_limit}
use Rattle.cert_checker.specs.TrackRefusals.{IsFlipRefusal, by_flip}
use Rattle.cert_checker.specs.TrackRules.{CanBeFlippedAt, IsPower}
use Rattle.cert_checker.specs.inside.SiteSteps.{IsFlipPath, IsNoFlip}

-- ---- one more at the end

flipped_more : (triples : List (List ℤ)) (edges : List ℕ) (e : ℕ)
    → flipped_along triples (edges ++ e ∷ []) ≡ flipped (flipped_along triples edges) (pos e)
flipped_more triples [] e = refl
flipped_more triples (f ∷ edges) e = flipped_more (flipped triples (pos f)) edges e

flips_more : (triples : List (List ℤ)) (edges : List ℕ) (e : ℕ)
    → flips_along triples (edges ++ e ∷ [])
    ≡ flips_along triples edges ++ flip_of (flipped_along triples edges) (pos e) ∷ []
flips_more triples [] e = refl
flips_more triples (f ∷ edges) e =
    ap (λ (moves : List Move). flip_of triples (pos f) ∷ moves) (flips_more (flipped triples (pos f)) edges e)

flippable_more : (triples : List (List ℤ)) (edges : List ℕ) (e : ℕ) → CanBeFlipped triples edges
    → IsFlippableEdge (flipped_along triples edges) e → CanBeFlipped triples (edges ++ e ∷ [])
flippable_more triples [] e h last = (last, tt)
flippable_more triples (f ∷ edges) e h last =
    (h.0, flippable_more (flipped triples (pos f)) edges e h.1 last)

pub next_edge : (edges : List ℕ) (i : ℕ) → i < length edges
    → take (i + 1) edges ≡ take i edges ++ slice_index_or edges i 0 ∷ []
next_edge edges i within =
    let next : i + 1 ≡ suc i = omega arith in
    ap (λ (n : ℕ). take n edges) next ∙ take-suc edges i 0 within

-- ---- the first that can't be flipped

flippable_at : (triples : List (List ℤ)) (edges : List ℕ) (i k : ℕ) → k < i → i ≤ length edges
    → CanBeFlipped triples (take i edges)
    → IsFlippableEdge (flipped_along triples (take k edges)) (slice_index_or edges k 0)
flippable_at triples [] i k less within h = absurd (omega arith)
flippable_at triples (e ∷ edges) zero k less within h = absurd (omega arith)
flippable_at triples (e ∷ edges) (suc i) zero less within h = h.0
flippable_at triples (e ∷ edges) (suc i) (suc k) less within h =
    flippable_at (flipped triples (pos e)) edges i k (omega arith) (omega arith) h.1

-- the path of the first i flips
pub first_unflippable : (arena : Arena) (triples : List (List ℤ)) (edges : List ℕ) (path : MovePath) (i e : ℕ)
    → triangulation arena 0 ≡ triples → i < length edges → e ≡ slice_index_or edges i 0
    → IsFlipPath arena (take i edges) path → ¬ IsFlippableEdge (triangulation arena path.end) e
    → IsFirstFailing (length edges) (CanBeFlippedAt triples edges) i
first_unflippable arena triples edges path i e base within is h fails = record {
  within = within;
  fails = λ can.
      fails (subst (IsFlippableEdge (triangulation arena path.end)) (sym is)
      (subst (λ (ts : List (List ℤ)). IsFlippableEdge ts (slice_index_or edges i 0))
      (sym (h.leads ∙ ap (λ (ts : List (List ℤ)). flipped_along ts (take i edges)) base)) can));
  before = λ k less.
      flippable_at triples edges i k less (omega arith)
      (subst (λ (ts : List (List ℤ)). CanBeFlipped ts (take i edges)) base h.flippable);
}

pub flip_refused : (triples : List (List ℤ)) (c : CarriedTrack) (edges : List ℕ) → edges ≡ c.flips → IsPower c.power
    → length c.flips ≤ flip_limit → (place : ℕ) → IsNoFlip triples edges place → IsFlipRefusal triples c place
flip_refused triples c edges is power few place (i, there, first) =
    by_flip i there power few
    (subst (λ (es : List ℕ). IsFirstFailing (length es) (CanBeFlippedAt triples es) i) is first)

-- ---- as the atlas grows

module _ (old new : Arena) (atlas : AtlasLaws) (grows : Grows old new) where
  pub same_base : IsTriIn old 0 → triangulation new 0 ≡ triangulation old 0
  same_base here = atlas.growth.triangulation old new 0 grows here

  grown_path : (edges : List ℕ) (path : MovePath) → IsFlipPath old edges path → IsFlipPath new edges path
  grown_path edges path h =
      let base : triangulation old 0 ≡ triangulation new 0 =
      sym (same_base (subst (IsTriIn old) h.start h.within.start_in)) in record {
        within = atlas.growth.path_in old new path grows h.within;
        start = h.start;
        flippable = subst (λ (ts : List (List ℤ)). CanBeFlipped ts edges) base h.flippable;
        moves =
            atlas.growth.moves old new path grows h.within ∙ h.moves
            ∙ ap (λ (ts : List (List ℤ)). flips_along ts edges) base;
        leads =
            atlas.growth.triangulation old new path.end grows h.within.end_in ∙ h.leads
            ∙ ap (λ (ts : List (List ℤ)). flipped_along ts edges) base;
      }

  module _ (edges : List ℕ) (e : ℕ) (path longer : MovePath) (m : MoveHandle) (edge : EdgeHandle)
      (h : IsFlipPath old edges path) (is : edge ≡ record { tri = path.end; label = pos e }) (here : IsEdgeIn old edge)
      (can : IsFlippableIn old edge) (flips : IsFlipped old new edge m)
      (pushed : longer ≡ then_move path m (target_of new m)) (within : IsPathIn new longer) where
    abbrev base : List (List ℤ)
    base = triangulation new 0

    abbrev before : List (List ℤ)
    before = triangulation old path.end

    flippable : IsFlippableEdge before e
    flippable = ((subst (IsEdgeIn old) is here).label, subst (IsFlippableIn old) is can)

    flip : IsFlipped old new (record { tri = path.end; label = pos e }) m
    flip = subst (λ (x : EdgeHandle). IsFlipped old new x m) is flips

    there : before ≡ flipped_along base edges
    there =
        sym (atlas.growth.triangulation old new path.end grows h.within.end_in) ∙ (grown_path edges path h).leads

    pub flip_more : IsFlipPath new (edges ++ e ∷ []) longer
    flip_more = record {
      within = within;
      start = ap (λ (p : MovePath). p.start) pushed ∙ h.start;
      flippable =
          flippable_more base edges e (grown_path edges path h).flippable
          (subst (λ (ts : List (List ℤ)). IsFlippableEdge ts e) there flippable);
      moves =
          ap (moves_of new) pushed
          ∙ atlas.ways.join new path (record { start = path.end; end = target_of new m; moves = m ∷ [] })
          ∙ ap (λ (k : Move). moves_of new path ++ k ∷ []) flip.step
          ∙ ap (λ (ms : List Move). ms ++ flip_of before (pos e) ∷ []) (grown_path edges path h).moves
          ∙ ap (λ (ts : List (List ℤ)). flips_along base edges ++ flip_of ts (pos e) ∷ []) there
          ∙ sym (flips_more base edges e);
      leads =
          ap (λ (p : MovePath). triangulation new p.end) pushed
          ∙ flip.after
          ∙ ap (λ (ts : List (List ℤ)). flipped ts (pos e)) there
          ∙ sym (flipped_more base edges e);
    }
