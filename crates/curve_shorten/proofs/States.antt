-- States of a descent over one flip and over a round.
use Rattle.std.proofs.Common.{◌≡◌, ◌≤◌, ◌++◌, ℕ, ℤ, pos, List, [], ◌∷◌, sum, All}
use Rattle.std.proofs.Common.{sym, ◌∙◌, ap, subst, arith}
use Rattle.std.proofs.lemmas.List.{append_assoc}
use Rattle.ideal_tri.specs.Flips.{flipped}
use Rattle.ideal_tri.specs.FlipLaws.{FlipLaws}
use Rattle.ideal_tri.specs.PeripheralParts.{HasFreeCorners}
use Rattle.ideal_tri.specs.Triangulations.{IsTriangulation}
use Rattle.ideal_tri.specs.Vectors.{IsMulticurve}
use Rattle.tri_atlas.specs.Arena.{Arena, MoveHandle, triangulation, Grows, target_of, step_of, flip_of}
use Rattle.tri_atlas.specs.AtlasLaws.{AtlasLaws, GrowthLaws}
use Rattle.tri_atlas.specs.MapLaws.{FlipPathLaws}
use Rattle.tri_atlas.specs.Moves.{Move}
use Rattle.tri_atlas.specs.MovedVectors.{vector_after, vector_along}
use Rattle.tri_atlas.specs.Paths.{MovePath, IsPathIn, moves_of, then_move}
use Rattle.tri_atlas.specs.VectorLaws.{VectorLaws}
use Rattle.edge_coords.specs.Coordinates.{Coordinates, AreCoordinatesIn}
use Rattle.edge_coords.specs.MovedCoordinates.{moved_by, moved_along}
use Rattle.curve_shorten.specs.Descents.{total_flipped, vector_flipped}
use Rattle.tri_atlas.specs.FlipPaths.{IsFlippableEdge, flips_along}
use Rattle.curve_shorten.specs.FlippedCornerLaws.{FlippedCornerLaws}
use Rattle.curve_shorten.specs.ShortCurves.{total_limit}
use Rattle.curve_shorten.specs.declared.short.Short.{Short}
use Rattle.curve_shorten.specs.inside.States.{there, IsState, IsAlong, IsFlipIn, IsAfterFlip}

-- coordinates stay coordinates as the atlas grows
pub coordinates_kept : (old new : Arena) (c : Coordinates) → GrowthLaws → Grows old new → AreCoordinatesIn old c
    → AreCoordinatesIn new c
coordinates_kept old new c growth grows h = record {
  tri_in = growth.tri_in old new c.tri grows h.tri_in;
  multicurve = subst (λ (ts : List (List ℤ)). IsMulticurve ts c.numbers)
      (sym (growth.triangulation old new c.tri grows h.tri_in)) h.multicurve;
  small = h.small;
}

same_coordinates : (c d : Coordinates) → c.tri ≡ d.tri → c.numbers ≡ d.numbers → c ≡ d
same_coordinates c d p q =
    ap (λ (t : ℕ). record { tri = t; numbers = c.numbers }) p
    ∙ ap (λ (w : List ℕ). record { tri = d.tri; numbers = w }) q

module _ (old new : Arena) (s : Short) (e : ℕ) (m : MoveHandle) (path : MovePath) (coords : Coordinates)
    (atlas : AtlasLaws) (vectors : VectorLaws) (grows : Grows old new) (state : IsState old s)
    (is : IsFlipIn old new s.coords.tri e m) (pushed : path ≡ then_move s.path m (target_of new m))
    (moved : coords ≡ moved_by new m s.coords) where
  abbrev pub after : Short
  after = record { path = path; coords = coords }

  tri_after : there new after ≡ flipped (there old s) (pos e)
  tri_after = ap (λ (c : Coordinates). triangulation new c.tri) moved ∙ is.after

  numbers_after : coords.numbers ≡ vector_flipped (there old s) s.coords.numbers e
  numbers_after = ap (λ (c : Coordinates). c.numbers) moved
      ∙ ap (λ (k : Move). vector_after k s.coords.numbers) is.step

  moves_after : moves_of new path ≡ moves_of old s.path ++ flip_of (there old s) (pos e) ∷ []
  moves_after =
      ap (moves_of new) pushed
      ∙ atlas.ways.join new s.path (record { start = s.path.end; end = target_of new m; moves = m ∷ [] })
      ∙ ap (λ (ms : List Move). ms ++ step_of new m ∷ []) (atlas.growth.moves old new s.path grows state.path)
      ∙ ap (λ (k : Move). moves_of old s.path ++ k ∷ []) is.step

  along_after : (triples : List (List ℤ)) (curve : Coordinates) (edges : List ℕ) → IsAlong triples curve old s edges
      → IsAlong triples curve new after (edges ++ e ∷ [])
  along_after triples curve edges a = record {
    start = ap (λ (p : MovePath). p.start) pushed ∙ a.start;
    moves = λ more.
        ap (flips_along triples) (append_assoc edges (e ∷ []) more)
        ∙ a.moves (e ∷ more)
        ∙ sym (append_assoc (moves_of old s.path) (flip_of (there old s) (pos e) ∷ [])
        (flips_along (flipped (there old s) (pos e)) more))
        ∙ ap (λ (ms : List Move). ms ++ flips_along (flipped (there old s) (pos e)) more) (sym moves_after)
        ∙ ap (λ (ts : List (List ℤ)). moves_of new path ++ flips_along ts more) (sym tri_after);
    moved = same_coordinates coords (moved_along new path curve)
        (ap (λ (c : Coordinates). c.tri) moved ∙ sym (ap (λ (p : MovePath). p.end) pushed))
        (numbers_after
        ∙ ap (vector_after (flip_of (there old s) (pos e))) (ap (λ (c : Coordinates). c.numbers) a.moved)
        ∙ sym (vectors.join (moves_of old s.path) (flip_of (there old s) (pos e) ∷ []) curve.numbers)
        ∙ ap (λ (ms : List Move). vector_along ms curve.numbers) (sym moves_after));
  }

  pub after_flip : FlippedCornerLaws → FlipLaws → FlipPathLaws → IsFlippableEdge (there old s) e
      → total_flipped (there old s) s.coords.numbers e ≤ sum s.coords.numbers → IsPathIn new path
      → AreCoordinatesIn new coords → IsAfterFlip e old s new after
  after_flip corners flips paths flippable no_greater path_in here = record {
    state = record {
      path = path_in;
      end = ap (λ (p : MovePath). p.end) pushed ∙ sym (ap (λ (c : Coordinates). c.tri) moved);
      sound = subst IsTriangulation (sym tri_after)
          (flips.flips (there old s) (pos e) state.sound flippable.0 flippable.1).triangulation;
      here = here;
      small =
          let total : sum coords.numbers ≡ total_flipped (there old s) s.coords.numbers e = ap sum numbers_after in
          let small : sum s.coords.numbers ≤ total_limit = state.small in
          omega arith;
      free = subst (λ (ts : List (List ℤ)). HasFreeCorners ts coords.numbers) (sym tri_after)
          (subst (λ (w : List ℕ). HasFreeCorners (flipped (there old s) (pos e)) w) (sym numbers_after)
          (corners.free (there old s) (flipped (there old s) (pos e)) (pos e) _ _ _ _ s.coords.numbers state.sound
          (paths.is_flip (there old s) e flippable) state.here.multicurve state.free));
      some = subst (λ (w : List ℕ). ¬ All (λ n. n ≡ 0) w) (sym numbers_after)
          (corners.some (there old s) (flipped (there old s) (pos e)) (pos e) _ _ _ _ s.coords.numbers state.sound
          (paths.is_flip (there old s) e flippable) state.here.multicurve state.some);
    };
    tri = tri_after;
    numbers = numbers_after;
    along = along_after;
  }
