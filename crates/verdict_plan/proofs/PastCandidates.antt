-- Candidates whose maps pass the cap on letters, seen by a curve.
--
-- Let v be the vector of a curve at the triangulation of a stage. The flips of the stage backwards carry it to the
-- base, and the word so many times on to its image. No edge is crossed more often than the greatest number of v says,
-- so all numbers of the image together are at most that number times the letters of the map. Where they are more than
-- the cap times that number, the map has more letters than the cap. The paths of all candidates with this power or a
-- higher one begin with these moves, so each has a first move after which its map passes the cap.
use Rattle.std.proofs.Common.{◌≡◌, ◌<◌, ◌≤◌, ◌+◌, ◌-◌, ◌*◌, ◌/◌, ◌++◌, ℕ, zero, suc, ℤ, List, [], ◌∷◌, length}
use Rattle.std.proofs.Common.{max, sum, slice_index, inl, inr, sym, ◌∙◌, ap, subst, arith}
use Rattle.std.specs.List.{fold, repeat}
use Rattle.std.proofs.Math.Nat.{mul-le-mul_left}
use Rattle.std.proofs.lemmas.Bool.{cases_lt}
use Rattle.ideal_tri.specs.DrawingLaws.{DrawingLaws}
use Rattle.ideal_tri.specs.WordLaws.{WordLaws}
use Rattle.ideal_tri.specs.Triangulations.{IsTriangulation, edge_count}
use Rattle.ideal_tri.specs.Vectors.{IsMulticurve}
use Rattle.tri_atlas.specs.Arena.{Arena, IsArena, triangulation}
use Rattle.tri_atlas.specs.AtlasLaws.{WayLaws}
use Rattle.tri_atlas.specs.MapLaws.{MapLaws}
use Rattle.tri_atlas.specs.Maps.{IsImageVector, letters_of, path_map}
use Rattle.tri_atlas.specs.MovedVectors.{vector_along}
use Rattle.tri_atlas.specs.Moves.{Move, ArePath, back_along}
use Rattle.tri_atlas.specs.Paths.{MovePath, moves_of}
use Rattle.tri_atlas.specs.VectorLaws.{AlongLaws, VectorLaws}
use Rattle.edge_coords.specs.Coordinates.{Coordinates, AreCoordinatesIn, total_of}
use Rattle.edge_coords.specs.MovedCoordinates.{moved_along}
use Rattle.free_groupoid.specs.Periodic.{IsFirstPast}
use Rattle.multicurve_cert.specs.Candidates.{image_number}
use Rattle.multicurve_cert.specs.PowerLaws.{PowerLaws}
use Rattle.cert_text.specs.Limits.{letter_cap}
use Rattle.cycle_stages.specs.KeptStages.{there, IsKept}
use Rattle.cycle_stages.specs.Light.{greatest_of}
use Rattle.cycle_stages.specs.declared.stages.Stage.{Stage}
use Rattle.verdict_plan.specs.inside.PastCap.{IsPastAt}
use Rattle.verdict_plan.proofs.BackWays.{back_moves, past_on, path_from}
use Rattle.verdict_plan.proofs.CurveLengths.{image_total}
use Rattle.verdict_plan.proofs.FirstPasts.{HasFirstPast, first_past}

-- ---- numbers

-- the greatest number is never below the first one, with which it is compared
low_stays : (low : ℕ) (w : List ℕ) → low ≤ fold max low w
low_stays low [] = omega arith
low_stays low (n ∷ w) = omega (arith, low_stays (max low n) w)

-- no number is above the greatest
at_most_greatest : (low : ℕ) (w : List ℕ) (e : ℕ) → e < length w → slice_index w e ≤ fold max low w
at_most_greatest low [] e within = absurd (omega (arith, within))
at_most_greatest low (n ∷ w) zero within = omega (arith, low_stays (max low n) w)
at_most_greatest low (n ∷ w) (suc e) within = at_most_greatest (max low n) w e (omega (arith, within))

-- a quotient above a number, of a total that is capped
large_sum : (most : ℕ) (numbers : List ℕ) → most < total_of numbers / letter_cap
    → most * letter_cap + letter_cap ≤ sum numbers
large_sum most numbers above = omega (arith, above)

-- a product above the cap times one of its factors
other_factor : (most letters : ℕ) → most * letter_cap + letter_cap ≤ most * letters → letter_cap < letters
other_factor most letters above = elim (cases_lt letter_cap letters) [
  | inl more ↦ more
  | inr few ↦ absurd (omega (arith, above, mul-le-mul_left most few))
]

-- ---- the curve under the word

-- the image of the curve under the word so many times, at the base
pub record IsTurned (arena : Arena) (word : MovePath) (w : Coordinates) (n : ℕ) (image : Coordinates)
    : Type 0 where
  pub coordinates : AreCoordinatesIn arena image
  pub base : image.tri ≡ 0
  pub numbers : image.numbers ≡ image_number (triangulation arena 0) (moves_of arena word) w.numbers n

module _ (arena : Arena) (word : MovePath) (w : Coordinates)
    (powers : PowerLaws (triangulation arena 0) (moves_of arena word))
    (curve : IsMulticurve (triangulation arena w.tri) w.numbers) (start : w.tri ≡ 0) where
  at_base : IsMulticurve (triangulation arena 0) w.numbers
  at_base = subst (λ (t : ℕ). IsMulticurve (triangulation arena t) w.numbers) start curve

  -- once more
  pub turned_more : (n : ℕ) (image new : Coordinates) → word.end ≡ 0 → IsTurned arena word w n image
      → new ≡ moved_along arena word image → AreCoordinatesIn arena new → IsTurned arena word w (n + 1) new
  turned_more n image new end h moved here = record {
    coordinates = here;
    base = ap (λ (c : Coordinates). c.tri) moved ∙ end;
    numbers =
        ap (λ (c : Coordinates). c.numbers) moved ∙ ap (vector_along (moves_of arena word)) h.numbers
        ∙ sym (powers.next w.numbers n at_base);
  }

-- ---- the path of the flips backwards and the word

module _ (arena : Arena) (word : MovePath) (s : Stage) (w : List ℕ) (power : ℕ) (sound : IsArena arena)
    (ways : WayLaws) (maps : MapLaws) (vectors : VectorLaws)
    (powers : PowerLaws (triangulation arena 0) (moves_of arena word)) (kept : IsKept arena s)
    (curve : IsMulticurve (triangulation arena 0) w) where
  abbrev base : List (List ℤ)
  base = triangulation arena 0

  abbrev flips : List Move
  flips = moves_of arena s.path

  abbrev turns : List Move
  turns = repeat power (moves_of arena word)

  abbrev path : List Move
  path = back_moves arena word s power

  -- the curve at the stage
  abbrev at_stage : List ℕ
  at_stage = vector_along flips w

  there_sound : IsTriangulation (there arena s)
  there_sound = sound.sound s.coords.tri kept.here.tri_in

  flips_lead : ArePath base flips (there arena s)
  flips_lead =
      subst (λ (t : ℕ). ArePath base flips (triangulation arena t)) kept.end
      (subst (λ (t : ℕ). ArePath (triangulation arena t) flips (triangulation arena s.path.end)) kept.start
      (ways.leads arena s.path sound kept.path))

  path_leads : ArePath (there arena s) path base
  path_leads =
      maps.paths.append (there arena s) base base (back_along flips) turns
      (maps.paths.back base (there arena s) flips (sound.sound 0 sound.base) flips_lead) (powers.path power)

  to_stage : AlongLaws base (there arena s) flips w
  to_stage = vectors.paths base (there arena s) flips w (sound.sound 0 sound.base) flips_lead curve

  from_stage : AlongLaws (there arena s) base path at_stage
  from_stage = vectors.paths (there arena s) base path at_stage there_sound path_leads to_stage.multicurve

  image_along : vector_along path at_stage ≡ image_number base (moves_of arena word) w power
  image_along =
      vectors.join (back_along flips) turns at_stage
      ∙ ap (vector_along turns) to_stage.back ∙ sym (powers.along w power curve)

  module _ (words : WordLaws) (drawings : (triples : List (List ℤ)) → IsTriangulation triples → DrawingLaws triples)
      (v image : List ℕ) (is_v : v ≡ at_stage)
      (is_image : image ≡ image_number base (moves_of arena word) w power)
      (above : greatest_of v < total_of image / letter_cap) where
    multicurve : IsMulticurve (there arena s) v
    multicurve = subst (IsMulticurve (there arena s)) (sym is_v) to_stage.multicurve

    counts : IsImageVector (there arena s) v (path_map path) image
    counts =
        subst (λ (u : List ℕ). IsImageVector (there arena s) v (path_map path) u) (image_along ∙ sym is_image)
        (subst (λ (u : List ℕ). IsImageVector (there arena s) u (path_map path) (vector_along path at_stage))
        (sym is_v) from_stage.image)

    most : (e : ℕ) → e < edge_count (there arena s) → slice_index v e ≤ greatest_of v
    most e inside = at_most_greatest 0 v e (omega (arith, inside, multicurve.one_per_edge))

    letters_past : letter_cap < letters_of (there arena s) (path_map path)
    letters_past =
        other_factor (greatest_of v) (letters_of (there arena s) (path_map path))
        (omega (
          arith,
          large_sum (greatest_of v) image above,
          image_total words (there arena s)
              (drawings (there arena s) there_sound) (path_map path) (maps.paths.odd path) v image multicurve counts
              (greatest_of v) most,
        ))

    few_edges : edge_count (there arena s) ≤ letter_cap
    few_edges = omega (arith, sound.edges s.coords.tri kept.here.tri_in, sound.few)

    here_past : HasFirstPast (there arena s) path letter_cap
    here_past = first_past (there arena s) path letter_cap few_edges letters_past

    -- the paths of all candidates go on from there
    pub all_past : IsPastAt arena word s power
    all_past further enough =
        let (letters, made, first) = here_past in (
          letters,
          made,
          subst (λ (ms : List Move). IsFirstPast (there arena s) ms letter_cap made letters)
              (sym (path_from arena word s power ways kept further enough))
              (past_on (there arena s) path (repeat (further - power) (moves_of arena word) ++ flips) letter_cap
              made letters first),
        )
