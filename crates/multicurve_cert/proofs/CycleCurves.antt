-- A cycle is a multicurve.
use Rattle.std.proofs.Common.{◌≡◌, ◌<◌, ◌≤◌, ℕ, ℤ, List, [], ◌∷◌, ◌++◌, length, slice_index, nat_eq, count_by}
use Rattle.std.proofs.Common.{◌∙◌, ap, arith}
use Rattle.std.proofs.lemmas.List.{append-nil}
use Rattle.std.proofs.lemmas.List.FromFn.{get_or-map-range_with_len, length-map-range_with_len}
use Rattle.std.proofs.lemmas.List.Sums.{count_by-le-length}
use Rattle.ideal_tri.specs.CornerLaws.{CornerLaws}
use Rattle.ideal_tri.specs.Curves.{crossings}
use Rattle.ideal_tri.specs.Labels.{edge_of}
use Rattle.ideal_tri.specs.LabelLaws.{LabelLaws}
use Rattle.ideal_tri.specs.SurfaceLaws.{SurfaceLaws}
use Rattle.ideal_tri.specs.Triangulations.{IsLabel, IsTriangulation, edge_count}
use Rattle.ideal_tri.specs.Vectors.{IsMulticurve, weight}
use Rattle.free_groupoid.specs.InnerLaws.{IsReducedLoop}
use Rattle.edge_coords.specs.Coordinates.{AreSmall}
use Rattle.edge_coords.specs.Refusals.{IsRefusedFor}
use Rattle.edge_coords.specs.declared.coords.TheConstants.{COORDINATE_LIMIT}
use Rattle.edge_coords.specs.declared.coords.CoordsError.{CoordsError}
use Rattle.edge_coords.specs.declared.coords.CoordsError.TheVariants.{WrongLength, TooLarge}
use Rattle.edge_coords.specs.declared.coords.CoordsError.TheVariants.{OddTriangle, LongSide}
use Rattle.multicurve_cert.specs.Cycles.{IsCycle, cycle_vector}
use Rattle.multicurve_cert.proofs.Turns.{turns, crossed_turns}

-- the numbers of a multicurve are not refused
pub not_refused : (triples : List (List ℤ)) (w : List ℕ) (e : CoordsError) → IsMulticurve triples w → AreSmall w
    → IsRefusedFor triples w e → ⊥
not_refused triples w (WrongLength n) curve small h = h.1 curve.one_per_edge
not_refused triples w (TooLarge i) curve small h =
    let low : slice_index w i < COORDINATE_LIMIT = small i 0 h.1.within in
    let large : COORDINATE_LIMIT ≤ slice_index w i = h.1.large in
    omega arith
not_refused triples w (OddTriangle t) curve small h = h.2.fails (curve.even t [] h.2.within)
not_refused triples w (LongSide t) curve small h = h.3.fails (curve.no_long_side t [] h.3.within)

crossings_one : (e : ℕ) (w : List ℤ) → crossings e (w ∷ []) ≡ count_by (λ x. nat_eq (edge_of x) e) w
crossings_one e w = ap (count_by (λ x. nat_eq (edge_of x) e)) (append-nil w)

module _ (triples : List (List ℤ)) (sound : IsTriangulation triples) (labels : LabelLaws) (surface : SurfaceLaws)
    (corners : CornerLaws triples) where
  weight_is : (w : List ℤ) (x : ℤ) → IsLabel triples x
      → weight (cycle_vector triples w) x ≡ count_by (λ y. nat_eq (edge_of y) (edge_of x)) w
  weight_is w x here =
      get_or-map-range_with_len (λ e. crossings e (w ∷ [])) 0 (edge_count triples) (edge_of x) (edge_of x) 0 here
      (omega arith)
      ∙ crossings_one (edge_of x) w

  loop_curve : (w : List ℤ) → IsReducedLoop triples w → IsMulticurve triples (cycle_vector triples w)
  loop_curve [] loop = absurd loop
  loop_curve (u ∷ rest) loop =
      (corners.from_counts (cycle_vector triples (u ∷ rest)) (λ y. turns triples y u (rest ++ u ∷ []))
      (length-map-range_with_len _ 0 (edge_count triples))
      (λ x here. weight_is (u ∷ rest) x here
      ∙ crossed_turns triples labels (surface.triangles triples sound) x u rest here loop.0 loop.1)).0

  pub cycle_curve : (w : List ℤ) → IsCycle triples w → IsMulticurve triples (cycle_vector triples w)
  cycle_curve w cycle = loop_curve w cycle.loop

pub cycle_small : (triples : List (List ℤ)) (w : List ℤ) → IsCycle triples w → AreSmall (cycle_vector triples w)
cycle_small triples w cycle = λ e d within.
    let inside : e < edge_count triples =
    omega (arith, length-map-range_with_len (λ k. crossings k (w ∷ [])) 0 (edge_count triples)) in
    let short : length w ≤ 8 = cycle.short in
    omega (
      arith,
      get_or-map-range_with_len (λ k. crossings k (w ∷ [])) 0 (edge_count triples) e e d inside (omega arith),
      count_by-le-length (λ x. nat_eq (edge_of x) e) w,
      crossings_one e w,
    )
