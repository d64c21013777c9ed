-- The way of a descent from the curve to where it ends.
use Rattle.std.proofs.Common.{◌≡◌, ◌≢◌, ◌<◌, ◌≤◌, ◌+◌, ℕ, ℤ, Bool, true, false, List, [], length, sum, All}
use Rattle.std.proofs.Common.{Result, Ok, Err, IfOk, refl, sym, ◌∙◌, ap, subst, arith, inl}
use Rattle.std.proofs.lemmas.List.{append-nil}
use Rattle.ideal_tri.specs.Drawings.{draw}
use Rattle.ideal_tri.specs.DrawingLaws.{DrawingLaws}
use Rattle.ideal_tri.specs.PeripheralParts.{HasFreeCorners}
use Rattle.ideal_tri.specs.Triangulations.{IsTriangulation}
use Rattle.ideal_tri.specs.Vectors.{IsMulticurve}
use Rattle.tri_atlas.specs.Arena.{Arena, triangulation, Grows}
use Rattle.tri_atlas.specs.AtlasLaws.{GrowthLaws}
use Rattle.tri_atlas.specs.Paths.{MovePath, empty_path, moves_of}
use Rattle.edge_coords.specs.Coordinates.{Coordinates, AreCoordinatesIn, total_of}
use Rattle.curve_shorten.specs.Descents.{HasEnded, IsDescent}
use Rattle.tri_atlas.specs.FlipPaths.{flips_along}
use Rattle.curve_shorten.specs.Descents.IsDescent.{ended}
use Rattle.curve_shorten.specs.FlippedCornerLaws.{FlippedCornerLaws}
use Rattle.curve_shorten.specs.ShortCurves.{IsSmall, IsOneCurve, IsShort, IsRefusedFor, total_limit}
use Rattle.curve_shorten.specs.declared.short.ShortError.TheVariants.{Stuck}
use Rattle.curve_shorten.specs.declared.short.Short.{Short}
use Rattle.curve_shorten.specs.inside.States.{there, IsState, IsReached, IsAfterBest, IsAfterRound, IsSame, IsRound, IsEnd}
use Rattle.curve_shorten.proofs.RoundSteps.{best_round}

-- a fact of a triangulation and a vector
pub moved_to : (P : List (List ℤ) → List ℕ → Type 0) (triples others : List (List ℤ)) (w v : List ℕ)
    → triples ≡ others → w ≡ v → P triples w → P others v
moved_to P triples others w v p q h = subst (λ (ts : List (List ℤ)). P ts v) p (subst (P triples) q h)

pub ok_map : {A E : Type 0} (r : Result A E) (P Q : A → Type 0) → ((a : A) → P a → Q a) → IfOk r P → IfOk r Q
ok_map (Ok a) P Q f h = f a h
ok_map (Err e) P Q f h = tt

-- one curve crosses something
pub one_crosses : (triples : List (List ℤ)) (w : List ℕ) → DrawingLaws triples → IsMulticurve triples w
    → IsOneCurve triples w → ¬ All (λ n. n ≡ 0) w
one_crosses triples w laws multicurve one none =
    let empty : draw triples w ≡ [] = (laws.none w (draw triples w) multicurve (laws.exists w multicurve)).1 none in
    let zero : length (draw triples w) ≡ 0 = ap length empty in
    omega arith

-- ---- totals, as they are told

pub total_low : (w : List ℕ) → IsSmall w → sum w ≤ total_limit
total_low w h = omega arith

pub total_told : (w : List ℕ) (n : ℕ) → IsSmall w → n ≡ total_of w → sum w ≡ n
total_told w n h is = omega arith

pub total_is_low : (w : List ℕ) (n : ℕ) → n ≡ total_of w → n ≤ 2 → sum w ≤ 2
total_is_low w n is low = omega arith

pub total_is_high : (w : List ℕ) (n : ℕ) → n ≡ total_of w → 2 < n → 2 < sum w
total_is_high w n is high = omega arith

-- ---- rounds

pub best_done : (old new : Arena) (s t : Short) (b : Bool) → b ≡ true → sum s.coords.numbers ≢ 2
    → IsAfterBest old s new t b → IsAfterRound old s new t
best_done old new s t b is above h =
    let k : IsAfterBest old s new t true = subst (IsAfterBest old s new t) is h in
    best_round old new s t k.0 above k.1 k.2

-- ---- the way

-- the state reached after rounds: with each the total is lower by 1 or more
pub record IsOnWay (start : Arena) (curve : Coordinates) (counter end : ℕ) (arena : Arena) (s : Short) : Type 0 where
  pub state : IsState arena s
  pub reached : IsReached (triangulation start curve.tri) curve arena s
  pub grows : Grows start arena
  pub left : sum s.coords.numbers + counter ≤ end + 2

starts_here : (arena : Arena) (curve : Coordinates) → IsTriangulation (triangulation arena curve.tri)
    → AreCoordinatesIn arena curve → sum curve.numbers ≤ total_limit
    → HasFreeCorners (triangulation arena curve.tri) curve.numbers → ¬ All (λ n. n ≡ 0) curve.numbers → GrowthLaws
    → (end : ℕ) → sum curve.numbers ≡ end
    → IsOnWay arena curve 2 end arena (record { path = empty_path curve.tri; coords = curve })
starts_here arena curve sound here low free some growth end total = record {
  state = record {
    path = record { start_in = here.tri_in; end_in = here.tri_in; moves_lead = refl };
    end = refl;
    sound = sound;
    here = here;
    small = low;
    free = free;
    some = some;
  };
  reached = record {
    edges = [];
    along = record { start = refl; moves = λ more. refl; moved = refl };
    descent = λ more v after d. d;
  };
  grows = growth.none arena;
  left = omega arith;
}

pub starts : (arena : Arena) (curve : Coordinates) (path : MovePath) → path ≡ empty_path curve.tri
    → IsTriangulation (triangulation arena curve.tri) → AreCoordinatesIn arena curve → sum curve.numbers ≤ total_limit
    → HasFreeCorners (triangulation arena curve.tri) curve.numbers → ¬ All (λ n. n ≡ 0) curve.numbers → GrowthLaws
    → (end : ℕ) → sum curve.numbers ≡ end
    → IsOnWay arena curve 2 end arena (record { path = path; coords = curve })
starts arena curve path is sound here low free some growth end total =
    subst (λ (p : MovePath). IsOnWay arena curve 2 end arena (record { path = p; coords = curve })) (sym is)
    (starts_here arena curve sound here low free some growth end total)

pub goes_on : (start old new : Arena) (curve : Coordinates) (counter end : ℕ) (s t : Short) (b : Bool) → b ≡ true
    → GrowthLaws → IsOnWay start curve counter end old s → IsRound old s new t b → Grows old new
    → IsOnWay start curve (counter + 1) end new t
goes_on start old new curve counter end s t b is growth h round grows =
    let k : IsAfterRound old s new t = subst (IsRound old s new t) is round in
    record {
      state = k.state;
      reached = k.reached (triangulation start curve.tri) curve h.reached;
      grows = growth.further start old new h.grows grows;
      left =
          let low : sum t.coords.numbers < sum s.coords.numbers = k.lowers in
          let before : sum s.coords.numbers + counter ≤ end + 2 = h.left in
          omega arith;
    }

-- a total of 2 or more, since something is crossed
least : (arena : Arena) (s : Short) → FlippedCornerLaws → IsState arena s → 2 ≤ sum s.coords.numbers
least arena s corners h =
    corners.two (there arena s) s.coords.numbers h.sound h.here.multicurve h.free h.some

-- no round is left
ends_same : (start arena : Arena) (curve : Coordinates) (counter end : ℕ) (s : Short)
    → FlippedCornerLaws → IsOnWay start curve counter end arena s → HasEnded (there arena s) s.coords.numbers
    → IsEnd (triangulation start curve.tri) curve arena s
ends_same start arena curve counter end s corners h e = record {
  state = h.state;
  reached = h.reached;
  ended = e;
  least = least arena s corners h.state;
}

pub ends : (start old new : Arena) (curve : Coordinates) (counter end : ℕ) (s t : Short) (b : Bool) → b ≡ false
    → FlippedCornerLaws → IsOnWay start curve counter end old s → IsRound old s new t b
    → IsEnd (triangulation start curve.tri) curve new t
ends start old new curve counter end s t b is corners h round =
    let k : HasEnded (there old s) s.coords.numbers × IsSame old s new t = subst (IsRound old s new t) is round in
    subst (λ (a : Arena). IsEnd (triangulation start curve.tri) curve a t) (sym k.1.arena)
    (subst (λ (u : Short). IsEnd (triangulation start curve.tri) curve old u) (sym k.1.state)
    (ends_same start old curve counter end s corners h k.0))

-- or the total is 2
pub runs_out : (start arena : Arena) (curve : Coordinates) (counter end : ℕ) (s : Short)
    → FlippedCornerLaws → IsOnWay start curve counter end arena s → end ≤ counter
    → IsEnd (triangulation start curve.tri) curve arena s
runs_out start arena curve counter end s corners h out =
    let low : 2 ≤ sum s.coords.numbers = least arena s corners h.state in
    let left : sum s.coords.numbers + counter ≤ end + 2 = h.left in
    ends_same start arena curve counter end s corners h (inl (omega arith))

-- ---- where it ends

descends : (triples : List (List ℤ)) (curve : Coordinates) (new : Arena) (s : Short)
    → (h : IsEnd triples curve new s) → IsDescent triples curve.numbers h.reached.edges (there new s) s.coords.numbers
descends triples curve new s h =
    subst (λ (es : List ℕ). IsDescent triples curve.numbers es (there new s) s.coords.numbers)
    (append-nil h.reached.edges)
    (h.reached.descent [] s.coords.numbers (there new s) (ended (there new s) s.coords.numbers h.ended))

pub is_short : (old new : Arena) (curve : Coordinates) (s : Short) → IsSmall curve.numbers
    → IsOneCurve (triangulation old curve.tri) curve.numbers
    → HasFreeCorners (triangulation old curve.tri) curve.numbers → IsEnd (triangulation old curve.tri) curve new s
    → sum s.coords.numbers ≤ 2 → IsShort old new curve s
is_short old new curve s small one free h low =
    let least : 2 ≤ sum s.coords.numbers = h.least in
    record {
      small = small;
      one = one;
      free = free;
      edges = h.reached.edges;
      descent = descends (triangulation old curve.tri) curve new s h;
      two = omega arith;
      path = h.state.path;
      start = h.reached.along.start;
      end = h.state.end;
      moves =
          sym (append-nil (moves_of new s.path))
          ∙ sym (h.reached.along.moves [])
          ∙ ap (flips_along (triangulation old curve.tri)) (append-nil h.reached.edges);
      here = h.state.here;
      moved = h.reached.along.moved;
      end_free = h.state.free;
    }

pub is_stuck : (old new : Arena) (curve : Coordinates) (s : Short) → IsSmall curve.numbers
    → IsOneCurve (triangulation old curve.tri) curve.numbers
    → HasFreeCorners (triangulation old curve.tri) curve.numbers → IsEnd (triangulation old curve.tri) curve new s
    → 2 < sum s.coords.numbers → IsRefusedFor old new curve (Stuck s.coords)
is_stuck old new curve s small one free h high =
    (small, one, free, h.state.here, (h.reached.edges, descends (triangulation old curve.tri) curve new s h), high)
