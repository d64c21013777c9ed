-- What holds of the drawings of a vector, and of lists of closed words.
use Rattle.std.specs.Prelude.{◌≡◌, ◌<◌, ◌+◌, ◌↔◌, ◌++◌, ℕ, ℤ, List, [], length, map, slice_index}
use Rattle.std.specs.Prelude.{All}
use Rattle.std.specs.List.{AllZip}
use Rattle.ideal_tri.specs.Words.{IsCyclicallyReduced}
use Rattle.ideal_tri.specs.Curves.{IsSameCurve, IsSameCurves, crossings}
use Rattle.ideal_tri.specs.Triangulations.{IsLabel, IsWalk, edge_count, previous}
use Rattle.ideal_tri.specs.Vectors.{IsMulticurve, weight, corner_count}
use Rattle.ideal_tri.specs.Strands.{State, IsDrawing, words_of}
use Rattle.ideal_tri.specs.Drawings.{draw, BeginsAtLeast, IsRising}

pub record DrawingLaws (triples : List (List ℤ)) : Type 0 where
  -- a side is crossed by the strands round its two ends
  pub corners : (w : List ℕ) (x : ℤ) → IsMulticurve triples w → IsLabel triples x
      → weight w x ≡ corner_count triples w x + corner_count triples w (previous triples x)
  -- each multicurve has a drawing: one that begins each curve at its least strand, in rising order,
  -- and no other does so
  pub exists : (w : List ℕ) → IsMulticurve triples w → IsDrawing triples w (draw triples w)
  pub starts : (w : List ℕ) → IsMulticurve triples w → All (BeginsAtLeast w) (draw triples w)
  pub order : (w : List ℕ) → IsMulticurve triples w → IsRising w (draw triples w)
  pub only : (w : List ℕ) (runs : List (List State)) → IsMulticurve triples w
      → IsDrawing triples w runs
      → All (BeginsAtLeast w) runs → IsRising w runs → runs ≡ draw triples w
  -- any two drawings have the same words up to order, rotation and direction
  pub unique : (w : List ℕ) (runs others : List (List State)) → IsMulticurve triples w
      → IsDrawing triples w runs
      → IsDrawing triples w others → IsSameCurves (words_of runs) (words_of others)
  -- the words are closed walks with nothing to reduce, and cross each edge as often as the vector
  -- says
  pub walks : (w : List ℕ) (runs : List (List State)) → IsMulticurve triples w
      → IsDrawing triples w runs
      → All (λ word. (t : ℕ) × IsWalk triples t word t) (words_of runs)
  pub reduced : (w : List ℕ) (runs : List (List State)) → IsMulticurve triples w
      → IsDrawing triples w runs
      → All IsCyclicallyReduced (words_of runs)
  pub counts : (w : List ℕ) (runs : List (List State)) → IsMulticurve triples w
      → IsDrawing triples w runs
      → (e : ℕ) → e < edge_count triples → crossings e (words_of runs) ≡ slice_index w e
  -- there is no word exactly where nothing is crossed
  pub none : (w : List ℕ) (runs : List (List State)) → IsMulticurve triples w
      → IsDrawing triples w runs
      → (runs ≡ []) ↔ All (λ n. n ≡ 0) w

-- lists of closed words up to order, rotation and direction
pub record SameCurvesLaws : Type 0 where
  pub same : (us : List (List ℤ)) → IsSameCurves us us
  pub back : (us vs : List (List ℤ)) → IsSameCurves us vs → IsSameCurves vs us
  pub along : (us vs ws : List (List ℤ)) → IsSameCurves us vs → IsSameCurves vs ws
      → IsSameCurves us ws
  pub append : (us vs more others : List (List ℤ)) → IsSameCurves us vs → IsSameCurves more others
      → IsSameCurves (us ++ more) (vs ++ others)
  pub lengths : (us vs : List (List ℤ)) → IsSameCurves us vs → length us ≡ length vs
  pub entrywise : (us vs : List (List ℤ)) → AllZip IsSameCurve us vs → IsSameCurves us vs
  pub mapped : (f : List ℤ → List ℤ) → ((u v : List ℤ) → IsSameCurve u v → IsSameCurve (f u) (f v))
      → (us vs : List (List ℤ)) → IsSameCurves us vs → IsSameCurves (map f us) (map f vs)
  pub crossed : (e : ℕ) (us vs : List (List ℤ)) → IsSameCurves us vs
      → crossings e us ≡ crossings e vs
