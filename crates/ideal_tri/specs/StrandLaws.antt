-- What holds of the steps of strands, and of the curves from them on.
use Rattle.std.specs.Prelude.{◌≡◌, ◌≢◌, ◌≤◌, ◌<◌, ◌↔◌, ◌++◌, ℕ, ℤ, true, List, ◌∷◌, length, sum}
use Rattle.std.specs.Prelude.{All}
use Rattle.std.specs.List.{flat_map}
use Rattle.ideal_tri.specs.Vectors.{IsMulticurve}
use Rattle.ideal_tri.specs.Strands.{State, IsStrand, strand_step, Runs, IsClosedRun, uses}
use Rattle.ideal_tri.specs.Strands.{IsDrawing}
use Rattle.ideal_tri.specs.Drawings.{strands, curve_from, is_least_of, curves_among}

pub record StrandLaws (triples : List (List ℤ)) : Type 0 where
  pub stays : (w : List ℕ) (q : State) → IsMulticurve triples w → IsStrand triples w q
      → IsStrand triples w (strand_step triples w q)
  -- a drawing uses each strand once, and closed runs use a strand as often as the next one
  pub used : (w : List ℕ) (runs : List (List State)) (q : State) → IsMulticurve triples w
      → IsDrawing triples w runs
      → IsStrand triples w q → uses w q (flat_map (λ run. run) runs) ≡ 1
  pub stepped : (w : List ℕ) (runs : List (List State)) (q : State) → IsMulticurve triples w
      → All (IsClosedRun triples w) runs → IsStrand triples w q
      → uses w (strand_step triples w q) (flat_map (λ run. run) runs)
      ≡ uses w q (flat_map (λ run. run) runs)
  -- the curve from a strand on is closed, uses no strand twice, and so is no longer than there are
  -- strands
  pub closed : (w : List ℕ) (q : State) → IsMulticurve triples w → IsStrand triples w q
      → IsClosedRun triples w (curve_from triples w q)
  pub once : (w : List ℕ) (p q : State) → IsMulticurve triples w → IsStrand triples w p
      → IsStrand triples w q
      → uses w p (curve_from triples w q) ≤ 1
  pub short : (w : List ℕ) (q : State) → IsMulticurve triples w → IsStrand triples w q
      → length (curve_from triples w q) ≤ sum w
  -- a run that comes back to its start for the first time is that curve, and one that has not come
  -- back is shorter
  pub traced : (w : List ℕ) (q : State) (run : List State) → IsMulticurve triples w
      → IsStrand triples w q
      → Runs triples w q (q ∷ run) q → All (λ p. p ≢ q) run → q ∷ run ≡ curve_from triples w q
  pub shorter : (w : List ℕ) (q r : State) (run : List State) → IsMulticurve triples w
      → IsStrand triples w q
      → Runs triples w q (q ∷ run) r → All (λ p. p ≢ q) run → r ≢ q
      → length (q ∷ run) < length (curve_from triples w q)
  -- a strand is the least of its curve exactly where no curve from a least strand before it uses it
  pub fresh : (w : List ℕ) (q : State) (before after : List State) → IsMulticurve triples w
      → strands w ≡ before ++ (q ∷ after)
      → (is_least_of w q (curve_from triples w q) ≡ true)
      ↔ (uses w q (flat_map (λ run. run) (curves_among triples w before)) ≡ 0)
