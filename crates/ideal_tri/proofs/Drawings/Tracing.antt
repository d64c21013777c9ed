-- The curve from a strand on, as it is found step by step, and the least strands, as they are met in order.
use Rattle.std.proofs.Common.{ℕ, ℤ, List, [], ◌∷◌, ◌≡◌, ◌≢◌, ◌<◌, refl, sym, ◌∙◌, ap, arith, length}
use Rattle.std.specs.List.{All}
use Rattle.std.proofs.lemmas.List.Elements.{All-head, All-tail, All-weaker}
use Rattle.ideal_tri.specs.Strands.{State, IsClosedRun}
use Rattle.ideal_tri.specs.Drawings.{curve_from}
use Rattle.ideal_tri.specs.StrandLaws.{StrandLaws}
use Rattle.ideal_tri.specs.Triangulations.{IsTriangulation}
use Rattle.ideal_tri.specs.Vectors.{IsMulticurve}
use Rattle.ideal_tri.proofs.Drawings.Tallies.{sum_by-agree}
use Rattle.ideal_tri.proofs.Drawings.Numbers.{length-strands_from}
use Rattle.ideal_tri.proofs.Drawings.Orbits as O
use Rattle.ideal_tri.proofs.Drawings.Orbits.{Pairings}
use Rattle.ideal_tri.proofs.Drawings.Runs as R
use Rattle.ideal_tri.proofs.Drawings.Cycles as C
use Rattle.ideal_tri.proofs.Drawings.Alike as L
use Rattle.ideal_tri.proofs.Drawings.InOrder as I
use Rattle.ideal_tri.proofs.Drawings.States.{Setting, setting, pairings, numbering, to_runs, to_closed, from_closed}
use Rattle.ideal_tri.proofs.Drawings.States.{to_family}

module _ {A : Type 0} (s : Pairings A) where
  -- closed runs use a thing as often as its step
  uses-step : (x : A) (run : List A) → s.Valid x → R.Closed s run → L.uses s (O.step s x) run ≡ L.uses s x run
  uses-step x run v c =
      let u : s.Valid (s.opposite (O.step s x)) = s.opposite_valid (O.step s x) (O.step_valid s x v) in
      omega (
        arith,
        R.count-closed s x run v c,
        R.count-closed s (s.opposite (O.step s x)) run u c,
        ap (λ (y : A). O.count s y run) (O.step_back s x v),
      )

  uses-steps : (x : A) (runs : List (List A)) → s.Valid x → All (R.Closed s) runs
      → L.uses s (O.step s x) (L.joined s runs) ≡ L.uses s x (L.joined s runs)
  uses-steps x runs v c =
      L.uses-joined s (O.step s x) runs
      ∙ sum_by-agree (L.uses s (O.step s x)) (L.uses s x) runs
      (All-weaker (R.Closed s) (λ run. L.uses s (O.step s x) run ≡ L.uses s x run)
      (λ run d. uses-step x run v d) runs c)
      ∙ sym (L.uses-joined s x runs)

  none_equal : (x : A) (run : List A) → All (λ y. y ≢ x) run → O.count s x run ≡ 0
  none_equal x [] h = refl
  none_equal x (y ∷ run) h =
      O.count-other s x y run (λ e. All-head (λ z. z ≢ x) y run h (sym e)) ∙ none_equal x run
      (All-tail (λ z. z ≢ x) y run h)

  first_return : (x : A) (run : List A) → s.Valid x → R.Runs s x (x ∷ run) x → All (λ y. y ≢ x) run
      → x ∷ run ≡ C.cycle s x
  first_return x run v h others =
      ap (λ (zs : List A). x ∷ zs)
      (R.runs_unique s (O.step s x) x run (C.rest_of s x) h.1 (C.cycle_runs s x v) (none_equal x run others)
      (C.rest_count s x))

  not_yet : (x y : A) (run : List A) → s.Valid x → R.Runs s x (x ∷ run) y → All (λ z. z ≢ x) run → y ≢ x
      → length (x ∷ run) < length (C.cycle s x)
  not_yet x y run v h others ne =
      omega (
        arith,
        R.runs_shorter s (O.step s x) x y run (C.rest_of s x) h.1 (C.cycle_runs s x v) (none_equal x run others) ne,
      )

module _ (triples : List (List ℤ)) (h : IsTriangulation triples) where
  abbrev at : (w : List ℕ) → IsMulticurve triples w → Setting triples w
  at w m = setting triples w h m

  abbrev s : (w : List ℕ) → IsMulticurve triples w → Pairings State
  s w m = pairings triples w (at w m)

  pub strand_laws : StrandLaws triples
  strand_laws = record {
    stays = λ w q m v. O.step_valid (s w m) q v;
    used = λ w runs q m d v. (to_family triples w (at w m) runs d).once q v;
    stepped = λ w runs q m c v.
        uses-steps (s w m) q runs v
        (All-weaker (IsClosedRun triples w) (R.Closed (s w m)) (to_closed triples w (at w m)) runs c);
    closed = λ w q m v. from_closed triples w (at w m) (curve_from triples w q) (C.cycle_closed (s w m) q v);
    once = λ w p q m u v. (L.cycle_simple (s w m) q v).once p u;
    short = λ w q m v. omega (arith, L.cycle_short (s w m) q v, length-strands_from 0 w);
    traced = λ w q run m v r others.
        first_return (s w m) q run v (to_runs triples w (at w m) q q (q ∷ run) r) others;
    shorter = λ w q r run m v runs others ne.
        not_yet (s w m) q r run v (to_runs triples w (at w m) q r (q ∷ run) runs) others ne;
    fresh = λ w q before after m is.
        I.first_unless_used (s w m) (numbering triples w (at w m)) q before after is;
  }
