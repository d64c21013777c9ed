-- Drawings exist, and are unique.
--
-- What is shown of families of closed runs says that each multicurve has a drawing, that one alone begins each curve at
-- its least strand in rising order, and, since the way back of a run has the inverse word, that the words of any two
-- drawings are the same curves.
use Rattle.std.proofs.Common.{ℕ, ℤ, pos, Bool, true, cond, leb, List, [], ◌∷◌, ◌++◌, ◌≡◌, ◌≢◌, ◌≤◌, ◌<◌, ◌↔◌, inl, inr}
use Rattle.std.proofs.Common.{refl, sym, ◌∙◌, ap, subst, arith, length, map}
use Rattle.std.specs.List.{All, AllPass}
use Rattle.std.specs.List.Sorted.{IsStrictlyIncreasing}
use Rattle.std.proofs.lemmas.Bool.{leb-true, le-leb}
use Rattle.std.proofs.lemmas.List.{map-append, get_or_default}
use Rattle.std.proofs.lemmas.List.Elements.{All-nil, All-cons, All-head, All-tail, All-map, All-weaker, All-get_or}
use Rattle.std.proofs.lemmas.List.Sums.{AllPass-from_list_all, list_all-from_AllPass}
use Rattle.ideal_tri.specs.Labels.{inverse, edge_of}
use Rattle.ideal_tri.specs.Words.{inverse_word, IsRotation}
use Rattle.ideal_tri.specs.Curves.{IsSameCurve, IsSameCurves, is_same_curve, crossings}
use Rattle.ideal_tri.specs.Strands.{State, state_at, IsStrand, IsClosedRun, IsDrawing, opposite, word_of, words_of}
use Rattle.ideal_tri.specs.Drawings.{strand_number, strands, curve_from, least_among, draw, BeginsAtLeast, first_number}
use Rattle.ideal_tri.specs.Drawings.{IsRising}
use Rattle.ideal_tri.proofs.Rotations.{Rotation-map, is_same_curve-respects}
use Rattle.ideal_tri.proofs.Crossings.{drawing_counts}
use Rattle.ideal_tri.proofs.Drawings.Tallies.{count_by-map}
use Rattle.ideal_tri.proofs.Drawings.Rising.{rising, increasing}
use Rattle.ideal_tri.proofs.Drawings.Through.{state_same}
use Rattle.ideal_tri.proofs.Drawings.Numbers.{IsSide, are_sides, in_strands}
use Rattle.ideal_tri.proofs.Drawings.Orbits as O
use Rattle.ideal_tri.proofs.Drawings.Orbits.{Pairings}
use Rattle.ideal_tri.proofs.Drawings.Runs as R
use Rattle.ideal_tri.proofs.Drawings.Cycles as C
use Rattle.ideal_tri.proofs.Drawings.Alike as L
use Rattle.ideal_tri.proofs.Drawings.Firsts as F
use Rattle.ideal_tri.proofs.Drawings.FirstCycles as FC
use Rattle.ideal_tri.proofs.Drawings.Sides.{Numbering}
use Rattle.ideal_tri.proofs.Drawings.States.{Setting, pairings, numbering, to_family, from_family}

module _ (triples : List (List ℤ)) (w : List ℕ) (given : Setting triples w) where
  abbrev s : Pairings State
  s = pairings triples w given

  abbrev n : Numbering s
  n = numbering triples w given

  -- ---- the drawing from the least strands on

  pub draw_is_drawing : IsDrawing triples w (draw triples w)
  draw_is_drawing = from_family triples w given (draw triples w) (FC.firsts_family s n)

  begins_at_least : (q : State) → F.IsFirst s n q → BeginsAtLeast w (curve_from triples w q)
  begins_at_least q f =
      let side : IsSide w q = O.All-counted s (IsSide w) q (strands w) (are_sides w) f.side in
      let start : State = state_at (pos (edge_of q.label)) q.place in
      let is : q ≡ start = state_same q start side.positive refl in
      let passes : AllPass (λ p. leb (strand_number w q) (strand_number w p)) (curve_from triples w q) =
      AllPass-from_list_all (λ p. leb (strand_number w q) (strand_number w p)) (curve_from triples w q) f.least in
      record {
        edge = edge_of q.label;
        place = q.place;
        rest = C.rest_of s q;
        begins = ap (λ (p : State). p ∷ C.rest_of s q) is;
        least =
            All-weaker (λ p. leb (strand_number w q) (strand_number w p) ≡ true)
            (λ p. strand_number w start ≤ strand_number w p)
            (λ p e. omega (arith, leb-true (strand_number w q) (strand_number w p) e, ap (strand_number w) is))
            (curve_from triples w q) passes;
      }

  pub draw_starts : All (BeginsAtLeast w) (draw triples w)
  draw_starts =
      All-map (BeginsAtLeast w) (curve_from triples w) (least_among triples w (strands w))
      (All-weaker (F.IsFirst s n) (λ q. BeginsAtLeast w (curve_from triples w q)) begins_at_least
      (least_among triples w (strands w)) (FC.are_firsts s n))

  numbers_of_firsts : (qs : List State)
      → map (first_number w) (map (curve_from triples w) qs) ≡ map (strand_number w) qs
  numbers_of_firsts [] = refl
  numbers_of_firsts (q ∷ qs) = ap (λ (ks : List ℕ). strand_number w q ∷ ks) (numbers_of_firsts qs)

  pub draw_rises : IsRising w (draw triples w)
  draw_rises =
      subst IsStrictlyIncreasing (sym (numbers_of_firsts (least_among triples w (strands w))))
      (increasing (strand_number w) (least_among triples w (strands w)) (FC.firsts_rising s n))

  -- ---- no other

  -- the runs are the curves from these states on, and these are first
  record FromFirsts (runs : List (List State)) : Type 0 where
    states : List State
    first : All (F.IsFirst s n) states
    are : runs ≡ map (curve_from triples w) states
    numbers : map (first_number w) runs ≡ map (strand_number w) states

  first_of_run : (q : State) (run : List State) → L.Simple s (q ∷ run) → BeginsAtLeast w (q ∷ run)
      → F.IsFirst s n q × (q ∷ run ≡ curve_from triples w q)
  first_of_run q run h b =
      let start : State = state_at (pos b.edge) b.place in
      let is : q ≡ start = cc b.begins in
      let v : IsStrand triples w q = (R.closed_at_head s q run h.closed).0 in
      let u : IsStrand triples w start = subst (IsStrand triples w) is v in
      let once : L.uses s q (q ∷ run) ≤ 1 = h.once q v in
      let curve : q ∷ run ≡ curve_from triples w q = C.cycle_is s q run h.closed (omega arith) in
      let least : AllPass (λ p. leb (strand_number w q) (strand_number w p)) (q ∷ run) =
      All-weaker (λ p. strand_number w start ≤ strand_number w p)
      (λ p. leb (strand_number w q) (strand_number w p) ≡ true)
      (λ p e. le-leb (strand_number w q) (strand_number w p)
      (omega (arith, ap (strand_number w) is))) (q ∷ run) b.least in (
        record {
          side = subst (λ (p : State). O.count s p (strands w) ≢ 0) (sym is) (in_strands w b.edge b.place u.within);
          least =
              subst (λ (z : List State). F.is_least s n q z ≡ true) curve
              (list_all-from_AllPass (λ p. leb (strand_number w q) (strand_number w p)) (q ∷ run) least);
        },
        curve,
      )

  from_firsts : (runs : List (List State)) → All (L.Simple s) runs → All (BeginsAtLeast w) runs → FromFirsts runs
  from_firsts [] h b = record { states = []; first = All-nil (F.IsFirst s n); are = refl; numbers = refl }
  from_firsts ([] ∷ runs) h b = absurd ((All-head (L.Simple s) [] runs h).closed.not_empty refl)
  from_firsts ((q ∷ run) ∷ runs) h b =
      let here : F.IsFirst s n q × (q ∷ run ≡ curve_from triples w q) =
      first_of_run q run (All-head (L.Simple s) (q ∷ run) runs h) (All-head (BeginsAtLeast w) (q ∷ run) runs b) in
      let rest : FromFirsts runs =
      from_firsts runs (All-tail (L.Simple s) (q ∷ run) runs h) (All-tail (BeginsAtLeast w) (q ∷ run) runs b) in
      record {
        states = q ∷ rest.states;
        first = All-cons (F.IsFirst s n) q rest.states here.0 rest.first;
        are =
            ap (λ (z : List State). z ∷ runs) here.1
            ∙ ap (λ (zs : List (List State)). curve_from triples w q ∷ zs) rest.are;
        numbers = ap (λ (ks : List ℕ). strand_number w q ∷ ks) rest.numbers;
      }

  pub draw_only : (runs : List (List State)) → IsDrawing triples w runs → All (BeginsAtLeast w) runs → IsRising w runs
      → runs ≡ draw triples w
  draw_only runs d b r = go (from_firsts runs (L.family_simple s runs (to_family triples w given runs d)) b)
    where
      go : FromFirsts runs → runs ≡ draw triples w
      go f =
          let used : (q : State) → IsStrand triples w q → L.uses s q (L.joined s (FC.cycles s n f.states)) ≢ 0 =
          λ q v none. omega (
            arith,
            (to_family triples w given runs d).once q v,
            ap (λ (z : List (List State)). L.uses s q (L.joined s z)) f.are,
          ) in
          f.are
          ∙ ap (map (curve_from triples w))
          (FC.firsts_only s n f.states f.first
          (rising (strand_number w) f.states (subst IsStrictlyIncreasing f.numbers r)) used)

  -- ---- any two

  word-back : (run : List State) → word_of (R.back s run) ≡ inverse_word (word_of run)
  word-back [] = refl
  word-back (q ∷ run) =
      map-append (λ (p : State). p.label) (R.back s run) (opposite w q ∷ [])
      ∙ ap (λ (u : List ℤ). u ++ (inverse q.label ∷ [])) (word-back run)

  same_curve : (run other : List State) → L.IsAlike s run other → IsSameCurve (word_of run) (word_of other)
  same_curve run other (inl r) = inl (Rotation-map (λ (q : State). q.label) run other r)
  same_curve run other (inr r) =
      inr
      (subst (λ (u : List ℤ). IsRotation u (word_of other)) (word-back run)
      (Rotation-map (λ (q : State). q.label) (R.back s run) other r))

  pub drawings_alike : (runs others : List (List State)) → IsDrawing triples w runs → IsDrawing triples w others
      → IsSameCurves (words_of runs) (words_of others)
  drawings_alike runs others d e = record {
    counts = λ c.
        count_by-map (is_same_curve c) word_of runs
        ∙ L.family_sums s (λ run. cond (is_same_curve c (word_of run)) 1 0)
        (λ run other a. ap (λ (b : Bool). cond b 1 0)
        (is_same_curve-respects c (word_of run) (word_of other) (same_curve run other a)))
        runs others (to_family triples w given runs d) (to_family triples w given others e)
        ∙ sym (count_by-map (is_same_curve c) word_of others);
  }

  -- ---- no strands

  no_run : (run : List State) → IsClosedRun triples w run → All (λ k. k ≡ 0) w → ⊥
  no_run [] c zero = omega (arith, c.not_empty)
  no_run (q ∷ run) c zero =
      let v : IsStrand triples w q = All-head (IsStrand triples w) q run c.strands in
      let b : edge_of q.label < length w = omega (arith, v.is_label, given.long) in
      omega (arith, v.within, All-get_or (λ k. k ≡ 0) w (edge_of q.label) 0 b zero)

  no_strand : (runs : List (List State)) → All (IsClosedRun triples w) runs → All (λ k. k ≡ 0) w → runs ≡ []
  no_strand [] c zero = refl
  no_strand (run ∷ runs) c zero = absurd (no_run run (All-head (IsClosedRun triples w) run runs c) zero)

  pub drawing_none : (runs : List (List State)) → IsDrawing triples w runs → (runs ≡ []) ↔ All (λ k. k ≡ 0) w
  drawing_none runs d = (
    λ e k x b.
        get_or_default w k x 0 b
        ∙ sym (drawing_counts triples w runs d k (omega (arith, given.long)))
        ∙ ap (λ (z : List (List State)). crossings k (words_of z)) e,
    λ zero. no_strand runs d.closed zero,
  )
