-- The states of a vector are things with two pairings, and its drawings are families of closed runs.
--
-- The opposite of a state is the same strand seen from the other side of its edge; across is the other end of the
-- strand in its triangle. Of each two opposite states one has a label that is not negative, and these are the sides. A
-- drawing uses each of them once, so it uses each pair of opposite states once.
use Rattle.std.proofs.Common.{ℕ, ℤ, pos, negsuc, List, [], ◌∷◌, ◌≡◌, ◌≢◌, ◌<◌, ◌+◌, ◌-◌, ◌⊎◌, inl, inr, refl, sym, ◌∙◌}
use Rattle.std.proofs.Common.{ap, subst, arith, length}
use Rattle.std.specs.List.{All, count_by}
use Rattle.std.proofs.lemmas.List.Elements.{All-head, All-weaker}
use Rattle.ideal_tri.specs.Labels.{edge_of}
use Rattle.ideal_tri.specs.Triangulations.{IsLabel, IsTriangulation, edge_count, previous}
use Rattle.ideal_tri.specs.Vectors.{IsMulticurve, weight, corner_count}
use Rattle.ideal_tri.specs.Strands.{State, state_at, IsStrand, same_state, opposite, cross, strand_step, Runs}
use Rattle.ideal_tri.specs.Strands.{IsClosedRun, IsDrawing}
use Rattle.ideal_tri.specs.SurfaceLaws.{TriangleLaws}
use Rattle.ideal_tri.specs.Drawings.{strand_number, strands}
use Rattle.ideal_tri.proofs.Triangles.{triangle_laws}
use Rattle.ideal_tri.proofs.Strands.{corner_sum}
use Rattle.ideal_tri.proofs.Drawings.Through as T
use Rattle.ideal_tri.proofs.Drawings.Through.{same_state_decides}
use Rattle.ideal_tri.proofs.Drawings.Numbers.{IsSide, are_sides, strands_rise, in_strands}
use Rattle.ideal_tri.proofs.Drawings.Orbits.{Pairings}
use Rattle.ideal_tri.proofs.Drawings.Runs as R
use Rattle.ideal_tri.proofs.Drawings.Alike as L
use Rattle.ideal_tri.proofs.Drawings.Sides.{Numbering}

-- the number of a strand is that of its other side
pub opposite_number : (w : List ℕ) (x : ℤ) (i : ℕ) → i < weight w x
    → strand_number w (opposite w (state_at x i)) ≡ strand_number w (state_at x i)
opposite_number w (pos e) i b = omega arith
opposite_number w (negsuc e) i b = refl

-- a vector on a triangulation of which only the laws of its triangles and the corners of the vector are used
pub record Setting (triples : List (List ℤ)) (w : List ℕ) : Type 0 where
  pub laws : TriangleLaws triples
  pub long : length w ≡ edge_count triples
  pub corners : (x : ℤ) → IsLabel triples x
      → weight w x ≡ corner_count triples w x + corner_count triples w (previous triples x)

pub setting : (triples : List (List ℤ)) (w : List ℕ) → IsTriangulation triples → IsMulticurve triples w
    → Setting triples w
setting triples w h m = record {
  laws = triangle_laws triples h;
  long = m.one_per_edge;
  corners = λ x l. corner_sum triples h w x m l;
}

module _ (triples : List (List ℤ)) (w : List ℕ) (given : Setting triples w) where
  pub side_valid : (q : State) → IsSide w q → IsStrand triples w q
  side_valid q h = record { is_label = subst (λ (n : ℕ). edge_of q.label < n) given.long h.edge; within = h.within }

  pub covered : (x : ℤ) (i : ℕ) → i < weight w x
      → (count_by (same_state (state_at x i)) (strands w) ≢ 0)
      ⊎ (count_by (same_state (opposite w (state_at x i))) (strands w) ≢ 0)
  covered (pos e) i b = inl (in_strands w e i b)
  covered (negsuc e) i b = inr (in_strands w e (weight w (negsuc e) - 1 - i) (omega arith))

  abbrev pub pairings : Pairings State
  pairings = record {
    same = same_state;
    same_decides = same_state_decides;
    Valid = IsStrand triples w;
    opposite = opposite w;
    opposite_valid = T.opposite_valid triples w;
    opposite_back = T.opposite_back triples w;
    opposite_other = T.opposite_other triples w;
    cross = cross triples w;
    cross_valid = T.cross_valid triples w given.laws given.corners;
    cross_back = T.cross_back triples w given.laws given.corners;
    cross_other = T.cross_other triples w given.laws given.corners;
    sides = strands w;
    sides_valid = All-weaker (IsSide w) (IsStrand triples w) side_valid (strands w) (are_sides w);
    covers = λ q v. covered q.label q.place v.within;
  }

  abbrev pub numbering : Numbering pairings
  numbering = record {
    number = strand_number w;
    opposite_number = λ q v. opposite_number w q.label q.place v.within;
    rising = strands_rise w;
  }

  -- ---- closed runs and drawings as families

  pub to_runs : (q r : State) (run : List State) → Runs triples w q run r → R.Runs pairings q run r
  to_runs q r [] h = h
  to_runs q r (p ∷ run) h = (h.0, to_runs (strand_step triples w q) r run h.1)

  from_runs : (q r : State) (run : List State) → R.Runs pairings q run r → Runs triples w q run r
  from_runs q r [] h = h
  from_runs q r (p ∷ run) h = (h.0, from_runs (strand_step triples w q) r run h.1)

  start_valid : (q : State) (run : List State) → 0 < length run → All (IsStrand triples w) run → Runs triples w q run q
      → IsStrand triples w q
  start_valid q [] some v h = absurd (omega arith)
  start_valid q (p ∷ run) some v h = subst (IsStrand triples w) h.0 (All-head (IsStrand triples w) p run v)

  some_not_nil : (run : List State) → 0 < length run → run ≢ []
  some_not_nil run some e = omega (arith, ap length e)

  not_nil_some : (run : List State) → run ≢ [] → 0 < length run
  not_nil_some [] some = absurd (some refl)
  not_nil_some (q ∷ run) some = omega arith

  pub to_closed : (run : List State) → IsClosedRun triples w run → R.Closed pairings run
  to_closed run c = record {
    start = c.start;
    valid = start_valid c.start run c.not_empty c.strands c.closes;
    not_empty = some_not_nil run c.not_empty;
    closes = to_runs c.start c.start run c.closes;
  }

  pub from_closed : (run : List State) → R.Closed pairings run → IsClosedRun triples w run
  from_closed run c = record {
    start = c.start;
    not_empty = not_nil_some run c.not_empty;
    strands = R.closed_valid pairings run c;
    closes = from_runs c.start c.start run c.closes;
  }

  all_once : (runs : List (List State)) → IsDrawing triples w runs → (x : ℤ) (i : ℕ) → IsStrand triples w (state_at x i)
      → L.uses pairings (state_at x i) (L.joined pairings runs) ≡ 1
  all_once runs d (pos e) i v = d.once e i v.is_label v.within
  all_once runs d (negsuc e) i v =
      let b : i < weight w (negsuc e) = v.within in
      sym (L.uses-opposite pairings (state_at (negsuc e) i) (L.joined pairings runs) v)
      ∙ d.once e (weight w (negsuc e) - 1 - i) v.is_label (omega arith)

  pub to_family : (runs : List (List State)) → IsDrawing triples w runs → L.Family pairings runs
  to_family runs d = record {
    closed = All-weaker (IsClosedRun triples w) (R.Closed pairings) to_closed runs d.closed;
    once = λ q v. all_once runs d q.label q.place v;
  }

  pub from_family : (runs : List (List State)) → L.Family pairings runs → IsDrawing triples w runs
  from_family runs f = record {
    closed = All-weaker (R.Closed pairings) (IsClosedRun triples w) from_closed runs f.closed;
    once = λ e i b c. f.once (state_at (pos e) i) (record { is_label = b; within = c });
  }
