use Rattle.std.proofs.Common.{◌≡◌, ◌-◌, ◌+◌, ◌≤◌, ◌<◌, ℕ, ℤ, List, pos, negsuc, length, slice_index, map, sym, ◌∙◌, ap}
use Rattle.std.proofs.Common.{subst, arith}
use Rattle.std.specs.List.{range_with_len}
use Rattle.ideal_tri.specs.Labels.{inverse}
use Rattle.ideal_tri.specs.Triangulations.{edge_count}
use Rattle.ideal_tri.specs.PeripheralParts.{least_count, stripped}
use Rattle.edge_coords.specs.Coordinates.{AreSmall}
use Rattle.edge_coords.specs.declared.coords.TheConstants.{COORDINATE_LIMIT}
use Rattle.edge_coords.proofs.Filled.{filled_more, filled, small_values}
use Rattle.edge_coords.proofs.corners.stripped.Goals as goal

-- the number that stays at an edge
left_at : List (List ℤ) → List ℕ → ℕ → ℕ
left_at triples w e = slice_index w e - least_count triples w (pos e) - least_count triples w (negsuc e)

rounded_at : (triples : List (List ℤ)) (w : List ℕ) (e r : ℕ) (x : ℤ) → x ≡ pos e
    → r ≡ least_count triples w x + least_count triples w (inverse x) → slice_index w e - r ≡ left_at triples w e
unfolding left_at
rounded_at triples w e r x label is =
    let here : r ≡ least_count triples w (pos e) + least_count triples w (negsuc e) =
    is ∙ ap (λ (y : ℤ). least_count triples w y + least_count triples w (inverse y)) label in
    omega arith

pub loop-e-preserved : goal.loop-e-preserved
unfolding left_at
loop-e-preserved c =
    filled_more (left_at c.args.tri.now c.args.w.now) c.loop-e.numbers c.loop-e.e _ (omega arith)
    (rounded_at c.args.tri.now c.args.w.now c.loop-e.e c.rounded.result c.label_of.result c.label_of.ensures
    c.rounded.ensures.value)
    c.loop-e.invariant

pub returns-clause-value : goal.returns-clause-value
unfolding left_at
returns-clause-value c =
    filled (left_at c.args.tri.now c.args.w.now) c.loop-e.numbers (length c.args.w.now) c.loop-e.e c.requires.few
    c.loop-e-test.false c.loop-e.invariant
    ∙ ap (λ (m : ℕ). map (left_at c.args.tri.now c.args.w.now) (range_with_len 0 m)) c.requires.multicurve.one_per_edge

pub returns-clause-small : goal.returns-clause-small
unfolding left_at
returns-clause-small c =
    small_values (left_at c.args.tri.now c.args.w.now) (edge_count c.args.tri.now)
    (λ k h.
    let many : length c.args.w.now ≡ edge_count c.args.tri.now = c.requires.multicurve.one_per_edge in
    let low : slice_index c.args.w.now k < COORDINATE_LIMIT = c.requires.small k 0 (omega arith) in
    omega arith)

pub returns-clause-free : goal.returns-clause-free
returns-clause-free c =
    (c.corner_laws.ensures c.args.tri.now c.requires.sound).stripped_free c.args.w.now c.requires.multicurve
