use Rattle.std.proofs.Common.{ℕ, ℤ, List, ◌≡◌, arith, sym, ◌∙◌, ap, subst, map, length}
use Rattle.std.specs.List.{All}
use Rattle.ideal_tri.specs.Triangulations.{edge_count}
use Rattle.ideal_tri.specs.Strands.{State, words_of}
use Rattle.ideal_tri.specs.Drawings.{curves_among, draw}
use Rattle.tri_atlas.specs.Arena.{triangulation}
use Rattle.free_groupoid.specs.Walks.{DualWalk, IsClosedOn, walk_of_letters}
use Rattle.strand_draw.proofs.InOrder.{before-all}
use Rattle.strand_draw.proofs.ClosedWalks.{letters-along}
use Rattle.strand_draw.proofs.drawing.draw.Goals as goal

all_drawn : (c : goal.After-drop-marks-2)
    → c.loop-e.walks.items ≡ map (walk_of_letters (triangulation c.args.atlas.now c.args.w.now.tri))
    (words_of (draw (triangulation c.args.atlas.now c.args.w.now.tri) c.args.w.now.numbers))
all_drawn c =
    let triples : List (List ℤ) = triangulation c.args.atlas.now c.args.w.now.tri in
    let w : List ℕ = c.args.w.now.numbers in
    let edges : c.edges-e-end.result ≡ edge_count triples =
    c.edges-e-end.ensures.count
    ∙ ap edge_count (c.tri-2.ensures.value ∙ ap (triangulation c.args.atlas.now) c.tri.ensures) in
    let full : c.loop-e.e ≡ length w =
    omega (arith, edges, c.loop-e-test.false, c.loop-e.auto.e-end, c.requires.coordinates.multicurve.one_per_edge) in
    c.loop-e.invariant.listed
    ∙ ap (λ (z : List State). map (walk_of_letters triples) (words_of (curves_among triples w z))) (before-all w c.loop-e.e
    full)

pub returns-clause-words : goal.returns-clause-words
returns-clause-words c =
    let triples : List (List ℤ) = triangulation c.args.atlas.now c.args.w.now.tri in
    ap (map (λ (v : DualWalk). v.letters)) (all_drawn c)
    ∙ letters-along triples (words_of (draw triples c.args.w.now.numbers))

pub returns-clause-closed : goal.returns-clause-closed
returns-clause-closed c =
    subst (All (IsClosedOn (triangulation c.args.atlas.now c.args.w.now.tri))) (sym (all_drawn c)) c.are_closed.ensures
