use Rattle.std.proofs.Common.{ℤ, List, ◌∙◌, ap, arith}
use Rattle.std.specs.Prelude.{IsTrue}
use Rattle.ideal_tri.specs.Strands.{State}
use Rattle.tri_atlas.specs.Arena.{triangulation}
use Rattle.strand_draw.proofs.InOrder.{walk-along, drawn-free, drawn-used}
use Rattle.strand_draw.proofs.drawing.draw_strand.Goals as goal

pub returns-in_ok-push : goal.returns-in_ok-push
returns-in_ok-push c =
    let triples : List (List ℤ) = triangulation c.args.atlas.now c.args.w.now.tri in
    drawn-free triples c.args.w.now.numbers c.step_laws.ensures c.requires.coordinates.multicurve c.args.q
    c.requires.strand
    c.requires.positive c.args.marks.now c.trace.new.marks c.args.walks.now.items c.push.new.self.items
    (record { start = c.place-start.result.0; letters = c.in_ok-letters.letters.items }) c.requires.drawn
    ((c.is_free.ensures _ c.requires.drawn.marked).0 c.if-is_free.true)
    (walk-along triples c.args.w.now.numbers c.tri-then-is_free.result.now c.q.inside.label c.args.q
    c.place-start.result.0
    c.in_ok-letters.letters.items c.place-start.ensures.triangle
    (c.tri-then-is_free.ensures.value ∙ ap (triangulation c.args.atlas.now) c.tri.ensures)
    (ap (λ (p : State). p.label) c.q.view_is) c.in_ok-letters.ensures.letters)
    c.in_ok-push.ensures.items c.in_ok-letters.ensures.marked

pub returns-else-is_free : goal.returns-else-is_free
returns-else-is_free c =
    drawn-used (triangulation c.args.atlas.now c.args.w.now.tri) c.args.w.now.numbers c.step_laws.ensures
    c.requires.coordinates.multicurve c.args.q c.requires.strand c.requires.positive c.args.marks.now
    c.args.walks.now.items
    c.requires.drawn
    (λ none. let t : IsTrue c.is_free.result = (c.is_free.ensures _ c.requires.drawn.marked).1 none in grind arith)
