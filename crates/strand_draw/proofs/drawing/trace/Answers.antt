use Rattle.std.proofs.Common.{ℤ, List, [], ◌∷◌, ◌++◌, ◌≢◌, ◌<◌, arith, length, sym, ◌∙◌, ap, subst}
use Rattle.tri_atlas.specs.Arena.{triangulation}
use Rattle.ideal_tri.specs.Strands.{State}
use Rattle.ideal_tri.specs.Drawings.{curve_from}
use Rattle.strand_draw.proofs.Tracing.{IsTraced, told_other, told_same, traced_more, traced_word, traced_marks}
use Rattle.strand_draw.proofs.Tracing.{traced_shorter}
use Rattle.strand_draw.proofs.drawing.trace.Goals as goal

pub loop-q-smaller : goal.loop-q-smaller
loop-q-smaller c =
    let triples : List (List ℤ) = triangulation c.args.atlas.now c.args.w.now.tri in
    let other : c.loop-q.at ≢ c.args.q =
    told_other c.loop-q.at c.args.q c.ne.result c.ne.ensures c.loop-q-test.true in
    let shorter : length c.loop-q.letters.items < length (curve_from triples c.args.w.now.numbers c.args.q) =
    traced_shorter triples c.args.w.now.numbers c.step_laws.ensures c.requires.coordinates.multicurve c.args.q
    c.loop-q.at
    c.requires.strand c.loop-q.letters.items c.args.marks.now c.loop-q.marks c.loop-q.invariant.traced other in
    omega (arith, shorter, c.in_ok-push-2.ensures.len)

pub loop-q-preserved : goal.loop-q-preserved
loop-q-preserved c = record {
  strand = c.step-at-in-loop-q.ensures.strand;
  numbered = c.mark-in-loop-q.ensures.numbered;
  traced =
      let triples : List (List ℤ) = triangulation c.args.atlas.now c.args.w.now.tri in
      subst
      (λ (letters : List ℤ). IsTraced triples c.args.w.now.numbers c.args.q c.step-at-in-loop-q.result letters
      c.args.marks.now
      c.mark-in-loop-q.new.self)
      (sym (c.in_ok-push-2.ensures.items ∙ ap (λ (p : State). c.loop-q.letters.items ++ (p.label ∷ [])) c.at.view_is))
      (traced_more triples c.args.w.now.numbers c.args.q c.loop-q.at c.step-at-in-loop-q.result c.loop-q.letters.items
      c.args.marks.now c.loop-q.marks c.mark-in-loop-q.new.self c.loop-q.invariant.traced
      (told_other c.loop-q.at c.args.q c.ne.result c.ne.ensures c.loop-q-test.true)
      c.step-at-in-loop-q.ensures.value
      c.mark-in-loop-q.ensures.marked);
}

pub returns-clause-letters : goal.returns-clause-letters
returns-clause-letters c =
    traced_word (triangulation c.args.atlas.now c.args.w.now.tri) c.args.w.now.numbers c.step_laws.ensures
    c.requires.coordinates.multicurve c.args.q c.loop-q.at c.requires.strand c.loop-q.letters.items c.args.marks.now
    c.loop-q.marks c.loop-q.invariant.traced
    (told_same c.loop-q.at c.args.q c.ne.result c.ne.ensures c.loop-q-test.false)

pub returns-clause-marked : goal.returns-clause-marked
returns-clause-marked c =
    traced_marks (triangulation c.args.atlas.now c.args.w.now.tri) c.args.w.now.numbers c.step_laws.ensures
    c.requires.coordinates.multicurve c.args.q c.loop-q.at c.requires.strand c.loop-q.letters.items c.args.marks.now
    c.loop-q.marks c.loop-q.invariant.traced
    (told_same c.loop-q.at c.args.q c.ne.result c.ne.ensures c.loop-q-test.false)
