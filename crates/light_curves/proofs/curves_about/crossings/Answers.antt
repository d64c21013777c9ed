use Rattle.std.proofs.Common.{◌<◌, ◌≤◌, ◌*◌, ◌↔◌, ◌∙◌, ℕ, length, subst, arith, rules, IsTrue, slice_index}
use Rattle.std.proofs.lemmas.List.{length-set}
use Rattle.ideal_tri.specs.Triangulations.{edge_count}
use Rattle.ideal_tri.specs.declared.tri.TheConstants.{EDGES}
use Rattle.light_curves.specs.LightCurves.{IsCrossed}
use Rattle.light_curves.proofs.CrossedEdges.{each_more, first_few}
use Rattle.light_curves.proofs.curves_about.crossings.Goals as goal

pub loop-e-preserved : goal.loop-e-preserved
loop-e-preserved c =
    let n : ℕ = slice_index c.args.w.now c.loop-e.e in
    let few : edge_count c.args.tri.now ≤ EDGES = search rules in
    let inside : c.loop-e.e < length c.loop-e.numbers =
    omega (arith, c.loop-e.invariant.room, c.loop-e-test.true, c.edges-e-end.ensures.count, few) in
    let light : IsTrue c.is_light-is_light.result ↔ (n * n ≤ c.greatest-greatest.result) = c.is_light-is_light.ensures in
    record {
      room = length-set c.loop-e.numbers c.loop-e.e c.crossings_of.result ∙ c.loop-e.invariant.room;
      crossed = each_more (IsCrossed c.args.tri.now c.args.w.now) c.loop-e.numbers c.loop-e.e c.crossings_of.result inside
          c.loop-e.invariant.crossed
          (c.crossings_of.ensures.value c.args.w.now c.requires.touched
          (subst (λ (g : ℕ). IsTrue c.is_light-is_light.result ↔ (n * n ≤ g)) c.greatest-greatest.ensures.value light));
      few = each_more (λ k m. m ≤ 2) c.loop-e.numbers c.loop-e.e c.crossings_of.result inside c.loop-e.invariant.few
          c.crossings_of.ensures.few;
    }

pub returns-clause-few : goal.returns-clause-few
returns-clause-few c =
    first_few c.loop-e.numbers (edge_count c.args.tri.now)
    (λ k low. c.loop-e.invariant.few k (omega (arith, low, c.loop-e-test.false, c.edges-e-end.ensures.count)))
