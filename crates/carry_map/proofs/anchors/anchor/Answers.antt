use Rattle.std.proofs.Common.{sym, subst}
use Rattle.std.proofs.lemmas.Result.{err_from_is_err_and}
use Rattle.tri_atlas.specs.Arena.{triangulation}
use Rattle.free_groupoid.specs.GroupoidMaps.{substitution}
use Rattle.carry_map.specs.AnchorAnswers.{AreAnchors}
use Rattle.carry_map.proofs.RefusedAnchors.{refused_for}
use Rattle.carry_map.proofs.anchors.anchor.Goals as goal

pub returns-in_err-anchors-clause-refused : goal.returns-in_err-anchors-clause-refused
returns-in_err-anchors-clause-refused c =
    let p = err_from_is_err_and c.from_residual.result c.from_residual.ensures.1 in
    rw (p.1, p.2) (c.in_err-anchors.ensures.refused c.args.cap)

pub returns-in_err-carry_with-clause-refused : goal.returns-in_err-carry_with-clause-refused
returns-in_err-carry_with-clause-refused c =
    let p = err_from_is_err_and c.from_residual-in_err-carry_with.result c.from_residual-in_err-carry_with.ensures.1 in
    rw (p.1, p.2)
    (refused_for (triangulation c.args.atlas.now c.args.track.now.tri) c.args.track.now c.args.psi.now
    c.deref.result.now c.args.cap _
    (subst (AreAnchors (triangulation c.args.atlas.now c.args.track.now.tri) c.args.track.now.left_out
    (substitution c.args.psi.now.images)) (sym c.deref.ensures.value) c.in_ok-anchors.ensures.first)
    c.in_err-carry_with.ensures.refused)

pub returns-clause-accepted : goal.returns-clause-accepted
returns-clause-accepted c = record {
  anchors = c.deref.result.now;
  first = subst (AreAnchors (triangulation c.args.atlas.now c.args.track.now.tri) c.args.track.now.left_out
      (substitution c.args.psi.now.images)) (sym c.deref.ensures.value) c.in_ok-anchors.ensures.first;
  answer = c.in_ok-carry_with.ensures.accepted;
}
