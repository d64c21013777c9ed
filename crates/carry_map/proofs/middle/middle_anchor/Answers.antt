use Rattle.std.proofs.Common.{sym, subst}
use Rattle.std.proofs.lemmas.Result.{err_from_is_err_and}
use Rattle.tri_atlas.specs.Arena.{triangulation}
use Rattle.free_groupoid.specs.GroupoidMaps.{substitution}
use Rattle.train_track.specs.Branches.{words_of}
use Rattle.carry_map.specs.MiddleAnchors.{AreMiddleAnchors}
use Rattle.carry_map.proofs.RefusedAnchors.{refused_middle}
use Rattle.carry_map.proofs.middle.middle_anchor.Goals as goal

pub returns-in_err-anchors-clause-refused : goal.returns-in_err-anchors-clause-refused
returns-in_err-anchors-clause-refused c =
    let p = err_from_is_err_and c.from_residual.result c.from_residual.ensures.1 in
    rw (p.1, p.2) (c.in_err-anchors.ensures.refused c.args.cap)

pub returns-in_err-carry_with-clause-refused : goal.returns-in_err-carry_with-clause-refused
returns-in_err-carry_with-clause-refused c =
    let p = err_from_is_err_and c.from_residual-in_err-carry_with.result c.from_residual-in_err-carry_with.ensures.1 in
    rw (p.1, p.2)
    (refused_middle (triangulation c.args.atlas.now c.args.track.now.tri) c.args.track.now c.args.psi.now
    c.deref.result.now c.args.cap _
    (subst (AreMiddleAnchors (triangulation c.args.atlas.now c.args.track.now.tri) c.args.track.now.left_out
    (words_of c.args.track.now.branches) (substitution c.args.psi.now.images)) (sym c.deref.ensures.value)
    c.in_ok-anchors.ensures.middle)
    c.in_err-carry_with.ensures.refused)

pub returns-clause-accepted : goal.returns-clause-accepted
returns-clause-accepted c = record {
  anchors = c.deref.result.now;
  chosen = subst (AreMiddleAnchors (triangulation c.args.atlas.now c.args.track.now.tri) c.args.track.now.left_out
      (words_of c.args.track.now.branches) (substitution c.args.psi.now.images)) (sym c.deref.ensures.value)
      c.in_ok-anchors.ensures.middle;
  answer = c.in_ok-carry_with.ensures.accepted;
}
