use Rattle.std.proofs.Common.{List, subst}
use Rattle.std.proofs.lemmas.Result.{err_from_is_err_and}
use Rattle.tri_atlas.specs.Arena.{MoveHandle}
use Rattle.free_groupoid.specs.MapRefusals.{IsPathRefusal}
use Rattle.free_groupoid.proofs.Paths.{followed_more, refused_there}
use Rattle.free_groupoid.proofs.map.Map.follow_path.Goals as goal

pub returns-in_err-follow-clause-refused : goal.returns-in_err-follow-clause-refused
returns-in_err-follow-clause-refused c =
    let p = err_from_is_err_and c.from_residual.result c.from_residual.ensures.1 in
    rw (p.1, p.2)
    (subst (λ (moves : List MoveHandle). IsPathRefusal c.args.atlas.now c.args.self.now c.follow.new.self moves
    c.args.cap c.in_err-follow.field-0.0)
    c.moves-m-items.ensures
    (refused_there _ _ _ _ _ _ _ _ c.m-item.result c.loop-m.invariant c.loop-m-test.true c.m-item.is
    c.in_err-follow.field-0.0 c.in_err-follow.ensures.refused))

pub loop-m-preserved : goal.loop-m-preserved
loop-m-preserved c =
    followed_more _ _ _ _ _ _ _ _ c.m-item.result c.loop-m.invariant c.loop-m-test.true c.m-item.is
    c.in_ok-follow.ensures.accepted.0
    c.in_ok-follow.ensures.accepted.1 c.in_ok-follow.ensures.maps
