use Rattle.std.proofs.Common.{◌∙◌, arith}
use Rattle.std.proofs.lemmas.Result.{err_from_is_err_and}
use Rattle.std.specs.List.{repeat}
use Rattle.cert_checker.specs.inside.SiteSteps.{PassesOn}
use Rattle.cert_checker.proofs.MapsAlong.{goes_once_more, passes_often}
use Rattle.cert_checker.proofs.Stopped.{past_stop}
use Rattle.cert_checker.proofs.sites.follow_often.Goals as goal

pub returns-in_err-follow-clause-refused : goal.returns-in_err-follow-clause-refused
returns-in_err-follow-clause-refused c =
    let p = err_from_is_err_and c.from_residual.result c.from_residual.ensures.1 in
    rw (p.1, p.2)
    (past_stop (PassesOn c.args.atlas.now c.loop.map c.args.word.now.moves)
    (PassesOn c.args.atlas.now c.args.map.now (repeat c.args.times c.args.word.now.moves))
    (passes_often c.args.atlas.now c.args.map.now c.loop.map c.args.word.now.moves c.atlas_laws.ensures.handles.repeats
    c.loop.counter c.loop.invariant.goes c.args.times (omega arith))
    c.in_err-follow.field-0.0 c.in_err-follow.ensures.refused)

pub loop-preserved : goal.loop-preserved
loop-preserved c = record {
  goes =
      goes_once_more c.args.atlas.now c.args.map.now c.loop.map c.args.word.now.moves
      c.atlas_laws.ensures.handles.repeats c.loop.counter c.loop.invariant.goes c.follow.new.map
      c.in_ok-follow.ensures.on;
  maps = c.in_ok-follow.ensures.maps;
  base = c.in_ok-follow.ensures.end ∙ c.requires.closed.end;
}
