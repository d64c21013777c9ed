use Rattle.std.proofs.lemmas.Option.{MatchOption-at_some}
use Rattle.std.proofs.lemmas.Result.{IfErr-weaker}
use Rattle.tri_atlas.specs.Paths.{moves_of}
use Rattle.light_curves.proofs.LightLines.{last_line_here}
use Rattle.light_curves.proofs.candidates.candidate.Goals as goal

pub returns-clause-line : goal.returns-clause-line
returns-clause-line c =
    IfErr-weaker c.test_fixed.result _ _
    (λ line h. last_line_here c.args.atlas.now (moves_of c.args.atlas.now c.args.word.now) c.args.stage.now
    c.in-Some.curves c.in_ok-made.made.numbers line
    (MatchOption-at_some _ _ c.in-Some.curves c.in-Some.is c.in_ok-curves.ensures.some) c.in_ok-made.ensures.numbers h)
    c.test_fixed.ensures.line
