use Rattle.std.proofs.lemmas.Result.{IfErr-weaker}
use Rattle.tri_atlas.specs.Arena.{triangulation}
use Rattle.multicurve_cert.proofs.Outcomes.{last_line}
use Rattle.multicurve_cert.proofs.candidates.outcome.Goals as goal

pub returns-in-Ok-clause-line : goal.returns-in-Ok-clause-line
returns-in-Ok-clause-line c =
    IfErr-weaker c.test_fixed.result _ _
    (λ line h. last_line (triangulation c.args.atlas.now 0) _ _ c.args.kind c.in-Ok.made.numbers
    c.in-Ok.ensures.made.numbers c.in-Ok.ensures.made.small c.in-Ok.ensures.made.multicurve line h)
    c.test_fixed.ensures.line
