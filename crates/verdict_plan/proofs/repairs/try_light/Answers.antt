use Rattle.std.proofs.Common.{◌≡◌, ℕ, List, IfOk, subst}
use Rattle.verdict_plan.proofs.TrackOutcomes.{outcome_there}
use Rattle.verdict_plan.proofs.repairs.try_light.Goals as goal

pub returns : goal.returns
returns c =
    outcome_there c.args.atlas.now c.args.word.now c.args.stage.now c.args.power c.requires.kept c.args.track.now
    c.requires.track c.in_ok-path.path c.in_ok-path.ensures c.pass_law.ensures c.requires.power.0 c.requires.power.1
    c.requires.few c.try_track.result c.try_track.ensures.passes c.try_track.ensures.power
    (subst (λ (es : List ℕ). IfOk c.try_track.result (λ a. IfOk a (λ p. p.flips.items ≡ es)))
    c.deref.ensures.value c.try_track.ensures.flips) c.try_track.ensures.line
