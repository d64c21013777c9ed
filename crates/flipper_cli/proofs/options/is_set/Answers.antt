use Rattle.std.proofs.Common.{◌∙◌, sym, rules}
use Rattle.flipper_cli.specs.inside.SeenOptions.{seen_setting}
use Rattle.flipper_cli.proofs.FirstSetting.{set_later}
use Rattle.flipper_cli.proofs.options.is_set.Goals as goal

pub loop-setting-preserved : goal.loop-setting-preserved
loop-setting-preserved c = λ all cut.
    let before = c.loop-setting.invariant all cut in
    let step = set_later c.args.name.now (seen_setting c.in-Some.setting) _ before.0 (sym c.in-Some.ensures.cut ∙ before.1) (search rules) in
    (step.0, step.1, before.2 ∙ step.2)
