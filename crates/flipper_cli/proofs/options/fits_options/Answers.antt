use Rattle.std.proofs.Common.{◌∙◌, sym, map, rules, string_bytes}
use Rattle.flipper_cli.specs.inside.SeenOptions.{seen_setting}
use Rattle.flipper_cli.proofs.FirstSetting.{Begins, fits_later, misfit_first, misfit_twice}
use Rattle.flipper_cli.proofs.options.fits_options.Goals as goal
use Rattle.flipper_cli.proofs.options.fits_options.Goals.{then-not-is_fitting-via-then-not-is_fitting, then-not-is_fitting-via-else-not-is_fitting+then-is_set}

pub returns-then-not-is_fitting : goal.returns-then-not-is_fitting
returns-then-not-is_fitting c =
    let words = map string_bytes c.loop-setting.rest.now in
    let others = map string_bytes c.in-Some.others.now in
    let setting = seen_setting c.in-Some.setting in
    let begins : Begins words others setting = record { cut = c.in-Some.ensures.cut } in
    sym (c.loop-setting.invariant
    ∙ elim c.then-not-is_fitting.branch [
      | then-not-is_fitting-via-then-not-is_fitting w ↦ misfit_first words others setting begins (search rules)
      | then-not-is_fitting-via-else-not-is_fitting+then-is_set w ↦ misfit_twice words others setting begins (search rules)
    ])

pub loop-setting-preserved : goal.loop-setting-preserved
loop-setting-preserved c =
    let words = map string_bytes c.loop-setting.rest.now in
    let others = map string_bytes c.in-Some.others.now in
    let setting = seen_setting c.in-Some.setting in
    let begins : Begins words others setting = record { cut = c.in-Some.ensures.cut } in
    c.loop-setting.invariant ∙ fits_later words others setting begins (search rules) (search rules)
