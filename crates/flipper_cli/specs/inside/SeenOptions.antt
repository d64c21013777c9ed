-- The settings that the code reads, as the definitions see them.
use Rattle.flipper_cli.specs.Options.{Setting as SettingOfWords}
use Rattle.flipper_cli.specs.declared.options.Setting.{Setting}

abbrev pub seen_setting : Setting → SettingOfWords
seen_setting setting = record { name = setting.name.now; number = setting.number.now }
