use Rattle.std.proofs.Common.{arith, rules}
use Rattle.std.proofs.lemmas.Grind.{common_steps}
use Rattle.flipper_cli.proofs.ManyWords.{too_many}
use Rattle.flipper_cli.proofs.commands.command_of.Goals as goal
use Rattle.flipper_cli.proofs.commands.command_of.Goals.{in_default-via-then-words-lt2, in_default-via-in-len2+else-eq}
use Rattle.flipper_cli.proofs.commands.command_of.Goals.{in_default-via-in-len3-up+else-eq-2+then-words-lt4}
use Rattle.flipper_cli.proofs.commands.command_of.Goals.{in_default-via-in-len4-3+else-eq-5}
use Rattle.flipper_cli.proofs.commands.command_of.Goals.{in_default-via-in-len3-up+else-eq-2+else-words-lt4+else-words-lt5}

pub returns-in_default : goal.returns-in_default
returns-in_default c =
    elim c.in_default.branch [
      | in_default-via-then-words-lt2 w ↦ grind (arith, common_steps)
      | in_default-via-in-len2+else-eq w ↦ grind (arith, common_steps)
      | in_default-via-in-len3-up+else-eq-2+then-words-lt4 w ↦ grind (arith, common_steps)
      | in_default-via-in-len4-3+else-eq-5 w ↦ grind (arith, common_steps)
      | in_default-via-in-len3-up+else-eq-2+else-words-lt4+else-words-lt5 w ↦
          too_many c.args.words.now w.name-item-2.result _ (grind (arith, common_steps)) w.name-item-2.is (search rules)
    ]
