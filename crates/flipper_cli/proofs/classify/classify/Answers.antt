use Rattle.std.proofs.Common.{map, string_bytes}
use Rattle.flipper_cli.proofs.Budgets.{budget_small}
use Rattle.flipper_cli.proofs.classify.classify.Goals as goal

pub classify-requires-clause-budget : goal.classify-requires-clause-budget
classify-requires-clause-budget c =
    budget_small (map string_bytes c.args.options.now) c.in_ok-budget.budget c.in_ok-budget.ensures
