use Rattle.std.proofs.Common.{rules}
use Rattle.carry_map.proofs.BranchEnds.{last_of_branch}
use Rattle.carry_map.proofs.paths.last_letter.Goals as goal

pub returns-clause-switch : goal.returns-clause-switch
returns-clause-switch c = last_of_branch c.args.branch.now.letters c.final_letter.result (search rules)
