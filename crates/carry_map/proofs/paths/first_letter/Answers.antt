use Rattle.std.proofs.Common.{pos, ◌∙◌, ap, get_or}
use Rattle.std.proofs.lemmas.List.{get_or_default}
use Rattle.free_groupoid.specs.Walks.{DualWalk}
use Rattle.carry_map.proofs.BranchEnds.{first_of_branch}
use Rattle.carry_map.proofs.WordEnds.{some_letters}
use Rattle.carry_map.proofs.paths.first_letter.Goals as goal

pub returns-clause-switch : goal.returns-clause-switch
returns-clause-switch c =
    first_of_branch c.args.branch.now.letters c.index.result.now
    (c.index.ensures ∙ ap (λ (w : DualWalk). get_or w.letters 0 c.index.result.now) c.branch.view_is
    ∙ get_or_default c.args.branch.now.letters 0 c.index.result.now (pos 0)
    (some_letters c.args.branch.now.letters c.requires))
