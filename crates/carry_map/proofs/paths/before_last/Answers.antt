use Rattle.std.proofs.Common.{ℕ, ℤ, List, ◌-◌, ◌∙◌, ap, length, take}
use Rattle.free_groupoid.specs.Walks.{DualWalk}
use Rattle.carry_map.proofs.BranchEnds.{front_of_branch, taken_front}
use Rattle.carry_map.proofs.paths.before_last.Goals as goal

pub returns-clause-letters : goal.returns-clause-letters
returns-clause-letters c =
    ap (λ (n : ℕ). take (n - 1) c.deref.result.now) (c.len.ensures ∙ c.branch.inside.letters.ok.0)
    ∙ ap (λ (w : List ℤ). take (length c.branch.inside.letters.items - 1) w) c.deref.ensures.value
    ∙ ap (λ (w : DualWalk). take (length w.letters - 1) w.letters) c.branch.view_is
    ∙ taken_front c.args.branch.now.letters

pub returns-clause-walk : goal.returns-clause-walk
returns-clause-walk c = front_of_branch c.args.branch.now.letters _ (returns-clause-letters c)
