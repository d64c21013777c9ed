use Rattle.std.proofs.Common.{◌≡◌, ◌∙◌, of_z, to_z, w32, rules}
use Rattle.verdict_plan.proofs.AnchorOutcomes.{told_carried, told_illegal, told_no_common, told_paths_cap}
use Rattle.verdict_plan.proofs.track_tests.carried.Goals as goal

pub returns-in-Ok-clause-found : goal.returns-in-Ok-clause-found
returns-in-Ok-clause-found c path h =
    told_carried c.args.atlas.now c.base.ensures.sound c.groupoid_laws.ensures.images c.agreement_laws.ensures
    c.args.track.now c.args.psi.now path h c.map_laws.ensures.paths c.args.series c.in-Ok.c c.in-Ok.ensures.accepted
    c.in-Ok.ensures.carried c.in-Ok.ensures.walks

pub returns-in-Err-NoCommonPart-clause-line : goal.returns-in-Err-NoCommonPart-clause-line
returns-in-Err-NoCommonPart-clause-line c path h =
    let no = rw c.in-Err-NoCommonPart.field-0-is at c.in-Err-NoCommonPart.ensures.refused in
    let same : to_z w32 (of_z w32 c.in-Err-NoCommonPart.e) ≡ c.in-Err-NoCommonPart.e = search rules in
    told_no_common c.args.atlas.now c.base.ensures.sound c.groupoid_laws.ensures.images c.agreement_laws.ensures
    c.args.track.now c.args.psi.now path h c.args.series c.in-Err-NoCommonPart.e c.number_of.result no
    (λ m is. c.number_of.ensures m (same ∙ is))

pub returns-in-Err-Illegal-clause-line : goal.returns-in-Err-Illegal-clause-line
returns-in-Err-Illegal-clause-line c path h =
    let no = rw c.in-Err-Illegal.field-0-is at c.in-Err-Illegal.ensures.refused in
    told_illegal c.args.atlas.now c.base.ensures.sound c.groupoid_laws.ensures.images c.agreement_laws.ensures
    c.args.track.now c.args.psi.now path h c.args.series c.in-Err-Illegal.n no

pub returns-in-Err-CapPassed-clause-line : goal.returns-in-Err-CapPassed-clause-line
returns-in-Err-CapPassed-clause-line c path h =
    let no = rw c.in-Err-CapPassed.field-0-is at c.in-Err-CapPassed.ensures.refused in
    told_paths_cap c.args.atlas.now c.base.ensures.sound c.groupoid_laws.ensures.images c.agreement_laws.ensures
    c.args.track.now c.args.psi.now path h c.args.series c.in-Err-CapPassed.letters no
