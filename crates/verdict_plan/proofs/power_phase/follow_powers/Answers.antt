use Rattle.tri_atlas.specs.Arena.{triangulation}
use Rattle.tri_atlas.specs.Paths.{moves_of}
use Rattle.verdict_plan.proofs.NoOrders.{all_refuted, capped}
use Rattle.verdict_plan.proofs.power_phase.follow_powers.Goals as goal

pub returns-in-Capped : goal.returns-in-Capped
returns-in-Capped c =
    let found = rw c.in-Capped.is at c.in_ok-k.ensures in (
      found.0,
      capped (triangulation c.args.atlas.now 0) (moves_of c.args.atlas.now c.args.word.now)
          (c.base.ensures.sound.sound 0 c.base.ensures.sound.base) c.inner_laws.ensures.test c.periodic_laws.ensures.powers
          c.repeat_laws.ensures c.args.budget.now.powers c.in-Capped.power c.in-Capped.letters _ found.0,
    )

pub returns-in-AllRefuted : goal.returns-in-AllRefuted
returns-in-AllRefuted c =
    let found = rw c.in-AllRefuted.is at c.in_ok-k.ensures in (
      found.0,
      all_refuted (triangulation c.args.atlas.now 0) (moves_of c.args.atlas.now c.args.word.now)
          (c.base.ensures.sound.sound 0 c.base.ensures.sound.base) c.inner_laws.ensures.test c.periodic_laws.ensures.powers
          c.repeat_laws.ensures c.args.budget.now.powers _ found.0,
    )
