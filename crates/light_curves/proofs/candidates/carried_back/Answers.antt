use Rattle.light_curves.proofs.CarriedBack.{back_small}
use Rattle.light_curves.proofs.candidates.carried_back.Goals as goal

pub unreachable-requires : goal.unreachable-requires
unreachable-requires c =
    back_small c.args.atlas.now c.base.ensures.sound c.atlas_laws.ensures.ways c.args.stage.now c.requires.kept
    c.in_ok-back.back c.in_ok-back.ensures.accepted c.args.curves.numbers c.requires.few c.requires.short
    c.in-Err.ensures.refused.first.place c.in-Err.ensures.refused.first.first
