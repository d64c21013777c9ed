use Rattle.std.proofs.Common.{inl, refl}
use Rattle.tri_atlas.specs.Arena.{triangulation}
use Rattle.tri_atlas.specs.Paths.{moves_of}
use Rattle.verdict_plan.proofs.Sound.{reducible_sound}
use Rattle.verdict_plan.proofs.plan.try_curves.Goals as goal

pub returns-in_ok-reducible-in-Found-clause-sound : goal.returns-in_ok-reducible-in-Found-clause-sound
returns-in_ok-reducible-in-Found-clause-sound c =
    let answer = rw c.in-Found.is at c.in_ok-coords.ensures.answer in
    let found = rw c.in-Found.is at c.in_ok-coords.ensures.found in
    reducible_sound (triangulation c.args.atlas.now 0) (moves_of c.args.atlas.now c.args.word.now) c.args.budget.now
    (c.base.ensures.sound.sound 0 c.base.ensures.sound.base) c.certificate_laws.ensures c.args.atlas.now refl
    c.power_laws.ensures c.requires.no_order _ c.in-Found.number c.in-Found.coords c.in_ok-reducible-in-Found.ensures
    (inl answer) found
