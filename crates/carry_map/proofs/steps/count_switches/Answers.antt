use Rattle.std.proofs.Common.{◌∙◌, ap, length, List, ℤ, take_all}
use Rattle.std.specs.List.{filter}
use Rattle.carry_map.specs.inside.Rays.{is_listed}
use Rattle.carry_map.proofs.steps.count_switches.Goals as goal

pub returns : goal.returns
returns c =
    c.loop-y.invariant.0
    ∙ ap (λ (w : List ℤ). length (filter (is_listed c.args.track.now.switches) w))
    (take_all c.loop-y.y-index c.args.letters.now c.loop-y-test.false)
