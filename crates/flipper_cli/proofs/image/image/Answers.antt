use Rattle.std.proofs.Common.{◌≡◌, Err}
use Rattle.tri_atlas.specs.Paths.{moves_of}
use Rattle.surface_lib.specs.Described.{described}
use Rattle.surface_lib.specs.Refusals.{moves_kind, reading}
use Rattle.flipper_cli.specs.inside.Shown.{shown}
use Rattle.flipper_cli.specs.declared.refusal.Refusal.TheVariants.{Memory}
use Rattle.flipper_cli.proofs.Answered.{image_reported}
use Rattle.flipper_cli.proofs.image.image.Goals as goal

pub returns-clause-report : goal.returns-clause-report
returns-clause-report c =
    let d = described c.args.s.now in
    image_reported d (reading moves_kind d.generators c.args.word.now) (moves_of c.args.s.now.atlas c.in_ok-path.path)
    c.args.coordinates.now c.in_ok-numbers.numbers.items (shown c.image_along.result)
    (c.image_along.result ≡ Err Memory) c.in_ok-path.ensures.accepted c.in_ok-numbers.ensures.read
    (rw c.deref.ensures.value at c.image_along.ensures.report)
