use Rattle.std.proofs.Common.{◌≡◌, Ok, Err, rules}
use Rattle.surface_lib.specs.Refusals.{reading, handles_kind, moves_kind}
use Rattle.surface_lib.specs.Surfaces.{generators_of}
use Rattle.surface_lib.specs.Described.{described}
use Rattle.surface_lib.proofs.Stepped.{accepted_of_steps, refused_of_steps}
use Rattle.surface_lib.proofs.word.read_word.Goals as goal

pub returns-in_err-test_word-clause-refused : goal.returns-in_err-test_word-clause-refused
returns-in_err-test_word-clause-refused c =
    let at_handles : reading (handles_kind c.args.s.now.atlas) (generators_of c.args.s.now) c.args.word.now
    ≡ Err c.in_err-test_word.field-0.0 = search rules in
    let told : reading moves_kind (described c.args.s.now).generators c.args.word.now
    ≡ Err c.in_err-test_word.field-0.0 =
    refused_of_steps c.atlas_laws.ensures.handles c.args.s.now c.base-base.ensures.sound c.args.word.now _
    at_handles in
    search (rules, told)

pub returns-clause-accepted : goal.returns-clause-accepted
returns-clause-accepted c =
    let at_handles : reading (handles_kind c.args.s.now.atlas) (generators_of c.args.s.now) c.args.word.now
    ≡ Ok c.in_ok-path.path.moves = search rules in
    accepted_of_steps c.atlas_laws.ensures.handles c.args.s.now c.base-base.ensures.sound c.args.word.now _ at_handles
