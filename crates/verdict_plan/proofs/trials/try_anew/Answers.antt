use Rattle.std.proofs.Common.{refl}
use Rattle.tri_atlas.specs.Arena.{triangulation}
use Rattle.tri_atlas.specs.Paths.{moves_of}
use Rattle.verdict_plan.proofs.KnownLines.{line_anywhere}
use Rattle.verdict_plan.proofs.trials.try_anew.Goals as goal

pub returns-in_ok-learn-in-Err-clause-known : goal.returns-in_ok-learn-in-Err-clause-known
returns-in_ok-learn-in-Err-clause-known c =
    let outcome = c.in_ok-pa.ensures in
    let line = rw c.in-Err.is at outcome in
    c.in_ok-learn-in-Err.ensures (triangulation c.args.atlas.now 0) (moves_of c.args.atlas.now c.args.word.now)
    c.requires.known
    (rw (c.deref.ensures.value, c.left_out.ensures)
    (line_anywhere c.args.atlas.now c.args.word.now c.args.stage c.requires.kept c.args.track c.requires.track
    c.args.power c.in-Err.line line))
