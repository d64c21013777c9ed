use Rattle.twist_compile.proofs.Compiled.{short_path}
use Rattle.twist_compile.proofs.twist_path.twist.Goals as goal

pub returns-in-Ok-path_of-clause-short : goal.returns-in-Ok-path_of-clause-short
returns-in-Ok-path_of-clause-short c =
    let (p, q, annulus, is) = c.in-Ok-path_of.ensures.moves in
    short_path c.args.atlas.now c.descend.new.atlas c.path_of.new.atlas c.args.curve.now c.in-Ok.short
    c.in-Ok.ensures.accepted c.args.hand c.in-Ok-path_of.path p q is
