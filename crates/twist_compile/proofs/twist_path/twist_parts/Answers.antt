use Rattle.tri_atlas.specs.Arena.{triangulation}
use Rattle.twist_compile.proofs.Compiled.{compiled_from, twistable}
use Rattle.twist_compile.proofs.twist_path.twist_parts.Goals as goal

pub returns-in-Ok-parts_of-clause-parts : goal.returns-in-Ok-parts_of-clause-parts
returns-in-Ok-parts_of-clause-parts c =
    let (p, q, annulus, flip, relabel) = c.in-Ok-parts_of.ensures.steps in (
      twistable c.args.atlas.now c.descend.new.atlas c.args.curve.now c.in-Ok.short c.in-Ok.ensures.accepted,
      (
        triangulation c.descend.new.atlas c.in-Ok.short.coords.tri,
        p,
        q,
        compiled_from c.args.atlas.now c.descend.new.atlas c.args.curve.now c.in-Ok.short c.in-Ok.ensures.accepted
            c.in-Ok-parts_of.parts.down.items p q c.in-Ok-parts_of.ensures.down annulus,
        flip,
        relabel,
      ),
    )
