use Rattle.std.proofs.Common.{subst, sym, arith}
use Rattle.tri_atlas.specs.Arena.{triangulation}
use Rattle.tri_atlas.specs.Paths.{moves_of}
use Rattle.edge_coords.specs.Coordinates.{Coordinates}
use Rattle.cycle_stages.specs.inside.NextFlips.{IsLastImage}
use Rattle.cycle_stages.proofs.LastImages.{small_more, small_last}
use Rattle.cycle_stages.proofs.stages.last_image.Goals as goal

pub returns-in-Err-clause-last : goal.returns-in-Err-clause-last
returns-in-Err-clause-last c =
    subst (λ (d : Coordinates). IsLastImage (triangulation c.args.atlas.now 0)
    (moves_of c.args.atlas.now c.args.word.now) c.args.w.now.numbers d.numbers) (sym c.in-Err.ensures.unchanged)
    (small_last c.args.atlas.now c.args.word.now c.args.w.now c.power_laws.ensures c.requires.coordinates
    c.requires.base c.loop.counter c.loop.image c.loop.invariant (omega arith)
    c.in-Err.ensures.refused.first.place c.in-Err.ensures.refused.overflows)

pub loop-preserved : goal.loop-preserved
loop-preserved c =
    small_more c.args.atlas.now c.args.word.now c.args.w.now c.power_laws.ensures c.requires.coordinates
    c.requires.base c.loop.counter c.loop.image c.loop.invariant c.follow.new.self c.requires.closed.end
    c.in-Ok.ensures.moved c.in-Ok.ensures.here c.in-Ok.ensures.fits
