use Rattle.std.proofs.Common.{ℕ, ◌∙◌, ap}
use Rattle.ideal_tri.specs.Triangulations.{edge_count}
use Rattle.tri_atlas.specs.Arena.{triangulation}
use Rattle.tri_atlas.specs.Paths.{moves_of}
use Rattle.edge_coords.specs.Coordinates.{Coordinates}
use Rattle.cert_checker.proofs.FixedVectors.{overflows, moved}
use Rattle.cert_checker.proofs.vectors.check_image.Goals as goal

pub returns-in-Err-clause-refused : goal.returns-in-Err-clause-refused
returns-in-Err-clause-refused c =
    overflows c.args.atlas.now c.args.w.now (moves_of c.args.atlas.now c.args.word.now) c.requires.base
    c.requires.coordinates c.requires.some c.requires.free c.in-Err.field-0 c.from.result
    (c.from.ensures
    ∙ c.edges.ensures.count
    ∙ ap edge_count c.tri-in-Err.ensures.value
    ∙ ap (λ (t : ℕ). edge_count (triangulation c.args.atlas.now t)) c.tri.ensures) c.in-Err.ensures.refused

pub returns-in-Some-clause-refused : goal.returns-in-Some-clause-refused
returns-in-Some-clause-refused c =
    moved c.args.atlas.now c.args.w.now (moves_of c.args.atlas.now c.args.word.now) c.requires.base
    c.requires.coordinates c.requires.some c.requires.free c.values.result.now c.values-2.result.now c.in-Some.e
    c.values.ensures.value
    (c.values-2.ensures.value ∙ ap (λ (v : Coordinates). v.numbers) c.in_default.ensures.moved)
    c.in_default.ensures.fits c.in-Some.ensures.some
