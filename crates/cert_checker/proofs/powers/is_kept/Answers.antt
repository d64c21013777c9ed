use Rattle.std.proofs.Common.{◌∙◌, ap}
use Rattle.ideal_tri.specs.Words.{cyclic_reduce}
use Rattle.free_groupoid.specs.Walks.{DualWalk, IsClosedOn}
use Rattle.cert_checker.proofs.LoopImages.{closed_can_be_mapped, closed_image, closed_loop, kept_test}
use Rattle.cert_checker.proofs.powers.is_kept.Goals as goal
use Rattle.cert_checker.proofs.powers.is_kept.Goals.{After-place}

abbrev read : After-place → DualWalk
read c = record { start = c.place.result.0; letters = c.in_ok-letters.letters.items }

walk : (c : After-place) → IsClosedOn c.args.tri.now (read c)
walk c =
    closed_loop c.args.tri.now c.args.reason.now c.in_ok-letters.letters.items c.index.result.now c.index.result.now
    c.place.result.0 c.in_ok-letters.ensures c.index.ensures c.place.ensures.triangle c.place.ensures.within.0
    c.requires.closed

pub image-requires : goal.image-requires
image-requires c =
    let before = (goal.at.image-requires c).After-place in
    closed_can_be_mapped c.args.tri.now c.args.map.now (read before) c.requires.map (walk before)

pub cyclic_reduce-requires : goal.cyclic_reduce-requires
cyclic_reduce-requires c =
    let before = (goal.at.cyclic_reduce-requires c).After-place in
    closed_image c.map_laws.ensures.walks c.args.tri.now c.args.map.now (read before) c.in_ok-image.image
    c.triangles.ensures.sound c.requires.map c.in_ok-image.ensures.value (walk before)

pub returns : goal.returns
returns c =
    let image = ap (λ (w : DualWalk). w.letters) c.cyclic_reduce.ensures.value
    ∙ ap (λ (w : DualWalk). cyclic_reduce w.letters) c.in_ok-image.ensures.value in
    kept_test c.word_laws.ensures.reduction _ c.args.reason.now c.in_ok-letters.letters.items _ _
    c.in_ok-letters.ensures image c.is_rotation.ensures
