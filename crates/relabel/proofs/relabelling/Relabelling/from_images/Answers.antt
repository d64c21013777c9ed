use Rattle.std.proofs.Common.{rules, arith, pos, ◌≡◌, ◌∙◌, ap, set, get_or}
use Rattle.relabel.proofs.Slots.{no_slots, slots_next, view_at_end, laid_out}
use Rattle.relabel.proofs.relabelling.Relabelling.from_images.Goals as goal

pub loop-place-init : goal.loop-place-init
loop-place-init c = no_slots _ c.new-images.ensures

pub loop-place-preserved : goal.loop-place-preserved
loop-place-preserved c =
    let same : c.new.result ≡ get_or c.args.list.now c.loop-place.place (pos 0) = search rules in
    ap (set c.loop-place.images c.loop-place.place) same
    ∙ slots_next c.args.list.now c.loop-place.images c.loop-place.place c.loop-place-test.true c.requires.small
    c.loop-place.invariant

pub invariant_of-result : goal.invariant_of-result
invariant_of-result c =
    laid_out c.args.list.now c.loop-place.images c.loop-place.place c.requires.small c.requires.bijection
    (omega arith) c.loop-place.invariant

pub returns : goal.returns
returns c = view_at_end c.args.list.now c.loop-place.images c.loop-place.place (omega arith) c.loop-place.invariant
