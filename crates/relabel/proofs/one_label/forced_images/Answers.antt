use Rattle.std.proofs.Common.{arith, ◌∙◌, sym, ap, subst}
use Rattle.ideal_tri.specs.Triangulations.{IsLabel, next}
use Rattle.relabel.proofs.Forced.{known_image, forced_list, tables_start, tables_more, tables_shrink}
use Rattle.relabel.proofs.one_label.forced_images.Goals as goal

pub loop-side-init : goal.loop-side-init
loop-side-init c =
    tables_start c.label_laws.ensures c.surface_laws.ensures c.bijection_laws.ensures c.relabelling_laws.ensures
    c.args.from.now c.args.to.now c.args.x c.args.y c.learn.new.images c.learn.new.known c.requires.image (omega arith)
    c.learn.ensures.images c.learn.ensures.known

pub next-requires-in-Some : goal.next-requires-in-Some
next-requires-in-Some c =
    subst (IsLabel c.args.to.now) (sym c.image_in-image.ensures)
    (known_image c.label_laws.ensures c.surface_laws.ensures c.bijection_laws.ensures c.relabelling_laws.ensures
    c.args.from.now c.args.to.now c.args.x c.args.y c.loop-side.images c.loop-side.known c.in-Some.side
    c.loop-side.invariant.forced c.in-Some.ensures.open.here)

pub loop-side-smaller : goal.loop-side-smaller
loop-side-smaller c =
    tables_shrink c.args.from.now c.in-Some.side c.next.result c.loop-side.known c.learn-in-Some.new.known
    c.loop-side.invariant.known_room
    (omega arith)
    c.in-Some.ensures.open c.next.ensures.next c.learn-in-Some.ensures.known

pub loop-side-preserved : goal.loop-side-preserved
loop-side-preserved c =
    tables_more c.label_laws.ensures c.surface_laws.ensures c.bijection_laws.ensures c.relabelling_laws.ensures
    c.args.from.now c.args.to.now c.args.x c.args.y c.in-Some.side c.next.result c.next-in-Some.result
    c.loop-side.images
    c.learn-in-Some.new.images c.loop-side.known c.learn-in-Some.new.known c.edges-edges.ensures.sound c.requires.sound
    c.loop-side.invariant
    c.in-Some.ensures.label c.in-Some.ensures.open (omega arith) c.next.ensures.next
    (c.next-in-Some.ensures.next ∙ ap (next c.args.to.now) c.image_in-image.ensures) c.learn-in-Some.ensures.images
    c.learn-in-Some.ensures.known

pub returns-clause-forced : goal.returns-clause-forced
returns-clause-forced c =
    forced_list c.label_laws.ensures c.surface_laws.ensures c.bijection_laws.ensures c.relabelling_laws.ensures
    c.args.from.now c.args.to.now c.args.x c.args.y c.loop-side.images c.loop-side.known c.edges-edges.ensures.sound
    c.requires.connected c.requires.label c.loop-side.invariant.forced c.in_default.ensures.none
