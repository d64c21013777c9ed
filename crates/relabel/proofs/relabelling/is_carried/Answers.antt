use Rattle.std.proofs.Common.{rules, ◌≡◌, sym, ◌∙◌}
use Rattle.std.proofs.lemmas.Bool.Decides.{Decides-int_eq}
use Rattle.ideal_tri.specs.Triangulations.{IsLabel, next}
use Rattle.relabel.proofs.Acceptance.{AreImages, are_images, carried_if_joined, joined_if_carried}
use Rattle.relabel.proofs.relabelling.is_carried.Goals as goal

pub returns-then-eq : goal.returns-then-eq
returns-then-eq c =
    let x = c.image-x.result in
    let y = c.image-y.result in
    let z = c.image-z.result in
    let are : AreImages c.args.relabelling.now c.args.triangle.now x y z =
    are_images _ _ _ _ _ x y z c.told-triangle c.image-x.ensures.value c.image-y.ensures.value c.image-z.ensures.value
    in
    let label : IsLabel c.args.to.now x = search rules in
    let xy : next c.args.to.now x ≡ y =
    sym c.next.ensures.next ∙ (Decides-int_eq c.next.result y).0 (sym c.eq.ensures ∙ c.if-eq.true) in (
      λ t.
          carried_if_joined c.triple_laws.ensures c.args.to.now c.args.relabelling.now c.args.triangle.now x y z
          c.requires.sound are label xy
          (sym c.next-then-eq.ensures.next ∙ (Decides-int_eq c.next-then-eq.result z).0 (sym c.eq-then-eq.ensures ∙ t)),
      λ w.
          c.eq-then-eq.ensures
          ∙ (Decides-int_eq c.next-then-eq.result z).1
          (c.next-then-eq.ensures.next
          ∙ (joined_if_carried c.triple_laws.ensures c.args.to.now c.args.relabelling.now c.args.triangle.now x y z
          c.requires.sound are w).1),
    )

pub returns-else-eq : goal.returns-else-eq
returns-else-eq c =
    let x = c.image-x.result in
    let y = c.image-y.result in
    let z = c.image-z.result in
    let are : AreImages c.args.relabelling.now c.args.triangle.now x y z =
    are_images _ _ _ _ _ x y z c.told-triangle c.image-x.ensures.value c.image-y.ensures.value c.image-z.ensures.value
    in (
      λ t. absurd (cc (t, c.if-eq.false)),
      λ w.
          c.eq.ensures
          ∙ (Decides-int_eq c.next.result y).1
          (c.next.ensures.next
          ∙ (joined_if_carried c.triple_laws.ensures c.args.to.now c.args.relabelling.now c.args.triangle.now x y z
          c.requires.sound are w).0),
    )
