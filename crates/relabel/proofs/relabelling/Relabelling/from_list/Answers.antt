use Rattle.std.proofs.Common.{ℤ, List, [], arith, sym, subst, get_or, All}
use Rattle.ideal_tri.specs.Relabellings.{IsBijection, IsCarried}
use Rattle.relabel.proofs.Acceptance.{bijection_from}
use Rattle.relabel.proofs.relabelling.Relabelling.from_list.Goals as goal

pub from_images-relabelling-requires-clause-bijection : goal.from_images-relabelling-requires-clause-bijection
from_images-relabelling-requires-clause-bijection c =
    bijection_from c.hit_laws.ensures c.args.list.now c.edges.result (omega arith) c.in_default.ensures.none
    c.in_default-least_hit_twice.ensures.none

pub returns-clause-accepted : goal.returns-clause-accepted
returns-clause-accepted c =
    let bijection : IsBijection c.args.list.now =
    bijection_from c.hit_laws.ensures c.args.list.now c.edges.result (omega arith) c.in_default.ensures.none
    c.in_default-least_hit_twice.ensures.none in
    let carried : All (IsCarried c.args.to.now c.args.list.now) c.args.from.now =
    subst (λ (xs : List ℤ). All (IsCarried c.args.to.now xs) c.args.from.now) c.from_images-relabelling.ensures
    c.in_default-least_broken.ensures.none in (
      c.relabelling_laws.ensures.made c.args.from.now c.args.to.now c.args.list.now bijection
          (omega arith) c.requires.same carried,
      c.from_images-relabelling.ensures,
    )

pub returns-in-Some-least_hit_twice-clause-exact : goal.returns-in-Some-least_hit_twice-clause-exact
returns-in-Some-least_hit_twice-clause-exact c = λ r.
    omega (
      arith,
      c.in-Some-least_hit_twice.ensures.some.twice,
      c.bijection_laws.ensures.once c.args.list.now
          (c.relabelling_laws.ensures.bijection c.args.from.now c.args.to.now c.args.list.now r)
          c.in-Some-least_hit_twice.edge,
    )

pub returns-in-Some-least_broken-clause-exact : goal.returns-in-Some-least_broken-clause-exact
returns-in-Some-least_broken-clause-exact c = λ r.
    let t = c.in-Some-least_broken.triangle in
    let broken = c.in-Some-least_broken.ensures.some in
    broken.broken
    (subst (λ (xs : List ℤ). IsCarried c.args.to.now xs (get_or c.args.from.now t []))
    (sym c.from_images-relabelling.ensures)
    (r.triangles t [] broken.within))
