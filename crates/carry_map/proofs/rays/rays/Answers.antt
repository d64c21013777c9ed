use Rattle.std.proofs.Common.{rules}
use Rattle.std.proofs.lemmas.List.{nil_from_length}
use Rattle.std.specs.Vec.Iter.{into_iter_items}
use Rattle.carry_map.proofs.RaysUnderWay.{first_ray, walk_next, ray_more, rays_all}
use Rattle.carry_map.proofs.rays.rays.Goals as goal

pub loop-letters-init : goal.loop-letters-init
loop-letters-init c = record {
  can_next = tt;
  is_finite = tt;
  rays = first_ray _ _ _ _ _ _ _ _ c.new-rays.ensures.items (search rules) c.requires.walks;
}

pub image-requires : goal.image-requires
image-requires c = (
  c.args.atlas.now,
  c.requires.map,
  walk_next _ _ _ _ _ _ _ _ c.in-Some.letters (into_iter_items c.next.new.self) c.loop-letters.invariant.rays
      (search rules),
)

pub loop-letters-preserved : goal.loop-letters-preserved
loop-letters-preserved c = record {
  can_next = tt;
  is_finite = tt;
  rays =
      ray_more _ _ _ _ _ _ _ _ c.in-Some.letters (into_iter_items c.next.new.self) _ _ c.loop-letters.invariant.rays
      (search rules) c.in_ok-image.ensures.value
      (c.in_ok-image.ensures.walks c.args.atlas.now c.base.ensures.sound c.requires.map
      (walk_next _ _ _ _ _ _ _ _ c.in-Some.letters (into_iter_items c.next.new.self) c.loop-letters.invariant.rays
      (search rules)))
      c.in_ok-push.ensures.items;
}

pub returns-clause-value : goal.returns-clause-value
returns-clause-value c = rays_all _ _ _ _ _ _ _ _ c.loop-letters.invariant.rays (search (rules, nil_from_length))

pub returns-clause-starts : goal.returns-clause-starts
returns-clause-starts c = c.loop-letters.invariant.rays.starts

pub returns-clause-walks : goal.returns-clause-walks
returns-clause-walks c = c.loop-letters.invariant.rays.lead
