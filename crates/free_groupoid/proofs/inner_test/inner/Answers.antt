use Rattle.std.proofs.Common.{◌≡◌, [], ℤ, List, sym, subst, rules}
use Rattle.std.specs.Vec.Iter.{into_iter_items}
use Rattle.free_groupoid.specs.Inner.{IsKept}
use Rattle.free_groupoid.specs.GroupoidMaps.{substitution}
use Rattle.free_groupoid.specs.inside.Images.{IsBelow}
use Rattle.free_groupoid.proofs.InnerSearch.{nothing_left, next_loop, search_on, search_done, loop_below, moved_first}
use Rattle.free_groupoid.proofs.InnerSearch.{are_paths, search_all}
use Rattle.free_groupoid.proofs.inner_test.inner.Goals as goal

pub loop-word-init : goal.loop-word-init
loop-word-init c = record {
  can_next = tt;
  is_finite = tt;
  search = search_all _ _ _ (search rules)
      (c.inner_laws.ensures.test.loops c.args.tri.now c.triangles.ensures.sound);
}

pub is_kept-requires-clause-below : goal.is_kept-requires-clause-below
is_kept-requires-clause-below c =
    subst (IsBelow _) (sym c.deref.ensures.value)
    (loop_below c.args.tri.now c.args.f.now c.surface_laws.ensures _ c.requires
    (next_loop _ _ _ _ _ c.loop-word.invariant.search c.in-Some.ensures.steps.0))

pub walk_of-requires : goal.walk_of-requires
walk_of-requires c = next_loop _ _ _ _ _ c.loop-word.invariant.search c.in-Some.ensures.steps.0

pub returns-then-not-branch : goal.returns-then-not-branch
returns-then-not-branch c =
    let moved : ¬ IsKept (substitution c.args.f.now.images) c.deref.result.now = search rules in
    moved_first _ _ c.inner_laws.ensures.test c.triangles.ensures.sound c.requires _ _ _ _ c.loop-word.invariant.search
    c.in-Some.ensures.steps.0
    (subst (λ (w : List ℤ). ¬ IsKept (substitution c.args.f.now.images) w) c.deref.ensures.value moved)
    c.walk_of.ensures.value

pub loop-word-preserved : goal.loop-word-preserved
loop-word-preserved c =
    let kept : IsKept (substitution c.args.f.now.images) c.deref.result.now = search rules in
    record {
      can_next = tt;
      is_finite = tt;
      search = search_on _ _ _ _ _ c.loop-word.invariant.search c.in-Some.ensures.steps.0
          (subst (IsKept (substitution c.args.f.now.images)) c.deref.ensures.value kept);
    }

pub returns : goal.returns
returns c =
    let none : into_iter_items c.loop-word.word-iterator
    ≡ [] = nothing_left c.loop-word.word-iterator c.in-None.ensures.steps.0 in
    are_paths _ _ c.inner_laws.ensures.test c.word_laws.ensures c.label_laws.ensures c.surface_laws.ensures
    c.triangles.ensures.sound c.requires
    (search_done _ _ _ c.loop-word.invariant.search none) _ c.in_ok-inner_paths.ensures
