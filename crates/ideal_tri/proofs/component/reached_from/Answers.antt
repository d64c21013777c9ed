use Rattle.std.proofs.Common.{◌≡◌, ◌<◌, ◌≤◌, ◌∙◌, ℤ, replicate, List, true, false, inl, inr, length, arith}
use Rattle.std.proofs.lemmas.List.{length-set, length-replicate}
use Rattle.ideal_tri.specs.declared.tri.TheConstants.{TRIANGLES}
use Rattle.ideal_tri.specs.Labels.{inverse}
use Rattle.ideal_tri.specs.Triangulations.{triangle_of}
use Rattle.ideal_tri.proofs.Places.{small_size}
use Rattle.ideal_tri.proofs.Triangles.{triangle_laws}
use Rattle.ideal_tri.proofs.Walks.{reached_along}
use Rattle.ideal_tri.proofs.Reaching.{IsClosed, marked, marked_first, none_done, was_marked, fewer_unmarked}
use Rattle.ideal_tri.proofs.Reaching.{reached_marked}
use Rattle.ideal_tri.proofs.component.reached_from.Goals as goal

pub loop-t-init : goal.loop-t-init
loop-t-init c =
    let few : length c.args.tri.now ≤ TRIANGLES = small_size c.args.tri.now c.triangles-count.ensures.size in
    let room : length (replicate TRIANGLES false) ≡ TRIANGLES = length-replicate TRIANGLES false in
    record {
      room = length-set (replicate TRIANGLES false) c.args.start true ∙ room;
      done_room = room;
      start = marked (replicate TRIANGLES false) c.args.start (omega arith);
      sound = marked_first c.args.tri.now c.args.start;
      crossed = λ x l m. none_done (triangle_of c.args.tri.now x) m;
    }

pub loop-t-smaller : goal.loop-t-smaller
loop-t-smaller c =
    let few : length c.args.tri.now ≤ TRIANGLES = small_size c.args.tri.now c.triangles-count.ensures.size in
    let (within, is_reached, is_open) = c.in-Some.ensures.some in
    fewer_unmarked c.loop-t.done c.in-Some.t (omega arith) is_open

pub loop-t-preserved : goal.loop-t-preserved
loop-t-preserved c =
    let ts : List (List ℤ) = c.args.tri.now in
    let (within, is_reached, is_open) = c.in-Some.ensures.some in
    record {
      room = c.mark_neighbours.ensures.room;
      done_room = length-set c.loop-t.done c.in-Some.t true ∙ c.loop-t.invariant.done_room;
      start = c.mark_neighbours.ensures.kept c.args.start c.loop-t.invariant.start;
      sound = λ u m.
          elim (c.mark_neighbours.ensures.only u m) [
            | inl old ↦ c.loop-t.invariant.sound u old
            | inr r ↦ reached_along ts c.args.start c.in-Some.t u (c.loop-t.invariant.sound c.in-Some.t is_reached) r
          ];
      crossed = λ x l m.
          elim (was_marked c.loop-t.done c.in-Some.t (triangle_of ts x) m) [
            | inl old ↦ c.mark_neighbours.ensures.kept (triangle_of ts (inverse x)) (c.loop-t.invariant.crossed x l old)
            | inr e ↦ c.mark_neighbours.ensures.marked x l e
          ];
    }

pub returns-clause-reached : goal.returns-clause-reached
returns-clause-reached c =
    λ t b. (
      λ m. c.loop-t.invariant.sound t m,
      λ r. reached_marked c.args.tri.now c.loop-t.reached c.args.start t closed r c.loop-t.invariant.start,
    )
  where
    closed : IsClosed c.args.tri.now c.loop-t.reached
    closed = record {
      crossed = λ x l m.
          let below : triangle_of c.args.tri.now x < length c.args.tri.now =
          (triangle_laws c.args.tri.now c.triangles-count.ensures.sound).triangle x l in
          c.loop-t.invariant.crossed x l (c.in_default.ensures.none (triangle_of c.args.tri.now x) (omega arith) m);
    }
