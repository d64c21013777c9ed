use Rattle.std.proofs.Common.{ℤ, List, [], ◌≡◌, ◌+◌, ◌<◌, ◌≤◌, ◌∙◌, refl, sym, ap, subst, length, get_or, arith, below_more}
use Rattle.tri_atlas.specs.Arena.{triangulation}
use Rattle.tri_atlas.specs.Paths.{moves_of}
use Rattle.free_groupoid.specs.InnerLaws.{IsReducedLoop}
use Rattle.free_groupoid.specs.MapRefusals.{IsPathRefusal}
use Rattle.cert_text.specs.Certificates.{walks_of}
use Rattle.cert_text.specs.Limits.{letter_cap}
use Rattle.cert_checker.specs.inside.PeriodicParts.{IsPower}
use Rattle.cert_checker.proofs.CheckStops.{out_of_memory}
use Rattle.cert_checker.proofs.MovedReasons.{moved, not_moved}
use Rattle.cert_checker.proofs.WalkReading.{walk_read, walk_count}
use Rattle.cert_checker.proofs.WordTurns.{at_base, is_power, not_within, self_map, turned_more, within_fewer}
use Rattle.cert_checker.proofs.WordTurns.{Turned}
use Rattle.cert_checker.proofs.powers.check_moved.Goals as goal
use Rattle.cert_checker.proofs.powers.check_moved.Goals.{After-deref}

-- the map behind this turn
turned : (c : After-deref) → Turned c.args.atlas.now c.args.word.now (c.loop-i.i + 1) c.follow_path.new.self
turned c =
    turned_more c.atlas_laws.ensures c.periodic_laws.ensures.found c.args.atlas.now c.args.word.now c.loop-i.i
    c.loop-i.map c.follow_path.new.self c.loop-i.invariant.0 c.in-Ok.ensures.accepted.0 c.in-Ok.ensures.accepted.1
    c.in-Ok.ensures.maps

power : (c : After-deref) → IsPower c.args.atlas.now (moves_of c.args.atlas.now c.args.word.now) (c.loop-i.i + 1)
    c.follow_path.new.self
power c =
    is_power c.atlas_laws.ensures c.periodic_laws.ensures.found c.args.atlas.now c.args.word.now c.base.ensures.sound
    c.requires.closed (c.loop-i.i + 1) c.follow_path.new.self (turned c) c.groupoid_laws.ensures

-- the reason of this turn
inside : (c : After-deref) → c.loop-i.i < length (walks_of c.args.reasons.now)
inside c = omega (arith, c.loop-i-test.true, walk_count c.args.reasons.now)

reason_is : (c : After-deref) → c.deref.result.now ≡ get_or (walks_of c.args.reasons.now) c.loop-i.i []
reason_is c =
    c.deref.ensures.value
    ∙ walk_read c.args.reasons.now c.loop-i.i c.index-reasons-i.result c.loop-i-test.true c.index-reasons-i.is

is_base : (c : After-deref) → c.tri-tri.result.now ≡ triangulation c.args.atlas.now 0
is_base c = c.tri-tri.ensures.value ∙ ap (triangulation c.args.atlas.now) c.base.ensures.number

pub returns-in_err-map-clause-refused : goal.returns-in_err-map-clause-refused
returns-in_err-map-clause-refused c = out_of_memory _ c.from_residual.result c.from_residual.ensures.1

pub follow_path-requires-clause-follows : goal.follow_path-requires-clause-follows
follow_path-requires-clause-follows c =
    c.requires.closed.start
    ∙ sym (at_base c.atlas_laws.ensures c.periodic_laws.ensures.found c.args.atlas.now c.args.word.now
    c.base.ensures.sound c.requires.closed c.loop-i.i c.loop-i.map c.loop-i.invariant.0)

pub unreachable-requires : goal.unreachable-requires
unreachable-requires c =
    let inside : c.loop-i.i < length (walks_of c.args.reasons.now) =
    omega (arith, c.loop-i-test.true, walk_count c.args.reasons.now) in
    not_within c.atlas_laws.ensures c.periodic_laws.ensures.found c.args.atlas.now c.args.word.now
    c.base.ensures.sound c.requires.closed c.loop-i.i c.loop-i.map c.follow_path.new.self c.loop-i.invariant.0
    c.in-Err-CapPassed.field-0-0
    (subst (IsPathRefusal c.args.atlas.now c.loop-i.map c.follow_path.new.self c.args.word.now.moves letter_cap)
    c.in-Err-CapPassed.field-0-is c.in-Err-CapPassed.ensures.refused)
    (within_fewer c.atlas_laws.ensures.ways.repeats (triangulation c.args.atlas.now 0) letter_cap
    (moves_of c.args.atlas.now c.args.word.now) (c.loop-i.i + 1) (length (walks_of c.args.reasons.now) + 1)
    (omega (arith, inside)) c.requires.within)

pub is_kept-requires-clause-map : goal.is_kept-requires-clause-map
is_kept-requires-clause-map c =
    self_map c.args.atlas.now (moves_of c.args.atlas.now c.args.word.now) (c.loop-i.i + 1) c.follow_path.new.self
    c.tri-tri.result.now (is_base c) (power c)

pub is_kept-requires-clause-closed : goal.is_kept-requires-clause-closed
is_kept-requires-clause-closed c =
    subst (λ (ts : List (List ℤ)). IsReducedLoop ts c.deref.result.now) (sym (is_base c))
    (subst (IsReducedLoop (triangulation c.args.atlas.now 0)) (sym (reason_is c))
    (c.requires.loops c.loop-i.i (inside c)))

pub returns-in_err-is_kept-clause-refused : goal.returns-in_err-is_kept-clause-refused
returns-in_err-is_kept-clause-refused c =
    out_of_memory _ c.from_residual-in_err-is_kept.result c.from_residual-in_err-is_kept.ensures.1

pub returns-then-branch-clause-refused : goal.returns-then-branch-clause-refused
returns-then-branch-clause-refused c =
    let before = (goal.at.returns-then-branch-clause-refused c).After-deref in (
      refl,
      (
        c.loop-i.i,
        refl,
        record {
          within = inside before;
          fails =
              not_moved c.surface_laws.ensures c.map_laws.ensures c.args.atlas.now
              (moves_of c.args.atlas.now c.args.word.now) (walks_of c.args.reasons.now) c.loop-i.i
              (c.requires.loops c.loop-i.i (inside before)) c.follow_path.new.self (power before) c.deref.result.now
              (reason_is before) _ c.in_ok-is_kept.ensures c.if-branch.true;
          before = c.loop-i.invariant.1;
        },
      ),
    )

pub loop-i-preserved : goal.loop-i-preserved
loop-i-preserved c =
    let before = (goal.at.loop-i-preserved c).After-deref in (
      turned before,
      below_more _ _ c.loop-i.invariant.1
          (moved c.surface_laws.ensures c.map_laws.ensures c.args.atlas.now
          (moves_of c.args.atlas.now c.args.word.now) (walks_of c.args.reasons.now) c.loop-i.i
          (c.requires.loops c.loop-i.i (inside before)) c.follow_path.new.self (power before) c.deref.result.now
          (reason_is before) _ c.in_ok-is_kept.ensures c.if-branch.false),
    )

pub returns-clause-held : goal.returns-clause-held
returns-clause-held c =
    let all : length (walks_of c.args.reasons.now) ≤ c.loop-i.i =
    omega (arith, c.loop-i-test.false, walk_count c.args.reasons.now) in
    λ k below. c.loop-i.invariant.1 k (omega (arith, below, all))
