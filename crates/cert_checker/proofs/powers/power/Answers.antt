use Rattle.std.proofs.Common.{ℕ, ◌≡◌, ◌+◌, ◌∙◌, refl, sym, ap, subst, arith}
use Rattle.tri_atlas.specs.Paths.{moves_of}
use Rattle.free_groupoid.specs.MapRefusals.{IsPathRefusal}
use Rattle.cert_text.specs.Limits.{letter_cap}
use Rattle.cert_checker.specs.inside.PeriodicParts.{IsPower}
use Rattle.cert_checker.proofs.CheckStops.{out_of_memory}
use Rattle.cert_checker.proofs.WordTurns.{at_base, first_past, is_power}
use Rattle.cert_checker.proofs.powers.power.Goals as goal

pub returns-in_err-map-clause-refused : goal.returns-in_err-map-clause-refused
returns-in_err-map-clause-refused c = out_of_memory _ c.from_residual.result c.from_residual.ensures.1

pub follow_path-requires-clause-follows : goal.follow_path-requires-clause-follows
follow_path-requires-clause-follows c =
    c.requires.closed.start
    ∙ sym (at_base c.atlas_laws.ensures c.periodic_laws.ensures.found c.args.atlas.now c.args.word.now
    c.base.ensures.sound c.requires.closed c.loop-i.i c.loop-i.map c.loop-i.invariant)

pub returns-in-Err-CapPassed-clause-refused : goal.returns-in-Err-CapPassed-clause-refused
returns-in-Err-CapPassed-clause-refused c = (
  refl,
  (
    c.loop-i.i,
    ap (λ (k : ℕ). k + 1) c.from-place.ensures,
    first_past c.atlas_laws.ensures c.periodic_laws.ensures.found c.args.atlas.now c.args.word.now
        c.base.ensures.sound c.requires.closed c.loop-i.i c.loop-i.map c.follow_path.new.self c.loop-i.invariant
        c.in-Err-CapPassed.field-0-0
        (subst (IsPathRefusal c.args.atlas.now c.loop-i.map c.follow_path.new.self c.args.word.now.moves letter_cap)
        c.in-Err-CapPassed.field-0-is c.in-Err-CapPassed.ensures.refused)
        c.args.order c.loop-i-test.true,
  ),
)

pub returns-clause-held : goal.returns-clause-held
returns-clause-held c =
    let all : c.loop-i.i ≡ c.args.order = omega arith in
    subst (λ (n : ℕ). IsPower c.args.atlas.now (moves_of c.args.atlas.now c.args.word.now) n c.loop-i.map) all
    (is_power c.atlas_laws.ensures c.periodic_laws.ensures.found c.args.atlas.now c.args.word.now
    c.base.ensures.sound c.requires.closed c.loop-i.i c.loop-i.map c.loop-i.invariant c.groupoid_laws.ensures)
