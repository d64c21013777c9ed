use Rattle.std.proofs.Common.{◌∙◌, sym, subst}
use Rattle.tri_atlas.specs.Paths.{IsPathIn}
use Rattle.free_groupoid.specs.MapRefusals.{IsPathRefusal}
use Rattle.cert_text.specs.Limits.{letter_cap}
use Rattle.verdict_plan.proofs.WayMaps.{way_target, way_on, way_past}
use Rattle.verdict_plan.proofs.ways.go_on.Goals as goal

pub follow_path-requires-clause-follows : goal.follow_path-requires-clause-follows
follow_path-requires-clause-follows c =
    c.requires.follows ∙ sym (way_target c.periodic_laws.ensures.found c.args.atlas.now c.args.way c.requires.way)

pub returns-in-Ok-clause-on : goal.returns-in-Ok-clause-on
returns-in-Ok-clause-on c =
    way_on c.periodic_laws.ensures.found c.args.atlas.now c.args.way c.args.p.now c.requires.way
    (record { path = c.append.new.self; map = c.follow_path.new.self }) c.in_ok-append.ensures.accepted
    (c.in_ok-append.ensures.path c.args.atlas.now c.requires.way.path c.requires.path) c.in-Ok.ensures.maps
    c.in-Ok.ensures.accepted.0 c.in-Ok.ensures.accepted.1

pub returns-clause-past : goal.returns-clause-past
returns-clause-past c =
    rw c.in-Err-CapPassed.letters-is
    (way_past c.periodic_laws.ensures.found c.args.atlas.now c.args.way c.args.p.now c.requires.way
    c.base.ensures.sound
    (subst (IsPathIn c.args.atlas.now) c.in_ok-append.ensures.accepted
    (c.in_ok-append.ensures.path c.args.atlas.now c.requires.way.path c.requires.path)) c.follow_path.new.self
    c.in-Err-CapPassed.letters
    (subst (IsPathRefusal c.args.atlas.now c.args.way.map c.follow_path.new.self c.args.p.now.moves letter_cap)
    c.in-Err-CapPassed.field-0-is c.in-Err-CapPassed.ensures.refused))
