use Rattle.std.proofs.Common.{refl, subst}
use Rattle.free_groupoid.specs.MapRefusals.{IsPathRefusal}
use Rattle.cert_text.specs.Limits.{letter_cap}
use Rattle.cert_checker.proofs.MapsAlong.{passes_on}
use Rattle.cert_checker.proofs.sites.follow.Goals as goal

pub returns-in-Err-CapPassed-clause-refused : goal.returns-in-Err-CapPassed-clause-refused
returns-in-Err-CapPassed-clause-refused c = (
  refl,
  (
    refl,
    passes_on c.args.atlas.now c.args.map.now c.follow_path.new.self c.args.p.now.moves c.in-Err-CapPassed.field-0-0
        c.periodic_laws.ensures.found c.base.ensures.sound
        (subst (IsPathRefusal c.args.atlas.now c.args.map.now c.follow_path.new.self c.args.p.now.moves letter_cap)
        c.in-Err-CapPassed.field-0-is c.in-Err-CapPassed.ensures.refused),
  ),
)
