use Rattle.std.proofs.Common.{◌≡◌, ◌∙◌, ap, subst}
use Rattle.free_groupoid.specs.GroupoidMaps.{GroupoidMap, followed_along, identity_map}
use Rattle.free_groupoid.specs.MapRefusals.{IsPathRefusal, StaysWithin}
use Rattle.cert_text.specs.Limits.{letter_cap}
use Rattle.free_groupoid.specs.declared.map.MapError.TheVariants.{CapPassed}
use Rattle.verdict_plan.proofs.PathMaps.{told_cap, told_map}
use Rattle.verdict_plan.proofs.track_tests.map_of.Goals as goal

pub returns-in-Ok-clause-found : goal.returns-in-Ok-clause-found
returns-in-Ok-clause-found c =
    let begins : c.in_ok-psi.psi ≡ identity_map c.args.atlas.now c.args.track.now.tri =
    c.in_ok-psi.ensures.value ∙ ap (identity_map c.args.atlas.now) c.tri.ensures in
    told_map c.args.atlas.now c.periodic_laws.ensures.found c.base.ensures.sound c.args.track.now c.args.path.now
    c.requires c.follow_path.new.self
    (subst (λ (f : GroupoidMap). c.follow_path.new.self ≡ followed_along c.args.atlas.now f c.args.path.now.moves)
    begins c.in-Ok.ensures.accepted.0)
    (subst (λ (f : GroupoidMap). StaysWithin c.args.atlas.now f c.args.path.now.moves letter_cap) begins
    c.in-Ok.ensures.accepted.1)
    c.in-Ok.ensures.maps

pub returns-in-Err-CapPassed-clause-line : goal.returns-in-Err-CapPassed-clause-line
returns-in-Err-CapPassed-clause-line c series =
    let begins : c.in_ok-psi.psi ≡ identity_map c.args.atlas.now c.args.track.now.tri =
    c.in_ok-psi.ensures.value ∙ ap (identity_map c.args.atlas.now) c.tri.ensures in
    rw c.in-Err-CapPassed.letters-is
    (told_cap c.args.atlas.now c.periodic_laws.ensures.found c.base.ensures.sound c.args.track.now c.args.path.now
    c.requires c.follow_path.new.self c.in-Err-CapPassed.letters
    (subst (λ (f : GroupoidMap). IsPathRefusal c.args.atlas.now f c.follow_path.new.self c.args.path.now.moves
    letter_cap (CapPassed c.in-Err-CapPassed.letters)) begins
    (rw c.in-Err-CapPassed.field-0-is at c.in-Err-CapPassed.ensures.refused)) series)
