use Rattle.std.proofs.Common.{◌≡◌, ℕ, ◌∙◌}
use Rattle.std.proofs.lemmas.Result.{err_from_is_err_and}
use Rattle.tri_atlas.specs.Arena.{triangulation}
use Rattle.tri_atlas.specs.Paths.{moves_of}
use Rattle.free_groupoid.specs.Periodic.{IsWithin}
use Rattle.cert_text.specs.Certificates.{track_seen}
use Rattle.cert_text.specs.Limits.{letter_cap}
use Rattle.cert_checker.specs.TrackRefusals.{IsCornerRefusal, IsTrackRefusal}
use Rattle.cert_checker.specs.inside.SiteSteps.{site_path}
use Rattle.cert_checker.specs.inside.Stops.{IsRule}
use Rattle.cert_checker.proofs.SitePaths.{corners_refused, past_cap, site_is}
use Rattle.cert_checker.proofs.Stopped.{stopped}
use Rattle.cert_checker.proofs.sites.site_behind.Goals as goal

pub returns-in_err-track-clause-refused : goal.returns-in_err-track-clause-refused
returns-in_err-track-clause-refused c =
    let p = err_from_is_err_and c.from_residual.result c.from_residual.ensures.1 in
    rw (p.1, p.2)
    (stopped (IsRule 13 (IsCornerRefusal (triangulation c.args.atlas.now c.end.result) c.deref.result.now))
    (IsTrackRefusal (triangulation c.args.atlas.now 0) (moves_of c.args.atlas.now c.args.word.now)
    (track_seen c.args.c.now))
    (corners_refused c.args.atlas.now c.atlas_laws.ensures c.base.ensures.sound c.args.word.now c.args.flips.now
    (track_seen c.args.c.now) c.requires.closed c.requires.flips c.end.result c.deref.result.now c.end.ensures
    c.deref.ensures.value c.requires.flipped)
    c.in_err-track.field-0.0 c.in_err-track.ensures.refused)

pub returns-in_err-map-clause-refused : goal.returns-in_err-map-clause-refused
returns-in_err-map-clause-refused c =
    let p = err_from_is_err_and c.from_residual-in_err-map.result c.from_residual-in_err-map.ensures.1 in
    rw (p.1, p.2)
    (stopped
    (IsRule 14 (λ (place : ℕ). (place ≡ 0)
    × ¬ IsWithin (triangulation c.args.atlas.now c.args.flips.now.end)
    (moves_of c.args.atlas.now (site_path c.args.word.now c.args.flips.now c.args.c.now.power)) letter_cap))
    (IsTrackRefusal (triangulation c.args.atlas.now 0) (moves_of c.args.atlas.now c.args.word.now)
    (track_seen c.args.c.now))
    (past_cap c.args.atlas.now c.atlas_laws.ensures c.base.ensures.sound c.args.word.now c.args.flips.now
    (track_seen c.args.c.now) c.requires.closed c.requires.flips c.in_ok-track.track
    (c.in_ok-track.ensures.tri ∙ c.end.ensures) (c.in_ok-track.ensures.corners ∙ c.deref.ensures.value)
    c.in_ok-track.ensures.here c.requires.flipped)
    c.in_err-map.field-0.0 c.in_err-map.ensures.refused)

pub returns-clause-held : goal.returns-clause-held
returns-clause-held c =
    site_is c.args.atlas.now c.atlas_laws.ensures c.base.ensures.sound c.args.word.now c.args.flips.now
    (track_seen c.args.c.now) c.requires.closed c.requires.flips
    (record { track = c.in_ok-track.track; map = c.in_ok-map.map })
    (c.in_ok-track.ensures.tri ∙ c.end.ensures) (c.in_ok-track.ensures.corners ∙ c.deref.ensures.value)
    c.in_ok-track.ensures.here c.in_ok-map.ensures.maps c.in_ok-map.ensures.map c.in_ok-map.ensures.path
    c.groupoid_laws.ensures c.agreement_laws.ensures c.map_laws.ensures c.periodic_laws.ensures.found
    c.requires.flipped
