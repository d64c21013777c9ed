use Rattle.tri_atlas.specs.Arena.{triangulation}
use Rattle.tri_atlas.specs.Paths.{moves_of}
use Rattle.cert_text.specs.Certificates.{track_seen}
use Rattle.verdict_plan.proofs.PassedTracks.{sound_pass}
use Rattle.verdict_plan.proofs.TrainPathEnds.{can_be_counted}
use Rattle.verdict_plan.proofs.track_tests.try_map.Goals as goal

pub transition-requires : goal.transition-requires
transition-requires c =
    let (path, h) = c.requires in
    let found = rw c.in-Ok.is at c.in_ok-c.ensures.found in
    can_be_counted c.label_laws.ensures c.args.series (triangulation c.args.atlas.now c.args.track.now.tri)
    (moves_of c.args.atlas.now path) c.args.track.now c.in-Ok.c (found path h)
    (c.base.ensures.sound.sound c.args.track.now.tri h.along.on.tri)

pub returns-in-Ok-2-clause-passes : goal.returns-in-Ok-2-clause-passes
returns-in-Ok-2-clause-passes c path h =
    let found = rw c.in-Ok.is at c.in_ok-c.ensures.found in
    let grows = rw c.in-Ok-2.is at c.in_ok-growth.ensures.found in
    sound_pass c.args.series (triangulation c.args.atlas.now c.args.track.now.tri) (moves_of c.args.atlas.now path)
    c.args.track.now c.in-Ok.c (found path h) c.in_ok-m.m c.in_ok-m.ensures.counts c.in-Ok-2.growth grows
    (track_seen c.in_ok-pa-in-Ok-2.field-0) c.in_ok-pa-in-Ok-2.ensures.tells
