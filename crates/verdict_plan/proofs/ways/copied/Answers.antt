use Rattle.std.proofs.Common.{◌∙◌, ap}
use Rattle.tri_atlas.specs.Paths.{MovePath, empty_path, joined}
use Rattle.free_groupoid.specs.GroupoidMaps.{composed, identity_map}
use Rattle.verdict_plan.proofs.WayMaps.{way_copied}
use Rattle.verdict_plan.proofs.ways.copied.Goals as goal

pub returns-in-Ok : goal.returns-in-Ok
returns-in-Ok c =
    way_copied c.args.atlas.now c.args.way.now (record { path = c.append.new.self; map = c.in-Ok.map }) c.requires
    c.groupoid_laws.ensures.action c.base.ensures.sound
    (c.in_ok-append.ensures.accepted
    ∙ ap (λ (p : MovePath). joined p c.args.way.now.path)
    (c.new-path.ensures ∙ ap empty_path c.start.ensures))
    (c.in-Ok.ensures.maps c.args.atlas.now c.base.ensures.sound c.requires.maps c.in_ok-still.ensures.maps)
    (c.in-Ok.ensures.accepted.0
    ∙ ap (composed c.args.way.now.map)
    (c.in_ok-still.ensures.value ∙ ap (identity_map c.args.atlas.now) c.target.ensures))
