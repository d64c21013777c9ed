use Rattle.std.proofs.Common.{◌∙◌, ap}
use Rattle.std.specs.List.{repeat}
use Rattle.std.proofs.lemmas.Result.{err_from_is_err_and}
use Rattle.tri_atlas.specs.Arena.{triangulation}
use Rattle.tri_atlas.specs.Paths.{IsPathIn, moves_of}
use Rattle.free_groupoid.specs.GroupoidMaps.{identity_map}
use Rattle.free_groupoid.specs.Periodic.{IsWithin}
use Rattle.cert_text.specs.Limits.{letter_cap}
use Rattle.cert_checker.specs.inside.SiteSteps.{PassesOn, site_path}
use Rattle.cert_checker.proofs.SitePaths.{site_path_in, past_back, past_word, past_flips, along_all}
use Rattle.cert_checker.proofs.Stopped.{past_stop}
use Rattle.cert_checker.proofs.sites.map_of.Goals as goal

pub returns-in_err-follow-clause-refused : goal.returns-in_err-follow-clause-refused
returns-in_err-follow-clause-refused c =
    let within : IsPathIn c.args.atlas.now (site_path c.args.word.now c.args.flips.now c.args.power) =
    site_path_in c.args.atlas.now c.atlas_laws.ensures c.base.ensures.sound c.args.word.now c.args.flips.now c.args.power
    c.requires.closed c.requires.flips c.requires.start c.in_ok-back.back c.in_ok-back.ensures.accepted
    c.in_ok-back.ensures.path in
    let p = err_from_is_err_and c.from_residual-in_err-follow.result c.from_residual-in_err-follow.ensures.1 in
    rw (p.1, p.2)
    (past_stop (PassesOn c.args.atlas.now c.in_ok-map.map c.in_ok-back.back.moves) (¬ IsWithin (triangulation c.args.atlas.now c.args.flips.now.end)
    (moves_of c.args.atlas.now (site_path c.args.word.now c.args.flips.now c.args.power)) letter_cap)
    (past_back c.args.atlas.now c.args.word.now c.args.flips.now c.args.power within c.in_ok-map.map
    (c.in_ok-map.ensures.value ∙ ap (identity_map c.args.atlas.now) c.end.ensures) c.in_ok-back.back
    c.in_ok-back.ensures.accepted)
    c.in_err-follow.field-0.0 c.in_err-follow.ensures.refused)

pub returns-in_err-follow_often-clause-refused : goal.returns-in_err-follow_often-clause-refused
returns-in_err-follow_often-clause-refused c =
    let within : IsPathIn c.args.atlas.now (site_path c.args.word.now c.args.flips.now c.args.power) =
    site_path_in c.args.atlas.now c.atlas_laws.ensures c.base.ensures.sound c.args.word.now c.args.flips.now c.args.power
    c.requires.closed c.requires.flips c.requires.start c.in_ok-back.back c.in_ok-back.ensures.accepted
    c.in_ok-back.ensures.path in
    let p = err_from_is_err_and c.from_residual-in_err-follow_often.result c.from_residual-in_err-follow_often.ensures.1 in
    rw (p.1, p.2)
    (past_stop (PassesOn c.args.atlas.now c.follow.new.map (repeat c.args.power c.args.word.now.moves)) (¬ IsWithin (triangulation c.args.atlas.now c.args.flips.now.end)
    (moves_of c.args.atlas.now (site_path c.args.word.now c.args.flips.now c.args.power)) letter_cap)
    (past_word c.args.atlas.now c.args.word.now c.args.flips.now c.args.power within c.in_ok-map.map
    (c.in_ok-map.ensures.value ∙ ap (identity_map c.args.atlas.now) c.end.ensures) c.in_ok-back.back
    c.in_ok-back.ensures.accepted
    c.follow.new.map c.in_ok-follow.ensures.on)
    c.in_err-follow_often.field-0.0 c.in_err-follow_often.ensures.refused)

pub returns-in_err-follow-2-clause-refused : goal.returns-in_err-follow-2-clause-refused
returns-in_err-follow-2-clause-refused c =
    let within : IsPathIn c.args.atlas.now (site_path c.args.word.now c.args.flips.now c.args.power) =
    site_path_in c.args.atlas.now c.atlas_laws.ensures c.base.ensures.sound c.args.word.now c.args.flips.now c.args.power
    c.requires.closed c.requires.flips c.requires.start c.in_ok-back.back c.in_ok-back.ensures.accepted
    c.in_ok-back.ensures.path in
    let p = err_from_is_err_and c.from_residual-in_err-follow-2.result c.from_residual-in_err-follow-2.ensures.1 in
    rw (p.1, p.2)
    (past_stop (PassesOn c.args.atlas.now c.follow_often.new.map c.args.flips.now.moves) (¬ IsWithin (triangulation c.args.atlas.now c.args.flips.now.end)
    (moves_of c.args.atlas.now (site_path c.args.word.now c.args.flips.now c.args.power)) letter_cap)
    (past_flips c.args.atlas.now c.args.word.now c.args.flips.now c.args.power within c.in_ok-map.map
    (c.in_ok-map.ensures.value ∙ ap (identity_map c.args.atlas.now) c.end.ensures) c.in_ok-back.back
    c.in_ok-back.ensures.accepted
    c.follow.new.map c.in_ok-follow.ensures.on c.follow_often.new.map c.in_ok-follow_often.ensures.on)
    c.in_err-follow-2.field-0.0 c.in_err-follow-2.ensures.refused)

pub returns-clause-map : goal.returns-clause-map
returns-clause-map c =
    let within : IsPathIn c.args.atlas.now (site_path c.args.word.now c.args.flips.now c.args.power) =
    site_path_in c.args.atlas.now c.atlas_laws.ensures c.base.ensures.sound c.args.word.now c.args.flips.now c.args.power
    c.requires.closed c.requires.flips c.requires.start c.in_ok-back.back c.in_ok-back.ensures.accepted
    c.in_ok-back.ensures.path in
    along_all c.args.atlas.now c.args.word.now c.args.flips.now c.args.power within c.in_ok-map.map
    (c.in_ok-map.ensures.value ∙ ap (identity_map c.args.atlas.now) c.end.ensures) c.in_ok-back.back
    c.in_ok-back.ensures.accepted
    c.follow.new.map c.in_ok-follow.ensures.on c.follow_often.new.map c.in_ok-follow_often.ensures.on
    c.follow-2.new.map c.in_ok-follow-2.ensures.on

pub returns-clause-path : goal.returns-clause-path
returns-clause-path c =
    site_path_in c.args.atlas.now c.atlas_laws.ensures c.base.ensures.sound c.args.word.now c.args.flips.now c.args.power
    c.requires.closed c.requires.flips c.requires.start c.in_ok-back.back c.in_ok-back.ensures.accepted
    c.in_ok-back.ensures.path
