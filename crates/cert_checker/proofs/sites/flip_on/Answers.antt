use Rattle.std.proofs.Common.{ℕ, pos, ◌∙◌, ap}
use Rattle.cert_checker.proofs.FlipSteps.{flip_more}
use Rattle.cert_checker.proofs.sites.flip_on.Goals as goal

pub push-requires-clause-path : goal.push-requires-clause-path
push-requires-clause-path c =
    c.atlas_laws.ensures.growth.path_in c.args.atlas.now c.flip.new.atlas c.args.path.now c.in_ok-m.ensures.grows
    c.requires

pub returns-in-Ok-clause-flipped : goal.returns-in-Ok-clause-flipped
returns-in-Ok-clause-flipped c edges h =
    flip_more c.args.atlas.now c.flip.new.atlas c.atlas_laws.ensures c.in_ok-m.ensures.grows edges c.args.e
    c.args.path.now c.push.new.self c.in_ok-m.m c.in-Some.edge h
    (c.in-Some.ensures.some
    ∙ ap (λ (t : ℕ). record { tri = t; label = pos c.args.e }) c.end.ensures)
    c.in-Some.ensures.here c.in_ok-m.ensures.flippable c.in_ok-m.ensures.accepted c.in-Ok.ensures.accepted
    c.in-Ok.ensures.path
