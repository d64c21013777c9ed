use Rattle.std.proofs.Common.{ℕ, List, [], ◌∷◌, ◌++◌, refl, ◌∙◌, ap, subst}
use Rattle.cycle_stages.specs.inside.NextFlips.{IsFlipIn}
use Rattle.cycle_stages.proofs.StageSteps.{kept_as_it_grows, kept_the_same, kept_after, flipped_after}
use Rattle.cycle_stages.proofs.stages.flip_edge.Goals as goal

pub returns-in_err-push-clause-kept : goal.returns-in_err-push-clause-kept
returns-in_err-push-clause-kept c =
    kept_the_same c.flip_in.new.atlas c.args.stage.now _
    (kept_as_it_grows c.args.atlas.now c.flip_in.new.atlas c.atlas_laws.ensures.growth c.flip_in.ensures.grows
    c.args.stage.now c.requires.kept)
    (record { path = c.in_err-push.ensures.unchanged; edges = c.reserve.ensures.items; coords = refl })

pub returns-clause-flipped : goal.returns-clause-flipped
returns-clause-flipped c =
    flipped_after c.args.atlas.now c.flip_in.new.atlas c.args.stage.now
    (record { path = c.push.new.self; edges = c.push_reserved.new.self; coords = c.apply_move.new.self }) c.args.e c.in_ok-m.m
    c.atlas_laws.ensures c.flip_in.ensures.grows c.requires.kept
    (subst (λ (t : ℕ). IsFlipIn c.args.atlas.now c.flip_in.new.atlas t c.args.e c.in_ok-m.m) c.tri.ensures
    c.in_ok-m.ensures.flipped)
    c.in_ok-push.ensures.accepted
    (c.push_reserved.ensures.items ∙ ap (λ (es : List ℕ). es ++ c.args.e ∷ []) c.reserve.ensures.items)
    c.in-Ok.ensures.moved

pub returns-clause-kept : goal.returns-clause-kept
returns-clause-kept c =
    kept_after c.args.atlas.now c.flip_in.new.atlas c.args.stage.now
    (record { path = c.push.new.self; edges = c.push_reserved.new.self; coords = c.apply_move.new.self }) c.args.e c.in_ok-m.m
    c.atlas_laws.ensures c.flip_in.ensures.grows c.requires.kept
    (subst (λ (t : ℕ). IsFlipIn c.args.atlas.now c.flip_in.new.atlas t c.args.e c.in_ok-m.m) c.tri.ensures
    c.in_ok-m.ensures.flipped)
    c.in_ok-push.ensures.accepted
    (c.push_reserved.ensures.items ∙ ap (λ (es : List ℕ). es ++ c.args.e ∷ []) c.reserve.ensures.items)
    c.in-Ok.ensures.moved c.requires.can.flippable
    c.in_ok-push.ensures.path c.in-Ok.ensures.here
