use Rattle.std.proofs.Common.{ℕ, subst}
use Rattle.curve_shorten.specs.inside.States.{IsFlipIn}
use Rattle.curve_shorten.proofs.States.{coordinates_kept, after_flip}
use Rattle.curve_shorten.proofs.short.flip_edge.Goals as goal

pub push-requires-clause-path : goal.push-requires-clause-path
push-requires-clause-path c =
    c.atlas_laws.ensures.growth.path_in c.args.atlas.now c.flip_in.new.atlas c.args.at.now.path c.flip_in.ensures.grows
    c.requires.state.path

pub apply_move-requires-clause-coordinates : goal.apply_move-requires-clause-coordinates
apply_move-requires-clause-coordinates c =
    coordinates_kept c.args.atlas.now c.flip_in.new.atlas c.args.at.now.coords c.atlas_laws.ensures.growth
    c.flip_in.ensures.grows c.requires.state.here

pub returns-clause-flipped : goal.returns-clause-flipped
returns-clause-flipped c =
    after_flip c.args.atlas.now c.flip_in.new.atlas c.args.at.now c.args.e c.in_ok-m.m c.push.new.self c.apply_move.new.self
    c.atlas_laws.ensures c.vector_laws.ensures c.flip_in.ensures.grows c.requires.state
    (subst (λ (t : ℕ). IsFlipIn c.args.atlas.now c.flip_in.new.atlas t c.args.e c.in_ok-m.m) c.tri.ensures
    c.in_ok-m.ensures.flipped)
    c.in_ok-push.ensures.accepted c.in-Ok.ensures.moved c.flipped_corner_laws.ensures
    c.flip_laws.ensures c.map_laws.ensures.flips c.requires.flippable
    c.requires.no_greater c.in_ok-push.ensures.path c.in-Ok.ensures.here
