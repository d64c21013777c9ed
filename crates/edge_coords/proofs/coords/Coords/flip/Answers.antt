use Rattle.std.proofs.Common.{◌∙◌, ap, ℕ, List}
use Rattle.ideal_tri.specs.Labels.{edge_of}
use Rattle.tri_atlas.specs.MovedVectors.{flipped_number}
use Rattle.edge_coords.proofs.Kept.{laid_out_set, place_within, seen_set}
use Rattle.edge_coords.proofs.coords.Coords.flip.Goals as goal

pub invariant_of-self : goal.invariant_of-self
invariant_of-self c =
    laid_out_set c.self.inside.count c.self.inside.numbers c.edge-2.result c.flipped_number-value.result
    c.self.invariant
    (place_within c.args.self.now c.self.inside.tri c.self.inside.count c.self.inside.numbers c.edge-2.result (edge_of
    c.args.e)
    c.self.view_is c.self.invariant c.edge-2.ensures c.requires.e_in)
    c.if-value-ge-COORDINATE_LIMIT.false

pub returns-clause-flipped : goal.returns-clause-flipped
returns-clause-flipped c =
    seen_set c.args.self.now c.self.inside.tri c.self.inside.count c.self.inside.numbers c.edge-2.result (edge_of
    c.args.e)
    c.flipped_number-value.result
    (flipped_number c.args.self.now.numbers c.args.e c.args.a c.args.b c.args.c c.args.d)
    c.self.view_is
    (place_within c.args.self.now c.self.inside.tri c.self.inside.count c.self.inside.numbers c.edge-2.result (edge_of
    c.args.e)
    c.self.view_is c.self.invariant c.edge-2.ensures c.requires.e_in)
    c.edge-2.ensures
    (c.flipped_number-value.ensures
    ∙ ap (λ (w : List ℕ). flipped_number w c.args.e c.args.a c.args.b c.args.c c.args.d) c.values.ensures.value)
