use Rattle.std.proofs.Common.{◌≡◌, ◌∙◌, ◌<◌, ℤ, List, sym, ap, subst, length, All}
use Rattle.ideal_tri.specs.Labels.{edge_of}
use Rattle.ideal_tri.specs.Relabellings.{image_of}
use Rattle.relabel.proofs.Slots.{read_image}
use Rattle.relabel.proofs.relabelling.Relabelling.image.Goals as goal

value : (c : goal.After-with_sign_of) → c.with_sign_of.result ≡ image_of c.args.self.now c.args.x
value c =
    c.with_sign_of.ensures.value
    ∙ read_image c.bijection_laws.ensures c.self.inside.count c.self.inside.images c.args.x c.index-self-edge.result
    c.edge.result
    c.self.invariant
    (subst (λ (xs : List ℤ). edge_of c.args.x < length xs) (sym c.self.view_is) c.requires) c.edge.ensures
    ∙ ap (λ (xs : List ℤ). image_of xs c.args.x) c.self.view_is

pub returns-clause-value : goal.returns-clause-value
returns-clause-value c = value c

pub returns-clause-label : goal.returns-clause-label
returns-clause-label c =
    subst (λ (y : ℤ). edge_of y < length c.args.self.now) (sym (value c))
    (c.bijection_laws.ensures.in_range c.args.self.now (length c.args.self.now) c.args.x
    (subst (λ (xs : List ℤ). All (λ y. edge_of y < length xs) xs) c.self.view_is c.self.invariant.sound.labels)
    c.requires)
