use Rattle.std.proofs.Common.{◌≡◌, ◌∙◌, ◌<◌, length, take, sym, arith}
use Rattle.std.proofs.lemmas.List.{length-take-le}
use Rattle.ideal_tri.specs.Labels.{edge_of}
use Rattle.tri_atlas.proofs.step.image_back.Goals as goal

pub returns : goal.returns
returns c =
    let long : length (take c.args.edges c.args.images.now) ≡ c.args.edges =
    length-take-le c.args.edges c.args.images.now (omega (arith, c.told-images)) in
    let within : edge_of c.args.x < length (take c.args.edges c.args.images.now) = omega (arith, long) in
    c.origin.ensures ∙ sym (c.bijection_laws.ensures.origin (take c.args.edges c.args.images.now) c.args.x within)
