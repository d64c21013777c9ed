use Rattle.std.proofs.Common.{◌≡◌, ◌<◌, ◌/◌, ℕ, List, ◌∙◌, ap, subst, rules}
use Rattle.ideal_tri.specs.Vectors.{IsMulticurve}
use Rattle.tri_atlas.specs.Arena.{triangulation}
use Rattle.tri_atlas.specs.MovedVectors.{vector_along}
use Rattle.tri_atlas.specs.Paths.{moves_of}
use Rattle.edge_coords.specs.Coordinates.{Coordinates, total_of}
use Rattle.cert_text.specs.Limits.{letter_cap}
use Rattle.cycle_stages.specs.Light.{greatest_of}
use Rattle.verdict_plan.proofs.PastCandidates.{all_past}
use Rattle.verdict_plan.proofs.past.is_past.Goals as goal

pub returns-in-Ok-image_after : goal.returns-in-Ok-image_after
returns-in-Ok-image_after c passes =
    let start : IsMulticurve (triangulation c.args.atlas.now 0) c.args.w.now.numbers =
    subst (λ (t : ℕ). IsMulticurve (triangulation c.args.atlas.now t) c.args.w.now.numbers) c.requires.base
    c.requires.coordinates.multicurve in
    let there : List ℕ = c.follow.new.self.numbers in
    let image : List ℕ = c.in-Ok-image_after.image.numbers in
    let moved : there ≡ vector_along (moves_of c.args.atlas.now c.args.stage.now.path) c.args.w.now.numbers =
    ap (λ (at : Coordinates). at.numbers) c.in-Ok.ensures.moved in
    let less : c.greatest.result < c.total.result / letter_cap = search rules in
    let greatest : c.greatest.result ≡ greatest_of there =
    c.greatest.ensures.value ∙ ap greatest_of c.values.ensures.value in
    let above : greatest_of there < total_of image / letter_cap =
    subst (λ (n : ℕ). n < total_of image / letter_cap) greatest
    (subst (λ (n : ℕ). c.greatest.result < n / letter_cap) c.total.ensures less) in
    all_past c.args.atlas.now c.args.word.now c.args.stage.now c.args.w.now.numbers c.args.power c.base.ensures.sound
    c.atlas_laws.ensures.ways c.map_laws.ensures c.vector_laws.ensures c.power_laws.ensures c.requires.kept start
    c.word_laws.ensures c.drawing_laws.ensures there image moved c.in-Ok-image_after.ensures above
