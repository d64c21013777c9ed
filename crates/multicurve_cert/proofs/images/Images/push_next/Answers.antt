use Rattle.std.proofs.Common.{◌≡◌, ◌-◌, ◌∙◌, ℕ, length, ap, sym, subst, rules}
use Rattle.tri_atlas.specs.Arena.{Arena, triangulation}
use Rattle.tri_atlas.specs.MovedVectors.{OverflowsAt}
use Rattle.tri_atlas.specs.Paths.{moves_of}
use Rattle.edge_coords.specs.Coordinates.{Coordinates}
use Rattle.edge_coords.specs.declared.coords.TheConstants.{COORDINATE_LIMIT}
use Rattle.multicurve_cert.specs.LastTests.{AreAtBase}
use Rattle.multicurve_cert.specs.inside.Images.{AreImages, coords_at}
use Rattle.multicurve_cert.proofs.ImageList.{is_last, read_last, images_next, images_end}
use Rattle.multicurve_cert.proofs.images.Images.push_next.Goals as goal

pub follow-requires-clause-coordinates : goal.follow-requires-clause-coordinates
follow-requires-clause-coordinates c =
    let many : c.len.result ≡ length c.args.self.now.list.items = search rules in
    (read_last c.args.atlas.now _ c.power_laws.ensures _ _ c.requires.images _
    (is_last c.args.atlas.now _ c.power_laws.ensures _ _ c.requires.images c.len.result _ many
    c.index.ensures)).at_base.coordinates

pub returns-in_ok-push-in-Ok-clause-images : goal.returns-in_ok-push-in-Ok-clause-images
returns-in_ok-push-in-Ok-clause-images c =
    let arena : Arena = c.args.atlas.now in
    let many : c.len.result ≡ length c.args.self.now.list.items = search rules in
    let last : c.index.result.now
    ≡ coords_at c.args.self.now.list.items (length c.args.self.now.list.items - 1) =
    is_last arena _ c.power_laws.ensures _ _ c.requires.images c.len.result _ many c.index.ensures in
    let base : c.index.result.now.tri ≡ 0 =
    (read_last arena _ c.power_laws.ensures _ _ c.requires.images _ last).at_base.base in
    let there : AreAtBase arena c.follow.new.self = record {
      coordinates = c.in-Ok.ensures.here;
      base = ap (λ (d : Coordinates). d.tri) c.in-Ok.ensures.moved ∙ c.requires.end;
    } in
    subst (AreImages arena (moves_of arena c.args.word.now) c.args.self.now.ended)
    (sym c.in_ok-push-in-Ok.ensures.items)
    (images_next arena _ c.power_laws.ensures _ _ c.requires.images c.index.result.now last c.follow.new.self
    c.requires.going_on there (ap (λ (d : Coordinates). d.numbers) c.in-Ok.ensures.moved)
    (subst (λ (t : ℕ). (k : ℕ) → ¬ OverflowsAt COORDINATE_LIMIT (triangulation arena t) c.index.result.now.numbers
    (moves_of arena c.args.word.now) k) base c.in-Ok.ensures.fits))

pub returns-in-Err-clause-images : goal.returns-in-Err-clause-images
returns-in-Err-clause-images c =
    let arena : Arena = c.args.atlas.now in
    let many : c.len.result ≡ length c.args.self.now.list.items = search rules in
    let last : c.index.result.now
    ≡ coords_at c.args.self.now.list.items (length c.args.self.now.list.items - 1) =
    is_last arena _ c.power_laws.ensures _ _ c.requires.images c.len.result _ many c.index.ensures in
    let base : c.index.result.now.tri ≡ 0 =
    (read_last arena _ c.power_laws.ensures _ _ c.requires.images _ last).at_base.base in
    images_end arena _ c.power_laws.ensures _ _ c.requires.images c.index.result.now last
    c.in-Err.ensures.refused.first.place
    (subst (λ (t : ℕ). OverflowsAt COORDINATE_LIMIT (triangulation arena t) c.index.result.now.numbers
    (moves_of arena c.args.word.now) c.in-Err.ensures.refused.first.place) base c.in-Err.ensures.refused.overflows)
