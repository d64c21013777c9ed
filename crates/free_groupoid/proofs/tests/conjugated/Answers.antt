use Rattle.std.proofs.Common.{rules, ◌≡◌, ◌∷◌, [], pos, negsuc}
use Rattle.ideal_tri.specs.Triangulations.{IsTriangulation}
use Rattle.tri_atlas.specs.Arena.{IsTriIn, triangulation}
use Rattle.free_groupoid.proofs.TestedMaps.{torus, from_zero, conjugation}
use Rattle.free_groupoid.proofs.tests.conjugated.Goals as goal

pub from_images-f-requires : goal.from_images-f-requires
from_images-f-requires g c =
    let here : IsTriIn c.in_ok-atlas.atlas 0 = search rules in
    let is : triangulation c.in_ok-atlas.atlas 0 ≡ torus = search rules in
    let sound : IsTriangulation torus = search rules in
    let s : c.base.result ≡ 0 = search rules in
    let t : c.base-2.result ≡ 0 = search rules in
    let zero : c.new-zero.result ≡ pos 0 = search rules in
    let back : c.new-back.result ≡ negsuc 1 = search rules in
    let two : c.new-two.result ≡ pos 2 = search rules in
    let all : c.in_ok-walks.walks.items
    ≡ c.in_ok-new.field-0 ∷ (c.in_ok-new-2.field-0 ∷ (c.in_ok-new-3.field-0 ∷ [])) = search rules in
    let first : c.in_ok-new.field-0 ≡ from_zero (c.new-two.result ∷ (c.new-back.result ∷ (c.new-zero.result ∷ []))) =
    search rules in
    let second : c.in_ok-new-2.field-0 ≡ from_zero (c.new-two.result ∷ []) = search rules in
    let third : c.in_ok-new-3.field-0 ≡ from_zero (c.new-two.result ∷ (c.new-back.result ∷ (c.new-two.result ∷ []))) =
    search rules in (
      0 ∷ (1 ∷ []),
      conjugation c.in_ok-atlas.atlas c.base.result c.base-2.result c.in_ok-walks.walks.items
          c.in_ok-new.field-0 c.in_ok-new-2.field-0 c.in_ok-new-3.field-0 c.new-zero.result c.new-back.result
          c.new-two.result here is (c.surface_laws.ensures.walks torus sound) c.word_laws.ensures.reduction.is_reduced
          c.groupoid_laws.ensures.images.odd s t zero back two all first second third,
    )
