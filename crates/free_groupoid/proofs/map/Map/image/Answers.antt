use Rattle.std.proofs.Common.{◌≡◌, ◌∙◌, sym, ap, subst, rules}
use Rattle.std.specs.List.{All}
use Rattle.ideal_tri.specs.Words.{IsReduced}
use Rattle.tri_atlas.specs.Arena.{triangulation}
use Rattle.free_groupoid.specs.Walks.{DualWalk, IsWalkOn}
use Rattle.free_groupoid.specs.GroupoidMaps.{GroupoidMap, image_walk}
use Rattle.free_groupoid.specs.inside.Images.{words_of}
use Rattle.free_groupoid.proofs.Entries.{walk_below, below_read}
use Rattle.free_groupoid.proofs.map.Map.image.Goals as goal

pub substituted-requires-clause-below : goal.substituted-requires-clause-below
substituted-requires-clause-below c =
    let (arena, h, walk) = c.requires in
    below_read _ _ _ _ _ _ (walk_below arena c.surface_laws.ensures _ _ h walk) (ap (λ (f : GroupoidMap). f.images) c.self.view_is)
    (ap (λ (w : DualWalk). w.letters) c.w.view_is) c.as_slice.ensures c.deref.ensures.value

pub substituted-requires-clause-reduced : goal.substituted-requires-clause-reduced
substituted-requires-clause-reduced c =
    let (arena, h, walk) = c.requires in
    subst (All IsReduced) (sym (ap words_of c.as_slice.ensures ∙ ap (λ (f : GroupoidMap). f.images) c.self.view_is))
    h.reduced

pub returns-clause-walks : goal.returns-clause-walks
returns-clause-walks c = λ arena sound h walk.
    let value : ◌≡◌ {A = DualWalk} (record { start = c.vertex.result; letters = c.in_ok-substituted.field-0.items })
    (image_walk c.args.self.now c.args.w.now) =
    search rules in
    subst (IsWalkOn (triangulation arena c.args.self.now.target)) (sym value) (c.groupoid_laws.ensures.making.walks
    arena _ _ sound h walk)
