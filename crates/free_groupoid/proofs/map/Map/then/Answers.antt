use Rattle.std.proofs.Common.{◌≡◌, ◌∙◌, sym, ap, subst, arith, take}
use Rattle.std.specs.List.{All}
use Rattle.std.proofs.lemmas.Grind.{common_steps}
use Rattle.ideal_tri.specs.Words.{IsReduced}
use Rattle.free_groupoid.specs.GroupoidMaps.{GroupoidMap, IsMapIn, composed}
use Rattle.free_groupoid.specs.inside.Images.{words_of}
use Rattle.free_groupoid.proofs.Entries.{images_below, all_below_read, triangles_within}
use Rattle.free_groupoid.proofs.map.Map.then.Goals as goal

pub composed_words-requires-clause-below : goal.composed_words-requires-clause-below
composed_words-requires-clause-below c =
    let (arena, h, k) = c.requires.maps in
    all_below_read _ _ _ _ _ _ (images_below arena c.surface_laws.ensures _ _ h k c.requires.follows) (ap (λ (f : GroupoidMap). f.images)
    c.self.view_is) c.as_slice.ensures
    (ap (λ (f : GroupoidMap). f.images) c.next.view_is) c.as_slice-2.ensures

pub composed_words-requires-clause-reduced : goal.composed_words-requires-clause-reduced
composed_words-requires-clause-reduced c =
    let (arena, h, k) = c.requires.maps in
    subst (All IsReduced) (sym (ap words_of c.as_slice-2.ensures ∙ ap (λ (f : GroupoidMap). f.images) c.next.view_is))
    k.reduced

pub composed_triangles-requires-clause-within : goal.composed_triangles-requires-clause-within
composed_triangles-requires-clause-within c =
    let (arena, h, k) = c.requires.maps in
    rw (ap (λ (f : GroupoidMap). f.triangles) c.self.view_is, ap (λ (f : GroupoidMap). f.triangles) c.next.view_is)
    (triangles_within arena _ _ h k c.requires.follows)

pub returns-clause-maps : goal.returns-clause-maps
returns-clause-maps c = λ arena sound h k.
    let value : ◌≡◌ {A = GroupoidMap} (record {
      source = c.self.inside.source;
      target = c.next.inside.target;
      images = words_of c.in_ok-images.images.items;
      triangles = take c.self.inside.count c.composed_triangles.result;
    }) (composed c.args.self.now c.args.next.now) = grind (arith, common_steps) in
    subst (IsMapIn arena) (sym value) (c.groupoid_laws.ensures.making.composed arena _ _ sound h k c.requires.follows)
