use Rattle.std.proofs.Common.{◌≡◌, ◌∙◌, ◌<◌, ◌≤◌, ℕ, ℤ, List, sym, ap, subst, arith, length, take, Vec}
use Rattle.std.specs.Global.{Global}
use Rattle.std.specs.List.{All}
use Rattle.std.proofs.lemmas.List.{length-map}
use Rattle.ideal_tri.specs.Words.{IsReduced}
use Rattle.ideal_tri.specs.Triangulations.{edge_count}
use Rattle.ideal_tri.specs.declared.tri.TheConstants.{EDGES}
use Rattle.tri_atlas.specs.Arena.{triangulation, source_of, step_of}
use Rattle.tri_atlas.specs.Maps.{image_of_letter}
use Rattle.tri_atlas.specs.Steps.{move_of}
use Rattle.free_groupoid.specs.GroupoidMaps.{GroupoidMap, IsMapIn, reduced_image, letters_in, followed}
use Rattle.free_groupoid.specs.MapRefusals.{told}
use Rattle.free_groupoid.specs.inside.Images.{words_of, IsBelow}
use Rattle.free_groupoid.proofs.Entries.{target_images}
use Rattle.free_groupoid.proofs.Undone.{map_equal}
use Rattle.free_groupoid.proofs.Following.{few_edges, images_few, images_labelled, followed_images, followed_triangles}
use Rattle.free_groupoid.proofs.map.Map.follow.Goals as goal
use Rattle.free_groupoid.proofs.map.Map.follow.Goals.{After-as_slice, After-moved_triangles-self-inside}

-- the words that are read are the images
words_read : (c : After-as_slice) → words_of c.as_slice.result.now ≡ c.args.self.now.images
words_read c = ap words_of c.as_slice.ensures ∙ ap (λ (f : GroupoidMap). f.images) c.self.view_is

pub moved_words-requires-clause-below : goal.moved_words-requires-clause-below
moved_words-requires-clause-below c =
    subst (All (IsBelow EDGES)) (sym (words_read (goal.at.moved_words-requires-clause-below c).After-as_slice))
    (images_few c.surface_laws.ensures c.args.atlas.now c.args.self.now c.base.ensures.sound c.requires.map)

pub moved_words-requires-clause-reduced : goal.moved_words-requires-clause-reduced
moved_words-requires-clause-reduced c =
    subst (All IsReduced) (sym (words_read (goal.at.moved_words-requires-clause-reduced c).After-as_slice))
    c.requires.map.reduced

pub moved_triangles-self-inside-requires-clause-within : goal.moved_triangles-self-inside-requires-clause-within
moved_triangles-self-inside-requires-clause-within c =
    let target : c.tri-before.result.now ≡ triangulation c.args.atlas.now c.args.self.now.target =
    c.tri-before.ensures.value ∙ ap (λ (f : GroupoidMap). triangulation c.args.atlas.now f.target) c.self.view_is in
    subst (λ (ts : List (List ℤ)). All (λ t. t < length ts) (take c.self.inside.count c.self.inside.triangles)) (sym
    target)
    (subst (All (λ t. t < length (triangulation c.args.atlas.now c.args.self.now.target))) (sym (ap (λ (f :
    GroupoidMap). f.triangles) c.self.view_is))
    (target_images c.args.atlas.now c.args.self.now c.requires.map))

-- ---- the map that is made

made_images : (c : After-moved_triangles-self-inside)
    → words_of c.in_ok-images.images.items ≡ (followed c.args.atlas.now c.args.self.now c.args.m).images
made_images c =
    let n : ℕ = edge_count (triangulation c.args.atlas.now (source_of c.args.atlas.now c.args.m)) in
    followed_images c.args.atlas.now c.args.self.now c.args.m c.requires.map c.requires.follows
    c.self.inside.images.items c.as_slice.result.now _ (move_of n c.step-step.result)
    (ap (λ (f : GroupoidMap). f.images) c.self.view_is) c.as_slice.ensures c.step-step.ensures
    (c.in_ok-images.ensures n
    (subst (All (IsBelow n)) (sym (ap words_of c.as_slice.ensures ∙ ap (λ (f : GroupoidMap). f.images) c.self.view_is))
    (images_labelled c.args.atlas.now c.args.self.now c.args.m c.requires.map c.requires.follows c.surface_laws.ensures)))

made_triangles : (c : After-moved_triangles-self-inside)
    → take c.self.inside.count c.moved_triangles-self-inside.result
    ≡ (followed c.args.atlas.now c.args.self.now c.args.m).triangles
made_triangles c =
    let target : c.tri-before.result.now ≡ triangulation c.args.atlas.now c.args.self.now.target =
    c.tri-before.ensures.value ∙ ap (λ (f : GroupoidMap). triangulation c.args.atlas.now f.target) c.self.view_is in
    let before : c.tri-before.result.now ≡ triangulation c.args.atlas.now (source_of c.args.atlas.now c.args.m) =
    target ∙ ap (triangulation c.args.atlas.now) (sym c.requires.follows) in
    let many : c.self.inside.count ≤ length c.self.inside.triangles = omega (arith, c.self.invariant.triangles) in
    followed_triangles c.args.atlas.now c.args.self.now c.args.m c.requires.map c.requires.follows
    c.tri-before.result.now c.tri-after.result.now (move_of (edge_count c.tri-before.result.now) c.step-step.result)
    c.self.inside.triangles c.moved_triangles-self-inside.result c.self.inside.count
    target
    (c.tri-after.ensures.value ∙ ap (triangulation c.args.atlas.now) c.target-self-inside.ensures.value)
    (ap (λ (ts : List (List ℤ)). move_of (edge_count ts) c.step-step.result) before ∙ c.step-step.ensures)
    (ap (λ (f : GroupoidMap). f.triangles) c.self.view_is) many c.moved_triangles-self-inside.ensures

made : (c : After-moved_triangles-self-inside)
    → ◌≡◌ {A = GroupoidMap} (record {
      source = c.self.inside.source;
      target = c.target-self-inside.result;
      images = words_of c.in_ok-images.images.items;
      triangles = take c.self.inside.count c.moved_triangles-self-inside.result;
    }) (followed c.args.atlas.now c.args.self.now c.args.m)
made c =
    map_equal _ _ _ _ _ _ _ _ (ap (λ (f : GroupoidMap). f.source) c.self.view_is) c.target-self-inside.ensures.value
    (made_images c) (made_triangles c)

roomy : (c : After-moved_triangles-self-inside) → length c.in_ok-images.images.items ≤ EDGES
roomy c =
    omega (
      arith,
      length-map c.in_ok-images.images.items (λ (v : Vec ℤ Global). v.items),
      ap length (made_images c),
      length-map c.args.self.now.images (reduced_image (image_of_letter (step_of c.args.atlas.now c.args.m))),
      c.requires.map.one_per_edge,
      few_edges c.args.atlas.now c.args.self.now.source c.base.ensures.sound c.requires.map.source_in,
    )

pub invariant_of-self : goal.invariant_of-self
invariant_of-self c = record {
  images = roomy (goal.at.invariant_of-self c).After-moved_triangles-self-inside;
  triangles = c.self.invariant.triangles;
}

pub invariant_of-self-2 : goal.invariant_of-self-2
invariant_of-self-2 c = record {
  images = roomy (goal.at.invariant_of-self-2 c).After-moved_triangles-self-inside;
  triangles = c.self.invariant.triangles;
}

maps : (c : After-moved_triangles-self-inside) → IsMapIn c.args.atlas.now (record {
  source = c.self.inside.source;
  target = c.target-self-inside.result;
  images = words_of c.in_ok-images.images.items;
  triangles = take c.self.inside.count c.moved_triangles-self-inside.result;
})
maps c =
    subst (IsMapIn c.args.atlas.now) (sym (made c))
    (c.groupoid_laws.ensures.making.followed _ _ _ c.base.ensures.sound c.requires.map c.requires.here
    c.requires.follows)

pub returns-in-Some : goal.returns-in-Some
returns-in-Some c =
    let same : words_of c.as_slice-2.result.now ≡ words_of c.in_ok-images.images.items = ap words_of
    c.as_slice-2.ensures in
    let at = (goal.at.returns-in-Some c).After-moved_triangles-self-inside in
    record {
      accepted = tt;
      refused = (
        made at,
        record {
          more = subst (λ (ws : List (List ℤ)). c.args.cap < letters_in ws) same c.in-Some.ensures.some.0;
          number = c.in-Some.ensures.some.1 ∙ ap (λ (ws : List (List ℤ)). told (letters_in ws)) same;
        },
      );
      maps = maps at;
    }

pub returns : goal.returns
returns c =
    let same : words_of c.as_slice-2.result.now ≡ words_of c.in_ok-images.images.items = ap words_of
    c.as_slice-2.ensures in
    let at = (goal.at.returns c).After-moved_triangles-self-inside in
    record {
      accepted = (made at, subst (λ (ws : List (List ℤ)). letters_in ws ≤ c.args.cap) same c.in_default.ensures.none);
      refused = tt;
      maps = maps at;
    }
