use Rattle.std.proofs.Common.{◌≡◌, ◌++◌, ◌∙◌, ℤ, List, pos, sym, ap, subst}
use Rattle.std.specs.List.{All, flat_map}
use Rattle.ideal_tri.specs.Triangulations.{IsLabel}
use Rattle.ideal_tri.specs.Words.{reduce}
use Rattle.free_groupoid.specs.TestWalks.{loop}
use Rattle.free_groupoid.specs.GroupoidMaps.{substitution}
use Rattle.free_groupoid.specs.inside.InnerPaths.{collapse}
use Rattle.free_groupoid.proofs.Known.{Known, Laws, glued, with_forest}
use Rattle.free_groupoid.proofs.Reduced.{reduce-keeps}
use Rattle.free_groupoid.proofs.ComputedWords.{loop_labels, labels_below, collapsed_loop}
use Rattle.free_groupoid.proofs.inner_paths.collapsed_image.Goals as goal
use Rattle.free_groupoid.proofs.inner_paths.collapsed_image.Goals.{After-deref, After-triangles}

known : After-triangles → Known
known c = record { labels = c.label_laws.ensures; words = c.word_laws.ensures; maps = c.map_laws.ensures }

laws : (c : After-triangles) → Laws c.args.tri.now
laws c =
    with_forest c.args.tri.now (glued (known c) c.surface_laws.ensures c.args.tri.now c.triangles.ensures.sound)
    (c.forest_laws.ensures c.args.tri.now c.triangles.ensures.sound)

-- the loop, as it was made
is_loop : (c : After-deref) → c.deref.result.now ≡ loop c.args.tri.now (pos c.args.e)
is_loop c =
    c.deref.ensures.value ∙ c.in_ok-push_loop.ensures
    ∙ ap (λ (w : List ℤ). w ++ loop c.args.tri.now c.label.result) c.new-word.ensures.items
    ∙ ap (loop c.args.tri.now) c.label.ensures

pub substituted-requires-clause-below : goal.substituted-requires-clause-below
substituted-requires-clause-below c =
    labels_below c.args.tri.now c.args.f.now c.deref.result.now c.requires.map
    (subst (All (IsLabel c.args.tri.now)) (sym (is_loop (goal.at.substituted-requires-clause-below c).After-deref))
    (loop_labels c.args.tri.now (laws (goal.at.substituted-requires-clause-below c).After-triangles) (pos c.args.e) c.requires.edge))

pub returns-clause-value : goal.returns-clause-value
returns-clause-value c =
    c.reduce.ensures
    ∙ ap reduce (c.in_ok-image.ensures.value ∙ ap (flat_map (collapse c.args.tri.now c.args.r)) c.deref-2.ensures.value)
    ∙ collapsed_loop (known (goal.at.returns-clause-value c).After-triangles) c.args.tri.now _ c.args.r c.args.e _
    (c.in_ok-substituted.ensures ∙ ap (λ (w : List ℤ). reduce (flat_map (substitution c.args.f.now.images) w)) (is_loop
    (goal.at.returns-clause-value c).After-deref))

pub returns-clause-labels : goal.returns-clause-labels
returns-clause-labels c =
    subst (All (IsLabel c.args.tri.now)) (sym c.reduce.ensures)
    (reduce-keeps (IsLabel c.args.tri.now) (known (goal.at.returns-clause-labels c).After-triangles)
    c.in_ok-image.image.items c.in_ok-image.ensures.labels)
