use Rattle.std.proofs.Common.{◌≡◌, ◌<◌, ◌∙◌, ◌++◌, ◌∷◌, [], ℕ, List, ℤ, sym, ap, arith, length, map, get_or}
use Rattle.std.specs.List.{range_with_len}
use Rattle.std.proofs.lemmas.List.FromFn.{map-range_with_len_more}
use Rattle.ideal_tri.specs.Words.{inverse_word}
use Rattle.free_groupoid.specs.Walks.{DualWalk}
use Rattle.free_groupoid.specs.TestWalks.{root_of}
use Rattle.free_groupoid.specs.inside.ComputedWalks.{root_word, path_from}
use Rattle.free_groupoid.proofs.Known.{Known, Laws, glued, with_forest}
use Rattle.free_groupoid.proofs.ForestReads.{root_read, walk_read}
use Rattle.free_groupoid.proofs.ComputedPaths.{root_below}
use Rattle.free_groupoid.proofs.ComputedWords.{words_count, root_found, tree_below, path_computed}
use Rattle.free_groupoid.proofs.inner_paths.inner_paths.Goals as goal
use Rattle.free_groupoid.proofs.inner_paths.inner_paths.Goals.{After-triangles, After-root}

laws : (c : After-triangles) → Laws c.args.tri.now
laws c =
    let known : Known = record {
      labels = c.label_laws.ensures;
      words = c.word_laws.ensures;
      maps = c.map_laws.ensures;
    } in
    with_forest c.args.tri.now (glued known c.surface_laws.ensures c.args.tri.now c.triangles.ensures.sound)
    (c.forest_laws.ensures c.args.tri.now c.triangles.ensures.sound)

inside : (c : After-root) → c.loop-t.t < length c.args.tri.now
inside c = omega (arith, c.triangles-t-end.ensures.count)

is_root : (c : After-root) → c.root.result ≡ root_of c.args.tri.now c.loop-t.t
is_root c = c.root.ensures ∙ root_read _ _ _ c.requires.trees

pub index-root-requires : goal.index-root-requires
index-root-requires c =
    let l : Laws c.args.tri.now = laws (goal.at.index-root-requires c).After-triangles in
    let below : root_of c.args.tri.now c.loop-t.t < length c.args.tri.now = root_below c.args.tri.now l c.loop-t.t
    (inside c) in
    omega (arith, is_root c, words_count (root_word c.args.tri.now c.args.f.now) _ _ c.in_ok-roots.ensures)

pub substituted-requires-clause-below : goal.substituted-requires-clause-below
substituted-requires-clause-below c =
    let before = goal.at.substituted-requires-clause-below c in
    tree_below c.args.tri.now c.args.f.now (laws before.After-triangles) c.loop-t.t c.walk-walk.result.now
    c.requires.map (inside before.After-root)
    (c.walk-walk.ensures ∙ walk_read _ _ _ c.requires.trees)

pub loop-t-preserved : goal.loop-t-preserved
loop-t-preserved c =
    let before = goal.at.loop-t-preserved c in
    let at_root : c.index-root.result.now ≡ get_or c.in_ok-roots.roots.items (root_of c.args.tri.now c.loop-t.t)
    c.index-root.result.now =
    c.index-root.ensures ∙ ap (λ (n : ℕ). get_or c.in_ok-roots.roots.items n c.index-root.result.now) (is_root
    before.After-root) in
    let letters : c.reduce.new.letters.items ≡ (path_from c.args.tri.now c.args.f.now c.loop-t.t).letters =
    c.reduce.ensures
    ∙ path_computed c.args.tri.now c.args.f.now c.word_laws.ensures.reduction c.loop-t.t c.walk-walk.result.now
    c.index-root.result.now.items
    c.in_ok-substituted.field-0.items _ (c.walk-walk.ensures ∙ walk_read _ _ _ c.requires.trees)
    (root_found c.args.tri.now c.args.f.now (laws before.After-triangles) _ c.loop-t.t _ (inside before.After-root)
    c.in_ok-roots.ensures at_root)
    c.in_ok-substituted.ensures
    (c.in_ok-extend_from_slice-2.ensures.items
    ∙ ap (λ (w : List ℤ). w ++ c.deref-in-loop-t.result.now)
    (c.in_ok-extend_from_slice.ensures.items
    ∙ ap (λ (w : List ℤ). w ++ c.deref.result.now)
    (c.in_ok-push_inverse.ensures ∙ ap (λ (w : List ℤ). w ++ inverse_word c.walk-walk.result.now)
    c.new-letters.ensures.items)
    ∙ ap (λ (w : List ℤ). inverse_word c.walk-walk.result.now ++ w) c.deref.ensures.value)
    ∙ ap (λ (w : List ℤ). (inverse_word c.walk-walk.result.now ++ c.index-root.result.now.items) ++ w)
    c.deref-in-loop-t.ensures.value) in
    c.in_ok-push.ensures.items
    ∙ ap (λ (ws : List DualWalk). ws ++ (record { start = c.loop-t.t; letters = c.reduce.new.letters.items } ∷ []))
    c.loop-t.invariant
    ∙ ap (λ (w : List ℤ). map (path_from c.args.tri.now c.args.f.now) (range_with_len 0 c.loop-t.t) ++ (record {
      start
          = c.loop-t.t;
      letters = w;
    } ∷ [])) letters
    ∙ sym (map-range_with_len_more (path_from c.args.tri.now c.args.f.now) 0 c.loop-t.t c.loop-t.t (omega arith))
