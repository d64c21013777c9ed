-- The loops of a spanning forest. A walk is determined by what is left of it when the forest is collapsed.
--
-- A walk is the walk back along the tree from where it starts, the loops of its outer letters, and the walk along the
-- tree
-- to where it ends, up to reduction: letter by letter, and what stands between two of them cancels. So two walks with
-- the
-- same ends and the same outer letters, up to reduction, have the same reduction.
use Rattle.std.proofs.Common.{ℕ, ℤ, Bool, true, false, List, [], ◌∷◌, ◌++◌, ◌≡◌, ◌<◌, refl, sym, ◌∙◌, ap, subst}
use Rattle.std.proofs.Common.{append_assoc, length}
use Rattle.std.specs.List.{All, flat_map}
use Rattle.std.proofs.lemmas.List.{append-nil}
use Rattle.std.proofs.lemmas.List.Concat.{flat_map-append}
use Rattle.std.proofs.lemmas.List.Elements.{All-head, All-tail}
use Rattle.ideal_tri.specs.Labels.{inverse, edge_of}
use Rattle.ideal_tri.specs.Words.{inverse_word, reduce}
use Rattle.ideal_tri.specs.Triangulations.{IsLabel, IsWalk, triangle_of}
use Rattle.tri_atlas.specs.Maps.{IsOdd}
use Rattle.free_groupoid.specs.TestWalks.{root_of, tree_walk, is_tree_edge, loop}
use Rattle.free_groupoid.specs.inside.InnerPaths.{collapse}
use Rattle.free_groupoid.proofs.Known.{Known, Laws}
use Rattle.free_groupoid.proofs.Names.{+0, -0, +1, +2, -2, by_name, by_fact}
use Rattle.free_groupoid.proofs.Collapse.{IsOuter, collapse-odd, collapse-outer, collapse-tree, collapse-trees}

pub loop-odd : Known → (triples : List (List ℤ)) → IsOdd (loop triples)
loop-odd known triples x =
    ap (λ (z : ℤ). there ++ (inverse x ∷ inverse_word (tree_walk triples (triangle_of triples z))))
    (known.labels.twice x)
    ∙ sym (append_assoc there (inverse x ∷ []) (inverse_word here))
    ∙ ap (λ (w : List ℤ). (w ++ (inverse x ∷ [])) ++ inverse_word here) (sym (known.words.inverses.twice there))
    ∙ sym (known.words.inverses.append here (x ∷ inverse_word there))
  where
    here : List ℤ
    here = tree_walk triples (triangle_of triples x)

    there : List ℤ
    there = tree_walk triples (triangle_of triples (inverse x))

module _ (triples : List (List ℤ)) (l : Laws triples) where
  source_in : (x : ℤ) → IsLabel triples x → triangle_of triples x < length triples
  source_in x label = l.triangles.triangle x label

  target_in : (x : ℤ) → IsLabel triples x → triangle_of triples (inverse x) < length triples
  target_in x label = l.triangles.triangle (inverse x) (l.known.labels.label triples x label)

  -- ---- loops

  -- a loop is a closed walk at the root
  pub loop_closed : (x : ℤ) (r : ℕ) → IsLabel triples x → root_of triples (triangle_of triples x) ≡ r
      → IsWalk triples r (loop triples x) r
  loop_closed x r label root =
      l.walks.join r (triangle_of triples x) r (tree_walk triples (triangle_of triples x))
      (x ∷ inverse_word (tree_walk triples (triangle_of triples (inverse x))))
      (subst (λ (i : ℕ). IsWalk triples i (tree_walk triples (triangle_of triples x)) (triangle_of triples x)) root
      (l.forest.walk (triangle_of triples x) (source_in x label))) (
        label,
        refl,
        l.walks.back r (triangle_of triples (inverse x)) (tree_walk triples (triangle_of triples (inverse x)))
            (subst (λ (i : ℕ). IsWalk triples i (tree_walk triples (triangle_of triples (inverse x)))
            (triangle_of triples (inverse x)))
            (l.forest.component x label ∙ root) (l.forest.walk (triangle_of triples (inverse x)) (target_in x label))),
      )

  -- so are the loops of letters of one component
  pub loops_closed : (r : ℕ) (w : List ℤ) → All (IsOuter triples r) w → IsWalk triples r (flat_map (loop triples) w) r
  loops_closed r [] h = refl
  loops_closed r (x ∷ w) h =
      let outer : IsOuter triples r x = All-head (IsOuter triples r) x w h in
      l.walks.join r r r (loop triples x) (flat_map (loop triples) w) (loop_closed x r outer.label outer.root)
      (loops_closed r w (All-tail (IsOuter triples r) x w h))

  -- a loop collapses to its own letter
  pub collapse-loop : (r : ℕ) (x : ℤ) → IsLabel triples x
      → flat_map (collapse triples r) (loop triples x) ≡ collapse triples r x
  collapse-loop r x label =
      flat_map-append (collapse triples r) here (x ∷ inverse_word there)
      ∙ ap (λ (w : List ℤ). w ++ (collapse triples r x ++ flat_map (collapse triples r) (inverse_word there)))
      (collapse-trees triples l.forest r here (l.forest.letters (triangle_of triples x) (source_in x label)))
      ∙ ap (λ (w : List ℤ). collapse triples r x ++ w)
      (l.known.maps.substitutions.back (collapse triples r) there (collapse-odd l.known triples r)
      ∙ ap inverse_word (collapse-trees triples l.forest r there
      (l.forest.letters (triangle_of triples (inverse x)) (target_in x label))))
      ∙ append-nil (collapse triples r x)
    where
      here : List ℤ
      here = tree_walk triples (triangle_of triples x)

      there : List ℤ
      there = tree_walk triples (triangle_of triples (inverse x))

  -- the loops of outer letters collapse to the letters
  pub collapse-loops : (r : ℕ) (w : List ℤ) → All (IsOuter triples r) w
      → flat_map (collapse triples r) (flat_map (loop triples) w) ≡ w
  collapse-loops r [] h = refl
  collapse-loops r (x ∷ w) h =
      let outer : IsOuter triples r x = All-head (IsOuter triples r) x w h in
      flat_map-append (collapse triples r) (loop triples x) (flat_map (loop triples) w)
      ∙ ap (λ (z : List ℤ). z ++ flat_map (collapse triples r) (flat_map (loop triples) w))
      (collapse-loop r x outer.label ∙ collapse-outer triples l.forest r x outer)
      ∙ ap (λ (z : List ℤ). x ∷ z) (collapse-loops r w (All-tail (IsOuter triples r) x w h))

  -- ---- a walk from its outer letters

  -- back along the tree, the loop of the letter if it is outer, and along the tree
  pub telescope_letter : (r : ℕ) (x : ℤ) → IsLabel triples x → root_of triples (triangle_of triples x) ≡ r
      → reduce (x ∷ [])
      ≡ reduce (inverse_word (tree_walk triples (triangle_of triples x))
      ++ (flat_map (loop triples) (collapse triples r x) ++ tree_walk triples (triangle_of triples (inverse x))))
  telescope_letter r x label root = go (is_tree_edge triples (edge_of x)) refl
    where
      here : List ℤ
      here = tree_walk triples (triangle_of triples x)

      there : List ℤ
      there = tree_walk triples (triangle_of triples (inverse x))

      names : List (List ℤ)
      names = here ∷ (x ∷ []) ∷ there ∷ []

      whole : List ℤ → List ℤ
      whole w = inverse_word here ++ (flat_map (loop triples) w ++ there)

      go : (b : Bool) → is_tree_edge triples (edge_of x) ≡ b → reduce (x ∷ []) ≡ reduce (whole (collapse triples r x))
      go true h =
          by_fact l.known names (+1 ∷ []) (-0 ∷ +2 ∷ []) (-0 ∷ []) (+0 ∷ +1 ∷ []) (+2 ∷ []) [] refl
          (l.forest.across x label h) refl
          ∙ ap (λ (w : List ℤ). reduce (whole w)) (sym (collapse-tree triples l.forest r x h))
      go false h =
          by_name l.known names (+1 ∷ []) (-0 ∷ +0 ∷ +1 ∷ -2 ∷ +2 ∷ []) refl
          ∙ ap (λ (w : List ℤ). reduce (inverse_word here ++ w))
          (sym (append_assoc here (x ∷ inverse_word there) there) ∙ ap (λ (w : List ℤ). w ++ there)
          (sym (append-nil (loop triples x))))
          ∙ ap (λ (w : List ℤ). reduce (whole w))
          (sym (collapse-outer triples l.forest r x (record { label = label; outside = h; root = root })))
