-- A walk is determined by its ends and by what is left of it when the forest is collapsed.
use Rattle.std.proofs.Common.{ℕ, ℤ, List, [], ◌∷◌, ◌++◌, ◌≡◌, refl, sym, ◌∙◌, ap, subst, append_assoc}
use Rattle.std.specs.List.{All, flat_map}
use Rattle.std.proofs.lemmas.List.Concat.{flat_map-append}
use Rattle.std.proofs.lemmas.List.Elements.{All-nil, All-cons}
use Rattle.ideal_tri.specs.Labels.{inverse}
use Rattle.ideal_tri.specs.Words.{inverse_word, reduce}
use Rattle.ideal_tri.specs.Triangulations.{IsLabel, IsWalk, triangle_of}
use Rattle.free_groupoid.specs.TestWalks.{root_of, tree_walk, loop}
use Rattle.free_groupoid.specs.inside.InnerPaths.{collapse}
use Rattle.free_groupoid.proofs.Names.{+0, -0, +1, +2, -2, +3, +4, +5, +6, by_name, by_fact, flat_map-respects}
use Rattle.free_groupoid.proofs.Known.{Laws}
use Rattle.free_groupoid.proofs.Loops.{loop-odd, telescope_letter}

module _ (triples : List (List ℤ)) (l : Laws triples) where
  -- a walk stays in its component
  pub walk_component : (s t : ℕ) (w : List ℤ) → IsWalk triples s w t → root_of triples t ≡ root_of triples s
  walk_component s t [] h = ap (root_of triples) (sym h)
  walk_component s t (x ∷ w) h =
      walk_component (triangle_of triples (inverse x)) t w h.2 ∙ l.forest.component x h.0 ∙ ap (root_of triples) h.1

  -- and so do its letters
  abbrev pub IsIn : ℕ → ℤ → Type 0
  IsIn r x = IsLabel triples x × (root_of triples (triangle_of triples x) ≡ r)

  pub walk_letters : (r s t : ℕ) (w : List ℤ) → root_of triples s ≡ r → IsWalk triples s w t → All (IsIn r) w
  walk_letters r s t [] root h = All-nil (IsIn r)
  walk_letters r s t (x ∷ w) root h =
      let here : root_of triples (triangle_of triples x) ≡ r = ap (root_of triples) h.1 ∙ root in
      All-cons (IsIn r) x w (h.0, here)
      (walk_letters r (triangle_of triples (inverse x)) t w (l.forest.component x h.0 ∙ here) h.2)

  -- ---- the telescope

  module _ (r : ℕ) where
    abbrev pub spread : List ℤ → List ℤ
    spread w = flat_map (loop triples) (flat_map (collapse triples r) w)

    pub telescope : (s t : ℕ) (w : List ℤ) → root_of triples s ≡ r → IsWalk triples s w t
        → reduce w ≡ reduce (inverse_word (tree_walk triples s) ++ (spread w ++ tree_walk triples t))
    telescope s t [] root h =
        subst (λ (i : ℕ). reduce [] ≡ reduce (inverse_word (tree_walk triples s) ++ tree_walk triples i)) h
        (by_name l.known (tree_walk triples s ∷ []) [] (-0 ∷ +0 ∷ []) refl)
    telescope s t (x ∷ w) root h =
        by_fact l.known names (+1 ∷ +6 ∷ []) (-0 ∷ +3 ∷ +2 ∷ +6 ∷ []) [] (+1 ∷ []) (-0 ∷ +3 ∷ +2 ∷ []) (+6 ∷ []) refl
        (subst (λ (i : ℕ). reduce (x ∷ []) ≡ reduce
        (inverse_word (tree_walk triples i) ++ (flat_map (loop triples) (collapse triples r x) ++ between))) h.1
        (telescope_letter triples l r x h.0 here)) refl
        ∙ by_fact l.known names (-0 ∷ +3 ∷ +2 ∷ +6 ∷ []) (-0 ∷ +3 ∷ +4 ∷ +5 ∷ []) (-0 ∷ +3 ∷ +2 ∷ []) (+6 ∷ [])
        (-2 ∷ +4 ∷ +5 ∷ []) [] refl
        (telescope (triangle_of triples (inverse x)) t w (l.forest.component x h.0 ∙ here) h.2) refl
        ∙ ap (λ (z : List ℤ). reduce (inverse_word (tree_walk triples s) ++ z))
        (sym (append_assoc (flat_map (loop triples) (collapse triples r x)) (spread w) (tree_walk triples t))
        ∙ ap (λ (z : List ℤ). z ++ tree_walk triples t)
        (sym (flat_map-append (loop triples) (collapse triples r x) (flat_map (collapse triples r) w))))
      where
        here : root_of triples (triangle_of triples x) ≡ r
        here = ap (root_of triples) h.1 ∙ root

        between : List ℤ
        between = tree_walk triples (triangle_of triples (inverse x))

        names : List (List ℤ)
        names =
            tree_walk triples s ∷ (x ∷ []) ∷ between ∷ flat_map (loop triples) (collapse triples r x) ∷ spread w ∷
            tree_walk triples t ∷ w ∷ []

    -- walks with the same ends that collapse alike
    pub collapse_injective : (s t : ℕ) (u v : List ℤ) → root_of triples s ≡ r → IsWalk triples s u t
        → IsWalk triples s v t
        → reduce (flat_map (collapse triples r) u) ≡ reduce (flat_map (collapse triples r) v) → reduce u ≡ reduce v
    collapse_injective s t u v root of_u of_v e =
        telescope s t u root of_u
        ∙ l.known.words.reduction.right (inverse_word (tree_walk triples s)) (spread u ++ tree_walk triples t)
        (spread v ++ tree_walk triples t)
        (l.known.words.reduction.left (spread u) (spread v) (tree_walk triples t)
        (flat_map-respects l.known (loop triples) (flat_map (collapse triples r) u) (flat_map (collapse triples r) v)
        (loop-odd l.known triples) e))
        ∙ sym (telescope s t v root of_v)
