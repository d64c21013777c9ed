-- From a walk at each root that carries the loops to their images to a walk for each triangle.
--
-- Let p be a walk from a root to its image with p f(l) = l p, up to reduction, for each loop l there. With the walk τ
-- along the tree to a triangle t, take the walk τ⁻¹ p f(τ) from t to its image. For a letter x from s to t the loop
-- is l = τ_s x τ_t⁻¹, and p f(l) = l p between τ_s⁻¹ and f(τ_t) is the equation at x. The loops of the outer edges
-- are enough: the loop of a tree edge reduces to nothing, and so does its image; and the equation of a loop gives
-- that of the loop backwards.
use Rattle.std.proofs.Common.{ℕ, ℤ, pos, negsuc, Bool, true, false, List, [], ◌∷◌, ◌++◌, ◌≡◌, ◌<◌, refl, sym, ◌∙◌, ap}
use Rattle.std.proofs.Common.{append_assoc, length}
use Rattle.std.specs.List.{flat_map}
use Rattle.std.proofs.lemmas.List.{append-nil}
use Rattle.std.proofs.lemmas.List.Concat.{flat_map-append}
use Rattle.ideal_tri.specs.Labels.{inverse, edge_of}
use Rattle.ideal_tri.specs.Words.{inverse_word, reduce}
use Rattle.ideal_tri.specs.Triangulations.{IsLabel, IsWalk, triangle_of}
use Rattle.tri_atlas.specs.Maps.{IsMap}
use Rattle.free_groupoid.specs.TestWalks.{root_of, tree_walk, is_tree_edge, loop}
use Rattle.free_groupoid.specs.Inner.{IsInner}
use Rattle.free_groupoid.proofs.Names.{+0, -0, +1, -1, +2, -2, +3, +4, -5, +6, -6, +7, +8, by_fact, flat_map-respects}
use Rattle.free_groupoid.proofs.Known.{Laws}
use Rattle.free_groupoid.proofs.Loops.{loop-odd}
use Rattle.free_groupoid.proofs.Collapse.{IsOuter}

-- the walk from the root r to its image carries each loop at r to its image
pub record CarriesLoops (triples : List (List ℤ)) (f : ℤ → List ℤ) (f0 : ℕ → ℕ) (r : ℕ) (p : List ℤ) : Type 0 where
  pub walk : IsWalk triples r p (f0 r)
  pub equation : (x : ℤ) → IsLabel triples x → root_of triples (triangle_of triples x) ≡ r
      → reduce (p ++ flat_map f (loop triples x)) ≡ reduce (loop triples x ++ p)

-- back along the tree, along the walk of the root, and along the image of the way there
abbrev pub path_from : List (List ℤ) → (ℤ → List ℤ) → (ℕ → List ℤ) → ℕ → List ℤ
path_from triples f p t =
    reduce (inverse_word (tree_walk triples t) ++ (p (root_of triples t) ++ flat_map f (tree_walk triples t)))

module _ (triples : List (List ℤ)) (l : Laws triples) (f : ℤ → List ℤ) (f0 : ℕ → ℕ)
    (m : IsMap triples triples f f0) where
  path_walk : (p : List ℤ) (t : ℕ) → t < length triples → IsWalk triples (root_of triples t) p (f0 (root_of triples t))
      → IsWalk triples t (inverse_word (tree_walk triples t) ++ (p ++ flat_map f (tree_walk triples t))) (f0 t)
  path_walk p t below walk =
      let there : IsWalk triples (root_of triples t) (tree_walk triples t) t = l.forest.walk t below in
      l.walks.join t (root_of triples t) (f0 t) (inverse_word (tree_walk triples t))
      (p ++ flat_map f (tree_walk triples t))
      (l.walks.back (root_of triples t) t (tree_walk triples t) there)
      (l.walks.join (root_of triples t) (f0 (root_of triples t)) (f0 t) p (flat_map f (tree_walk triples t)) walk
      (l.known.maps.walks.walks triples triples f f0 (root_of triples t) t (tree_walk triples t) l.triangulation m
      there))

  -- the equation at a letter, from that of its loop
  letter_equation : (p : List ℤ) (x : ℤ) → reduce (p ++ flat_map f (loop triples x)) ≡ reduce (loop triples x ++ p)
      → reduce
      ((inverse_word (tree_walk triples (triangle_of triples x)) ++
      (p ++ flat_map f (tree_walk triples (triangle_of triples x)))) ++ f x)
      ≡ reduce (x ∷ (inverse_word (tree_walk triples (triangle_of triples (inverse x)))
      ++ (p ++ flat_map f (tree_walk triples (triangle_of triples (inverse x))))))
  letter_equation p x e =
      ap reduce
      (append_assoc (inverse_word here) (p ++ flat_map f here) (f x) ∙ ap (λ (z : List ℤ). inverse_word here ++ z)
      (append_assoc p (flat_map f here) (f x)))
      ∙ by_fact l.known names (-0 ∷ +1 ∷ +2 ∷ +3 ∷ []) (-0 ∷ +1 ∷ +8 ∷ +6 ∷ []) (-0 ∷ +1 ∷ []) (+2 ∷ +3 ∷ -6 ∷ [])
      (+8 ∷ []) (+6 ∷ [])
      refl (ap reduce (sym image)) refl
      ∙ by_fact l.known names (-0 ∷ +1 ∷ +8 ∷ +6 ∷ []) (-0 ∷ +7 ∷ +1 ∷ +6 ∷ []) (-0 ∷ []) (+1 ∷ +8 ∷ []) (+7 ∷ +1 ∷ [])
      (+6 ∷ []) refl e refl
      ∙ by_fact l.known names (-0 ∷ +7 ∷ +1 ∷ +6 ∷ []) (+4 ∷ -5 ∷ +1 ∷ +6 ∷ []) (-0 ∷ []) (+7 ∷ []) (+0 ∷ +4 ∷ -5 ∷ [])
      (+1 ∷ +6 ∷ []) refl refl refl
    where
      here : List ℤ
      here = tree_walk triples (triangle_of triples x)

      there : List ℤ
      there = tree_walk triples (triangle_of triples (inverse x))

      names : List (List ℤ)
      names =
          here ∷ p ∷ flat_map f here ∷ f x ∷ (x ∷ []) ∷ there ∷ flat_map f there ∷ loop triples x ∷ flat_map f
          (loop triples x) ∷ []

      image : flat_map f (loop triples x) ≡ flat_map f here ++ (f x ++ inverse_word (flat_map f there))
      image =
          flat_map-append f here (x ∷ inverse_word there)
          ∙ ap (λ (z : List ℤ). flat_map f here ++ (f x ++ z)) (l.known.maps.substitutions.back f there m.odd)

  pub inner_from_roots : (p : ℕ → List ℤ)
      → ((t : ℕ) → t < length triples → CarriesLoops triples f f0 (root_of triples t) (p (root_of triples t)))
      → IsInner triples f f0 (path_from triples f p)
  inner_from_roots p h = record {
    walks = λ t below.
        l.walks.reduced t (f0 t) (inverse_word (tree_walk triples t) ++
        (p (root_of triples t) ++ flat_map f (tree_walk triples t)))
        (path_walk (p (root_of triples t)) t below (h t below).walk);
    equations = λ x label.
        let s : ℕ = triangle_of triples x in
        let t : ℕ = triangle_of triples (inverse x) in
        let r : ℕ = root_of triples s in
        let same : root_of triples t ≡ r = l.forest.component x label in
        let whole : List ℤ = inverse_word (tree_walk triples s) ++ (p r ++ flat_map f (tree_walk triples s)) in
        let other : List ℤ =
        inverse_word (tree_walk triples t) ++ (p (root_of triples t) ++ flat_map f (tree_walk triples t)) in
        l.known.words.reduction.left (path_from triples f p s) whole (f x) (l.known.words.reduction.twice whole)
        ∙ letter_equation (p r) x ((h s (l.triangles.triangle x label)).equation x label refl)
        ∙ ap (λ (i : ℕ). reduce
        (x ∷ (inverse_word (tree_walk triples t) ++ (p i ++ flat_map f (tree_walk triples t))))) (sym same)
        ∙ l.known.words.reduction.right (x ∷ []) other (path_from triples f p t)
        (sym (l.known.words.reduction.twice other));
  }

  -- ---- a walk at a root, from the loops of the outer edges

  -- the loop of a tree edge reduces to nothing
  tree_loop : (x : ℤ) → IsLabel triples x → is_tree_edge triples (edge_of x) ≡ true → reduce (loop triples x) ≡ []
  tree_loop x label tree =
      by_fact l.known
      (tree_walk triples (triangle_of triples x) ∷ (x ∷ []) ∷ tree_walk triples (triangle_of triples (inverse x)) ∷ [])
      (+0 ∷ +1 ∷ -2 ∷ []) [] [] (+0 ∷ +1 ∷ []) (+2 ∷ []) (-2 ∷ []) refl (l.forest.across x label tree) refl

  tree_equation : (p : List ℤ) (x : ℤ) → IsLabel triples x → is_tree_edge triples (edge_of x) ≡ true
      → reduce (p ++ flat_map f (loop triples x)) ≡ reduce (loop triples x ++ p)
  tree_equation p x label tree =
      l.known.words.reduction.right p (flat_map f (loop triples x)) []
      (flat_map-respects l.known f (loop triples x) [] m.odd (tree_loop x label tree))
      ∙ ap reduce (append-nil p)
      ∙ l.known.words.reduction.left [] (loop triples x) p (sym (tree_loop x label tree))

  -- the equation of a loop gives that of the loop backwards
  back_equation : (p : List ℤ) (x : ℤ) → reduce (p ++ flat_map f (loop triples x)) ≡ reduce (loop triples x ++ p)
      → reduce (p ++ flat_map f (loop triples (inverse x))) ≡ reduce (loop triples (inverse x) ++ p)
  back_equation p x e =
      ap (λ (z : List ℤ). reduce (p ++ z))
      (ap (flat_map f) (loop-odd l.known triples x) ∙ l.known.maps.substitutions.back f (loop triples x) m.odd)
      ∙ by_fact l.known (p ∷ flat_map f (loop triples x) ∷ loop triples x ∷ []) (+0 ∷ -1 ∷ []) (-2 ∷ +0 ∷ [])
      (-2 ∷ []) (+2 ∷ +0 ∷ []) (+0 ∷ +1 ∷ []) (-1 ∷ []) refl (sym e) refl
      ∙ ap (λ (z : List ℤ). reduce (z ++ p)) (sym (loop-odd l.known triples x))

  -- the loops of outer edges decide
  pub carries_loops : (r : ℕ) (p : List ℤ) → IsWalk triples r p (f0 r)
      → ((e : ℕ) → IsOuter triples r (pos e) → reduce (p ++ flat_map f (loop triples (pos e))) ≡ reduce
      (loop triples (pos e) ++ p))
      → CarriesLoops triples f f0 r p
  carries_loops r p walk h =
      record { walk = walk; equation = λ x label root. go x label root (is_tree_edge triples (edge_of x)) refl }
    where
      go : (x : ℤ) → IsLabel triples x → root_of triples (triangle_of triples x) ≡ r → (b : Bool)
          → is_tree_edge triples (edge_of x) ≡ b
          → reduce (p ++ flat_map f (loop triples x)) ≡ reduce (loop triples x ++ p)
      go x label root true tree = tree_equation p x label tree
      go (pos e) label root false outside = h e (record { label = label; outside = outside; root = root })
      go (negsuc e) label root false outside =
          back_equation p (pos e) (h e
          (record { label = label; outside = outside; root = sym (l.forest.component (pos e) label) ∙ root }))
