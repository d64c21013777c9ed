-- The words that are computed for the walks of an inner map, as they grow.
use Rattle.std.proofs.Common.{ℕ, ℤ, pos, Bool, true, false, cond, List, [], ◌∷◌, ◌++◌, ◌≡◌, ◌<◌, ◌≤◌, ◌+◌, refl, sym}
use Rattle.std.proofs.Common.{◌∙◌, ap, subst}
use Rattle.std.proofs.Common.{arith, length, map, drop, Vec, get_or, nat_eq, append_assoc, append-nil}
use Rattle.std.proofs.lemmas.Bool.{lt-ltb, le-ltb, eq-eqb, ne_eqb}
use Rattle.std.proofs.lemmas.List.{drop_more, drop_all, get_or-map, length-map}
use Rattle.std.proofs.lemmas.List.FromFn.{get_or-map-range_with_len, length-map-range_with_len}
use Rattle.std.specs.Global.{Global}
use Rattle.std.specs.List.{All, flat_map, take_while, range_with_len}
use Rattle.ideal_tri.specs.Labels.{edge_of}
use Rattle.ideal_tri.specs.Triangulations.{IsLabel, edge_count, triangle_of}
use Rattle.ideal_tri.specs.Words.{inverse_word, reduce, cyclic_reduce, strip}
use Rattle.ideal_tri.specs.WordLaws.{ReductionLaws}
use Rattle.free_groupoid.specs.TestWalks.{is_tree_edge, root_of_edge, outer_edges, edges_at, loop, root_of, tree_walk}
use Rattle.free_groupoid.specs.GroupoidMaps.{GroupoidMap, reduced_image, substitution, vertex_image}
use Rattle.free_groupoid.specs.InnerAnswers.{IsSelfMap}
use Rattle.free_groupoid.specs.inside.Images.{IsBelow, words_of}
use Rattle.free_groupoid.specs.inside.InnerPaths.{is_outer_at, collapse, collapsed_image, shared, second_half}
use Rattle.free_groupoid.specs.inside.InnerPaths.{conjugator, root_path, inner_path}
use Rattle.free_groupoid.specs.inside.ComputedWalks.{root_word}
use Rattle.free_groupoid.proofs.Known.{Known, Laws}
use Rattle.free_groupoid.proofs.Collapse.{collapse-odd}
use Rattle.free_groupoid.proofs.Loops.{loop_closed}
use Rattle.free_groupoid.proofs.ComputedPaths.{own_root, root_below}

-- ---- edges outside the trees

module _ (triples : List (List ℤ)) (r e : ℕ) where
  pub outer_test : (root : ℕ) → e < edge_count triples → is_tree_edge triples e ≡ false → root ≡ root_of_edge triples e
      → nat_eq root r ≡ is_outer_at triples r e
  outer_test root inside outside is_root =
      rw (lt-ltb e (edge_count triples) inside, outside) (ap (λ (n : ℕ). nat_eq n r) is_root)

  pub crossed_test : e < edge_count triples → is_tree_edge triples e ≡ true → is_outer_at triples r e ≡ false
  crossed_test inside crossed = rw (lt-ltb e (edge_count triples) inside, crossed) refl

  pub far_test : edge_count triples ≤ e → is_outer_at triples r e ≡ false
  far_test outside = rw (le-ltb e (edge_count triples) outside) refl

-- ---- those of one component

module _ (triples : List (List ℤ)) (r : ℕ) where
  -- the outer edges from place k on are still to be looked at
  abbrev pub IsChoosing : List ℕ → List ℕ → ℕ → Type 0
  IsChoosing outer edges k = edges ++ edges_at triples r (drop k outer) ≡ edges_at triples r outer

  pub chosen : (outer edges : List ℕ) (k e : ℕ) → IsChoosing outer edges k → k < length outer → e ≡ get_or outer k e
      → nat_eq (root_of_edge triples e) r ≡ true → IsChoosing outer (edges ++ e ∷ []) (k + 1)
  chosen outer edges k e so_far inside is_e here =
      append_assoc edges (e ∷ []) (edges_at triples r (drop (k + 1) outer))
      ∙ ap (λ (b : Bool). edges ++ cond b (e ∷ edges_at triples r (drop (k + 1) outer)) (edges_at triples r (drop (k +
      1) outer))) (sym here)
      ∙ ap (λ (n : ℕ). edges ++ edges_at triples r (n ∷ drop (k + 1) outer)) is_e
      ∙ ap (λ (es : List ℕ). edges ++ edges_at triples r es) (sym (drop_more outer k e inside))
      ∙ so_far

  pub not_chosen : (outer edges : List ℕ) (k e : ℕ) → IsChoosing outer edges k → k < length outer → e ≡ get_or outer k e
      → nat_eq (root_of_edge triples e) r ≡ false → IsChoosing outer edges (k + 1)
  not_chosen outer edges k e so_far inside is_e other =
      ap (λ (b : Bool). edges ++ cond b (e ∷ edges_at triples r (drop (k + 1) outer)) (edges_at triples r (drop (k + 1)
      outer))) (sym other)
      ∙ ap (λ (n : ℕ). edges ++ edges_at triples r (n ∷ drop (k + 1) outer)) is_e
      ∙ ap (λ (es : List ℕ). edges ++ edges_at triples r es) (sym (drop_more outer k e inside))
      ∙ so_far

  pub all_chosen : (outer edges : List ℕ) (k : ℕ) → IsChoosing outer edges k → length outer ≤ k
      → edges ≡ edges_at triples r outer
  all_chosen outer edges k so_far all =
      sym (append-nil edges)
      ∙ ap (λ (es : List ℕ). edges ++ edges_at triples r es) (sym (drop_all k outer all))
      ∙ so_far

-- ---- conjugators

module _ (triples : List (List ℤ)) (f : ℤ → List ℤ) (r : ℕ) where
  pub too_few : (edges : List ℕ) → length edges < 2 → conjugator triples f r edges ≡ []
  too_few [] few = refl
  too_few (i ∷ []) few = refl
  too_few (i ∷ (j ∷ edges)) few = absurd (omega arith)

  pub of_two : (edges : List ℕ) (i j : ℕ) → 1 < length edges → i ≡ get_or edges 0 i → j ≡ get_or edges 1 j
      → shared (pos i) (second_half (collapsed_image triples f r i)) (second_half (collapsed_image triples f r j))
      ≡ conjugator triples f r edges
  of_two [] i j many is_i is_j = absurd (omega arith)
  of_two (a ∷ []) i j many is_i is_j = absurd (omega arith)
  of_two (a ∷ (b ∷ edges)) i j many is_i is_j =
      ap (λ (n : ℕ). shared (pos n) (second_half (collapsed_image triples f r n)) (second_half (collapsed_image triples
      f r j))) is_i
      ∙ ap (λ (n : ℕ). shared (pos a) (second_half (collapsed_image triples f r a)) (second_half (collapsed_image
      triples f r n))) is_j

-- ---- closed walks

-- a word may be reduced first
pub cyclic_reduce-reduce : ReductionLaws → (w : List ℤ) → cyclic_reduce (reduce w) ≡ cyclic_reduce w
unfolding cyclic_reduce
cyclic_reduce-reduce laws w = ap (λ (u : List ℤ). strip (length u) u) (laws.twice w)

-- ---- letters

pub images_count : (triples : List (List ℤ)) (f : GroupoidMap) → IsSelfMap triples f
    → length f.images ≡ edge_count triples
images_count triples f h = h.map.one_per_edge ∙ ap edge_count h.source

pub loop_labels : (triples : List (List ℤ)) → Laws triples → (x : ℤ) → IsLabel triples x
    → All (IsLabel triples) (loop triples x)
loop_labels triples l x label =
    l.letters (root_of triples (triangle_of triples x)) (root_of triples (triangle_of triples x)) (loop triples x)
    (loop_closed triples l x (root_of triples (triangle_of triples x)) label refl)

-- the letters of a word of labels have images
pub labels_below : (triples : List (List ℤ)) (f : GroupoidMap) (w : List ℤ) → IsSelfMap triples f
    → All (IsLabel triples) w → IsBelow (length f.images) w
labels_below triples f w h labels = subst (λ (n : ℕ). IsBelow n w) (sym (images_count triples f h)) labels

-- the image of the loop of an edge, collapsed
pub collapsed_loop : Known → (triples : List (List ℤ)) (f : ℤ → List ℤ) (r e : ℕ) (image : List ℤ)
    → image ≡ reduced_image f (loop triples (pos e)) → reduce (flat_map (collapse triples r) image)
    ≡ collapsed_image triples f r e
collapsed_loop known triples f r e image is_image =
    ap (λ (w : List ℤ). reduce (flat_map (collapse triples r) w)) is_image
    ∙ known.maps.substitutions.reduced_before (collapse triples r) (flat_map f (loop triples (pos e))) (collapse-odd
    known triples r)

-- what two words share, computed
pub shared_computed : (x : ℤ) (a b front word : List ℤ) → front
    ≡ take_while (λ y. nat_eq (edge_of y) (edge_of x)) (reduce (a ++ inverse_word b))
    → word ≡ inverse_word front ++ a → reduce word ≡ shared x a b
shared_computed x a b front word is_front is_word = ap reduce (is_word
    ∙ ap (λ (w : List ℤ). inverse_word w ++ a) is_front)

-- ---- walks of roots

pub root_computed : (triples : List (List ℤ)) (f : ℤ → List ℤ) (triangles : ℕ
    → ℕ) (r : ℕ) (word walk there all : List ℤ)
    → word ≡ conjugator triples f r (edges_at triples r (outer_edges triples)) → walk ≡ flat_map (loop triples) word
    → there ≡ tree_walk triples (triangles r) → all ≡ walk ++ there → all ≡ root_path triples f triangles r
root_computed triples f triangles r word walk there all is_word is_walk is_there is_all =
    is_all
    ∙ ap (λ (w : List ℤ). w ++ there) (is_walk ∙ ap (flat_map (loop triples)) is_word)
    ∙ ap (λ (w : List ℤ). flat_map (loop triples) (conjugator triples f r (edges_at triples r (outer_edges triples)))
    ++ w) is_there

-- there are as many vectors as numbers
pub words_count : (g : ℕ → List ℤ) (vectors : List (Vec ℤ Global)) (n : ℕ)
    → words_of vectors ≡ map g (range_with_len 0 n) → length vectors ≡ n
words_count g vectors n is_words =
    sym (length-map vectors (λ (v : Vec ℤ Global). v.items)) ∙ ap length is_words ∙ length-map-range_with_len g 0 n

module _ (triples : List (List ℤ)) (f : GroupoidMap) where
  pub of_root : (t : ℕ) → root_of triples t ≡ t → root_word triples f t
      ≡ root_path triples (substitution f.images) (vertex_image f) t
  of_root t own = rw (eq-eqb (root_of triples t) t own) refl

  pub of_other : (t : ℕ) → ¬ (root_of triples t ≡ t) → root_word triples f t ≡ []
  of_other t other = rw (ne_eqb (root_of triples t) t other) refl

  -- what was computed for the root of t
  pub root_found : Laws triples → (walks : List (Vec ℤ Global)) (t : ℕ) (walk : Vec ℤ Global) → t < length triples
      → words_of walks ≡ map (root_word triples f) (range_with_len 0 (length triples))
      → walk ≡ get_or walks (root_of triples t) walk
      → walk.items ≡ root_path triples (substitution f.images) (vertex_image f) (root_of triples t)
  root_found l walks t walk inside is_walks is_walk =
      let below : root_of triples t < length triples = root_below triples l t inside in
      ap (λ (v : Vec ℤ Global). v.items) is_walk
      ∙ sym (get_or-map (λ (v : Vec ℤ Global). v.items) walks (root_of triples t) walk walk.items
      (let many : length walks ≡ length triples = words_count (root_word triples f) walks (length triples) is_walks in
      omega arith))
      ∙ ap (λ (ws : List (List ℤ)). get_or ws (root_of triples t) walk.items) is_walks
      ∙ get_or-map-range_with_len (root_word triples f) 0 (length triples) (root_of triples t) (root_of triples t)
      walk.items below (omega arith)
      ∙ of_root (root_of triples t) (own_root triples l t inside)

  -- the letters of a tree have images
  pub tree_below : Laws triples → (t : ℕ) (tree : List ℤ) → IsSelfMap triples f → t < length triples
      → tree ≡ tree_walk triples t
      → IsBelow (length f.images) tree
  tree_below l t tree h inside is_tree =
      labels_below triples f tree h
      (subst (All (IsLabel triples)) (sym is_tree) (l.letters (root_of triples t) t (tree_walk triples t)
      (l.forest.walk t inside)))

  -- the walk from t
  pub path_computed : ReductionLaws → (t : ℕ) (tree root image word : List ℤ) → tree ≡ tree_walk triples t
      → root ≡ root_path triples (substitution f.images) (vertex_image f) (root_of triples t)
      → image ≡ reduced_image (substitution f.images) tree → word ≡ (inverse_word tree ++ root) ++ image
      → reduce word ≡ inner_path triples (substitution f.images) (vertex_image f) t
  path_computed laws t tree root image word is_tree is_root is_image is_word =
      let g : ℤ → List ℤ = substitution f.images in
      ap reduce is_word
      ∙ laws.right (inverse_word tree ++ root) image (flat_map g tree) (ap reduce is_image
      ∙ laws.twice (flat_map g tree))
      ∙ ap (λ (w : List ℤ). reduce ((inverse_word w ++ root) ++ flat_map g w)) is_tree
      ∙ ap (λ (w : List ℤ). reduce ((inverse_word (tree_walk triples t) ++ w) ++ flat_map g (tree_walk triples t)))
      is_root
      ∙ ap reduce (append_assoc (inverse_word (tree_walk triples t)) (root_path triples g (vertex_image f) (root_of
      triples t)) (flat_map g (tree_walk triples t)))
