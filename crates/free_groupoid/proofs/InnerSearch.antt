-- The search for the first test walk that a map moves, and what follows where there is none.
use Rattle.std.proofs.Common.{ℕ, suc, ℤ, List, [], ◌∷◌, ◌++◌, ◌≡◌, ◌<◌, refl, sym, ◌∙◌, ap, subst, append_assoc}
use Rattle.std.proofs.Common.{append-nil, arith, length, length-append, map, rules}
use Rattle.std.proofs.Common.{take, get_or, Vec}
use Rattle.std.specs.Global.{Global}
use Rattle.std.specs.Vec.Iter.{into_iter_len, into_iter_items}
use Rattle.std.specs.declared.vec.IntoIter.{IntoIter}
use Rattle.std.specs.List.{All, flat_map, range_with_len}
use Rattle.std.proofs.lemmas.List.{take_at, get_or_at, nil_from_length}
use Rattle.std.proofs.lemmas.List.Elements.{All-push}
use Rattle.std.proofs.lemmas.List.FromFn.{get_or-map-range_with_len, length-map-range_with_len}
use Rattle.ideal_tri.specs.Words.{IsReduced, reduce, inverse_word}
use Rattle.ideal_tri.specs.Triangulations.{IsTriangulation, IsWalk, triangle_of}
use Rattle.ideal_tri.specs.Labels.{inverse}
use Rattle.ideal_tri.specs.LabelLaws.{LabelLaws}
use Rattle.ideal_tri.specs.SurfaceLaws.{SurfaceLaws}
use Rattle.tri_atlas.specs.Maps.{IsMap}
use Rattle.tri_atlas.specs.Arena.{triangulation}
use Rattle.ideal_tri.specs.WordLaws.{WordLaws}
use Rattle.free_groupoid.specs.Walks.{DualWalk, walk_at, walk_of_letters}
use Rattle.free_groupoid.specs.GroupoidMaps.{GroupoidMap, substitution, vertex_image}
use Rattle.free_groupoid.specs.TestWalks.{test_walks, root_of, tree_walk}
use Rattle.free_groupoid.specs.Inner.{IsKept}
use Rattle.free_groupoid.specs.InnerAnswers.{IsSelfMap, IsInnerBy, AreInnerPaths, IsFirstMoved}
use Rattle.free_groupoid.specs.InnerLaws.{InnerLaws, IsReducedLoop}
use Rattle.free_groupoid.specs.inside.Images.{words_of, IsBelow}
use Rattle.free_groupoid.specs.inside.InnerPaths.{root_path, inner_path}
use Rattle.free_groupoid.specs.inside.ComputedWalks.{path_from}
use Rattle.free_groupoid.proofs.ComputedWords.{labels_below}

-- an iterator that is at its end
pub nothing_left : {X Z : Type 0} → (it : IntoIter X Z) → into_iter_len it ≡ 0 → into_iter_items it ≡ []
nothing_left it none = nil_from_length (into_iter_items it) (search rules)

-- the test walks before these words are kept
pub record IsSearching (triples : List (List ℤ)) (f : GroupoidMap) (left : List (Vec ℤ Global)) : Type 0 where
  pub seen : List (List ℤ)
  pub order : seen ++ words_of left ≡ test_walks triples
  pub kept : All (IsKept (substitution f.images)) seen
  pub loops : All (IsReducedLoop triples) (words_of left)

module _ (triples : List (List ℤ)) (f : GroupoidMap) where
  pub search_all : (left : List (Vec ℤ Global)) → words_of left ≡ test_walks triples
      → All (IsReducedLoop triples) (test_walks triples)
      → IsSearching triples f left
  search_all left words loops = record {
    seen = [];
    order = words;
    kept = λ k d inside. absurd (omega arith);
    loops = subst (All (IsReducedLoop triples)) (sym words) loops;
  }

  -- the word that is next
  pub next_loop : (left : List (Vec ℤ Global)) (word : Vec ℤ Global) (rest : List (Vec ℤ Global))
      → IsSearching triples f left → left ≡ word ∷ rest
      → IsReducedLoop triples word.items
  next_loop left word rest h is_left = subst (λ (vs : List (Vec ℤ Global)). All (IsReducedLoop triples) (words_of vs))
      is_left h.loops 0 [] (omega arith)

  pub search_on : (left : List (Vec ℤ Global)) (word : Vec ℤ Global) (rest : List (Vec ℤ Global))
      → IsSearching triples f left → left ≡ word ∷ rest
      → IsKept (substitution f.images) word.items → IsSearching triples f rest
  search_on left word rest h is_left kept =
      let now = subst (IsSearching triples f) is_left h in
      record {
        seen = now.seen ++ (word.items ∷ []);
        order = append_assoc now.seen (word.items ∷ []) (words_of rest) ∙ now.order;
        kept = All-push (IsKept (substitution f.images)) now.seen word.items now.kept kept;
        loops = λ k d inside. now.loops (suc k) d (omega arith);
      }

  pub search_done : (left : List (Vec ℤ Global)) → IsSearching triples f left → left ≡ []
      → All (IsKept (substitution f.images)) (test_walks triples)
  search_done left h none =
      let now = subst (IsSearching triples f) none h in
      subst (All (IsKept (substitution f.images))) (sym (append-nil now.seen) ∙ now.order) now.kept

  -- ---- maps of the triangulation to itself

  pub self_map : IsSelfMap triples f → IsMap triples triples (substitution f.images) (vertex_image f)
  self_map h =
      subst (λ (ts : List (List ℤ)). IsMap triples ts (substitution f.images) (vertex_image f)) h.target
      (subst (λ (ts : List (List ℤ)). IsMap ts (triangulation h.arena f.target) (substitution f.images) (vertex_image
      f)) h.source h.map.maps)

  pub loop_below : SurfaceLaws → (w : List ℤ) → IsSelfMap triples f → IsReducedLoop triples w
      → IsBelow (length f.images) w
  loop_below surface [] h none = absurd none
  loop_below surface (x ∷ w) h loops =
      labels_below triples f (x ∷ w) h (surface.letters triples (triangle_of triples x) (triangle_of triples x) (x ∷ w)
      loops.0)

  moved_here : InnerLaws → IsTriangulation triples → IsSelfMap triples f
      → (word : Vec ℤ Global) (rest : List (Vec ℤ Global)) (w : DualWalk)
      → IsSearching triples f (word ∷ rest) → ¬ IsKept (substitution f.images) word.items
      → w ≡ walk_of_letters triples word.items → IsFirstMoved triples f w
  moved_here laws tri self word rest w h moved is_w =
      let here : get_or (test_walks triples) (length h.seen) [] ≡ word.items =
      ap (λ (ws : List (List ℤ)). get_or ws (length h.seen) []) (sym h.order)
      ∙ get_or_at h.seen word.items (words_of rest) [] (length h.seen) refl in
      let within : length h.seen < length (test_walks triples) =
      subst (λ (ws : List (List ℤ)). length h.seen < length ws) h.order (omega (
        arith,
        length-append h.seen (word.items
            ∷ words_of rest),
      )) in
      record {
        place = length h.seen;
        within = within;
        walk = is_w ∙ ap (walk_of_letters triples) (sym here);
        moved = subst (λ (v : DualWalk). ¬ IsKept (substitution f.images) v.letters) (sym is_w) moved;
        before = subst (All (IsKept (substitution f.images)))
            (sym (ap (take (length h.seen)) (sym h.order)
            ∙ take_at h.seen (word.items ∷ words_of rest) (length h.seen) refl)) h.kept;
        never = λ paths inner. moved
            (subst (IsKept (substitution f.images)) here
            (laws.kept triples (substitution f.images) (vertex_image f) paths tri (self_map self) inner (length h.seen)
            [] within));
      }

  pub moved_first : InnerLaws → IsTriangulation triples → IsSelfMap triples f
      → (left : List (Vec ℤ Global)) (word : Vec ℤ Global)
      (rest : List (Vec ℤ Global)) (w : DualWalk) → IsSearching triples f left → left ≡ word ∷ rest
      → ¬ IsKept (substitution f.images) word.items
      → w ≡ walk_of_letters triples word.items → IsFirstMoved triples f w
  moved_first laws tri self left word rest w h is_left moved is_w =
      moved_here laws tri self word rest w (subst (IsSearching triples f) is_left h) moved is_w

  -- ---- the walks, where there are some

  module _ (laws : InnerLaws) (words : WordLaws) (labels : LabelLaws) (surface : SurfaceLaws) (tri : IsTriangulation
      triples) (self : IsSelfMap triples f)
      (kept : All (IsKept (substitution f.images)) (test_walks triples)) (paths : List DualWalk)
      (is_paths : paths ≡ map (path_from triples f) (range_with_len 0 (length triples))) where
    path_of : ℕ → List ℤ
    path_of t = (walk_at paths t).letters

    path_at : (t : ℕ) → t < length triples → walk_at paths t ≡ path_from triples f t
    path_at t inside = ap (λ (ws : List DualWalk). walk_at ws t) is_paths
        ∙ get_or-map-range_with_len (path_from triples f) 0 (length triples) t t (record { start = 0; letters = [] })
        inside (omega arith)

    letters_at : (t : ℕ) → t < length triples → (walk_at paths t).letters
        ≡ inner_path triples (substitution f.images) (vertex_image f) t
    letters_at t inside = ap (λ (w : DualWalk). w.letters) (path_at t inside)

    computed : IsInnerBy triples f (inner_path triples (substitution f.images) (vertex_image f))
    computed = laws.inner triples (substitution f.images) (vertex_image f) tri (self_map self) kept

    inner_by : IsInnerBy triples f (λ t. (walk_at paths t).letters)
    inner_by = record {
      walks = λ t inside.
          subst (λ (w : List ℤ). IsWalk triples t w (vertex_image f t)) (sym (letters_at t inside)) (computed.walks t
          inside);
      equations = λ x label.
          let here : triangle_of triples x < length triples = (surface.triangles triples tri).triangle x label in
          let there : triangle_of triples (inverse x) < length triples = (surface.triangles triples tri).triangle
          (inverse x) (labels.label triples x label) in
          ap (λ (w : List ℤ). reduce (w ++ substitution f.images x)) (letters_at (triangle_of triples x) here)
          ∙ computed.equations x label
          ∙ ap (λ (w : List ℤ). reduce (x ∷ w)) (sym (letters_at (triangle_of triples (inverse x)) there));
    }

    reduced_at : (t : ℕ) → t < length triples → IsReduced (walk_at paths t).letters
    reduced_at t inside = subst IsReduced (sym (letters_at t inside))
        (words.reduction.is_reduced (inverse_word (tree_walk triples t)
        ++ (root_path triples (substitution f.images) (vertex_image f) (root_of triples t) ++ flat_map (substitution
        f.images) (tree_walk triples t))))

    pub are_paths : AreInnerPaths triples f paths
    are_paths = record {
      one_per_triangle = ap length is_paths ∙ length-map-range_with_len (path_from triples f) 0 (length triples);
      starts = λ t inside. ap (λ (w : DualWalk). w.start) (path_at t inside);
      reduced = reduced_at;
      inner = inner_by;
      only = λ others inner t inside.
          laws.only triples (substitution f.images) (vertex_image f) others (λ s. (walk_at paths s).letters) tri inner
          inner_by t inside
          ∙ words.reduction.fixed (walk_at paths t).letters (reduced_at t inside);
    }
