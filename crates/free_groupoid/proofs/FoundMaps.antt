-- What the calls find of the map of a path, move by move, is true of what the moves do: its letters, the bound on them
-- after each move, the first move after which there are too many, the walks by which it is inner, and the first test
-- walk that it moves.
--
-- Label by label the map that the calls make is that of the moves, and what is found asks at labels alone.
use Rattle.std.proofs.Common.{ℕ, zero, suc, ℤ, pos, List, [], ◌∷◌, ◌≡◌, ◌+◌, ◌<◌, ◌≤◌, refl, sym, ◌∙◌, ap, subst}
use Rattle.std.proofs.Common.{arith, add-one, length, get_or, map, take}
use Rattle.std.specs.List.{All}
use Rattle.std.proofs.lemmas.List.{length-map, get_or-map, take-map}
use Rattle.std.proofs.lemmas.List.Elements.{All-take}
use Rattle.std.proofs.lemmas.List.FromFn.{length-range_with_len, length-map-range_with_len}
use Rattle.ideal_tri.specs.Words.{IsReduced, cyclic_reduce, IsRotation}
use Rattle.ideal_tri.specs.SurfaceLaws.{SurfaceLaws}
use Rattle.ideal_tri.specs.Triangulations.{IsTriangulation, IsLabel, edge_count, triangle_of}
use Rattle.tri_atlas.specs.Arena.{Arena, MoveHandle, IsArena, triangulation, step_of}
use Rattle.tri_atlas.specs.AtlasLaws.{AtlasLaws}
use Rattle.tri_atlas.specs.MapLaws.{SubstitutionLaws}
use Rattle.tri_atlas.specs.Maps.{IsMap, letters_below, letters_of, path_map}
use Rattle.tri_atlas.specs.Moves.{Move}
use Rattle.tri_atlas.specs.Paths.{MovePath, IsPathIn, moves_of, triangle_along}
use Rattle.free_groupoid.specs.GroupoidLaws.{GroupoidLaws}
use Rattle.free_groupoid.specs.GroupoidMaps.{GroupoidMap, substitution, vertex_image, letters_in, identity_map}
use Rattle.free_groupoid.specs.GroupoidMaps.{followed, followed_along}
use Rattle.free_groupoid.specs.Inner.{IsKept}
use Rattle.free_groupoid.specs.InnerAnswers.{AreInnerPaths, IsFirstMoved}
use Rattle.free_groupoid.specs.InnerLaws.{InnerLaws, IsReducedLoop}
use Rattle.free_groupoid.specs.MapRefusals.{StaysWithin, IsPathRefusal, told}
use Rattle.free_groupoid.specs.Periodic.{AreInnerWalks, IsFirstPast, IsFirstTest, IsWithin}
use Rattle.free_groupoid.specs.PeriodicLaws.{FoundLaws, map_along}
use Rattle.free_groupoid.specs.TestWalks.{test_walks}
use Rattle.free_groupoid.specs.Walks.{DualWalk, walk_at}
use Rattle.free_groupoid.specs.declared.map.MapError.TheVariants.{CapPassed}
use Rattle.free_groupoid.proofs.Along.{along_many}
use Rattle.free_groupoid.proofs.InnerPowers.{inner_same}
use Rattle.free_groupoid.proofs.Known.{Known}
use Rattle.free_groupoid.proofs.MapsIn.{identity_triangle}

-- ---- maps that agree at labels

letters_agree : (n : ℕ) (f g : ℤ → List ℤ) → ((k : ℕ) → k < n → f (pos k) ≡ g (pos k))
    → letters_below n f ≡ letters_below n g
letters_agree zero f g same = refl
letters_agree (suc n) f g same =
    ap (λ (m : ℕ). m + length (f (pos n))) (letters_agree n f g (λ k below. same k (omega arith)))
    ∙ ap (λ (w : List ℤ). letters_below n g + length w) (same n (omega arith))

loop_labels : SurfaceLaws → (triples : List (List ℤ)) (w : List ℤ) → IsReducedLoop triples w → All (IsLabel triples) w
loop_labels surface triples [] loop = absurd loop
loop_labels surface triples (x ∷ w) loop =
    surface.letters triples (triangle_of triples x) (triangle_of triples x) (x ∷ w) loop.0

kept_same : SubstitutionLaws → (triples : List (List ℤ)) (f g : ℤ → List ℤ) (w : List ℤ)
    → ((x : ℤ) → IsLabel triples x → f x ≡ g x) → All (IsLabel triples) w → IsKept f w → IsKept g w
kept_same laws triples f g w same labelled kept =
    subst (λ (u : List ℤ). IsRotation (cyclic_reduce u) w)
    (laws.agree f g w (λ k d below. same (get_or w k d) (labelled k d below))) kept

-- ---- the first moves

stays_within : (arena : Arena) (f : GroupoidMap) (moves : List MoveHandle) (cap : ℕ) → StaysWithin arena f moves cap
    → (made : ℕ) → made < length moves → letters_in (followed_along arena f (take (suc made) moves)).images ≤ cap
stays_within arena f [] cap stays made more = absurd (omega arith)
stays_within arena f (m ∷ moves) cap stays zero more = stays.0
stays_within arena f (m ∷ moves) cap stays (suc made) more =
    stays_within arena (followed arena f m) moves cap stays.1 made (omega arith)

module _ (known : Known) (surface : SurfaceLaws) (atlas : AtlasLaws) (groupoid : GroupoidLaws) (arena : Arena)
    (sound : IsArena arena) where
  -- ---- letters

  letters_along : (path : MovePath) → IsPathIn arena path
      → letters_in (map_along arena path).images
      ≡ letters_of (triangulation arena path.start) (path_map (moves_of arena path))
  letters_along path p =
      let triples : List (List ℤ) = triangulation arena path.start in
      let single : ℕ → List ℤ = λ k. pos k ∷ [] in
      let images : List (List ℤ) = (map_along arena path).images in
      let one_per_edge : length images ≡ edge_count triples =
      along_many known.labels known.words surface known.maps atlas arena (identity_map arena path.start) path.moves
      ∙ length-map-range_with_len single 0 (edge_count triples) in
      ap (λ (n : ℕ). letters_below n (substitution images)) one_per_edge
      ∙ letters_agree (edge_count triples) (substitution images) (path_map (moves_of arena path))
      (λ k below. groupoid.images.path arena path (pos k) sound p below)

  -- after the first moves, which are those of a path
  letters_begun : (path : MovePath) (i : ℕ) → IsPathIn arena path
      → letters_in (followed_along arena (identity_map arena path.start) (take i path.moves)).images
      ≡ letters_of (triangulation arena path.start) (path_map (take i (moves_of arena path)))
  letters_begun path i p =
      let (end, part) = atlas.ways.beginning arena path i sound p in
      letters_along (record { start = path.start; end = end; moves = take i path.moves }) part
      ∙ ap (λ (moves : List Move). letters_of (triangulation arena path.start) (path_map moves))
      (sym (take-map (step_of arena) i path.moves))

  letters_within : (path : MovePath) (cap : ℕ) → IsPathIn arena path
      → StaysWithin arena (identity_map arena path.start) path.moves cap
      → IsWithin (triangulation arena path.start) (moves_of arena path) cap
  letters_within path cap p stays made more =
      let inside : made < length path.moves =
      subst (λ (n : ℕ). made < n) (length-map path.moves (step_of arena)) more in
      let bound : letters_in (followed_along arena (identity_map arena path.start) (take (made + 1) path.moves)).images
      ≤ cap =
      subst (λ (n : ℕ). letters_in (followed_along arena (identity_map arena path.start) (take n path.moves)).images ≤ cap)
      (sym (add-one made)) (stays_within arena (identity_map arena path.start) path.moves cap stays made inside) in
      subst (λ (n : ℕ). n ≤ cap) (letters_begun path (made + 1) p) bound

  -- ---- the first move past the cap

  within_begun : (path : MovePath) (i cap : ℕ) → IsPathIn arena path
      → StaysWithin arena (identity_map arena path.start) (take i path.moves) cap
      → IsWithin (triangulation arena path.start) (take i (moves_of arena path)) cap
  within_begun path i cap p stays =
      let (end, part) = atlas.ways.beginning arena path i sound p in
      subst (λ (moves : List Move). IsWithin (triangulation arena path.start) moves cap)
      (sym (take-map (step_of arena) i path.moves))
      (letters_within (record { start = path.start; end = end; moves = take i path.moves }) cap part stays)

  first_past : (path : MovePath) (new : GroupoidMap) (cap letters : ℕ) → IsPathIn arena path
      → IsPathRefusal arena (identity_map arena path.start) new path.moves cap (CapPassed letters)
      → (made : ℕ) × IsFirstPast (triangulation arena path.start) (moves_of arena path) cap made letters
  first_past path new cap letters p (made, more, stays, is_new, past) =
      let same : letters_in new.images
      ≡ letters_of (triangulation arena path.start) (path_map (take (made + 1) (moves_of arena path))) =
      ap (λ (f : GroupoidMap). letters_in f.images) is_new ∙ letters_begun path (made + 1) p in
      let long : length (moves_of arena path) ≡ length path.moves = length-map path.moves (step_of arena) in (
        made,
        record {
          more_moves = omega (arith, long);
          before = within_begun path made cap p stays;
          past = subst (λ (n : ℕ). cap < n) same past.more;
          number = past.number ∙ ap told same;
        },
      )

  -- ---- a path that ends where it starts

  module _ (path : MovePath) (p : IsPathIn arena path) (closed : path.end ≡ path.start) where
    abbrev triples : List (List ℤ)
    triples = triangulation arena path.start

    abbrev along : GroupoidMap
    along = map_along arena path

    tri : IsTriangulation triples
    tri = sound.sound path.start p.start_in

    same_letters : (x : ℤ) → IsLabel triples x → substitution along.images x ≡ path_map (moves_of arena path) x
    same_letters x label = groupoid.images.path arena path x sound p label

    same_places : (t : ℕ) → t < length triples → vertex_image along t ≡ triangle_along arena path.moves t
    same_places t below =
        groupoid.images.triangles arena (identity_map arena path.start) path.moves t
        (subst (λ (n : ℕ). t < n) (sym (length-range_with_len 0 (length triples))) below)
        ∙ ap (triangle_along arena path.moves)
        (identity_triangle known.labels known.words surface known.maps atlas arena sound path.start t below)

    -- ---- the walks by which it is inner

    inner_walks : (paths : List DualWalk) → AreInnerPaths triples along paths
        → AreInnerWalks triples (moves_of arena path) (map (λ w. w.letters) paths)
    inner_walks paths h = record {
      one_per_triangle = length-map paths letters ∙ h.one_per_triangle;
      reduced = λ t below. subst IsReduced (same_walks t below) (h.reduced t below);
      inner = record {
        triangles = triangle_along arena path.moves;
        map =
            subst (λ (end : ℕ). IsMap triples (triangulation arena end) (path_map (moves_of arena path))
            (triangle_along arena path.moves)) closed (atlas.ways.maps arena path sound p);
        inner =
            inner_same triples (substitution along.images) (path_map (moves_of arena path)) (vertex_image along)
            (triangle_along arena path.moves) (λ t. (walk_at paths t).letters) (λ t. get_or (map letters paths) t [])
            known.labels (surface.triangles triples tri) same_letters same_places same_walks h.inner;
      };
    }
      where
        letters : DualWalk → List ℤ
        letters w = w.letters

        same_walks : (t : ℕ) → t < length triples → (walk_at paths t).letters ≡ get_or (map letters paths) t []
        same_walks t below =
            sym (get_or-map letters paths t (record { start = 0; letters = [] }) []
            (subst (λ (n : ℕ). t < n) (sym h.one_per_triangle) below))

    -- ---- the first test walk that it moves

    module _ (test : InnerLaws) (w : DualWalk) (h : IsFirstMoved triples along w) where
      loops : All (IsReducedLoop triples) (test_walks triples)
      loops = test.loops triples tri

      same_letters_back : (x : ℤ) → IsLabel triples x
          → path_map (moves_of arena path) x ≡ substitution along.images x
      same_letters_back x label = sym (same_letters x label)

      walk_is : w.letters ≡ get_or (test_walks triples) h.place []
      walk_is = ap (λ (v : DualWalk). v.letters) h.walk

      first_test : IsFirstTest triples (path_map (moves_of arena path)) w.letters
      first_test = record {
        place = h.place;
        within = h.within;
        walk = walk_is;
        moved = λ kept. h.moved
            (kept_same known.maps.substitutions triples (path_map (moves_of arena path)) (substitution along.images)
            w.letters same_letters_back
            (subst (All (IsLabel triples)) (sym walk_is)
            (loop_labels surface triples (get_or (test_walks triples) h.place []) (loops h.place [] h.within))) kept);
        before = λ k d below.
            let v : List ℤ = get_or (take h.place (test_walks triples)) k d in
            kept_same known.maps.substitutions triples (substitution along.images) (path_map (moves_of arena path)) v
            same_letters
            (loop_labels surface triples v (All-take (IsReducedLoop triples) h.place (test_walks triples) loops k d below))
            (h.before k d below);
      }

pub found_laws : Known → SurfaceLaws → AtlasLaws → GroupoidLaws → InnerLaws → FoundLaws
found_laws known surface atlas groupoid test = record {
  along = groupoid.along;
  letters = λ arena path sound. letters_along known surface atlas groupoid arena sound path;
  within = λ arena path cap sound. letters_within known surface atlas groupoid arena sound path cap;
  past = λ arena path new cap letters sound.
      first_past known surface atlas groupoid arena sound path new cap letters;
  inner = λ arena path paths sound p closed.
      inner_walks known surface atlas groupoid arena sound path p closed paths;
  moved = λ arena path w sound p closed.
      first_test known surface atlas groupoid arena sound path p closed test w;
}
