-- The maps that the calls make are maps of reduced walks between triangulations of the atlas.
use Rattle.std.proofs.Common.{ℕ, ℤ, pos, negsuc, List, [], ◌∷◌, ◌≡◌, ◌<◌, sym, ◌∙◌, ap, subst, length, map, get_or}
use Rattle.std.proofs.Common.{arith}
use Rattle.std.specs.List.{range_with_len}
use Rattle.std.proofs.lemmas.List.{length-map, get_or-map}
use Rattle.std.proofs.lemmas.List.Elements.{All-map}
use Rattle.std.proofs.lemmas.List.FromFn.{length-range_with_len, get_or-range_with_len, get_or-map-range_with_len}
use Rattle.std.proofs.lemmas.List.FromFn.{length-map-range_with_len}
use Rattle.ideal_tri.specs.Labels.{inverse}
use Rattle.ideal_tri.specs.Words.{inverse_word, IsReduced}
use Rattle.ideal_tri.specs.LabelLaws.{LabelLaws}
use Rattle.ideal_tri.specs.WordLaws.{WordLaws}
use Rattle.ideal_tri.specs.SurfaceLaws.{SurfaceLaws, TriangleLaws}
use Rattle.ideal_tri.specs.Triangulations.{IsLabel, IsWalk, edge_count, triangle_of}
use Rattle.tri_atlas.specs.Moves.{triangle_image}
use Rattle.tri_atlas.specs.Maps.{IsOdd, IsMap, identity, image_of_letter}
use Rattle.tri_atlas.specs.MapLaws.{MapLaws}
use Rattle.tri_atlas.specs.AtlasLaws.{AtlasLaws}
use Rattle.tri_atlas.specs.Arena.{Arena, MoveHandle, IsArena, IsTriIn, IsMoveIn, triangulation, source_of, target_of}
use Rattle.tri_atlas.specs.Arena.{step_of}
use Rattle.free_groupoid.specs.Walks.{DualWalk, IsWalkOn}
use Rattle.free_groupoid.specs.GroupoidMaps.{GroupoidMap, IsMapIn, substitution, vertex_image, reduced_image}
use Rattle.free_groupoid.specs.GroupoidMaps.{identity_map, followed, composed, image_walk}
use Rattle.free_groupoid.proofs.Substituting.{substitution-odd, substitution-mapped, AreReduced-mapped}

-- a map whose values are those of another is one
pub same_map : (source target : List (List ℤ)) (f f' : ℤ → List ℤ) (g g' : ℕ → ℕ) → LabelLaws → TriangleLaws source
    → IsMap source target f g → IsOdd f'
    → ((x : ℤ) → IsLabel source x → f' x ≡ f x) → ((t : ℕ) → t < length source → g' t ≡ g t) → IsMap source target f' g'
same_map source target f f' g g' labels laws h odd same_letters same_triangles = record {
  odd = odd;
  within = λ t inside. subst (λ (n : ℕ). n < length target) (sym (same_triangles t inside)) (h.within t inside);
  walks = λ x label. moved x label (labels.label source x label);
}
  where
    moved : (x : ℤ) → IsLabel source x → IsLabel source (inverse x)
        → IsWalk target (g' (triangle_of source x)) (f' x) (g' (triangle_of source (inverse x)))
    moved x label back =
        subst (λ (s : ℕ). IsWalk target s (f' x) (g' (triangle_of source (inverse x)))) (sym (same_triangles
        (triangle_of source x) (laws.triangle x label)))
        (subst (λ (t : ℕ). IsWalk target (g (triangle_of source x)) (f' x) t) (sym (same_triangles (triangle_of source
        (inverse x)) (laws.triangle (inverse x) back)))
        (subst (λ (w : List ℤ). IsWalk target (g (triangle_of source x)) w (g (triangle_of source (inverse x)))) (sym
        (same_letters x label)) (h.walks x label)))

-- where triangles go, listed
listed_triangles : (f : ℕ → ℕ) (triangles : List ℕ) (t : ℕ) → t < length triangles
    → get_or (map f triangles) t 0 ≡ f (get_or triangles t 0)
listed_triangles f triangles t inside = get_or-map f triangles t 0 0 inside

module _ (labels : LabelLaws) (words : WordLaws) (surface : SurfaceLaws) (mapping : MapLaws) (atlas : AtlasLaws) (arena
    : Arena) (sound : IsArena arena) where
  -- ---- after a move

  pub followed_in : (f : GroupoidMap) (m : MoveHandle) → IsMapIn arena f → IsMoveIn arena m
      → source_of arena m ≡ f.target
      → IsMapIn arena (followed arena f m)
  followed_in f m h here follows =
      let from : List (List ℤ) = triangulation arena f.source in
      let between : List (List ℤ) = triangulation arena (source_of arena m) in
      let to : List (List ℤ) = triangulation arena (target_of arena m) in
      let ends : IsTriIn arena (source_of arena m) × IsTriIn arena (target_of arena m) = atlas.handles.ends arena m
      sound here in
      let move : IsMap between to (image_of_letter (step_of arena m)) (triangle_image between to (step_of arena m)) =
      mapping.moves.maps between to (step_of arena m) (sound.sound (source_of arena m) ends.0) (sound.sound (target_of
      arena m) ends.1)
      (atlas.handles.leads arena m sound here) in
      let first : IsMap from between (substitution f.images) (vertex_image f) =
      subst (λ (t : ℕ). IsMap from (triangulation arena t) (substitution f.images) (vertex_image f)) (sym follows)
      h.maps in
      record {
        source_in = h.source_in;
        target_in = ends.1;
        one_per_edge = length-map f.images (reduced_image (image_of_letter (step_of arena m))) ∙ h.one_per_edge;
        one_per_triangle = length-map f.triangles (triangle_image between to (step_of arena m)) ∙ h.one_per_triangle;
        reduced = AreReduced-mapped words.reduction (image_of_letter (step_of arena m)) f.images;
        maps = same_map from to _ _ _ _ labels (surface.triangles from (sound.sound f.source h.source_in))
            (mapping.walks.compose from between to _ _ _ _ (sound.sound (target_of arena m) ends.1) first move)
            (substitution-odd words.inverses (followed arena f m).images)
            (λ x label. substitution-mapped words.reduction mapping.substitutions (image_of_letter (step_of arena m))
            f.images x (mapping.moves.odd (step_of arena m)))
            (λ t inside. listed_triangles (triangle_image between to (step_of arena m)) f.triangles t (subst (λ (n :
            ℕ). t < n) (sym h.one_per_triangle) inside));
      }

  -- ---- after another map

  pub composed_in : (f g : GroupoidMap) → IsMapIn arena f → IsMapIn arena g → g.source ≡ f.target
      → IsMapIn arena (composed f g)
  composed_in f g h k follows =
      let from : List (List ℤ) = triangulation arena f.source in
      let between : List (List ℤ) = triangulation arena g.source in
      let to : List (List ℤ) = triangulation arena g.target in
      let first : IsMap from between (substitution f.images) (vertex_image f) =
      subst (λ (t : ℕ). IsMap from (triangulation arena t) (substitution f.images) (vertex_image f)) (sym follows)
      h.maps in
      record {
        source_in = h.source_in;
        target_in = k.target_in;
        one_per_edge = length-map f.images (reduced_image (substitution g.images)) ∙ h.one_per_edge;
        one_per_triangle = length-map f.triangles (vertex_image g) ∙ h.one_per_triangle;
        reduced = AreReduced-mapped words.reduction (substitution g.images) f.images;
        maps = same_map from to _ _ _ _ labels (surface.triangles from (sound.sound f.source h.source_in))
            (mapping.walks.compose from between to _ _ _ _ (sound.sound g.target k.target_in) first k.maps)
            (substitution-odd words.inverses (composed f g).images)
            (λ x label. substitution-mapped words.reduction mapping.substitutions (substitution g.images) f.images x
            (substitution-odd words.inverses g.images))
            (λ t inside. listed_triangles (vertex_image g) f.triangles t (subst (λ (n : ℕ). t < n) (sym
            h.one_per_triangle) inside));
      }

  -- ---- the identity

  identity_listed : (t n : ℕ) → n < edge_count (triangulation arena t)
      → get_or (identity_map arena t).images n [] ≡ pos n ∷ []
  identity_listed t n inside =
      let single : ℕ → List ℤ = λ k. pos k ∷ [] in
      get_or-map-range_with_len single 0 (edge_count (triangulation arena t)) n n [] inside (omega arith)

  pub identity_letter : (t : ℕ) (x : ℤ) → IsLabel (triangulation arena t) x
      → substitution (identity_map arena t).images x ≡ identity x
  identity_letter t (pos n) label = identity_listed t n label
  identity_letter t (negsuc n) label = ap inverse_word (identity_listed t n label)

  pub identity_triangle : (t k : ℕ) → k < length (triangulation arena t) → vertex_image (identity_map arena t) k ≡ k
  identity_triangle t k inside = omega (arith, get_or-range_with_len 0 (length (triangulation arena t)) k 0 inside)

  pub identity_in : (t : ℕ) → IsTriIn arena t → IsMapIn arena (identity_map arena t)
  identity_in t here =
      let triples : List (List ℤ) = triangulation arena t in
      let single : ℕ → List ℤ = λ k. pos k ∷ [] in
      record {
        source_in = here;
        target_in = here;
        one_per_edge = length-map-range_with_len single 0 (edge_count triples);
        one_per_triangle = length-range_with_len 0 (length triples);
        reduced = All-map IsReduced single (range_with_len 0 (edge_count triples)) (λ k d below. tt);
        maps = same_map triples triples _ _ _ _ labels (surface.triangles triples (sound.sound t here))
            (mapping.walks.identity triples)
            (substitution-odd words.inverses (identity_map arena t).images) (identity_letter t) (identity_triangle t);
      }

  -- ---- images of walks

  pub image_on : (f : GroupoidMap) (w : DualWalk) → IsMapIn arena f → IsWalkOn (triangulation arena f.source) w
      → IsWalkOn (triangulation arena f.target) (image_walk f w)
  image_on f w h walk = record {
    start_in = h.maps.within w.start walk.start_in;
    end = vertex_image f walk.end;
    leads = mapping.walks.reduced _ _ _ _ w.start walk.end w.letters (sound.sound f.target h.target_in) h.maps
        walk.leads;
  }
