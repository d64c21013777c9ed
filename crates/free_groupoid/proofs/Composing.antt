-- One map after another, and the map of a path after a map: equal entry by entry, since both are the composition of the
-- substitutions there.
use Rattle.std.proofs.Common.{ℕ, ℤ, pos, List, [], ◌≡◌, ◌<◌, refl, sym, ◌∙◌, ap, subst, length, map, get_or}
use Rattle.std.specs.List.{All, flat_map}
use Rattle.std.proofs.lemmas.List.{append-nil, get_or-map, length-map, ext_get_or}
use Rattle.std.proofs.lemmas.List.FromFn.{length-range_with_len}
use Rattle.ideal_tri.specs.Words.{reduce}
use Rattle.ideal_tri.specs.LabelLaws.{LabelLaws}
use Rattle.ideal_tri.specs.WordLaws.{WordLaws}
use Rattle.ideal_tri.specs.SurfaceLaws.{SurfaceLaws}
use Rattle.ideal_tri.specs.Triangulations.{IsLabel}
use Rattle.tri_atlas.specs.Maps.{after, path_map}
use Rattle.tri_atlas.specs.MapLaws.{MapLaws}
use Rattle.tri_atlas.specs.AtlasLaws.{AtlasLaws}
use Rattle.tri_atlas.specs.Arena.{Arena, IsArena, triangulation}
use Rattle.tri_atlas.specs.Paths.{MovePath, IsPathIn, moves_of, triangle_along}
use Rattle.free_groupoid.specs.Walks.{DualWalk, IsWalkOn}
use Rattle.free_groupoid.specs.GroupoidMaps.{GroupoidMap, IsMapIn, substitution, vertex_image, reduced_image}
use Rattle.free_groupoid.specs.GroupoidMaps.{identity_map, followed_along, composed, image_walk}
use Rattle.free_groupoid.proofs.Substituting.{substitution-odd, substitution-mapped}
use Rattle.free_groupoid.proofs.MapsIn.{identity_in, identity_letter, identity_triangle}
use Rattle.free_groupoid.proofs.Along.{along_letter, along_triangle, along_source, along_target, along_many}
use Rattle.free_groupoid.proofs.Along.{along_triangles}
use Rattle.free_groupoid.proofs.Entries.{image_labels, target_images}
use Rattle.free_groupoid.proofs.Undone.{map_equal}

-- walks with equal parts are equal
walk_equal : (s t : ℕ) (u v : List ℤ) → s ≡ t → u ≡ v → ◌≡◌ {A = DualWalk} (record { start = s; letters = u }) (record
    { start = t; letters = v })
walk_equal s t u v a b =
    let from : ℕ → DualWalk = λ z. record { start = z; letters = u } in
    let along : List ℤ → DualWalk = λ z. record { start = t; letters = z } in
    ap from a ∙ ap along b

module _ (labels : LabelLaws) (words : WordLaws) (surface : SurfaceLaws) (mapping : MapLaws) (atlas : AtlasLaws) where
  pub composed_letter : (f g : GroupoidMap) (x : ℤ)
      → substitution (composed f g).images x ≡ after (substitution g.images) (substitution f.images) x
  composed_letter f g x =
      substitution-mapped words.reduction mapping.substitutions (substitution g.images) f.images x (substitution-odd
      words.inverses g.images)

  -- ---- one map after another, on a walk

  pub composed_walk : (arena : Arena) (f g : GroupoidMap) (w : DualWalk) → IsMapIn arena f
      → IsWalkOn (triangulation arena f.source) w
      → image_walk (composed f g) w ≡ image_walk g (image_walk f w)
  composed_walk arena f g w h walk =
      walk_equal _ _ _ _
      (get_or-map (vertex_image g) f.triangles w.start 0 0 (subst (λ (n : ℕ). w.start < n) (sym h.one_per_triangle)
      walk.start_in))
      (ap reduce
      (mapping.substitutions.agree (substitution (composed f g).images)
      (after (substitution g.images) (substitution f.images)) w.letters
      (λ k d below. composed_letter f g (get_or w.letters k d)))
      ∙ mapping.substitutions.compose (substitution f.images) (substitution g.images) w.letters
      (substitution-odd words.inverses f.images) (substitution-odd words.inverses g.images)
      ∙ sym (mapping.substitutions.reduced_before (substitution g.images) (flat_map (substitution f.images) w.letters)
      (substitution-odd words.inverses g.images)))

  module _ (arena : Arena) (sound : IsArena arena) where
    -- ---- the map of a path

    pub path_letter : (path : MovePath) (x : ℤ) → IsPathIn arena path → IsLabel (triangulation arena path.start) x
        → substitution (followed_along arena (identity_map arena path.start) path.moves).images x
        ≡ path_map (moves_of arena path) x
    path_letter path x p label =
        let start : IsMapIn arena (identity_map arena path.start) = identity_in labels words surface mapping atlas
        arena sound path.start p.start_in in
        along_letter labels words surface mapping atlas arena (identity_map arena path.start) path.moves x start.reduced
        ∙ ap (λ (w : List ℤ). reduce (flat_map (path_map (moves_of arena path)) w)) (identity_letter labels words
        surface mapping atlas arena sound path.start x label)
        ∙ ap reduce (append-nil (path_map (moves_of arena path) x))
        ∙ mapping.paths.reduced (moves_of arena path) x

    path_triangle : (path : MovePath) (t : ℕ) → IsPathIn arena path → t < length (triangulation arena path.start)
        → vertex_image (followed_along arena (identity_map arena path.start) path.moves) t
        ≡ triangle_along arena path.moves t
    path_triangle path t p inside =
        along_triangle labels words surface mapping atlas arena (identity_map arena path.start) path.moves t
        (subst (λ (n : ℕ). t < n) (sym (length-range_with_len 0 (length (triangulation arena path.start)))) inside)
        ∙ ap (triangle_along arena path.moves) (identity_triangle labels words surface mapping atlas arena sound
        path.start t inside)

    -- ---- it, after a map that ends where the path starts

    pub path_after : (f : GroupoidMap) (path : MovePath) → IsMapIn arena f → IsPathIn arena path → path.start ≡ f.target
        → composed f (followed_along arena (identity_map arena path.start) path.moves)
        ≡ followed_along arena f path.moves
    path_after f path h p follows =
        map_equal f.source (followed_along arena f path.moves).source
        (followed_along arena (identity_map arena path.start) path.moves).target (followed_along arena f
        path.moves).target _ _ _ _
        (sym (along_source labels words surface mapping atlas arena f path.moves))
        (along_target labels words surface mapping atlas arena (identity_map arena path.start) path.start path.end
        path.moves p.moves_lead refl
        ∙ sym (along_target labels words surface mapping atlas arena f path.start path.end path.moves p.moves_lead
        follows))
        (ext_get_or [] _ _
        (length-map f.images (reduced_image (substitution step.images))
        ∙ sym (along_many labels words surface mapping atlas arena f path.moves))
        same_images)
        (ext_get_or 0 _ _
        (length-map f.triangles (vertex_image step) ∙ sym (along_triangles labels words surface mapping atlas arena f
        path.moves))
        same_triangles)
      where
        step : GroupoidMap
        step = followed_along arena (identity_map arena path.start) path.moves

        same_images : (n : ℕ) → n < length (map (reduced_image (substitution step.images)) f.images)
            → get_or (map (reduced_image (substitution step.images)) f.images) n []
            ≡ get_or (followed_along arena f path.moves).images n []
        same_images n inside =
            let place : n < length f.images = subst (λ (k : ℕ). n < k) (length-map f.images (reduced_image
            (substitution step.images))) inside in
            get_or-map (reduced_image (substitution step.images)) f.images n [] [] place
            ∙ ap reduce
            (mapping.substitutions.agree (substitution step.images) (path_map (moves_of arena path)) (get_or f.images n [])
            (λ k d below. path_letter path (get_or (get_or f.images n []) k d) p
            (subst (λ (t : ℕ). All (IsLabel (triangulation arena t)) (get_or f.images n [])) (sym follows)
            (image_labels arena surface f h n [] place) k d below)))
            ∙ sym (along_letter labels words surface mapping atlas arena f path.moves (pos n) h.reduced)

        same_triangles : (k : ℕ) → k < length (map (vertex_image step) f.triangles)
            → get_or (map (vertex_image step) f.triangles) k 0
            ≡ get_or (followed_along arena f path.moves).triangles k 0
        same_triangles k inside =
            let place : k < length f.triangles = subst (λ (n : ℕ). k < n) (length-map f.triangles (vertex_image step))
            inside in
            get_or-map (vertex_image step) f.triangles k 0 0 place
            ∙ path_triangle path (vertex_image f k) p
            (subst (λ (t : ℕ). vertex_image f k < length (triangulation arena t)) (sym follows)
            (target_images arena f h k 0 place))
            ∙ sym (along_triangle labels words surface mapping atlas arena f path.moves k place)
