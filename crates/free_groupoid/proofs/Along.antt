-- Maps along paths of moves. A move is undone by the same move backwards: letter by letter by the law of moves, and
-- each image is reduced; so a path is undone by the way back along it, from its middle outwards.
use Rattle.std.proofs.Common.{get_or, ℕ, ℤ, List, [], ◌∷◌, ◌++◌, ◌≡◌, ◌<◌, refl, sym, ◌∙◌, ap, subst, length, map}
use Rattle.std.specs.List.{All, flat_map}
use Rattle.std.proofs.lemmas.List.{get_or-map, length-map}
use Rattle.ideal_tri.specs.Words.{IsReduced, reduce}
use Rattle.ideal_tri.specs.LabelLaws.{LabelLaws}
use Rattle.ideal_tri.specs.WordLaws.{WordLaws}
use Rattle.ideal_tri.specs.SurfaceLaws.{SurfaceLaws}
use Rattle.tri_atlas.specs.Moves.{Move, triangle_image}
use Rattle.tri_atlas.specs.Maps.{after, image_of_letter, map_behind, path_map}
use Rattle.tri_atlas.specs.MapLaws.{MapLaws}
use Rattle.tri_atlas.specs.AtlasLaws.{AtlasLaws}
use Rattle.tri_atlas.specs.Arena.{Arena, MoveHandle, IsArena, triangulation, source_of, target_of, step_of}
use Rattle.tri_atlas.specs.Paths.{Lead, triangle_along}
use Rattle.free_groupoid.specs.GroupoidMaps.{GroupoidMap, IsMapIn, substitution, vertex_image, reduced_image, followed}
use Rattle.free_groupoid.specs.GroupoidMaps.{followed_along}
use Rattle.free_groupoid.specs.MapRefusals.{StaysWithin}
use Rattle.free_groupoid.proofs.Substituting.{substitution-mapped, substitution-reduced}
use Rattle.free_groupoid.proofs.MapsIn.{followed_in}

-- a map that stays within the cap along moves, and then along others
pub StaysWithin-append : (arena : Arena) (f : GroupoidMap) (first second : List MoveHandle) (cap : ℕ)
    → StaysWithin arena f first cap → StaysWithin arena (followed_along arena f first) second cap
    → StaysWithin arena f (first ++ second) cap
StaysWithin-append arena f [] second cap here on = on
StaysWithin-append arena f (m ∷ first) second cap here on =
    (here.0, StaysWithin-append arena (followed arena f m) first second cap here.1 on)

module _ (labels : LabelLaws) (words : WordLaws) (surface : SurfaceLaws) (mapping : MapLaws) (atlas : AtlasLaws) where
  -- ---- letter by letter

  -- the maps of moves behind a reduced map are the map of the path after it
  map_behind-path : (f : ℤ → List ℤ) (moves : List Move) (x : ℤ) → reduce (f x) ≡ f x
      → map_behind f moves x ≡ after (path_map moves) f x
  map_behind-path f [] x reduced = sym reduced ∙ ap reduce (sym (mapping.substitutions.none (f x)))
  map_behind-path f (m ∷ moves) x reduced =
      map_behind-path (after (image_of_letter m) f) moves x (words.reduction.twice (flat_map (image_of_letter m) (f x)))
      ∙ mapping.substitutions.reduced_before (path_map moves) (flat_map (image_of_letter m) (f x)) (mapping.paths.odd
      moves)
      ∙ sym (mapping.substitutions.compose (image_of_letter m) (path_map moves) (f x) (mapping.moves.odd m)
      (mapping.paths.odd moves))
      ∙ ap reduce
      (sym (mapping.substitutions.agree (path_map (m ∷ moves)) (after (path_map moves) (image_of_letter m)) (f x)
      (λ k d below. mapping.paths.cons m moves (get_or (f x) k d))))

  -- they read the first map at the letter alone
  map_behind-at : (f g : ℤ → List ℤ) (moves : List Move) (x : ℤ) → f x ≡ g x
      → map_behind f moves x ≡ map_behind g moves x
  map_behind-at f g [] x e = e
  map_behind-at f g (m ∷ moves) x e =
      map_behind-at (after (image_of_letter m) f) (after (image_of_letter m) g) moves x (ap (λ (w : List ℤ). reduce
      (flat_map (image_of_letter m) w)) e)

  pub followed_letter : (arena : Arena) (f : GroupoidMap) (m : MoveHandle) (x : ℤ)
      → substitution (followed arena f m).images x ≡ after (image_of_letter (step_of arena m)) (substitution f.images) x
  followed_letter arena f m x =
      substitution-mapped words.reduction mapping.substitutions (image_of_letter (step_of arena m)) f.images x
      (mapping.moves.odd (step_of arena m))

  along_behind : (arena : Arena) (f : GroupoidMap) (moves : List MoveHandle) (x : ℤ)
      → substitution (followed_along arena f moves).images x
      ≡ map_behind (substitution f.images) (map (step_of arena) moves) x
  along_behind arena f [] x = refl
  along_behind arena f (m ∷ moves) x =
      along_behind arena (followed arena f m) moves x
      ∙ map_behind-at (substitution (followed arena f m).images) (after (image_of_letter (step_of arena m))
      (substitution f.images))
      (map (step_of arena) moves) x (followed_letter arena f m x)

  pub along_letter : (arena : Arena) (f : GroupoidMap) (moves : List MoveHandle) (x : ℤ) → All IsReduced f.images
      → substitution (followed_along arena f moves).images x
      ≡ after (path_map (map (step_of arena) moves)) (substitution f.images) x
  along_letter arena f moves x reduced =
      along_behind arena f moves x
      ∙ map_behind-path (substitution f.images) (map (step_of arena) moves) x (substitution-reduced words.reduction
      f.images x reduced)

  -- ---- triangle by triangle

  pub along_triangle : (arena : Arena) (f : GroupoidMap) (moves : List MoveHandle) (t : ℕ) → t < length f.triangles
      → vertex_image (followed_along arena f moves) t ≡ triangle_along arena moves (vertex_image f t)
  along_triangle arena f [] t inside = refl
  along_triangle arena f (m ∷ moves) t inside =
      let moved : ℕ → ℕ = triangle_image (triangulation arena (source_of arena m)) (triangulation arena (target_of
      arena m)) (step_of arena m) in
      along_triangle arena (followed arena f m) moves t (subst (λ (n : ℕ). t < n) (sym (length-map f.triangles moved))
      inside)
      ∙ ap (triangle_along arena moves) (get_or-map moved f.triangles t 0 0 inside)

  -- ---- the map along a path is a map of the atlas

  pub along_in : (arena : Arena) (f : GroupoidMap) (s t : ℕ) (moves : List MoveHandle) → IsArena arena
      → IsMapIn arena f → Lead arena s moves t → s ≡ f.target
      → IsMapIn arena (followed_along arena f moves)
  along_in arena f s t [] sound h lead follows = h
  along_in arena f s t (m ∷ moves) sound h lead follows =
      along_in arena (followed arena f m) (target_of arena m) t moves sound
      (followed_in labels words surface mapping atlas arena sound f m h lead.0 (lead.1 ∙ follows)) lead.2 refl

  pub along_target : (arena : Arena) (f : GroupoidMap) (s t : ℕ) (moves : List MoveHandle) → Lead arena s moves t
      → s ≡ f.target
      → (followed_along arena f moves).target ≡ t
  along_target arena f s t [] lead follows = sym follows ∙ lead
  along_target arena f s t (m ∷ moves) lead follows = along_target arena (followed arena f m) (target_of arena m) t
      moves lead.2 refl

  pub along_source : (arena : Arena) (f : GroupoidMap) (moves : List MoveHandle)
      → (followed_along arena f moves).source ≡ f.source
  along_source arena f [] = refl
  along_source arena f (m ∷ moves) = along_source arena (followed arena f m) moves

  pub along_many : (arena : Arena) (f : GroupoidMap) (moves : List MoveHandle)
      → length (followed_along arena f moves).images ≡ length f.images
  along_many arena f [] = refl
  along_many arena f (m ∷ moves) =
      along_many arena (followed arena f m) moves ∙ length-map f.images (reduced_image (image_of_letter (step_of arena
      m)))

  pub along_triangles : (arena : Arena) (f : GroupoidMap) (moves : List MoveHandle)
      → length (followed_along arena f moves).triangles ≡ length f.triangles
  along_triangles arena f [] = refl
  along_triangles arena f (m ∷ moves) =
      along_triangles arena (followed arena f m) moves
      ∙ length-map f.triangles
      (triangle_image (triangulation arena (source_of arena m)) (triangulation arena (target_of arena m)) (step_of
      arena m))

  pub followed_along-append : (arena : Arena) (f : GroupoidMap) (u v : List MoveHandle)
      → followed_along arena f (u ++ v) ≡ followed_along arena (followed_along arena f u) v
  followed_along-append arena f [] v = refl
  followed_along-append arena f (m ∷ u) v = followed_along-append arena (followed arena f m) u v
