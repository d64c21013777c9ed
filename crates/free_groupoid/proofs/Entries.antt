-- The entries of a map of the atlas: the letters of its images are labels of the target, and its triangles are
-- triangles there.
use Rattle.std.proofs.Common.{ℕ, ℤ, pos, List, [], ◌≡◌, ◌<◌, sym, ◌∙◌, ap, subst, length, get_or, Vec}
use Rattle.std.specs.Global.{Global}
use Rattle.std.specs.List.{All}
use Rattle.std.proofs.lemmas.List.{get_or_default, length-map}
use Rattle.ideal_tri.specs.SurfaceLaws.{SurfaceLaws}
use Rattle.ideal_tri.specs.Triangulations.{IsLabel}
use Rattle.tri_atlas.specs.Arena.{Arena, triangulation}
use Rattle.free_groupoid.specs.Walks.{DualWalk, IsWalkOn}
use Rattle.free_groupoid.specs.GroupoidMaps.{GroupoidMap, IsMapIn}
use Rattle.free_groupoid.specs.inside.Images.{words_of, IsBelow}

module _ (arena : Arena) where
  pub image_labels : SurfaceLaws → (f : GroupoidMap) → IsMapIn arena f
      → All (λ w. All (IsLabel (triangulation arena f.target)) w) f.images
  image_labels surface f h = λ n d inside.
      let label : IsLabel (triangulation arena f.source) (pos n) = subst (λ (k : ℕ). n < k) h.one_per_edge inside in
      subst (λ (w : List ℤ). All (IsLabel (triangulation arena f.target)) w) (get_or_default f.images n [] d inside)
      (surface.letters _ _ _ _ (h.maps.walks (pos n) label))

  pub target_images : (f : GroupoidMap) → IsMapIn arena f
      → All (λ t. t < length (triangulation arena f.target)) f.triangles
  target_images f h = λ k d inside.
      subst (λ (t : ℕ). t < length (triangulation arena f.target)) (get_or_default f.triangles k 0 d inside)
      (h.maps.within k (subst (λ (n : ℕ). k < n) h.one_per_triangle inside))

  -- ---- letters have images

  pub walk_below : SurfaceLaws → (f : GroupoidMap) (w : DualWalk) → IsMapIn arena f
      → IsWalkOn (triangulation arena f.source) w
      → IsBelow (length f.images) w.letters
  walk_below surface f w h walk =
      subst (λ (n : ℕ). IsBelow n w.letters) (sym h.one_per_edge) (surface.letters _ _ _ _ walk.leads)

  pub images_below : SurfaceLaws → (f g : GroupoidMap) → IsMapIn arena f → IsMapIn arena g → g.source ≡ f.target
      → All (IsBelow (length g.images)) f.images
  images_below surface f g h k follows = λ n d inside.
      subst (λ (m : ℕ). IsBelow m (get_or f.images n d)) (sym k.one_per_edge)
      (subst (λ (t : ℕ). All (IsLabel (triangulation arena t)) (get_or f.images n d)) (sym follows) (image_labels surface
      f h n d inside))

-- triangles of the one map are those that the other maps
pub triangles_within : (arena : Arena) (f g : GroupoidMap) → IsMapIn arena f → IsMapIn arena g → g.source ≡ f.target
    → All (λ t. t < length g.triangles) f.triangles
triangles_within arena f g h k follows = λ n d inside.
    subst (λ (m : ℕ). get_or f.triangles n d < m) (sym k.one_per_triangle)
    (subst (λ (t : ℕ). get_or f.triangles n d < length (triangulation arena t)) (sym follows) (target_images arena f h
    n d inside))

-- ---- as the code reads them: the words that `seen` holds are the images, and the word `u` is the walk's

pub below_read : (images : List (List ℤ)) (vectors seen : List (Vec ℤ Global)) (w v u : List ℤ)
    → IsBelow (length images) w
    → words_of vectors ≡ images → v ≡ w → seen ≡ vectors → u ≡ v → IsBelow (length seen) u
below_read images vectors seen w v u below is_images is_v is_seen is_u =
    subst (IsBelow (length seen)) (sym (is_u ∙ is_v))
    (subst (λ (n : ℕ). IsBelow n w)
    (ap length (sym is_images) ∙ length-map vectors (λ (x : Vec ℤ Global). x.items) ∙ ap length (sym is_seen)) below)

pub all_below_read : (images others : List (List ℤ)) (vectors seen their_vectors their_seen : List (Vec ℤ Global))
    → All (IsBelow (length others)) images
    → words_of vectors ≡ images → seen ≡ vectors → words_of their_vectors ≡ others → their_seen ≡ their_vectors
    → All (IsBelow (length their_seen)) (words_of seen)
all_below_read images others vectors seen their_vectors their_seen below is_images is_seen is_others is_their =
    subst (All (IsBelow (length their_seen))) (sym (ap words_of is_seen ∙ is_images))
    (subst (λ (n : ℕ). All (IsBelow n) images)
    (ap length (sym is_others) ∙ length-map their_vectors (λ (x : Vec ℤ Global). x.items)
    ∙ ap length (sym is_their)) below)
