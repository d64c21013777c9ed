-- The map after a move, as the code makes it: from words and triangles that are those of the map before.
use Rattle.std.proofs.Common.{ℕ, ℤ, List, ◌≡◌, ◌<◌, ◌≤◌, sym, ◌∙◌, ap, subst, length, map, take, get_or, arith, Vec}
use Rattle.std.specs.Global.{Global}
use Rattle.std.specs.List.{All}
use Rattle.std.proofs.lemmas.List.{length-take-le}
use Rattle.ideal_tri.specs.Labels.{edge_of}
use Rattle.ideal_tri.specs.SurfaceLaws.{SurfaceLaws}
use Rattle.ideal_tri.specs.Triangulations.{edge_count}
use Rattle.ideal_tri.specs.declared.tri.TheConstants.{EDGES}
use Rattle.tri_atlas.specs.Moves.{Move, IsMove, triangle_image}
use Rattle.tri_atlas.specs.Maps.{image_of_letter}
use Rattle.tri_atlas.specs.Arena.{Arena, MoveHandle, IsArena, IsTriIn, triangulation, source_of, target_of, step_of}
use Rattle.free_groupoid.specs.GroupoidMaps.{GroupoidMap, IsMapIn, reduced_image, followed}
use Rattle.free_groupoid.specs.inside.Images.{words_of, IsBelow}
use Rattle.free_groupoid.proofs.Entries.{image_labels}

-- a triangulation of an atlas has no more edges than a triangulation may have
pub few_edges : (arena : Arena) (t : ℕ) → IsArena arena → IsTriIn arena t → edge_count (triangulation arena t) ≤ EDGES
few_edges arena t sound here =
    let same : edge_count (triangulation arena t) ≡ edge_count (triangulation arena 0) = sound.edges t here in
    let few : edge_count (triangulation arena 0) ≤ EDGES = sound.few in
    omega arith

pub images_few : SurfaceLaws → (arena : Arena) (f : GroupoidMap) → IsArena arena → IsMapIn arena f
    → All (IsBelow EDGES) f.images
images_few surface arena f sound h = λ n d inside k e within.
    let label : edge_of (get_or (get_or f.images n d) k e) < edge_count (triangulation arena f.target) = image_labels
    arena surface f h n d inside k e within in
    let few : edge_count (triangulation arena f.target) ≤ EDGES = few_edges arena f.target sound h.target_in in
    omega arith

module _ (arena : Arena) (f : GroupoidMap) (m : MoveHandle) (h : IsMapIn arena f) (follows : source_of arena m
    ≡ f.target) where
  pub images_labelled : SurfaceLaws → All (IsBelow (edge_count (triangulation arena (source_of arena m)))) f.images
  images_labelled surface = subst (λ (t : ℕ). All (IsBelow (edge_count (triangulation arena t))) f.images) (sym follows)
      (image_labels arena surface f h)

  pub followed_images : (vectors seen made : List (Vec ℤ Global)) (step : Move) → words_of vectors ≡ f.images
      → seen ≡ vectors
      → step ≡ step_of arena m
      → words_of made ≡ map (reduced_image (image_of_letter step)) (words_of seen)
      → words_of made ≡ (followed arena f m).images
  followed_images vectors seen made step is_images is_seen is_step is_made =
      is_made
      ∙ ap (λ (n : Move). map (reduced_image (image_of_letter n)) (words_of seen)) is_step
      ∙ ap (map (reduced_image (image_of_letter (step_of arena m)))) (ap words_of is_seen ∙ is_images)

  pub followed_triangles : (before after : List (List ℤ)) (step : Move) (triangles made : List ℕ) (count : ℕ)
      → before ≡ triangulation arena f.target
      → after ≡ triangulation arena (target_of arena m) → step ≡ step_of arena m → take count triangles ≡ f.triangles
      → count ≤ length triangles
      → take (length (take count triangles)) made ≡ map (triangle_image before after step) (take count triangles)
      → take count made ≡ (followed arena f m).triangles
  followed_triangles before after step triangles made count is_before is_after is_step is_triangles many is_made =
      ap (λ (n : ℕ). take n made) (sym (length-take-le count triangles many))
      ∙ is_made
      ∙ ap (λ (ts : List (List ℤ)). map (triangle_image ts after step) (take count triangles))
      (is_before ∙ ap (triangulation arena) (sym follows))
      ∙ ap (λ (ts : List (List ℤ)). map (triangle_image (triangulation arena (source_of arena m)) ts step) (take count
      triangles)) is_after
      ∙ ap (λ (n : Move). map (triangle_image (triangulation arena (source_of arena m)) (triangulation arena (target_of
      arena m)) n) (take count triangles)) is_step
      ∙ ap (map (triangle_image (triangulation arena (source_of arena m)) (triangulation arena (target_of arena m))
      (step_of arena m))) is_triangles

  -- the move leads from the triangulation that was read to the other
  pub read_move : (before after : List (List ℤ)) (step : Move) → before ≡ triangulation arena f.target
      → after ≡ triangulation arena (target_of arena m)
      → step ≡ step_of arena m → IsMove (triangulation arena (source_of arena m)) (triangulation arena (target_of arena
      m)) (step_of arena m)
      → IsMove before after step
  read_move before after step is_before is_after is_step move =
      subst (λ (ts : List (List ℤ)). IsMove ts after step) (sym (is_before ∙ ap (triangulation arena) (sym follows)))
      (subst (λ (ts : List (List ℤ)). IsMove (triangulation arena (source_of arena m)) ts step) (sym is_after)
      (subst (IsMove (triangulation arena (source_of arena m)) (triangulation arena (target_of arena m))) (sym is_step)
      move))
