-- A move is undone by the same move backwards: on letters by the law of moves, and on each image since it is a reduced
-- walk. So a path is undone by the way back along it, from its middle outwards.
use Rattle.std.proofs.Common.{ℕ, ℤ, List, [], ◌∷◌, ◌++◌, ◌≡◌, ◌<◌, refl, sym, ◌∙◌, ap, subst}
use Rattle.std.proofs.Common.{append_assoc, length, map, reverse, get_or}
use Rattle.std.specs.List.{All, flat_map}
use Rattle.std.proofs.lemmas.List.{reverse-append}
use Rattle.std.proofs.lemmas.List.Elements.{All-head, All-tail}
use Rattle.ideal_tri.specs.Words.{IsReduced, reduce}
use Rattle.ideal_tri.specs.LabelLaws.{LabelLaws}
use Rattle.ideal_tri.specs.WordLaws.{WordLaws}
use Rattle.ideal_tri.specs.SurfaceLaws.{SurfaceLaws}
use Rattle.ideal_tri.specs.Triangulations.{IsTriangulation, IsLabel}
use Rattle.tri_atlas.specs.Moves.{Move, IsMove, back_of, triangle_image}
use Rattle.tri_atlas.specs.Maps.{identity, after, image_of_letter}
use Rattle.tri_atlas.specs.MapLaws.{MapLaws}
use Rattle.tri_atlas.specs.AtlasLaws.{AtlasLaws}
use Rattle.tri_atlas.specs.Arena.{Arena, MoveHandle, IsArena, IsMoveIn, IsTriIn, triangulation, source_of, target_of}
use Rattle.tri_atlas.specs.Arena.{step_of, back}
use Rattle.tri_atlas.specs.Paths.{Lead}
use Rattle.free_groupoid.specs.GroupoidMaps.{GroupoidMap, IsMapIn, reduced_image, followed, followed_along}
use Rattle.free_groupoid.proofs.Entries.{image_labels, target_images}
use Rattle.free_groupoid.proofs.MapsIn.{followed_in}
use Rattle.free_groupoid.proofs.Along.{followed_along-append}

-- maps with equal parts are equal
pub map_equal : (source source' target target' : ℕ) (images images' : List (List ℤ)) (triangles triangles' : List ℕ)
    → source ≡ source' → target ≡ target' → images ≡ images' → triangles ≡ triangles'
    → ◌≡◌ {A = GroupoidMap} (record { source = source; target = target; images = images; triangles = triangles })
    (record { source = source'; target = target'; images = images'; triangles = triangles' })
map_equal source source' target target' images images' triangles triangles' a b c d =
    let from : ℕ → GroupoidMap = λ z. record { source = z; target = target; images = images; triangles = triangles } in
    let to : ℕ → GroupoidMap = λ z. record { source = source'; target = z; images = images; triangles = triangles } in
    let letters : List (List ℤ) → GroupoidMap = λ z. record {
      source = source';
      target = target';
      images = z;
      triangles
          = triangles;
    } in
    let places : List ℕ → GroupoidMap = λ z. record {
      source = source';
      target = target';
      images = images';
      triangles =
          z;
    } in
    ap from a ∙ ap to b ∙ ap letters c ∙ ap places d

-- a function of each entry, undone by another
map_undone : {X : Type 0} (f g : X → X) (xs : List X) → All (λ x. g (f x) ≡ x) xs → map g (map f xs) ≡ xs
map_undone f g [] all = refl
map_undone f g (x ∷ xs) all =
    ap (λ y. y ∷ map g (map f xs)) (All-head (λ y. g (f y) ≡ y) x xs all)
    ∙ ap (λ ys. x ∷ ys) (map_undone f g xs (All-tail (λ y. g (f y) ≡ y) x xs all))

module _ (labels : LabelLaws) (words : WordLaws) (surface : SurfaceLaws) (mapping : MapLaws) (atlas : AtlasLaws) (arena
    : Arena) (sound : IsArena arena) where
  -- ---- one move

  word_undone : (before target : List (List ℤ)) (m : Move) (w : List ℤ) → IsTriangulation before
      → IsTriangulation target → IsMove before target m
      → All (IsLabel before) w → IsReduced w → reduced_image (image_of_letter (back_of m)) (reduced_image
      (image_of_letter m) w) ≡ w
  word_undone before target m w b t move all reduced =
      mapping.substitutions.reduced_before (image_of_letter (back_of m)) (flat_map (image_of_letter m) w)
      (mapping.moves.odd (back_of m))
      ∙ sym (mapping.substitutions.compose (image_of_letter m) (image_of_letter (back_of m)) w (mapping.moves.odd m)
      (mapping.moves.odd (back_of m)))
      ∙ ap reduce
      (mapping.substitutions.agree (after (image_of_letter (back_of m)) (image_of_letter m)) identity w
      (λ k d inside. mapping.moves.undo before target m (get_or w k d) b t move (all k d inside))
      ∙ mapping.substitutions.none w)
      ∙ words.reduction.fixed w reduced

  followed_back : (f : GroupoidMap) (m : MoveHandle) → IsMapIn arena f → IsMoveIn arena m → source_of arena m ≡ f.target
      → followed arena (followed arena f m) (back m) ≡ f
  followed_back f m h here follows =
      map_equal f.source f.source (target_of arena (back m)) f.target _ f.images _ f.triangles refl (atlas.handles.back_target arena m ∙ follows)
      images_back triangles_back
    where
      before : List (List ℤ)
      before = triangulation arena (source_of arena m)

      target : List (List ℤ)
      target = triangulation arena (target_of arena m)

      step : Move
      step = step_of arena m

      ends : IsTriIn arena (source_of arena m) × IsTriIn arena (target_of arena m)
      ends = atlas.handles.ends arena m sound here

      move : IsMove before target step
      move = atlas.handles.leads arena m sound here

      images_back : map (reduced_image (image_of_letter (step_of arena (back m)))) (map (reduced_image (image_of_letter
          step)) f.images) ≡ f.images
      images_back =
          ap (λ (n : Move). map (reduced_image (image_of_letter n)) (map (reduced_image (image_of_letter step))
          f.images)) (atlas.handles.back arena m sound here)
          ∙ map_undone (reduced_image (image_of_letter step)) (reduced_image (image_of_letter (back_of step))) f.images
          (λ k d inside.
          word_undone before target step (get_or f.images k d) (sound.sound (source_of arena m) ends.0) (sound.sound
          (target_of arena m) ends.1) move
          (subst (λ (t : ℕ). All (IsLabel (triangulation arena t)) (get_or f.images k d)) (sym follows) (image_labels
          arena surface f h k d inside))
          (h.reduced k d inside))

      triangles_back : map (triangle_image (triangulation arena (source_of arena (back m))) (triangulation arena
          (target_of arena (back m))) (step_of arena (back m)))
          (map (triangle_image before target step) f.triangles) ≡ f.triangles
      triangles_back =
          ap (λ (s : ℕ). map (triangle_image (triangulation arena s) (triangulation arena (target_of arena (back m)))
          (step_of arena (back m)))
          (map (triangle_image before target step) f.triangles)) (atlas.handles.back_source arena m)
          ∙ ap (λ (t : ℕ). map (triangle_image target (triangulation arena t) (step_of arena (back m))) (map
          (triangle_image before target step) f.triangles))
          (atlas.handles.back_target arena m)
          ∙ ap (λ (n : Move). map (triangle_image target before n) (map (triangle_image before target step)
          f.triangles)) (atlas.handles.back arena m sound here)
          ∙ map_undone (triangle_image before target step) (triangle_image target before (back_of step)) f.triangles
          (λ k d inside.
          mapping.moves.undo_triangle before target step (get_or f.triangles k d) (sound.sound (source_of arena m)
          ends.0)
          (sound.sound (target_of arena m) ends.1) move
          (subst (λ (t : ℕ). get_or f.triangles k d < length (triangulation arena t)) (sym follows) (target_images
          arena f h k d inside)))

  -- ---- a path

  pub there_and_back : (f : GroupoidMap) (s t : ℕ) (moves : List MoveHandle) → IsMapIn arena f → Lead arena s moves t
      → s ≡ f.target
      → followed_along arena f (moves ++ reverse (map back moves)) ≡ f
  there_and_back f s t [] h lead follows = refl
  there_and_back f s t (m ∷ moves) h lead follows =
      let next : GroupoidMap = followed arena f m in
      let here : source_of arena m ≡ f.target = lead.1 ∙ follows in
      ap (λ (ms : List MoveHandle). followed_along arena next (moves ++ ms)) (reverse-append (back m ∷ []) (map back
      moves))
      ∙ ap (followed_along arena next) (sym (append_assoc moves (reverse (map back moves)) (back m ∷ [])))
      ∙ followed_along-append labels words surface mapping atlas arena next (moves ++ reverse (map back moves)) (back m
      ∷ [])
      ∙ ap (λ (g : GroupoidMap). followed arena g (back m))
      (there_and_back next (target_of arena m) t moves (followed_in labels words surface mapping atlas arena sound f m
      h lead.0 here) lead.2 refl)
      ∙ followed_back f m h lead.0 here
