-- Paths joined and backwards, and where the triangles go along a path.
use Rattle.std.proofs.Common.{ℕ, ℤ, List, [], ◌∷◌, ◌++◌, ◌≡◌, refl, sym, ◌∙◌, ap, subst, map, reverse}
use Rattle.std.proofs.lemmas.List.{reverse-append, map-append}
use Rattle.ideal_tri.specs.Triangulations.{IsTriangulation}
use Rattle.tri_atlas.specs.Moves.{Move, back_of, ArePath, back_along, triangle_image}
use Rattle.tri_atlas.specs.Maps.{after, image_of_letter, path_map, IsMap}
use Rattle.tri_atlas.specs.MapLaws.{MoveLaws, WalkMapLaws, PathLaws}
use Rattle.tri_atlas.proofs.LowerLaws.{LowerLaws}
use Rattle.tri_atlas.proofs.Moves.{move_laws}
use Rattle.tri_atlas.proofs.Paths.{path_map-odd, path_map-reduced, path_map-join, path_map-cons, path_undone}
use Rattle.tri_atlas.proofs.Paths.{back_along-cons}
use Rattle.tri_atlas.proofs.Repeats.{repeat_laws}
use Rattle.tri_atlas.proofs.WalkMaps.{IsMap-same, walk_map_laws}

-- ---- paths joined

ArePath-append : (before between target : List (List ℤ)) (first second : List Move) → ArePath before first between
    → ArePath between second target → ArePath before (first ++ second) target
ArePath-append before between target [] second h k =
    subst (λ (t : List (List ℤ)). ArePath t second target) (sym h) k
ArePath-append before between target (m ∷ first) second (next, t, move, rest) k =
    (next, t, move, ArePath-append next between target first second rest k)

pub path_end : (before target : List (List ℤ)) (moves : List Move) → IsTriangulation before
    → ArePath before moves target → IsTriangulation target
path_end before target [] p h = subst IsTriangulation h p
path_end before target (m ∷ moves) p (between, b, move, rest) = path_end between target moves b rest

back_along-append : (first second : List Move) → back_along (first ++ second) ≡ back_along second ++ back_along first
back_along-append first second =
    ap reverse (map-append back_of first second) ∙ reverse-append (map back_of first) (map back_of second)

module _ (laws : LowerLaws) where
  steps : MoveLaws
  steps = move_laws laws

  walks : WalkMapLaws
  walks = walk_map_laws laws

  -- ---- paths backwards

  ArePath-back : (before target : List (List ℤ)) (moves : List Move) → IsTriangulation before
      → ArePath before moves target → ArePath target (back_along moves) before
  ArePath-back before target [] p h = sym h
  ArePath-back before target (m ∷ moves) p (between, b, move, rest) =
      subst (λ (ms : List Move). ArePath target ms before) (sym (back_along-cons laws m moves))
      (ArePath-append target between before (back_along moves) (back_of m ∷ [])
      (ArePath-back between target moves b rest)
      (before, p, steps.back before between m p b move, refl))

  back_along-twice : (before target : List (List ℤ)) (moves : List Move) → ArePath before moves target
      → back_along (back_along moves) ≡ moves
  back_along-twice before target [] h = refl
  back_along-twice before target (m ∷ moves) (between, b, move, rest) =
      ap back_along (back_along-cons laws m moves)
      ∙ back_along-append (back_along moves) (back_of m ∷ [])
      ∙ ap (λ (x : Move). x ∷ back_along (back_along moves)) (steps.twice before between m move)
      ∙ ap (λ (ms : List Move). m ∷ ms) (back_along-twice between target moves rest)

  -- ---- the map of a path

  path_walks : (before target : List (List ℤ)) (moves : List Move) → IsTriangulation before
      → ArePath before moves target → (triangles : ℕ → ℕ) × IsMap before target (path_map moves) triangles
  path_walks before target [] p h =
      (λ t. t, subst (λ (t : List (List ℤ)). IsMap before t (path_map []) (λ n. n)) h (walks.identity before))
  path_walks before target (m ∷ moves) p (between, b, move, rest) =
      let (triangles, onwards) = path_walks between target moves b rest in (
        λ t. triangles (triangle_image before between m t),
        IsMap-same before target (after (path_map moves) (image_of_letter m)) (path_map (m ∷ moves))
            (λ t. triangles (triangle_image before between m t))
            (λ x. sym (path_map-cons laws m moves x))
            (walks.compose before between target (image_of_letter m) (path_map moves)
            (triangle_image before between m) triangles (path_end between target moves b rest)
            (steps.maps before between m p b move) onwards),
      )

  -- ---- the laws

  pub path_laws : PathLaws
  path_laws = record {
    append = ArePath-append;
    end = path_end;
    back = ArePath-back;
    back_append = back_along-append;
    back_twice = back_along-twice;
    repeats = repeat_laws Move;
    maps = path_walks;
    odd = path_map-odd laws;
    reduced = path_map-reduced laws;
    join = path_map-join laws;
    cons = path_map-cons laws;
    undo = path_undone laws;
  }
