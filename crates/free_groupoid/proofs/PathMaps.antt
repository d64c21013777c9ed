-- The maps of a path and of the path backwards undo each other.
use Rattle.std.proofs.Common.{ℕ, ℤ, List, ◌++◌, sym, ◌∙◌, ap}
use Rattle.tri_atlas.specs.Moves.{Move, ArePath, back_along}
use Rattle.tri_atlas.specs.Maps.{path_map}
use Rattle.tri_atlas.specs.MapLaws.{MapLaws}
use Rattle.free_groupoid.specs.RelatedLaws.{IsPathMap}
use Rattle.free_groupoid.proofs.Returns.{AreInverse}

module _ (laws : MapLaws) where
  -- the map of the path backwards undoes it
  pub path_inverse : (source target : List (List ℤ)) (moves : List Move) (triangles : ℕ → ℕ)
      → IsPathMap source target moves triangles
      → (back_triangles : ℕ → ℕ) × AreInverse source target (path_map moves)
      (path_map (back_along moves)) triangles back_triangles
  path_inverse source target moves triangles h =
      let backwards : ArePath target (back_along moves) source = laws.paths.back source target moves h.start h.path in
      let (back_triangles, back_map) = laws.paths.maps target source (back_along moves) h.end backwards in (
        back_triangles,
        record {
          there = h.map;
          back = back_map;
          there_back = λ x label.
              sym (laws.paths.join moves (back_along moves) x) ∙ laws.paths.undo source target moves x h.start h.path
              label;
          back_there = λ x label.
              sym (laws.paths.join (back_along moves) moves x)
              ∙ ap (λ (ms : List Move). path_map (back_along moves ++ ms) x)
              (sym (laws.paths.back_twice source target moves h.path))
              ∙ laws.paths.undo target source (back_along moves) x h.end backwards label;
        },
      )
