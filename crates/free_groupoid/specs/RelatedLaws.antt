-- What holds of related maps.
use Rattle.std.specs.Prelude.{◌≡◌, ◌<◌, ◌++◌, ℕ, ℤ, List, [], length, All}
use Rattle.std.specs.List.{flat_map}
use Rattle.ideal_tri.specs.Words.{inverse_word, reduce}
use Rattle.ideal_tri.specs.Triangulations.{IsTriangulation}
use Rattle.tri_atlas.specs.Moves.{Move, ArePath}
use Rattle.tri_atlas.specs.Maps.{IsMap, identity, after, path_map}
use Rattle.free_groupoid.specs.TestWalks.{test_walks}
use Rattle.free_groupoid.specs.Inner.{IsInner}
use Rattle.free_groupoid.specs.Related.{IsRelated, AreAlikeAt}

-- the map of a path from source to target, with where it sends the triangles
pub record IsPathMap (source target : List (List ℤ)) (moves : List Move) (triangles : ℕ → ℕ)
    : Type 0 where
  pub start : IsTriangulation source
  pub end : IsTriangulation target
  pub path : ArePath source moves target
  pub map : IsMap source target (path_map moves) triangles

-- related maps are an equivalence, and stay related where a map follows both or comes before both
pub record RelationLaws : Type 0 where
  pub same : (source target : List (List ℤ)) (f : ℤ → List ℤ) (triangles : ℕ → ℕ)
      → IsRelated source target f triangles f triangles (λ t. [])
  pub back : (source target : List (List ℤ)) (f g : ℤ → List ℤ) (f_triangles g_triangles : ℕ → ℕ)
      (paths : ℕ → List ℤ) → IsTriangulation target
      → IsRelated source target f f_triangles g g_triangles paths
      → IsRelated source target g g_triangles f f_triangles (λ t. inverse_word (paths t))
  pub join : (source target : List (List ℤ)) (f g h : ℤ → List ℤ)
      (f_triangles g_triangles h_triangles : ℕ → ℕ) (paths more : ℕ → List ℤ)
      → IsTriangulation target
      → IsRelated source target f f_triangles g g_triangles paths
      → IsRelated source target g g_triangles h h_triangles more
      → IsRelated source target f f_triangles h h_triangles (λ t. paths t ++ more t)
  pub followed : (source target last : List (List ℤ)) (f g h : ℤ → List ℤ)
      (f_triangles g_triangles h_triangles : ℕ → ℕ) (paths : ℕ → List ℤ)
      → IsTriangulation last → IsMap target last h h_triangles
      → IsRelated source target f f_triangles g g_triangles paths
      → IsRelated source last (after h f) (λ t. h_triangles (f_triangles t))
      (after h g) (λ t. h_triangles (g_triangles t)) (λ t. flat_map h (paths t))
  pub preceded : (first source target : List (List ℤ)) (h f g : ℤ → List ℤ)
      (h_triangles f_triangles g_triangles : ℕ → ℕ) (paths : ℕ → List ℤ)
      → IsMap first source h h_triangles
      → IsRelated source target f f_triangles g g_triangles paths
      → IsRelated first target (after f h) (λ t. f_triangles (h_triangles t))
      (after g h) (λ t. g_triangles (h_triangles t)) (λ t. paths (h_triangles t))
  pub inner : (triples : List (List ℤ)) (f : ℤ → List ℤ) (triangles : ℕ → ℕ) (paths : ℕ → List ℤ)
      → IsRelated triples triples identity (λ t. t) f triangles paths
      → IsInner triples f triangles paths

-- two maps of paths are related exactly where they are alike at each test walk, and by one list of
-- reduced walks alone
pub record RelatedLaws : Type 0 where
  pub alike : (source target : List (List ℤ)) (first second : List Move)
      (f_triangles g_triangles : ℕ → ℕ) (paths : ℕ → List ℤ)
      → IsPathMap source target first f_triangles → IsPathMap source target second g_triangles
      → IsRelated source target (path_map first) f_triangles (path_map second) g_triangles paths
      → All (AreAlikeAt (path_map first) (path_map second)) (test_walks source)
  pub related : (source target : List (List ℤ)) (first second : List Move)
      (f_triangles g_triangles : ℕ → ℕ)
      → IsPathMap source target first f_triangles → IsPathMap source target second g_triangles
      → All (AreAlikeAt (path_map first) (path_map second)) (test_walks source)
      → (paths : ℕ → List ℤ)
      × IsRelated source target (path_map first) f_triangles (path_map second) g_triangles paths
  pub only : (source target : List (List ℤ)) (first second : List Move)
      (f_triangles g_triangles : ℕ → ℕ) (paths others : ℕ → List ℤ)
      → IsPathMap source target first f_triangles → IsPathMap source target second g_triangles
      → IsRelated source target (path_map first) f_triangles (path_map second) g_triangles paths
      → IsRelated source target (path_map first) f_triangles (path_map second) g_triangles others
      → (t : ℕ) → t < length source → reduce (paths t) ≡ reduce (others t)
