-- What holds of the test walks and of inner maps.
use Rattle.std.specs.Prelude.{◌≡◌, ◌<◌, ◌++◌, ℕ, ℤ, List, [], ◌∷◌, length, All}
use Rattle.std.specs.List.{flat_map}
use Rattle.ideal_tri.specs.Words.{inverse_word, reduce, cyclic_reduce, IsRotation}
use Rattle.ideal_tri.specs.Words.{IsCyclicallyReduced}
use Rattle.ideal_tri.specs.Triangulations.{IsTriangulation, IsLabel, IsWalk, triangle_of}
use Rattle.tri_atlas.specs.Maps.{IsMap, IsFixed, identity, after}
use Rattle.free_groupoid.specs.TestWalks.{test_walks}
use Rattle.free_groupoid.specs.Inner.{IsInner, IsKept}
use Rattle.free_groupoid.specs.inside.InnerPaths.{inner_path}

-- a closed walk from the triangle of its first letter, with nothing to reduce
abbrev pub IsReducedLoop : List (List ℤ) → List ℤ → Type 0
IsReducedLoop triples [] = ⊥
IsReducedLoop triples (x ∷ w) =
    IsWalk triples (triangle_of triples x) (x ∷ w) (triangle_of triples x)
    × IsCyclicallyReduced (x ∷ w)

-- a map is inner exactly where it keeps each test walk, and by one list of reduced walks alone
pub record InnerLaws : Type 0 where
  pub loops : (triples : List (List ℤ)) → IsTriangulation triples
      → All (IsReducedLoop triples) (test_walks triples)
  pub kept : (triples : List (List ℤ)) (f : ℤ → List ℤ) (triangles : ℕ → ℕ) (paths : ℕ → List ℤ)
      → IsTriangulation triples → IsMap triples triples f triangles
      → IsInner triples f triangles paths → All (IsKept f) (test_walks triples)
  pub inner : (triples : List (List ℤ)) (f : ℤ → List ℤ) (triangles : ℕ → ℕ)
      → IsTriangulation triples → IsMap triples triples f triangles
      → All (IsKept f) (test_walks triples)
      → IsInner triples f triangles (inner_path triples f triangles)
  pub only : (triples : List (List ℤ)) (f : ℤ → List ℤ) (triangles : ℕ → ℕ)
      (paths others : ℕ → List ℤ) → IsTriangulation triples
      → IsInner triples f triangles paths → IsInner triples f triangles others
      → (t : ℕ) → t < length triples → reduce (paths t) ≡ reduce (others t)

-- inner maps compose, have inner inverses, stay inner where they are carried along a map, and fix
-- closed walks up to rotation
pub record InnerMapLaws : Type 0 where
  pub identity : (triples : List (List ℤ)) → IsInner triples identity (λ t. t) (λ t. [])
  pub compose : (triples : List (List ℤ)) (f g : ℤ → List ℤ) (f_triangles g_triangles : ℕ → ℕ)
      (f_paths g_paths : ℕ → List ℤ) → IsTriangulation triples
      → IsMap triples triples f f_triangles → IsMap triples triples g g_triangles
      → IsInner triples f f_triangles f_paths → IsInner triples g g_triangles g_paths
      → IsInner triples (after g f) (λ t. g_triangles (f_triangles t))
      (λ t. f_paths t ++ g_paths (f_triangles t))
  pub inverse : (triples : List (List ℤ)) (f g : ℤ → List ℤ) (f_triangles g_triangles : ℕ → ℕ)
      (paths : ℕ → List ℤ) → IsTriangulation triples
      → IsMap triples triples f f_triangles → IsMap triples triples g g_triangles
      → ((x : ℤ) → IsLabel triples x → after g f x ≡ x ∷ [])
      → IsInner triples f f_triangles paths
      → IsInner triples g g_triangles (λ t. inverse_word (flat_map g (paths t)))
  pub transport : (source target : List (List ℤ)) (f g back : ℤ → List ℤ)
      (f_triangles g_triangles back_triangles : ℕ → ℕ) (paths : ℕ → List ℤ)
      → IsTriangulation source → IsTriangulation target → IsMap source source f f_triangles
      → IsMap source target g g_triangles → IsMap target source back back_triangles
      → ((x : ℤ) → IsLabel target x → after g back x ≡ x ∷ [])
      → IsInner source f f_triangles paths
      → IsInner target (after g (after f back))
      (λ t. g_triangles (f_triangles (back_triangles t)))
      (λ t. flat_map g (paths (back_triangles t)))
  pub along : (triples : List (List ℤ)) (f : ℤ → List ℤ) (triangles : ℕ → ℕ)
      (paths : ℕ → List ℤ) (s t : ℕ) (w : List ℤ) → IsInner triples f triangles paths
      → IsWalk triples s w t → reduce (paths s ++ flat_map f w) ≡ reduce (w ++ paths t)
  pub closed : (triples : List (List ℤ)) (f : ℤ → List ℤ) (triangles : ℕ → ℕ)
      (paths : ℕ → List ℤ) (t : ℕ) (w : List ℤ) → IsInner triples f triangles paths
      → IsWalk triples t w t → IsRotation (cyclic_reduce (flat_map f w)) (cyclic_reduce w)
  pub curves : (triples : List (List ℤ)) (f : ℤ → List ℤ) (triangles : ℕ → ℕ)
      (paths : ℕ → List ℤ) (words : List (List ℤ)) → IsInner triples f triangles paths
      → All (λ w. (t : ℕ) × IsWalk triples t w t × IsCyclicallyReduced w) words
      → IsFixed f words
