-- What the inner test answers.
use Rattle.std.specs.Prelude.{◌≡◌, ◌<◌, ℕ, ℤ, List, [], length, take, slice_index_or, All}
use Rattle.ideal_tri.specs.Words.{IsReduced, reduce}
use Rattle.tri_atlas.specs.Arena.{Arena, triangulation}
use Rattle.free_groupoid.specs.Walks.{DualWalk, walk_at, walk_of_letters}
use Rattle.free_groupoid.specs.GroupoidMaps.{GroupoidMap, IsMapIn, substitution, vertex_image}
use Rattle.free_groupoid.specs.TestWalks.{test_walks}
use Rattle.free_groupoid.specs.Inner.{IsInner, IsKept}
use Rattle.free_groupoid.specs.declared.inner_test.InnerAnswer.{InnerAnswer}
use Rattle.free_groupoid.specs.declared.inner_test.InnerAnswer.TheVariants.{Yes, No}

-- a map of the triangulation to itself, in some atlas
pub record IsSelfMap (triples : List (List ℤ)) (f : GroupoidMap) : Type 0 where
  pub arena : Arena
  pub map : IsMapIn arena f
  pub source : triangulation arena f.source ≡ triples
  pub target : triangulation arena f.target ≡ triples

-- the map is inner by these walks
abbrev pub IsInnerBy : List (List ℤ) → GroupoidMap → (ℕ → List ℤ) → Type 0
IsInnerBy triples f paths = IsInner triples (substitution f.images) (vertex_image f) paths

-- the map is inner by these walks, one from each triangle in order, and by no other reduced ones
pub record AreInnerPaths (triples : List (List ℤ)) (f : GroupoidMap) (paths : List DualWalk)
    : Type 0 where
  pub one_per_triangle : length paths ≡ length triples
  pub starts : (t : ℕ) → t < length triples → (walk_at paths t).start ≡ t
  pub reduced : (t : ℕ) → t < length triples → IsReduced (walk_at paths t).letters
  pub inner : IsInnerBy triples f (λ t. (walk_at paths t).letters)
  pub only : (others : ℕ → List ℤ) → IsInnerBy triples f others
      → (t : ℕ) → t < length triples → reduce (others t) ≡ (walk_at paths t).letters

-- the first of the test walks that the map doesn't carry to itself; so it is inner by no walks
pub record IsFirstMoved (triples : List (List ℤ)) (f : GroupoidMap) (w : DualWalk) : Type 0 where
  pub place : ℕ
  pub within : place < length (test_walks triples)
  pub walk : w ≡ walk_of_letters triples (slice_index_or (test_walks triples) place [])
  pub moved : ¬ IsKept (substitution f.images) w.letters
  pub before : All (IsKept (substitution f.images)) (take place (test_walks triples))
  pub never : (paths : ℕ → List ℤ) → ¬ IsInnerBy triples f paths

abbrev pub IsInnerAnswer : List (List ℤ) → GroupoidMap → InnerAnswer → Type 0
IsInnerAnswer triples f (Yes paths) = AreInnerPaths triples f paths.items
IsInnerAnswer triples f (No walk) = IsFirstMoved triples f walk
