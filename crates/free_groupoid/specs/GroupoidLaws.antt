-- What holds of maps of walks, as they follow moves and each other.
use Rattle.std.specs.Prelude.{◌≡◌, ◌<◌, ℕ, ℤ, List, ◌++◌, length, map}
use Rattle.ideal_tri.specs.Triangulations.{IsLabel}
use Rattle.tri_atlas.specs.Maps.{IsOdd, after, image_of_letter, path_map}
use Rattle.tri_atlas.specs.Arena.{Arena, MoveHandle, IsTriIn, IsMoveIn, IsArena, triangulation}
use Rattle.tri_atlas.specs.Arena.{source_of, step_of}
use Rattle.tri_atlas.specs.Paths.{MovePath, Lead, IsPathIn, moves_of, triangle_along, inverse_path}
use Rattle.free_groupoid.specs.Walks.{DualWalk, IsWalkOn}
use Rattle.free_groupoid.specs.GroupoidMaps.{GroupoidMap, IsMapIn, substitution, vertex_image}
use Rattle.free_groupoid.specs.GroupoidMaps.{identity_map, followed, followed_along, composed}
use Rattle.free_groupoid.specs.GroupoidMaps.{image_walk}
use Rattle.free_groupoid.specs.MapRefusals.{StaysWithin}

-- the maps that the calls make are maps of the atlas
pub record MakingLaws : Type 0 where
  pub identity : (arena : Arena) (t : ℕ) → IsArena arena → IsTriIn arena t
      → IsMapIn arena (identity_map arena t)
  pub followed : (arena : Arena) (f : GroupoidMap) (m : MoveHandle) → IsArena arena
      → IsMapIn arena f → IsMoveIn arena m → source_of arena m ≡ f.target
      → IsMapIn arena (followed arena f m)
  pub along : (arena : Arena) (f : GroupoidMap) (path : MovePath) → IsArena arena
      → IsMapIn arena f → IsPathIn arena path → path.start ≡ f.target
      → IsMapIn arena (followed_along arena f path.moves)
  pub composed : (arena : Arena) (f g : GroupoidMap) → IsArena arena → IsMapIn arena f
      → IsMapIn arena g → g.source ≡ f.target → IsMapIn arena (composed f g)
  pub walks : (arena : Arena) (f : GroupoidMap) (w : DualWalk) → IsArena arena → IsMapIn arena f
      → IsWalkOn (triangulation arena f.source) w
      → IsWalkOn (triangulation arena f.target) (image_walk f w)

-- letter by letter and triangle by triangle they are the compositions of substitutions
pub record ImageLaws : Type 0 where
  pub odd : (images : List (List ℤ)) → IsOdd (substitution images)
  pub followed : (arena : Arena) (f : GroupoidMap) (m : MoveHandle) (x : ℤ)
      → substitution (followed arena f m).images x
      ≡ after (image_of_letter (step_of arena m)) (substitution f.images) x
  pub along : (arena : Arena) (f : GroupoidMap) (moves : List MoveHandle) (x : ℤ)
      → IsMapIn arena f
      → substitution (followed_along arena f moves).images x
      ≡ after (path_map (map (step_of arena) moves)) (substitution f.images) x
  pub triangles : (arena : Arena) (f : GroupoidMap) (moves : List MoveHandle) (t : ℕ)
      → t < length f.triangles
      → vertex_image (followed_along arena f moves) t
      ≡ triangle_along arena moves (vertex_image f t)
  pub path : (arena : Arena) (path : MovePath) (x : ℤ) → IsArena arena
      → IsPathIn arena path → IsLabel (triangulation arena path.start) x
      → substitution (followed_along arena (identity_map arena path.start) path.moves).images x
      ≡ path_map (moves_of arena path) x
  pub composed : (f g : GroupoidMap) (x : ℤ)
      → substitution (composed f g).images x
      ≡ after (substitution g.images) (substitution f.images) x

-- the walk of one map after another, and the way back along a path
pub record ActionLaws : Type 0 where
  pub one_after_another : (arena : Arena) (f g : GroupoidMap) (w : DualWalk) → IsArena arena
      → IsMapIn arena f → IsMapIn arena g → g.source ≡ f.target
      → IsWalkOn (triangulation arena f.source) w
      → image_walk (composed f g) w ≡ image_walk g (image_walk f w)
  pub path_behind : (arena : Arena) (f : GroupoidMap) (path : MovePath) → IsArena arena
      → IsMapIn arena f → IsPathIn arena path → path.start ≡ f.target
      → composed f (followed_along arena (identity_map arena path.start) path.moves)
      ≡ followed_along arena f path.moves
  pub there_and_back : (arena : Arena) (f : GroupoidMap) (path : MovePath) → IsArena arena
      → IsMapIn arena f → IsPathIn arena path → path.start ≡ f.target
      → followed_along arena f (path.moves ++ (inverse_path path).moves) ≡ f

-- maps followed along moves and then others
pub record AlongLaws : Type 0 where
  pub along : (arena : Arena) (f : GroupoidMap) (first second : List MoveHandle)
      → followed_along arena f (first ++ second)
      ≡ followed_along arena (followed_along arena f first) second
  pub within : (arena : Arena) (f : GroupoidMap) (first second : List MoveHandle) (cap : ℕ)
      → StaysWithin arena f first cap
      → StaysWithin arena (followed_along arena f first) second cap
      → StaysWithin arena f (first ++ second) cap
  pub source : (arena : Arena) (f : GroupoidMap) (moves : List MoveHandle)
      → (followed_along arena f moves).source ≡ f.source
  pub target : (arena : Arena) (f : GroupoidMap) (moves : List MoveHandle) (t : ℕ)
      → Lead arena f.target moves t → (followed_along arena f moves).target ≡ t

-- all of them
pub record GroupoidLaws : Type 0 where
  pub making : MakingLaws
  pub images : ImageLaws
  pub action : ActionLaws
  pub along : AlongLaws
