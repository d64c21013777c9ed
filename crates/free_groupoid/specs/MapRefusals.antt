-- Why a map could not be made, and what stands in its place.
use Rattle.std.specs.Prelude.{◌≡◌, ◌<◌, ◌≤◌, ◌+◌, ◌-◌, ◌^◌, ℕ, List, [], ◌∷◌, length, take, min}
use Rattle.tri_atlas.specs.Arena.{Arena, MoveHandle}
use Rattle.free_groupoid.specs.GroupoidMaps.{GroupoidMap, letters_in, followed, followed_along}
use Rattle.free_groupoid.specs.GroupoidMaps.{composed}
use Rattle.free_groupoid.specs.declared.map.MapError.{MapError}
use Rattle.free_groupoid.specs.declared.map.MapError.TheVariants.{Memory, CapPassed}

-- the number that is told: 2^64 - 1 for every number above it
abbrev pub told : ℕ → ℕ
told n = min n (2 ^ 64 - 1)

-- the map has more letters than the cap, and so many are told
pub record PassesCap (f : GroupoidMap) (cap letters : ℕ) : Type 0 where
  pub more : cap < letters_in f.images
  pub number : letters ≡ told (letters_in f.images)

-- the map after each of the moves is within the cap
abbrev pub StaysWithin : Arena → GroupoidMap → List MoveHandle → ℕ → Type 0
StaysWithin arena f [] cap = Unit {0}
StaysWithin arena f (m ∷ moves) cap = (letters_in (followed arena f m).images ≤ cap)
    × StaysWithin arena (followed arena f m) moves cap

-- some of the moves were made, one after another, each map within the cap, and there are more
pub record MakesSome (arena : Arena) (old new : GroupoidMap) (moves : List MoveHandle) (cap made :
    ℕ) : Type 0 where
  pub more : made < length moves
  pub within : StaysWithin arena old (take made moves) cap
  pub map : new ≡ followed_along arena old (take made moves)

-- after want of memory the map is as before; a map past the cap is made all the same
abbrev pub IsMoveRefusal : Arena → GroupoidMap → GroupoidMap → MoveHandle → ℕ → MapError → Type 0
IsMoveRefusal arena old new m cap Memory = new ≡ old
IsMoveRefusal arena old new m cap (CapPassed letters) = (new ≡ followed arena old m)
    × PassesCap new cap letters

-- the moves are made until one is refused
abbrev pub IsPathRefusal : Arena → GroupoidMap → GroupoidMap → List MoveHandle → ℕ → MapError
    → Type 0
IsPathRefusal arena old new moves cap Memory = (made : ℕ) × MakesSome arena old new moves cap made
IsPathRefusal arena old new moves cap (CapPassed letters) =
    (made : ℕ) × (made < length moves) × StaysWithin arena old (take made moves) cap
    × (new ≡ followed_along arena old (take (made + 1) moves)) × PassesCap new cap letters

-- memory may be wanting at any time
abbrev pub IsCompositeRefusal : GroupoidMap → GroupoidMap → ℕ → MapError → Type 0
IsCompositeRefusal f g cap Memory = Unit {0}
IsCompositeRefusal f g cap (CapPassed letters) = PassesCap (composed f g) cap letters
