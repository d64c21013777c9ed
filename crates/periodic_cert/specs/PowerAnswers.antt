-- What the search for an inner power of a path answers: the powers are tried in order, 1, 2, ..
use Rattle.std.specs.Prelude.{◌≡◌, ◌<◌, ◌≤◌, ◌+◌, ℕ, ℤ, List, [], length, map, slice_index_or}
use Rattle.std.specs.List.{repeat}
use Rattle.tri_atlas.specs.Maps.{path_map}
use Rattle.tri_atlas.specs.Moves.{Move}
use Rattle.free_groupoid.specs.Periodic.{AreInnerWalks, IsFirstPast, IsFirstTest, IsWithin}
use Rattle.free_groupoid.specs.Walks.{DualWalk, walk_at, walk_of_letters}
use Rattle.periodic_cert.specs.declared.power_search.PowerAnswer.{PowerAnswer}
use Rattle.periodic_cert.specs.declared.power_search.PowerAnswer.TheVariants.{Order, Capped, AllRefuted}

-- ---- by the letters of walks

-- the first powers, one for each walk, are refuted: each moves its walk, the first of the test
-- walks that it moves
abbrev pub AreReasons : List (List ℤ) → List Move → List (List ℤ) → Type 0
AreReasons triples moves reasons =
    (j : ℕ) → j < length reasons
    → IsFirstTest triples (path_map (repeat (j + 1) moves)) (slice_index_or reasons j [])

-- power k is the first that is inner, by these walks, and no power up to it passes the cap
pub record IsOrder (triples : List (List ℤ)) (moves : List Move) (limit cap k : ℕ)
    (paths reasons : List (List ℤ)) : Type 0 where
  pub within_limit : k ≤ limit
  pub one_reason_each : length reasons + 1 ≡ k
  pub refuted : AreReasons triples moves reasons
  pub within_cap : IsWithin triples (repeat k moves) cap
  pub inner : AreInnerWalks triples (repeat k moves) paths

-- this power is the first that passes the cap, with so many letters after the first move that does,
-- and no power before it is inner
pub record IsCapped (triples : List (List ℤ)) (moves : List Move) (limit cap power letters : ℕ)
    (reasons : List (List ℤ)) : Type 0 where
  pub within_limit : power ≤ limit
  pub one_reason_each : length reasons + 1 ≡ power
  pub refuted : AreReasons triples moves reasons
  pub before : IsWithin triples (repeat (length reasons) moves) cap
  pub made : ℕ
  pub past : IsFirstPast triples (repeat power moves) cap made letters

-- all powers up to the limit are refuted, and none passes the cap
pub record AreAllRefuted (triples : List (List ℤ)) (moves : List Move) (limit cap : ℕ)
    (reasons : List (List ℤ)) : Type 0 where
  pub one_reason_each : length reasons ≡ limit
  pub refuted : AreReasons triples moves reasons
  pub within_cap : IsWithin triples (repeat limit moves) cap

-- ---- by walks

-- the letters of walks
abbrev pub letters_of_walks : List DualWalk → List (List ℤ)
letters_of_walks walks = map (λ w. w.letters) walks

-- path t starts at triangle t
abbrev pub StartInOrder : List DualWalk → Type 0
StartInOrder paths = (t : ℕ) → t < length paths → (walk_at paths t).start ≡ t

-- each walk starts at the triangle of its first letter
abbrev pub StartWithLetters : List (List ℤ) → List DualWalk → Type 0
StartWithLetters triples walks = walks ≡ map (walk_of_letters triples) (letters_of_walks walks)

-- the answer of the search in the powers up to the limit, with a cap on the letters of maps
abbrev pub IsPowerAnswer : List (List ℤ) → List Move → ℕ → ℕ → PowerAnswer → Type 0
IsPowerAnswer triples moves limit cap (Order k paths reasons) =
    IsOrder triples moves limit cap k (letters_of_walks paths.items)
    (letters_of_walks reasons.items)
    × StartInOrder paths.items × StartWithLetters triples reasons.items
IsPowerAnswer triples moves limit cap (Capped power letters reasons) =
    IsCapped triples moves limit cap power letters (letters_of_walks reasons.items)
    × StartWithLetters triples reasons.items
IsPowerAnswer triples moves limit cap (AllRefuted reasons) =
    AreAllRefuted triples moves limit cap (letters_of_walks reasons.items)
    × StartWithLetters triples reasons.items
