-- The first move after which the map has too many letters, in one turn more.
--
-- The moves of all turns are those of the earlier ones, and then those of the path once more. Where the map passes the
-- cap so many moves into the last turn, it does so behind the earlier turns and as many moves.
use Rattle.std.proofs.Common.{ℕ, List, ◌++◌, ◌≡◌, ◌+◌, sym, ◌∙◌, ap, subst, length, take, arith}
use Rattle.std.specs.List.{repeat}
use Rattle.std.proofs.Math.Seq.{take-append-add}
use Rattle.std.proofs.lemmas.List.{length-append}
use Rattle.tri_atlas.specs.Arena.{Arena, MoveHandle, IsArena, triangulation}
use Rattle.tri_atlas.specs.AtlasLaws.{AtlasLaws}
use Rattle.tri_atlas.specs.Moves.{Move}
use Rattle.tri_atlas.specs.Paths.{MovePath, IsPathIn, moves_of}
use Rattle.free_groupoid.specs.GroupoidMaps.{GroupoidMap, identity_map, followed_along}
use Rattle.free_groupoid.specs.MapRefusals.{StaysWithin, IsPathRefusal}
use Rattle.free_groupoid.specs.Periodic.{IsFirstPast}
use Rattle.free_groupoid.specs.PeriodicLaws.{FoundLaws}
use Rattle.free_groupoid.specs.declared.map.MapError.TheVariants.{CapPassed}
use Rattle.periodic_cert.proofs.Turns.{Turned, turns, in_turns, turns_do}

module _ (atlas : AtlasLaws) (found : FoundLaws) (arena : Arena) (word : MovePath) (path : IsPathIn arena word)
    (start : word.start ≡ 0) (end : word.end ≡ 0) (sound : IsArena arena) (cap n : ℕ) (old new : GroupoidMap)
    (turned : Turned arena word cap n old) where
  abbrev begin : GroupoidMap
  begin = identity_map arena 0

  abbrev before : List MoveHandle
  before = repeat n word.moves

  map_there : (made : ℕ) → new ≡ followed_along arena old (take made word.moves)
      → new ≡ followed_along arena begin (take (length before + made) (before ++ word.moves))
  map_there made is_new =
      is_new ∙ ap (λ (f : GroupoidMap). followed_along arena f (take made word.moves)) turned.map
      ∙ sym (found.along.along arena begin before (take made word.moves))
      ∙ ap (followed_along arena begin) (sym (take-append-add before word.moves made))

  stays_there : (made : ℕ) → StaysWithin arena old (take made word.moves) cap
      → StaysWithin arena begin (take (length before + made) (before ++ word.moves)) cap
  stays_there made stays =
      subst (λ (ms : List MoveHandle). StaysWithin arena begin ms cap) (sym (take-append-add before word.moves made))
      (found.along.within arena begin before (take made word.moves) cap turned.within
      (subst (λ (f : GroupoidMap). StaysWithin arena f (take made word.moves) cap) turned.map stays))

  refused_there : (letters : ℕ) → IsPathRefusal arena old new word.moves cap (CapPassed letters)
      → IsPathRefusal arena begin new (before ++ word.moves) cap (CapPassed letters)
  refused_there letters (made, more, stays, is_new, past) =
      let one_more : length before + (made + 1) ≡ length before + made + 1 = omega arith in (
        length before + made,
        omega (arith, more, length-append before word.moves),
        stays_there made stays,
        subst (λ (i : ℕ). new ≡ followed_along arena begin (take i (before ++ word.moves))) one_more
            (map_there (made + 1) is_new),
        past,
      )

  -- the turn that passes the cap
  pub passed : (letters : ℕ) → IsPathRefusal arena old new word.moves cap (CapPassed letters)
      → (made : ℕ) × IsFirstPast (triangulation arena 0) (repeat (n + 1) (moves_of arena word)) cap made letters
  passed letters refusal =
      subst (λ (ms : List Move). (made : ℕ) × IsFirstPast (triangulation arena 0) ms cap made letters)
      (turns_do atlas found arena word path start end sound (n + 1))
      (found.past arena (turns word (n + 1)) new cap letters sound (in_turns atlas found arena word path start end sound (n + 1))
      (subst (λ (ms : List MoveHandle). IsPathRefusal arena begin new ms cap (CapPassed letters))
      (sym (atlas.handles.repeats.more n word.moves)) (refused_there letters refusal)))
