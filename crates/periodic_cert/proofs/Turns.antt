-- The map of a path from the base to the base, after it was followed several times.
use Rattle.std.proofs.Common.{ℕ, List, ◌++◌, ◌≡◌, ◌+◌, refl, sym, ◌∙◌, ap, subst, map}
use Rattle.std.specs.List.{repeat}
use Rattle.tri_atlas.specs.Arena.{Arena, MoveHandle, IsArena, triangulation}
use Rattle.tri_atlas.specs.AtlasLaws.{AtlasLaws}
use Rattle.tri_atlas.specs.Maps.{path_map}
use Rattle.tri_atlas.specs.Moves.{Move}
use Rattle.tri_atlas.specs.Paths.{MovePath, IsPathIn, moves_of}
use Rattle.free_groupoid.specs.GroupoidMaps.{GroupoidMap, IsMapIn, identity_map, followed_along}
use Rattle.free_groupoid.specs.InnerAnswers.{AreInnerPaths, IsFirstMoved, IsSelfMap}
use Rattle.free_groupoid.specs.MapRefusals.{StaysWithin}
use Rattle.free_groupoid.specs.Periodic.{AreInnerWalks, IsFirstTest, IsWithin}
use Rattle.free_groupoid.specs.PeriodicLaws.{FoundLaws}
use Rattle.free_groupoid.specs.Walks.{DualWalk}

-- the path taken n times
abbrev pub turns : MovePath → ℕ → MovePath
turns word n = record { start = 0; end = 0; moves = repeat n word.moves }

-- its map, no letters past the cap on the way
pub record Turned (arena : Arena) (word : MovePath) (cap n : ℕ) (now : GroupoidMap) : Type 0 where
  pub map : now ≡ followed_along arena (identity_map arena 0) (repeat n word.moves)
  pub within : StaysWithin arena (identity_map arena 0) (repeat n word.moves) cap
  pub maps : IsMapIn arena now

module _ (atlas : AtlasLaws) (found : FoundLaws) (arena : Arena) (word : MovePath) where
  -- one turn more
  pub turned_more : (cap n : ℕ) (old new : GroupoidMap) → Turned arena word cap n old
      → new ≡ followed_along arena old word.moves → StaysWithin arena old word.moves cap → IsMapIn arena new
      → Turned arena word cap (n + 1) new
  turned_more cap n old new before is_new within maps =
      let f = identity_map arena 0 in
      let here = repeat n word.moves in
      let more : repeat (n + 1) word.moves ≡ here ++ word.moves = atlas.handles.repeats.more n word.moves in
      record {
        map = is_new ∙ ap (λ (g : GroupoidMap). followed_along arena g word.moves) before.map
            ∙ sym (found.along.along arena f here word.moves)
            ∙ ap (followed_along arena f) (sym more);
        within = subst (λ (ms : List MoveHandle). StaysWithin arena f ms cap) (sym more)
            (found.along.within arena f here word.moves cap before.within
            (subst (λ (g : GroupoidMap). StaysWithin arena g word.moves cap) before.map within));
        maps = maps;
      }

  module _ (path : IsPathIn arena word) (start : word.start ≡ 0) (end : word.end ≡ 0) (sound : IsArena arena) where
    pub in_turns : (n : ℕ) → IsPathIn arena (turns word n)
    in_turns n =
        subst (λ (t : ℕ). IsPathIn arena (record { start = t; end = t; moves = repeat n word.moves })) start
        (atlas.ways.often arena word n sound path (end ∙ sym start))

    pub turns_do : (n : ℕ) → moves_of arena (turns word n) ≡ repeat n (moves_of arena word)
    turns_do n = atlas.handles.repeated arena n word.moves

    module _ (cap n : ℕ) (now : GroupoidMap) (turned : Turned arena word cap n now) where
      pub at_base : now.target ≡ 0
      at_base =
          ap (λ (f : GroupoidMap). f.target) turned.map
          ∙ found.along.target arena (identity_map arena 0) (repeat n word.moves) 0 (in_turns n).moves_lead

      from_base : now.source ≡ 0
      from_base =
          ap (λ (f : GroupoidMap). f.source) turned.map
          ∙ found.along.source arena (identity_map arena 0) (repeat n word.moves)

      pub self_map : IsSelfMap (triangulation arena 0) now
      self_map = record {
        arena = arena;
        map = turned.maps;
        source = ap (triangulation arena) from_base;
        target = ap (triangulation arena) at_base;
      }

      pub within_turns : IsWithin (triangulation arena 0) (repeat n (moves_of arena word)) cap
      within_turns =
          subst (λ (ms : List Move). IsWithin (triangulation arena 0) ms cap) (turns_do n)
          (found.within arena (turns word n) cap sound (in_turns n) turned.within)

      pub inner_turns : (paths : List DualWalk) → AreInnerPaths (triangulation arena 0) now paths
          → AreInnerWalks (triangulation arena 0) (repeat n (moves_of arena word)) (map (λ w. w.letters) paths)
      inner_turns paths are_paths =
          subst (λ (ms : List Move). AreInnerWalks (triangulation arena 0) ms (map (λ w. w.letters) paths)) (turns_do n)
          (found.inner arena (turns word n) paths sound (in_turns n) refl
          (subst (λ (f : GroupoidMap). AreInnerPaths (triangulation arena 0) f paths) turned.map are_paths))

      pub moved_turns : (w : DualWalk) → IsFirstMoved (triangulation arena 0) now w
          → IsFirstTest (triangulation arena 0) (path_map (repeat n (moves_of arena word))) w.letters
      moved_turns w is_moved =
          subst (λ (ms : List Move). IsFirstTest (triangulation arena 0) (path_map ms) w.letters) (turns_do n)
          (found.moved arena (turns word n) w sound (in_turns n) refl
          (subst (λ (f : GroupoidMap). IsFirstMoved (triangulation arena 0) f w) turned.map is_moved))
