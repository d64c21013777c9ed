-- The map of a path, followed along another path from where it ends.
--
-- The map of p and then q is the map of p followed along the moves of q, and it stays within the cap after each of the
-- moves where the map of p does and the rest does too. Let the first move of q after which it passes the cap come
-- behind i of them, and let p have n moves. Then behind n + i moves of p and then q comes the first after which the
-- map passes the cap, and the layer below knows what that says of the moves.
use Rattle.std.proofs.Common.{ℕ, List, ◌≡◌, ◌+◌, refl, sym, ◌∙◌, ap, subst}
use Rattle.std.proofs.Common.{length, take, arith}
use Rattle.std.proofs.lemmas.List.{length-append}
use Rattle.std.proofs.Math.Seq.{take-append-add}
use Rattle.tri_atlas.specs.Arena.{Arena, MoveHandle, IsArena}
use Rattle.tri_atlas.specs.Paths.{MovePath, IsPathIn, joined, empty_path}
use Rattle.free_groupoid.specs.GroupoidMaps.{GroupoidMap, IsMapIn, identity_map, followed_along}
use Rattle.free_groupoid.specs.GroupoidMaps.{composed}
use Rattle.free_groupoid.specs.GroupoidLaws.{ActionLaws}
use Rattle.free_groupoid.specs.MapRefusals.{StaysWithin, IsPathRefusal}
use Rattle.free_groupoid.specs.PeriodicLaws.{FoundLaws, map_along}
use Rattle.free_groupoid.specs.declared.map.MapError.TheVariants.{CapPassed}
use Rattle.cert_text.specs.Limits.{letter_cap}
use Rattle.verdict_plan.specs.inside.Ways.{IsWay, IsWayAlong, IsPast}
use Rattle.verdict_plan.specs.declared.ways.Way.{Way}

-- where the map of a way ends
pub way_target : FoundLaws → (arena : Arena) (way : Way) → IsWay arena way → way.map.target ≡ way.path.end
way_target found arena way h =
    ap (λ (f : GroupoidMap). f.target) h.map
    ∙ found.along.target arena (identity_map arena way.path.start) way.path.moves way.path.end h.path.moves_lead

-- ---- on along a path

module _ (found : FoundLaws) (arena : Arena) (old : Way) (p : MovePath) (way : IsWay arena old) where
  abbrev start : GroupoidMap
  start = identity_map arena old.path.start

  pub way_on : (new : Way) → new.path ≡ joined old.path p → IsPathIn arena new.path → IsMapIn arena new.map
      → new.map ≡ followed_along arena old.map p.moves → StaysWithin arena old.map p.moves letter_cap
      → IsWayAlong arena (joined old.path p) new
  way_on new pushed path maps is_new stays = record {
    kept = record {
      path = path;
      maps = maps;
      map =
          is_new ∙ ap (λ (f : GroupoidMap). followed_along arena f p.moves) way.map
          ∙ sym (found.along.along arena start old.path.moves p.moves) ∙ sym (ap (map_along arena) pushed);
      within = subst
          (λ (q : MovePath). StaysWithin arena (identity_map arena q.start) q.moves letter_cap) (sym pushed)
          (found.along.within arena start old.path.moves p.moves letter_cap way.within
          (subst (λ (f : GroupoidMap). StaysWithin arena f p.moves letter_cap) way.map stays));
    };
    is = pushed;
  }

  -- the map after the first moves
  map_there : (new : GroupoidMap) (made : ℕ) → new ≡ followed_along arena old.map (take made p.moves)
      → new ≡ followed_along arena start (take (length old.path.moves + made) (joined old.path p).moves)
  map_there new made is_new =
      is_new ∙ ap (λ (f : GroupoidMap). followed_along arena f (take made p.moves)) way.map
      ∙ sym (found.along.along arena start old.path.moves (take made p.moves))
      ∙ ap (followed_along arena start) (sym (take-append-add old.path.moves p.moves made))

  stays_there : (made : ℕ) → StaysWithin arena old.map (take made p.moves) letter_cap
      → StaysWithin arena start (take (length old.path.moves + made) (joined old.path p).moves) letter_cap
  stays_there made stays =
      subst (λ (ms : List MoveHandle). StaysWithin arena start ms letter_cap)
      (sym (take-append-add old.path.moves p.moves made))
      (found.along.within arena start old.path.moves (take made p.moves) letter_cap way.within
      (subst (λ (f : GroupoidMap). StaysWithin arena f (take made p.moves) letter_cap) way.map stays))

  refused_there : (new : GroupoidMap) (letters : ℕ)
      → IsPathRefusal arena old.map new p.moves letter_cap (CapPassed letters)
      → IsPathRefusal arena start new (joined old.path p).moves letter_cap (CapPassed letters)
  refused_there new letters (made, more, stays, is_new, past) =
      let n : ℕ = length old.path.moves in
      let one_more : n + (made + 1) ≡ n + made + 1 = omega arith in (
        n + made,
        omega (arith, more, length-append old.path.moves p.moves),
        stays_there made stays,
        subst (λ (i : ℕ). new ≡ followed_along arena start (take i (joined old.path p).moves)) one_more
            (map_there new (made + 1) is_new),
        past,
      )

  -- it passes the cap
  pub way_past : IsArena arena → IsPathIn arena (joined old.path p)
      → (new : GroupoidMap) (letters : ℕ)
      → IsPathRefusal arena old.map new p.moves letter_cap (CapPassed letters)
      → IsPast arena (joined old.path p) letters
  way_past sound path new letters refusal =
      found.past arena (joined old.path p) new letter_cap letters sound path (refused_there new letters refusal)

-- ---- a copy

-- the map, and then the one that moves nothing
module _ (arena : Arena) (way new : Way) (h : IsWay arena way) where
  pub way_copied : ActionLaws → IsArena arena → new.path ≡ joined (empty_path way.path.start) way.path
      → IsMapIn arena new.map → new.map ≡ composed way.map (identity_map arena way.map.target)
      → IsWayAlong arena way.path new
  way_copied action sound pushed maps is_new =
      let same : new.map ≡ way.map =
      is_new ∙ action.path_behind arena way.map (empty_path way.map.target) sound h.maps
      (record { start_in = h.maps.target_in; end_in = h.maps.target_in; moves_lead = refl }) refl in record {
        kept = record {
          path = subst (IsPathIn arena) (sym pushed) h.path;
          maps = maps;
          map = same ∙ h.map ∙ sym (ap (map_along arena) pushed);
          within = subst
              (λ (q : MovePath). StaysWithin arena (identity_map arena q.start) q.moves letter_cap) (sym pushed)
              h.within;
        };
        is = pushed;
      }
