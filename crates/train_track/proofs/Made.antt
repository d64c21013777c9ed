-- The parts of a track, put together.
use Rattle.std.proofs.Common.{ℕ, ℤ, List, ◌≡◌, sym, subst, map}
use Rattle.std.specs.List.{All}
use Rattle.tri_atlas.specs.Arena.{Arena, triangulation, IsTriIn}
use Rattle.free_groupoid.specs.Walks.{DualWalk, IsWalkOn, walk_of_letters}
use Rattle.train_track.specs.Tracks.{ArePlaced, IsSingleInTriangles, IsOpenAtVertices, switches_of}
use Rattle.train_track.specs.Branches.{IsBranchList, IsTrackOn, IsTrackIn, words_of}
use Rattle.train_track.specs.inside.Growing.{branch_words}

track_on : (t : ℕ) (ts : List (List ℤ)) (out switches : List ℤ) (branches : List DualWalk) → ArePlaced ts out
    → IsSingleInTriangles ts out
    → IsOpenAtVertices ts out → switches ≡ switches_of ts out → branches ≡ map (walk_of_letters ts) (branch_words ts out)
    → All (IsWalkOn ts) (map (walk_of_letters ts) (branch_words ts out))
    → IsBranchList ts out (words_of (map (walk_of_letters ts) (branch_words ts out)))
    → IsTrackOn ts (record { tri = t; left_out = out; switches = switches; branches = branches })
track_on t ts out switches branches placed single opened are_switches are_branches walks list = record {
  labels = placed;
  filling = record { single = single; opened = opened };
  switches = are_switches;
  walks = subst (All (IsWalkOn ts)) (sym are_branches) walks;
  branches = subst (λ (bs : List DualWalk). IsBranchList ts out (words_of bs)) (sym are_branches) list;
}

pub track_in : (arena : Arena) (t : ℕ) (ts : List (List ℤ)) (out kept switches : List ℤ) (branches : List DualWalk)
    → IsTriIn arena t
    → ts ≡ triangulation arena t → out ≡ kept → ArePlaced (triangulation arena t) kept → IsSingleInTriangles ts out
    → IsOpenAtVertices ts out → switches ≡ switches_of ts out → branches ≡ map (walk_of_letters ts) (branch_words ts out)
    → All (IsWalkOn ts) (map (walk_of_letters ts) (branch_words ts out))
    → IsBranchList ts out (words_of (map (walk_of_letters ts) (branch_words ts out)))
    → IsTrackIn arena (record { tri = t; left_out = kept; switches = switches; branches = branches })
track_in arena t ts out kept switches branches inside is_ts is_out placed single opened are_switches are_branches walks
    list = record {
      tri = inside;
      on =
          subst (λ (xs : List ℤ). IsTrackOn (triangulation arena t)
          (record { tri = t; left_out = xs; switches = switches; branches = branches })) is_out
          (subst (λ (s : List (List ℤ)). IsTrackOn s
          (record { tri = t; left_out = out; switches = switches; branches = branches })) is_ts
          (track_on t ts out switches branches
          (subst (λ (s : List (List ℤ)). ArePlaced s out) (sym is_ts)
          (subst (ArePlaced (triangulation arena t)) (sym is_out) placed))
          single opened are_switches are_branches walks list));
    }
