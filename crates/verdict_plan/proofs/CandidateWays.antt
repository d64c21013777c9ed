-- The map of a candidate, and what its tests give.
--
-- The way of the flips backwards and the word so many times goes on along the flips. Then it leads from the
-- triangulation of the stage to itself, and does what the path of the candidate does; so its map is the candidate's,
-- and what the tests of the track find of it is found of the candidate. Where it passes the cap on the flips, that is
-- the candidate's line.
use Rattle.std.proofs.Common.{◌≡◌, ◌++◌, ℕ, ℤ, List, Result, Ok, Err, IfOk, IfErr}
use Rattle.std.proofs.Common.{sym, ◌∙◌, ap, subst}
use Rattle.std.specs.List.{repeat}
use Rattle.std.proofs.lemmas.List.{append_assoc}
use Rattle.tri_atlas.specs.Arena.{Arena, IsArena, triangulation}
use Rattle.tri_atlas.specs.AtlasLaws.{WayLaws}
use Rattle.tri_atlas.specs.Moves.{Move, back_along}
use Rattle.tri_atlas.specs.Paths.{MovePath, IsPathIn, moves_of, joined}
use Rattle.free_groupoid.specs.GroupoidMaps.{GroupoidMap, identity_map}
use Rattle.free_groupoid.specs.MapRefusals.{StaysWithin}
use Rattle.free_groupoid.specs.Periodic.{IsFirstPast, IsWithin}
use Rattle.free_groupoid.specs.PeriodicLaws.{FoundLaws, map_along}
use Rattle.train_track.specs.Branches.{TrainTrack}
use Rattle.cert_text.specs.Certificates.{track_seen}
use Rattle.cert_text.specs.Limits.{letter_cap}
use Rattle.cert_text.specs.declared.carried_track.Pa.{Pa}
use Rattle.cert_text.specs.declared.lines.TrackLine.{TrackLine}
use Rattle.cert_text.specs.declared.lines.TrackLine.TheVariants.{Cap}
use Rattle.verdict_plan.specs.TrackTests.{IsTrackLine}
use Rattle.cycle_stages.specs.KeptStages.{there, IsKept}
use Rattle.verdict_plan.specs.declared.series.Series.TheVariants.{First}
use Rattle.verdict_plan.specs.inside.Sites.{IsTrackAt, IsBackWay, IsLineWith, corners_at, path_at}
use Rattle.verdict_plan.specs.inside.Trials.{IsMapAlong, IsSoundPass}
use Rattle.verdict_plan.specs.inside.Turns.{IsOutcomeAt}
use Rattle.verdict_plan.specs.inside.Ways.{IsWayAlong, IsPast}
use Rattle.cycle_stages.specs.declared.stages.Stage.{Stage}
use Rattle.verdict_plan.specs.declared.ways.Way.{Way}
use Rattle.verdict_plan.proofs.WayMaps.{way_target}

module _ (arena : Arena) (word : MovePath) (s : Stage) (power : ℕ) (way : Way) (ways : WayLaws) (kept : IsKept arena s)
    (h : IsBackWay arena word s power way) where
  -- the way and then the flips
  abbrev pub whole : MovePath
  whole = joined way.path s.path

  does_all : moves_of arena whole ≡ path_at arena word s power
  does_all =
      let turns : List Move = repeat power (moves_of arena word) in
      ways.join arena way.path s.path
      ∙ ap (λ (ms : List Move). ms ++ moves_of arena s.path) h.moves
      ∙ append_assoc (back_along (moves_of arena s.path)) turns (moves_of arena s.path)
      ∙ ap (λ (fs : List Move). back_along fs ++ (turns ++ fs)) kept.moves

  module _ (track : TrainTrack) (at : IsTrackAt arena s track) where
    at_track : whole.start ≡ track.tri
    at_track = h.start ∙ sym at.tri

    pub candidate_map : FoundLaws → IsArena arena → (new : Way) → IsWayAlong arena whole new
        → IsMapAlong arena track whole new.map
    candidate_map found sound new along =
        let path : IsPathIn arena whole = subst (IsPathIn arena) along.is along.kept.path in
        let end : whole.end ≡ track.tri = kept.end ∙ sym at.tri in
        let is : new.map ≡ map_along arena whole = along.kept.map ∙ ap (map_along arena) along.is in
        let stays : StaysWithin arena (identity_map arena whole.start) whole.moves letter_cap =
        subst (λ (p : MovePath). StaysWithin arena (identity_map arena p.start) p.moves letter_cap) along.is
        along.kept.within in record {
          along = record { on = at.here; leads = path; start = at_track; end = end };
          map = record {
            here = at.here;
            maps = along.kept.maps;
            source =
                ap (λ (f : GroupoidMap). f.source) is
                ∙ found.along.source arena (identity_map arena whole.start) whole.moves ∙ at_track;
            target = way_target found arena new along.kept ∙ ap (λ (p : MovePath). p.end) along.is ∙ end;
          };
          is = is;
          within_cap = subst
              (λ (t : ℕ). IsWithin (triangulation arena t) (moves_of arena whole) letter_cap) at_track
              (found.within arena whole letter_cap sound path stays);
        }

    -- what is found of the map is found of the candidate
    found_of : (P : List (List ℤ) → List Move → List ℤ → Type 0)
        → P (triangulation arena track.tri) (moves_of arena whole) track.left_out
        → P (there arena s) (path_at arena word s power) (corners_at arena s)
    found_of P g =
        subst (P (there arena s) (path_at arena word s power)) at.corners
        (subst (λ (ms : List Move). P (there arena s) ms track.left_out) does_all
        (subst (λ (t : ℕ). P (triangulation arena t) (moves_of arena whole) track.left_out) at.tri g))

    pub outcome : {E : Type 0} (psi : GroupoidMap) → IsMapAlong arena track whole psi
        → (r : Result (Result Pa TrackLine) E)
        → IfOk r (λ a. IfOk a (λ p. (path : MovePath) → IsMapAlong arena track path psi
        → IsSoundPass First (triangulation arena track.tri) (moves_of arena path) track.left_out (track_seen p)))
        → IfOk r (λ a. IfOk a (λ p. p.power ≡ power))
        → IfOk r (λ a. IfOk a (λ p. p.flips.items ≡ s.edges.items))
        → IfOk r (λ a. IfErr a (λ line. (path : MovePath) → IsMapAlong arena track path psi
        → IsTrackLine First (triangulation arena track.tri) (moves_of arena path) track.left_out line))
        → IfOk r (IsOutcomeAt arena word s power)
    outcome psi map (Ok (Ok pa)) passes powers flips line = record {
      sound = found_of (λ ts ms out. IsSoundPass First ts ms out (track_seen pa)) (passes whole map);
      has_power = powers;
      has_flips = flips;
    }
    outcome psi map (Ok (Err l)) passes powers flips line =
        found_of (λ ts ms out. IsTrackLine First ts ms out l) (line whole map)
    outcome psi map (Err e) passes powers flips line = tt

    -- the map passes the cap on the flips
    pub line_whole : (letters : ℕ) → IsPast arena whole letters → IsLineWith arena word s power (Cap letters)
    line_whole letters (made, past) =
        found_of (λ ts ms out. IsTrackLine First ts ms out (Cap letters)) (
          at.here.on.filling,
          (
            made,
            subst
                (λ (t : ℕ). IsFirstPast (triangulation arena t) (moves_of arena whole) letter_cap made letters)
                at_track past,
          ),
        )
