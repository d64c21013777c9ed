-- The map of a path, and the first move after which it has too many letters.
use Rattle.std.proofs.Common.{◌≡◌, ℕ, map, sym, ◌∙◌, ap, subst}
use Rattle.tri_atlas.specs.Arena.{Arena, IsArena, triangulation}
use Rattle.tri_atlas.specs.Paths.{MovePath, Lead, moves_of}
use Rattle.free_groupoid.specs.GroupoidMaps.{GroupoidMap, IsMapIn, identity_map, followed_along}
use Rattle.free_groupoid.specs.MapRefusals.{StaysWithin, IsPathRefusal}
use Rattle.free_groupoid.specs.Periodic.{IsFirstPast, IsWithin}
use Rattle.free_groupoid.specs.PeriodicLaws.{FoundLaws}
use Rattle.free_groupoid.specs.declared.map.MapError.TheVariants.{CapPassed}
use Rattle.train_track.specs.Branches.{TrainTrack}
use Rattle.cert_text.specs.Limits.{letter_cap}
use Rattle.cert_text.specs.declared.lines.TrackLine.TheVariants.{Cap}
use Rattle.verdict_plan.specs.TrackTests.{IsTrackLine}
use Rattle.verdict_plan.specs.declared.series.Series.{Series}
use Rattle.verdict_plan.specs.inside.Trials.{IsMapAlong, IsPathOnTrack}

module _ (arena : Arena) (found : FoundLaws) (sound : IsArena arena) (track : TrainTrack) (path : MovePath)
    (h : IsPathOnTrack arena track path) (new : GroupoidMap) where
  pub told_cap : (letters : ℕ)
      → IsPathRefusal arena (identity_map arena track.tri) new path.moves letter_cap (CapPassed letters)
      → (series : Series)
      → IsTrackLine series (triangulation arena track.tri) (moves_of arena path) track.left_out (Cap letters)
  told_cap letters refusal series = (
    h.on.on.filling,
    subst (λ (t : ℕ). (made : ℕ) × IsFirstPast (triangulation arena t) (moves_of arena path) letter_cap made letters)
        h.start
        (found.past arena path new letter_cap letters sound h.leads
        (subst (λ (t : ℕ). IsPathRefusal arena (identity_map arena t) new path.moves letter_cap (CapPassed letters))
        (sym h.start) refusal)),
  )

  pub told_map : new ≡ followed_along arena (identity_map arena track.tri) path.moves
      → StaysWithin arena (identity_map arena track.tri) path.moves letter_cap → IsMapIn arena new
      → IsMapAlong arena track path new
  told_map is stays maps = record {
    along = h;
    map = record {
      here = h.on;
      maps = maps;
      source =
          ap (λ (f : GroupoidMap). f.source) is ∙ found.along.source arena (identity_map arena track.tri) path.moves;
      target =
          ap (λ (f : GroupoidMap). f.target) is
          ∙ found.along.target arena (identity_map arena track.tri) path.moves path.end
          (subst (λ (t : ℕ). Lead arena t path.moves path.end) h.start h.leads.moves_lead)
          ∙ h.end;
    };
    is = is ∙ ap (λ (t : ℕ). followed_along arena (identity_map arena t) path.moves) (sym h.start);
    within_cap =
        subst (λ (t : ℕ). IsWithin (triangulation arena t) (moves_of arena path) letter_cap) h.start
        (found.within arena path letter_cap sound h.leads
        (subst (λ (t : ℕ). StaysWithin arena (identity_map arena t) path.moves letter_cap) (sym h.start) stays));
  }
