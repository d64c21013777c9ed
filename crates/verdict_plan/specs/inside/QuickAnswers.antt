-- What a search that leaves lines out tells.
use Rattle.std.specs.Prelude.{◌≡◌, ◌++◌, ℕ, ℤ, List, length}
use Rattle.tri_atlas.specs.Moves.{Move}
use Rattle.cert_text.specs.Certificates.{track_seen}
use Rattle.cert_text.specs.declared.lines.TrackLine.{TrackLine}
use Rattle.verdict_plan.specs.AllCandidates.{AreFailedTracks, IsFoundTrack}
use Rattle.verdict_plan.specs.FirstTracks.{AreNoTracks, IsFirstTrack}
use Rattle.verdict_plan.specs.declared.track_search.Tracks.{Tracks}
use Rattle.verdict_plan.specs.declared.track_search.Tracks.TheVariants.{Found, None}

-- so many candidates fail; if the log has a line for each, they are its lines
pub record AreFailing (triples : List (List ℤ)) (moves : List Move) (budget count : ℕ)
    (log : List TrackLine) : Type 0 where
  pub lines : List TrackLine
  pub are : AreNoTracks triples moves budget lines
  pub many : length lines ≡ count
  pub whole : length log ≡ count → log ≡ lines

-- among the first candidates, so many within the budget
abbrev pub IsQuickAnswer : List (List ℤ) → List Move → ℕ → ℕ → Tracks → Type 0
IsQuickAnswer triples moves budget count (Found number pa) =
    IsFirstTrack triples moves budget number (track_seen pa)
IsQuickAnswer triples moves budget count (None log) =
    AreFailing triples moves budget count log.items

-- one line for each
abbrev pub HasLog : ℕ → Tracks → Type 0
HasLog count (Found number pa) = Unit {0}
HasLog count (None log) = length log.items ≡ count

-- among the further candidates, behind the first ones: these lines go on with theirs
abbrev pub IsAnswerBehind : List (List ℤ) → List Move → ℕ → Tracks → Type 0
IsAnswerBehind triples moves budget (Found number pa) =
    IsFoundTrack triples moves budget number (track_seen pa)
IsAnswerBehind triples moves budget (None further) =
    (first : List TrackLine) → AreNoTracks triples moves budget first
    → AreFailedTracks triples moves budget (first ++ further.items)
