-- The first verdict on a word within a budget. The word's path runs from the triangulation to itself,
-- and these are its moves. The powers are tried first, in order, until one is inner or passes the cap
-- on letters; then the candidates for a fixed multicurve, in order, the first ones and then the further
-- ones; then those for a train track that a power of the word carries, in order likewise.
use Rattle.std.specs.Prelude.{◌<◌, ◌≤◌, ℕ, ℤ, List, Some, None}
use Rattle.std.specs.List.{repeat}
use Rattle.tri_atlas.specs.Moves.{Move}
use Rattle.free_groupoid.specs.Periodic.{IsInnerPath, IsWithin}
use Rattle.periodic_cert.specs.PowerAnswers.{IsOrder, IsCapped, AreAllRefuted}
use Rattle.edge_coords.specs.declared.lines.CurveLine.{CurveLine}
use Rattle.cert_text.specs.Certificates.{Certificate, periodic, reducible, pseudo_anosov, unknown}
use Rattle.cert_text.specs.Limits.{letter_cap}
use Rattle.verdict_plan.specs.AllCandidates.{AreFailedCurves, AreFailedTracks, IsFoundCurve, IsFoundTrack}
use Rattle.verdict_plan.specs.declared.budget.Budget.{Budget}

-- no power up to the limit is inner before a map passes the cap on letters
abbrev pub HasNoOrder : List (List ℤ) → List Move → ℕ → Type 0
HasNoOrder triples moves limit =
    (k : ℕ) → 0 < k → k ≤ limit → IsWithin triples (repeat k moves) letter_cap
    → ¬ IsInnerPath triples (repeat k moves)

-- each candidate for a fixed multicurve fails a test
abbrev pub HasNoMulticurve : List (List ℤ) → List Move → ℕ → Type 0
HasNoMulticurve triples moves budget =
    (log : List CurveLine) × AreFailedCurves triples moves budget log

-- with `unknown` comes the log of what was tried
abbrev pub IsVerdict : List (List ℤ) → List Move → Budget → Certificate → Type 0
IsVerdict triples moves budget (periodic order paths reasons) =
    IsOrder triples moves budget.powers letter_cap order paths reasons
IsVerdict triples moves budget (reducible coords) =
    HasNoOrder triples moves budget.powers
    × ((number : ℕ) × IsFoundCurve triples moves budget.curves number coords)
IsVerdict triples moves budget (pseudo_anosov track) =
    HasNoOrder triples moves budget.powers × HasNoMulticurve triples moves budget.curves
    × ((number : ℕ) × IsFoundTrack triples moves budget.tracks number track)
IsVerdict triples moves budget (unknown powers None curves tracks) =
    AreAllRefuted triples moves budget.powers letter_cap powers
    × AreFailedCurves triples moves budget.curves curves
    × AreFailedTracks triples moves budget.tracks tracks
IsVerdict triples moves budget (unknown powers (Some capped) curves tracks) =
    IsCapped triples moves budget.powers letter_cap capped.0 capped.1 powers
    × AreFailedCurves triples moves budget.curves curves
    × AreFailedTracks triples moves budget.tracks tracks
