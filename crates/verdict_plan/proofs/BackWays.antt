-- The way of the flips backwards and the word so many times.
--
-- The path of the candidate with power p is this way with m ≤ p times the word, then p - m times the word, and the
-- flips. So where the way passes the cap, all candidates with p ≥ m have the same line: the letters after the same
-- first move.
use Rattle.std.proofs.Common.{◌≡◌, ◌<◌, ◌≤◌, ◌+◌, ◌-◌, ◌++◌, ℕ, ℤ, List, length, take}
use Rattle.std.proofs.Common.{sym, ◌∙◌, ap, subst, arith}
use Rattle.std.specs.List.{repeat}
use Rattle.std.proofs.lemmas.List.{append_assoc, append-nil, length-append, take-append-le}
use Rattle.tri_atlas.specs.Arena.{Arena, IsArena, triangulation}
use Rattle.tri_atlas.specs.AtlasLaws.{WayLaws}
use Rattle.tri_atlas.specs.Maps.{letters_of, path_map}
use Rattle.tri_atlas.specs.Moves.{Move, back_along}
use Rattle.tri_atlas.specs.Paths.{MovePath, moves_of, joined, inverse_path, empty_path}
use Rattle.free_groupoid.specs.MapRefusals.{told}
use Rattle.free_groupoid.specs.Periodic.{IsFirstPast, IsWithin}
use Rattle.surface_lib.specs.Surfaces.{IsLoop}
use Rattle.train_track.specs.Branches.{TrainTrack}
use Rattle.train_track.specs.Tracks.{IsFilling}
use Rattle.cert_text.specs.Limits.{letter_cap}
use Rattle.cert_text.specs.declared.lines.TrackLine.TheVariants.{Cap}
use Rattle.cycle_stages.specs.KeptStages.{there, IsKept}
use Rattle.verdict_plan.specs.inside.Sites.{IsTrackAt, IsBackWay, IsLineWith, corners_at, path_at}
use Rattle.verdict_plan.specs.inside.Ways.{IsWayAlong, IsPast}
use Rattle.cycle_stages.specs.declared.stages.Stage.{Stage}
use Rattle.verdict_plan.specs.declared.ways.Way.{Way}

-- ---- the first move past the cap

pub past_on : (triples : List (List ℤ)) (moves more : List Move) (cap made letters : ℕ)
    → IsFirstPast triples moves cap made letters → IsFirstPast triples (moves ++ more) cap made letters
past_on triples moves more cap made letters h =
    let inside : made < length moves = h.more_moves in
    let first : take made (moves ++ more) ≡ take made moves = take-append-le made moves more (omega arith) in
    let next : take (made + 1) (moves ++ more) ≡ take (made + 1) moves =
    take-append-le (made + 1) moves more (omega arith) in record {
      more_moves = omega (arith, length-append moves more);
      before = subst (λ (ms : List Move). IsWithin triples ms cap) (sym first) h.before;
      past = subst (λ (ms : List Move). cap < letters_of triples (path_map ms)) (sym next) h.past;
      number = h.number ∙ ap (λ (ms : List Move). told (letters_of triples (path_map ms))) (sym next);
    }

-- ---- the way

module _ (arena : Arena) (word : MovePath) (s : Stage) (times : ℕ) where
  -- what the way does
  abbrev pub back_moves : List Move
  back_moves = back_along (moves_of arena s.path) ++ repeat times (moves_of arena word)

  -- what the path of a candidate does behind it
  pub path_from : WayLaws → IsKept arena s → (power : ℕ) → times ≤ power
      → path_at arena word s power
      ≡ back_moves ++ (repeat (power - times) (moves_of arena word) ++ moves_of arena s.path)
  path_from ways kept power enough =
      let back : List Move = back_along (moves_of arena s.path) in
      let turn : List Move = moves_of arena word in
      let flips : List Move = moves_of arena s.path in
      let parts : times + (power - times) ≡ power = omega arith in
      ap (λ (fs : List Move). back_along fs ++ (repeat power turn ++ fs)) (sym kept.moves)
      ∙ ap (λ (n : ℕ). back ++ (repeat n turn ++ flips)) (sym parts)
      ∙ ap (λ (ms : List Move). back ++ (ms ++ flips)) (ways.repeats.join times (power - times) turn)
      ∙ ap (λ (ms : List Move). back ++ ms) (append_assoc (repeat times turn) (repeat (power - times) turn) flips)
      ∙ sym (append_assoc back (repeat times turn) (repeat (power - times) turn ++ flips))

  -- a path that does this and passes the cap
  pub line_past : WayLaws → IsKept arena s → (track : TrainTrack) → IsTrackAt arena s track → (path : MovePath)
      (letters : ℕ)
      → path.start ≡ s.coords.tri → moves_of arena path ≡ back_moves → IsPast arena path letters
      → (power : ℕ) → times ≤ power → IsLineWith arena word s power (Cap letters)
  line_past ways kept track at path letters start does (made, past) power enough =
      let filling : IsFilling (there arena s) (corners_at arena s) =
      subst (IsFilling (there arena s)) at.corners
      (subst (λ (t : ℕ). IsFilling (triangulation arena t) track.left_out) at.tri at.here.on.filling) in
      let here : IsFirstPast (there arena s) back_moves letter_cap made letters =
      subst (λ (ms : List Move). IsFirstPast (there arena s) ms letter_cap made letters) does
      (subst (λ (t : ℕ). IsFirstPast (triangulation arena t) (moves_of arena path) letter_cap made letters) start
      past) in (
        filling,
        (
          made,
          subst (λ (ms : List Move). IsFirstPast (there arena s) ms letter_cap made letters)
              (sym (path_from ways kept power enough))
              (past_on (there arena s) back_moves
              (repeat (power - times) (moves_of arena word) ++ moves_of arena s.path) letter_cap made letters here),
        ),
      )

-- ---- the word once more

module _ (arena : Arena) (word : MovePath) (s : Stage) (times : ℕ) (old : Way) (ways : WayLaws)
    (h : IsBackWay arena word s times old) where
  does_once_more : moves_of arena (joined old.path word) ≡ back_moves arena word s (times + 1)
  does_once_more =
      let back : List Move = back_along (moves_of arena s.path) in
      let turn : List Move = moves_of arena word in
      ways.join arena old.path word
      ∙ ap (λ (ms : List Move). ms ++ turn) h.moves
      ∙ append_assoc back (repeat times turn) turn
      ∙ ap (λ (ms : List Move). back ++ ms) (sym (ways.repeats.more times turn))

  pub way_once_more : IsLoop arena word → (new : Way) → IsWayAlong arena (joined old.path word) new
      → IsBackWay arena word s (times + 1) new
  way_once_more loop new along = record {
    kept = along.kept;
    start = ap (λ (p : MovePath). p.start) along.is ∙ h.start;
    end = ap (λ (p : MovePath). p.end) along.is ∙ loop.end;
    moves = ap (moves_of arena) along.is ∙ does_once_more;
  }

  pub line_once_more : IsKept arena s → (track : TrainTrack) → IsTrackAt arena s track → (letters : ℕ)
      → IsPast arena (joined old.path word) letters → (power : ℕ) → times + 1 ≤ power
      → IsLineWith arena word s power (Cap letters)
  line_once_more kept track at letters past =
      line_past arena word s (times + 1) ways kept track at (joined old.path word) letters h.start does_once_more past

-- ---- the flips backwards

module _ (arena : Arena) (word : MovePath) (s : Stage) (t : ℕ) (start : t ≡ s.path.end) (ways : WayLaws)
    (sound : IsArena arena) (kept : IsKept arena s) (still : MovePath) (is : still ≡ empty_path t) where
  does_back : moves_of arena (joined still (inverse_path s.path)) ≡ back_moves arena word s 0
  does_back =
      ap (λ (p : MovePath). moves_of arena (joined p (inverse_path s.path))) is
      ∙ ways.back arena s.path sound kept.path
      ∙ sym (append-nil (back_along (moves_of arena s.path)))

  starts_there : still.start ≡ s.coords.tri
  starts_there = ap (λ (p : MovePath). p.start) is ∙ start ∙ kept.end

  pub way_first : (new : Way) → IsWayAlong arena (joined still (inverse_path s.path)) new
      → IsBackWay arena word s 0 new
  way_first new along = record {
    kept = along.kept;
    start = ap (λ (p : MovePath). p.start) along.is ∙ starts_there;
    end = ap (λ (p : MovePath). p.end) along.is ∙ kept.start;
    moves = ap (moves_of arena) along.is ∙ does_back;
  }

  pub line_first : (track : TrainTrack) → IsTrackAt arena s track → (letters : ℕ)
      → IsPast arena (joined still (inverse_path s.path)) letters → (power : ℕ) → 0 ≤ power
      → IsLineWith arena word s power (Cap letters)
  line_first track at letters past =
      line_past arena word s 0 ways kept track at (joined still (inverse_path s.path)) letters starts_there does_back past
