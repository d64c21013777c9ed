-- The sizes of a word, counted in 128 bits, are right where they are looked at.
--
-- The counts stop at 2^128 - 1. The names of a text with few dots are fewer, so their count is right, and with it the
-- first test. Where it passes there are at most 4,096 names, so at most 2^43 moves and flips, and these counts are
-- right too. So the tests of the counts give what the tests of the true sizes give: a refusal with its number, or the
-- path.
use Rattle.std.proofs.Common.{◌≡◌, ◌≤◌, ◌<◌, ◌+◌, ◌*◌, ◌^◌, ℕ, Bool, true, false, List, length, None, Result, Ok, Err}
use Rattle.std.proofs.Common.{refl, ap, ◌∙◌, sym, subst, arith, All}
use Rattle.std.proofs.lemmas.Grind.{common_steps}
use Rattle.std.specs.Prelude.{nat_lt, if◌then◌else◌, String}
use Rattle.std.specs.declared.alloc.Global.{Global}
use Rattle.tri_atlas.specs.Arena.{Arena, MoveHandle, back}
use Rattle.tri_atlas.specs.Paths.{MovePath}
use Rattle.surface_lib.specs.Pieces.{dots}
use Rattle.surface_lib.specs.Words.{Names, moves_named, test_text, value_of_text, moves_written, names_written}
use Rattle.surface_lib.specs.Refusals.{part_limit, flip_limit, move_limit, levels, handles_kind, flips_among, sized, sized_if, tested}
use Rattle.surface_lib.specs.Surfaces.{generators_in, IsGenerator}
use Rattle.surface_lib.specs.inside.Counted.{capped, counted}
use Rattle.surface_lib.specs.inside.Verdicts.{IsVerdict, test_sizes}
use Rattle.surface_lib.specs.declared.counts.Counts.{Counts}
use Rattle.surface_lib.specs.declared.error.WordError.{WordError}
use Rattle.surface_lib.specs.declared.error.WordError.TheVariants.{WordTooLong, PartsOver, FlipsOver, MovesOver}
use Rattle.surface_lib.proofs.Written.{Written, written, counts_are, counts_of_text, names_are, moves_are}
use Rattle.surface_lib.proofs.Long.{moves_bound, flips_bound}
use Rattle.surface_lib.proofs.Weights.{few_names}

-- ---- the counts

pub record AreCounts (arena : Arena) (c : Counts) (names : ℕ) (moves : List MoveHandle) : Type 0 where
  pub names_is : c.names ≡ names
  pub flips_is : names ≤ 4096 → c.flips ≡ flips_among (handles_kind arena) moves
  pub moves_is : names ≤ 4096 → c.moves ≡ length moves
  pub short : names ≤ 4096 → length moves < 2 ^ 64
  pub few : names ≤ 4096 → flips_among (handles_kind arena) moves < 2 ^ 64

below : (n : ℕ) → n < 2 ^ 128 → capped n ≡ n
below n small = omega arith

of_written : (arena : Arena) (w : Written) (c : Counts) → counts_are arena w ≡ c → w.names < 2 ^ 128
    → length w.moves ≤ w.names * 2147483648 → AreCounts arena c w.names w.moves
of_written arena w c e small long =
    let few = flips_bound arena w.moves in
    record {
      names_is = ap (λ (z : Counts). z.names) (sym e) ∙ below w.names small;
      flips_is = λ h. ap (λ (z : Counts). z.flips) (sym e)
          ∙ below (flips_among (handles_kind arena) w.moves) (omega (arith, h, long, few));
      moves_is = λ h. ap (λ (z : Counts). z.moves) (sym e) ∙ below (length w.moves) (omega (arith, h, long));
      short = λ h. omega (arith, h, long);
      few = λ h. omega (arith, h, long, few);
    }

pub counts_of_word : (arena : Arena) (es : List (String Global × MovePath)) → All (IsGenerator arena) es
    → (s : List ℕ) (c : Counts)
    → dots s + 1 ≤ 4096 → c ≡ value_of_text (counted arena) (moves_named back (generators_in es)) levels s
    → AreCounts arena c (value_of_text names_written (moves_named back (generators_in es)) levels s) (value_of_text (moves_written back)
    (moves_named back (generators_in es)) levels s)
counts_of_word arena es all s c few e =
    let g : Names MoveHandle = moves_named back (generators_in es) in
    let w : Written = value_of_text written g levels s in
    let small : w.names < 2 ^ 128 = subst (λ (z : ℕ). z < 2 ^ 128) (sym (names_are g levels s)) (few_names g s few) in
    let found : AreCounts arena c w.names w.moves =
    of_written arena w c (counts_of_text arena g levels s ∙ sym e) small (moves_bound arena es all levels s) in
    subst (λ (z : List MoveHandle). AreCounts arena c (value_of_text names_written g levels s) z) (moves_are g levels s)
    (subst (λ (z : ℕ). AreCounts arena c z w.moves) (names_are g levels s) found)

-- ---- the verdict

verdict_of_sizes : (names flips : ℕ) (moves : List MoveHandle)
    → IsVerdict (test_sizes names flips (length moves)) moves (sized names flips moves)
verdict_of_sizes names flips moves = by (nat_lt part_limit names) (nat_lt flip_limit flips) (nat_lt move_limit (length
    moves))
  where
    by : (a b c : Bool)
        → IsVerdict (if a then Err (PartsOver names) else if b then Err (FlipsOver flips) else if c then Err (MovesOver
        (length moves)) else Ok tt)
        moves
        (if a then Err (PartsOver names) else if b then Err (FlipsOver flips) else if c then Err (MovesOver (length
        moves)) else Ok moves)
    by true b c = refl
    by false true c = refl
    by false false true = refl
    by false false false = refl

same_sizes : (arena : Arena) (c : Counts) (names : ℕ) (moves : List MoveHandle) → AreCounts arena c names moves
    → test_sizes c.names c.flips c.moves ≡ test_sizes names (flips_among (handles_kind arena) moves) (length moves)
same_sizes arena c names moves are = ap (λ (z : ℕ). test_sizes z c.flips c.moves) are.names_is
    ∙ by (nat_lt part_limit names) refl
  where
    by : (b : Bool) → nat_lt part_limit names ≡ b → test_sizes names c.flips c.moves
        ≡ test_sizes names (flips_among (handles_kind arena) moves) (length moves)
    by true over =
        let over_by : ℕ → ℕ → Bool → Result (Unit {0}) WordError = λ f m b.
        if b then Err (PartsOver names) else if nat_lt flip_limit f then Err (FlipsOver f)
        else if nat_lt move_limit m then Err (MovesOver m) else Ok tt in
        ap (over_by c.flips c.moves) over ∙ sym (ap (over_by (flips_among (handles_kind arena) moves) (length moves)) over)
    by false within =
        let few : names ≤ 4096 = grind (arith, common_steps, within) in
        ap (λ (z : ℕ). test_sizes names z c.moves) (are.flips_is few)
        ∙ ap (λ (z : ℕ). test_sizes names (flips_among (handles_kind arena) moves) z) (are.moves_is few)

pub verdict : (arena : Arena) (g : Names MoveHandle) (s : List ℕ) (c : Counts) (r : Result (Unit {0}) WordError) (next :
    ℕ)
    → AreCounts arena c (value_of_text names_written g levels s) (value_of_text (moves_written back) g levels s)
    → dots s + 1 ≤ 4096 → Ok next ≡ test_text g levels 0 s → r ≡ test_sizes c.names c.flips c.moves
    → IsVerdict r (value_of_text (moves_written back) g levels s) (tested (handles_kind arena) g s None)
verdict arena g s c r next are few passed is =
    let names : ℕ = value_of_text names_written g levels s in
    let moves : List MoveHandle = value_of_text (moves_written back) g levels s in
    let short : nat_lt part_limit (dots s + 1) ≡ false = grind (arith, common_steps, few) in
    let told : tested (handles_kind arena) g s None ≡ sized names (flips_among (handles_kind arena) moves) moves =
    ap (λ (b : Bool). if b then Err (WordTooLong (dots s + 1)) else sized_if (handles_kind arena) g s (test_text g levels 0 s)) short
    ∙ ap (sized_if (handles_kind arena) g s) (sym passed) in
    subst (λ (z : Result (List MoveHandle) WordError). IsVerdict r moves z) (sym told)
    (subst (λ (z : Result (Unit {0}) WordError). IsVerdict z moves (sized names (flips_among (handles_kind arena) moves) moves))
    (sym (is ∙ same_sizes arena c names moves are)) (verdict_of_sizes names (flips_among (handles_kind arena) moves) moves))
