-- Flips of edges, one after another: a loop's step and its end.
use Rattle.std.proofs.Common.{◌≡◌, ◌<◌, ◌≤◌, ◌+◌, ℕ, ℤ, pos, Bool, false, List, [], ◌∷◌, ◌++◌, length, drop, get_or}
use Rattle.std.proofs.Common.{Result, Ok, Err, refl, sym, ◌∙◌, ap, subst, append_assoc, append-nil, arith, nat_lt}
use Rattle.std.specs.Prelude.{if◌then◌else◌}
use Rattle.std.specs.Result.{IsErrAnd, IfErr}
use Rattle.std.proofs.lemmas.Bool.Decides.{nat_tests}
use Rattle.std.proofs.lemmas.List.{at_drop_more, at_drop_all, map-append, length-append}
use Rattle.ideal_tri.specs.Flips.{flipped}
use Rattle.tri_atlas.specs.Moves.{Move}
use Rattle.tri_atlas.specs.Arena.{Arena, MoveHandle, triangulation, step_of, target_of, Grows, IsTriIn}
use Rattle.tri_atlas.specs.AtlasLaws.{GrowthLaws}
use Rattle.tri_atlas.specs.Paths.{MovePath, IsPathIn, moves_of, empty_path, then_move}
use Rattle.surface_lib.specs.Readings.{if_ok}
use Rattle.surface_lib.specs.FlipsForms.{Flipped, flips_from, flips_in, flip_at, flips_most}
use Rattle.surface_lib.specs.inside.Faults.{IsFault}
use Rattle.surface_lib.specs.declared.refused.Refused.{Refused}
use Rattle.surface_lib.specs.declared.refused.Refused.TheVariants.{Fault, Memory}
use Rattle.surface_lib.specs.declared.surface_error.GeneratorFault.{GeneratorFault}
use Rattle.surface_lib.specs.declared.surface_error.GeneratorFault.TheVariants.{TooManyFlips}

-- the moves so far, and what is read behind them
abbrev pub behind : List Move → Result Flipped GeneratorFault → Result Flipped GeneratorFault
behind moves rest = if_ok rest (λ f. Ok (record { moves = moves ++ f.moves; reached = f.reached }))

-- the path flips the first edges, so many as the index tells
pub record AreFlipped (old new : Arena) (edges : List ℤ) (path : MovePath) (index : ℕ) : Type 0 where
  pub within : IsPathIn new path
  pub start : path.start ≡ 0
  pub long : length path.moves ≡ index
  pub grows : Grows old new
  pub left : flips_from (triangulation old 0) 0 edges
      ≡ behind (moves_of new path) (flips_from (triangulation new path.end) index (drop index edges))

pub none_flipped : (arena : Arena) (edges : List ℤ) (path : MovePath) (b : ℕ) → path ≡ empty_path b → b ≡ 0
    → IsTriIn arena b → Grows arena arena → AreFlipped arena arena edges path 0
none_flipped arena edges path b e is here none =
    subst (λ (z : MovePath). AreFlipped arena arena edges z 0) (sym e)
    (record {
      within = record { start_in = here; end_in = here; moves_lead = refl };
      start = is;
      long = refl;
      grows = none;
      left =
          sym (behind_none (flips_from (triangulation arena 0) 0 edges))
          ∙ ap (λ (z : ℕ). behind [] (flips_from (triangulation arena z) 0 edges)) (sym is);
    })
  where
    behind_none : (r : Result Flipped GeneratorFault) → behind [] r ≡ r
    behind_none (Ok f) = refl
    behind_none (Err fault) = refl

-- ---- one more flip

behind_one : (moves : List Move) (m : Move) (rest : Result Flipped GeneratorFault)
    → behind moves (if_ok rest (λ f. Ok (record { moves = m ∷ f.moves; reached = f.reached })))
    ≡ behind (moves ++ m ∷ []) rest
behind_one moves m (Ok f) =
    ap (λ (z : List Move). Ok (record { moves = z; reached = f.reached })) (sym (append_assoc moves (m ∷ []) f.moves))
behind_one moves m (Err fault) = refl

-- what is left, where the next flip is known
next_flip : (triangles : List (List ℤ)) (edges : List ℤ) (i : ℕ) (moves : List Move) (one : Result Move GeneratorFault)
    → i < length edges → flip_at triangles i (get_or edges i (pos 0)) ≡ one
    → behind moves (flips_from triangles i (drop i edges))
    ≡ behind moves (if_ok one (λ m.
    if_ok (flips_from (flipped triangles (get_or edges i (pos 0))) (i + 1) (drop (i + 1) edges)) (λ f.
    Ok (record { moves = m ∷ f.moves; reached = f.reached }))))
next_flip triangles edges i moves one inside is =
    at_drop_more (λ (z : List ℤ). behind moves (flips_from triangles i z)) edges i (pos 0) inside
    ∙ ap (λ (z : Result Move GeneratorFault). behind moves (if_ok z (λ m.
    if_ok (flips_from (flipped triangles (get_or edges i (pos 0))) (i + 1) (drop (i + 1) edges)) (λ f.
    Ok (record { moves = m ∷ f.moves; reached = f.reached }))))) is

-- what a path does with one more move, as the atlas grows
pub moves_then : GrowthLaws → (before after : Arena) (path longer : MovePath) (m : MoveHandle) (t : ℕ)
    → Grows before after → IsPathIn before path → longer ≡ then_move path m t
    → moves_of after longer ≡ moves_of before path ++ step_of after m ∷ []
moves_then laws before after path longer m t grows within is =
    ap (moves_of after) is ∙ map-append (step_of after) path.moves (m ∷ [])
    ∙ ap (λ (z : List Move). z ++ step_of after m ∷ []) (laws.moves before after path grows within)

pub one_more_flip : GrowthLaws → (old before after : Arena) (edges : List ℤ) (path longer : MovePath) (i t : ℕ) (m
    : MoveHandle)
    → AreFlipped old before edges path i → i < length edges → t ≡ path.end → Grows before after
    → triangulation after (target_of after m) ≡ flipped (triangulation before t) (get_or edges i (pos 0))
    → flip_at (triangulation before t) i (get_or edges i (pos 0)) ≡ Ok (step_of after m)
    → longer ≡ then_move path m (target_of after m) → IsPathIn after longer
    → AreFlipped old after edges longer (i + 1)
one_more_flip laws old before after edges path longer i t m so_far inside here grows reached step is within =
    let rest : Result Flipped GeneratorFault =
    flips_from (flipped (triangulation before t) (get_or edges i (pos 0))) (i + 1) (drop (i + 1) edges) in
    let moves : moves_of after longer ≡ moves_of before path ++ step_of after m ∷ [] =
    moves_then laws before after path longer m (target_of after m) grows so_far.within is in
    record {
      within = within;
      start = ap (λ (z : MovePath). z.start) is ∙ so_far.start;
      long =
          ap (λ (z : MovePath). length z.moves) is ∙ length-append path.moves (m ∷ [])
          ∙ ap (λ (n : ℕ). n + 1) so_far.long;
      grows = laws.further old before after so_far.grows grows;
      left =
          so_far.left
          ∙ ap (λ (z : ℕ). behind (moves_of before path) (flips_from (triangulation before z) i (drop i edges)))
          (sym here)
          ∙ next_flip (triangulation before t) edges i (moves_of before path) (Ok (step_of after m)) inside step
          ∙ behind_one (moves_of before path) (step_of after m) rest
          ∙ ap (λ (z : List Move). behind z rest) (sym moves)
          ∙ ap (λ (z : List (List ℤ)). behind (moves_of after longer) (flips_from z (i + 1) (drop (i + 1) edges)))
          (sym reached)
          ∙ ap (λ (z : MovePath). behind (moves_of after longer)
          (flips_from (triangulation after z.end) (i + 1) (drop (i + 1) edges))) (sym is);
    }

-- ---- the end

few_enough : (base : List (List ℤ)) (edges : List ℤ) → length edges ≤ flips_most
    → flips_in base edges ≡ flips_from base 0 edges
few_enough base edges few =
    let small : nat_lt flips_most (length edges) ≡ false = grind (arith, nat_tests) in
    ap (λ (b : Bool). if b then Err (TooManyFlips (length edges)) else flips_from base 0 edges) small

pub all_flipped : (old new : Arena) (edges : List ℤ) (path : MovePath) (i : ℕ) → AreFlipped old new edges path i
    → length edges ≤ flips_most → length edges ≤ i
    → flips_in (triangulation old 0) edges
    ≡ Ok (record { moves = moves_of new path; reached = triangulation new path.end })
all_flipped old new edges path i so_far few end =
    few_enough (triangulation old 0) edges few ∙ so_far.left
    ∙ at_drop_all (λ (z : List ℤ). behind (moves_of new path) (flips_from (triangulation new path.end) i z)) edges i end
    ∙ ap (λ (z : List Move). Ok (record { moves = z; reached = triangulation new path.end })) (append-nil
    (moves_of new path))

pub stuck_flip : (old before : Arena) (edges : List ℤ) (path : MovePath) (i t : ℕ) (refused : Refused)
    → AreFlipped old before edges path i → length edges ≤ flips_most → i < length edges → t ≡ path.end
    → IsFault (λ fault. flip_at (triangulation before t) i (get_or edges i (pos 0)) ≡ Err fault) refused
    → IsFault (λ fault. flips_in (triangulation old 0) edges ≡ Err fault) refused
stuck_flip old before edges path i t (Fault fault) so_far few inside here told =
    few_enough (triangulation old 0) edges few ∙ so_far.left
    ∙ ap (λ (z : ℕ). behind (moves_of before path) (flips_from (triangulation before z) i (drop i edges))) (sym here)
    ∙ next_flip (triangulation before t) edges i (moves_of before path) (Err fault) inside told
stuck_flip old before edges path i t Memory so_far few inside here told = tt

-- ---- a refusal that is passed on

pub passed_on : {X : Type 0} (P : Refused → Type 0) (result : Result X Refused) (refused : Refused)
    → IsErrAnd result (λ r. r ≡ refused) → P refused → IfErr result P
passed_on P (Ok x) refused is told = absurd is
passed_on P (Err r) refused is told = subst P (sym is) told
