-- What is known of heights that are lowered by one step after another.
use Rattle.std.proofs.Common.{ℕ, Bool, true, false, List, [], ◌∷◌, ◌<◌, ◌+◌, ◌||◌, ◌∙◌, sym, arith, subst}
use Rattle.std.proofs.Common.{length, get_or, take, sum}
use Rattle.std.proofs.lemmas.List.Elements.{All-head, All-more}
use Rattle.carry_map.specs.declared.heights.Step.{Step}
use Rattle.carry_map.specs.inside.Heights.{LeavesRoomAt, FellOrStayed}

-- by one step more
pub fell_or_stayed-more : (counts : List ℕ) (steps : List Step) (i : ℕ) (d : Step) (first second third : List ℕ)
    (r s : Bool) → i < length steps → FellOrStayed counts (take i steps) first second r
    → FellOrStayed counts (get_or steps i d ∷ []) second third s
    → FellOrStayed counts (take (i + 1) steps) first third (r || s)
fell_or_stayed-more counts steps i d first second third true true less before now = omega arith
fell_or_stayed-more counts steps i d first second third true false less before now =
    subst (λ (h : List ℕ). sum h < sum first) (sym now.0) before
fell_or_stayed-more counts steps i d first second third false true less before now =
    subst (λ (h : List ℕ). sum third < sum h) before.0 now
fell_or_stayed-more counts steps i d first second third false false less before now = (
  now.0 ∙ before.0,
  All-more (LeavesRoomAt counts first) steps i d less before.1
      (subst (λ (h : List ℕ). LeavesRoomAt counts h (get_or steps i d)) before.0
      (All-head (LeavesRoomAt counts second) (get_or steps i d) [] now.1)),
)
