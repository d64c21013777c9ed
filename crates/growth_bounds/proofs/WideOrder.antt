-- The search in the wider order: from 4 to 64, and then 3, 2, 1, 0.
use Rattle.std.proofs.Common.{◌≡◌, ◌≤◌, ◌+◌, inl, inr, ℕ, List, sym, subst, arith}
use Rattle.std.proofs.lemmas.Bool.{cases_eq, cases_lt}
use Rattle.transition_matrix.specs.Matrices.{Square}
use Rattle.growth_bounds.specs.Rule.{Grows, IsFirstGrowth, IsWideGrowth, ComesBefore, rising, turning, falling}
use Rattle.growth_bounds.specs.inside.Reached.{GrowsWith, IsFound, NoneYet}
use Rattle.growth_bounds.proofs.Rows.{grows_with}

-- nothing from 3 down was looked at
pub none_yet : (m : Square) → ((j : ℕ) → 4 ≤ j → j ≤ 64 → ¬ Grows m j) → NoneYet m 0
none_yet m none = record { from_four = none; below_four = λ j low from. absurd (omega arith) }

pub passed : (m : Square) (j k : ℕ) → j + k ≡ 3 → NoneYet m k → ¬ Grows m j → NoneYet m (k + 1)
passed m j k sum none here = record {
  from_four = none.from_four;
  below_four = λ i low from. elim (cases_eq i j) [
    | inl e ↦ let P : ℕ → Type 0 = λ l. ¬ Grows m l in subst P (sym e) here
    | inr apart ↦ none.below_four i low (omega arith)
  ];
}

pub none_at_all : (m : Square) (k : ℕ) → 4 ≤ k → NoneYet m k → (j : ℕ) → j ≤ 64 → ¬ Grows m j
none_at_all m k past none j to = elim (cases_lt j 4) [
  | inl low ↦ none.below_four j low (omega arith)
  | inr from ↦ none.from_four j from to
]

-- ---- the number that was found

first_is_wide : (m : Square) (j k : ℕ) → IsFirstGrowth m j → ComesBefore k j → ¬ Grows m k
first_is_wide m j k first (rising from below) = first.first k from below
first_is_wide m j k first (turning from to early) = absurd (let h = first.from_four in omega arith)
first_is_wide m j k first (falling early below) = absurd (let h = first.from_four in omega arith)

pub found_from_four : (m : Square) (u v : List ℕ) → IsFound m (IsFirstGrowth m) u v → IsFound m (IsWideGrowth m) u v
found_from_four m u v found = record {
  number = found.number;
  chosen = record {
    to_sixty_four = found.chosen.to_sixty_four;
    grows = found.chosen.grows;
    first = λ k before. first_is_wide m found.number k found.chosen before;
  };
  rows = found.rows;
}

none_before : (m : Square) (j k i : ℕ) → j + k ≡ 3 → NoneYet m k → ComesBefore i j → ¬ Grows m i
none_before m j k i sum none (rising from below) = absurd (omega arith)
none_before m j k i sum none (turning from to early) = none.from_four i from to
none_before m j k i sum none (falling early below) = none.below_four i early (omega arith)

pub found_below_four : (m : Square) (j k : ℕ) (u v : List ℕ) → j + k ≡ 3 → NoneYet m k → GrowsWith m j u v
    → IsFound m (IsWideGrowth m) u v
found_below_four m j k u v sum none rows = record {
  number = j;
  chosen = record {
    to_sixty_four = omega arith;
    grows = grows_with m j u v rows;
    first = λ i before. none_before m j k i sum none before;
  };
  rows = rows;
}
