-- The first test that fails, where two lists of tests say the same.
use Rattle.std.proofs.Common.{ℕ, ◌<◌, arith}
use Rattle.cert_checker.specs.FirstFailing.{IsFirstFailing, AllPass}

pub all_same : (count : ℕ) (P Q : ℕ → Type 0) → ((k : ℕ) → k < count → P k → Q k) → AllPass count P
    → AllPass count Q
all_same count P Q there all k below = there k below (all k below)

pub first_same : (count : ℕ) (P Q : ℕ → Type 0) → ((k : ℕ) → k < count → P k → Q k)
    → ((k : ℕ) → k < count → Q k → P k) → (n : ℕ) → IsFirstFailing count P n → IsFirstFailing count Q n
first_same count P Q there back n first = record {
  within = first.within;
  fails = λ q. first.fails (back n first.within q);
  before = λ k below. there k (omega (arith, below, first.within)) (first.before k below);
}
