-- Sums and products that stop at a largest number.
use Rattle.std.proofs.Common.{◌≡◌, ◌+◌, ◌*◌, ℕ, zero, suc, min, arith}

pub min-add : (most a b : ℕ) → min (min a most + min b most) most ≡ min (a + b) most
min-add most a b = omega arith

min-some : (most a k : ℕ) → min (suc k * min a most) most ≡ min (suc k * a) most
min-some most a k = grind arith

pub min-mul : (most k a : ℕ) → min (k * min a most) most ≡ min (k * a) most
min-mul most zero a = grind arith
min-mul most (suc k) a = min-some most a k

pub min-min : (most a : ℕ) → min (min a most) most ≡ min a most
min-min most a = omega arith
