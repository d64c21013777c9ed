-- A level is the pieces of its text over the level inside.
use Rattle.std.proofs.Common.{◌≡◌, ◌-◌, ℕ, zero, suc, List, refl, ap, arith}
use Rattle.surface_lib.specs.Pieces.{pieces}
use Rattle.surface_lib.specs.Words.{Names, Target, test_pieces, test_text, value_of_pieces, value_of_text}

pub test_of_level : {M : Type 0} (names : Names M) (levels number : ℕ) (s : List ℕ) → (levels ≡ 0 → ⊥)
    → test_pieces names (test_text names (levels - 1)) number (pieces s)
    ≡ test_text names levels number s
test_of_level names zero number s some = absurd (some refl)
test_of_level names (suc k) number s some =
    let e : suc k - 1 ≡ k = omega arith in ap (λ (z : ℕ). test_pieces names (test_text names z) number
    (pieces s)) e

pub value_of_level : {M V : Type 0} (target : Target M V) (names : Names M) (levels : ℕ) (s : List ℕ)
    → (levels ≡ 0 → ⊥)
    → value_of_pieces target names (value_of_text target names (levels - 1)) target.none (pieces s)
    ≡ value_of_text target names levels s
value_of_level target names zero s some = absurd (some refl)
value_of_level {M} {V} target names (suc k) s some =
    let e : suc k - 1 ≡ k = omega arith in
    ap (λ (z : ℕ). value_of_pieces target names (value_of_text target names z) target.none (pieces s)) e
