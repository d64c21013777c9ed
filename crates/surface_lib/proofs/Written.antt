-- A word's names and moves together, and their counts in 128 bits.
use Rattle.std.proofs.Common.{◌≡◌, ◌+◌, ◌-◌, ◌*◌, ◌^◌, ℕ, zero, suc, List, [], ◌++◌, length, refl, ap, ◌∙◌, sym, arith}
use Rattle.std.proofs.Common.{length-append}
use Rattle.std.specs.Prelude.{if◌then◌else◌}
use Rattle.std.specs.List.{repeat}
use Rattle.tri_atlas.specs.Arena.{Arena, MoveHandle, back}
use Rattle.surface_lib.specs.Words.{Names, Target, moves_written, names_written, backwards, value_of_text}
use Rattle.surface_lib.specs.Refusals.{handles_kind, flips_among}
use Rattle.surface_lib.specs.inside.Counted.{capped, counted}
use Rattle.surface_lib.specs.declared.counts.Counts.{Counts}
use Rattle.surface_lib.specs.declared.power.Power.{Power}
use Rattle.surface_lib.proofs.Backwards.{flips-append, flips-turned, length-turned}
use Rattle.surface_lib.proofs.Capped.{min-add, min-mul}
use Rattle.surface_lib.proofs.Carried.{IsCarried, carried_over_same}

pub record Written : Type 0 where
  pub names : ℕ
  pub moves : List MoveHandle

abbrev turned : Power → List MoveHandle → List MoveHandle
turned k v = if k.backwards then backwards back v else v

abbrev pub written : Target MoveHandle Written
written = record {
  none = record { names = 0; moves = [] };
  joined = λ a b. record { names = a.names + b.names; moves = a.moves ++ b.moves };
  taken = λ k a. record {
    names = k.times * a.names;
    moves = repeat k.times (if k.backwards then backwards back a.moves else
        a.moves);
  };
  named = λ moves. record { names = 1; moves = moves };
}

-- ---- its parts

names_carried : IsCarried written names_written (λ m. m) (λ w. w.names)
names_carried = record { none = refl; joined = λ a b. refl; taken = λ k a. refl; named = λ moves. refl }

moves_carried : IsCarried written (moves_written back) (λ m. m) (λ w. w.moves)
moves_carried = record { none = refl; joined = λ a b. refl; taken = λ k a. refl; named = λ moves. refl }

pub names_are : (names : Names MoveHandle) (k : ℕ) (s : List ℕ)
    → (value_of_text written names k s).names ≡ value_of_text names_written names k s
names_are names k s = carried_over_same written names_written (λ w. w.names) names_carried names k s

pub moves_are : (names : Names MoveHandle) (k : ℕ) (s : List ℕ)
    → (value_of_text written names k s).moves ≡ value_of_text (moves_written back) names k s
moves_are names k s = carried_over_same written (moves_written back) (λ w. w.moves) moves_carried names k s

-- ---- its counts

pub length-repeat : (n : ℕ) (u : List MoveHandle) → length (repeat n u) ≡ n * length u
length-repeat zero u = sym (grind arith)
length-repeat (suc n) u = length-append u (repeat n u) ∙ grind (arith, length-repeat n u)

flips-repeat : (arena : Arena) (n : ℕ) (u : List MoveHandle) → flips_among (handles_kind arena) (repeat n u) ≡ n * flips_among (handles_kind arena) u
flips-repeat arena zero u = grind arith
flips-repeat arena (suc n) u = flips-append arena u (repeat n u) ∙ grind (arith, flips-repeat arena n u)

abbrev pub counts_are : Arena → Written → Counts
counts_are arena w = record {
  names = capped w.names;
  flips = capped (flips_among (handles_kind arena) w.moves);
  moves = capped
      (length w.moves);
}

three : (a b c d e f : ℕ) → a ≡ d → b ≡ e → c ≡ f
    → record { names = a; flips = b; moves = c } ≡ (let r : Counts = record { names = d; flips = e; moves = f } in r)
three a b c d e f p q r =
    let make : ℕ → ℕ → ℕ → Counts = λ x y z. record { names = x; flips = y; moves = z } in
    ap (λ (x : ℕ). make x b c) p ∙ ap (λ (y : ℕ). make d y c) q ∙ ap (λ (z : ℕ). make d e z) r

counts_carried : (arena : Arena) → IsCarried written (counted arena) (λ m. m) (counts_are arena)
counts_carried arena = record {
  none = refl;
  joined = λ a b. three _ _ _ _ _ _
      (sym (min-add (2 ^ 128 - 1) a.names b.names))
      (ap capped (flips-append arena a.moves b.moves) ∙ sym (min-add (2 ^ 128 - 1) (flips_among (handles_kind arena) a.moves)
      (flips_among (handles_kind arena) b.moves)))
      (ap capped (length-append a.moves b.moves) ∙ sym (min-add (2 ^ 128 - 1) (length a.moves) (length b.moves)));
  taken = λ k a. three _ _ _ _ _ _
      (sym (min-mul (2 ^ 128 - 1) k.times a.names))
      (ap capped (flips-repeat arena k.times (turned k a.moves)
      ∙ ap (λ (z : ℕ). k.times * z) (flips-turned arena k.backwards a.moves))
      ∙ sym (min-mul (2 ^ 128 - 1) k.times (flips_among (handles_kind arena) a.moves)))
      (ap capped (length-repeat k.times (turned k a.moves)
      ∙ ap (λ (z : ℕ). k.times * z) (length-turned k.backwards a.moves))
      ∙ sym (min-mul (2 ^ 128 - 1) k.times (length a.moves)));
  named = λ moves. refl;
}

pub counts_of_text : (arena : Arena) (names : Names MoveHandle) (k : ℕ) (s : List ℕ)
    → counts_are arena (value_of_text written names k s) ≡ value_of_text (counted arena) names k s
counts_of_text arena names k s = carried_over_same written (counted arena) (counts_are arena) (counts_carried arena)
    names k s
