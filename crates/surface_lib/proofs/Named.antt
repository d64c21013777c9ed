-- The counts of a name are those of its generator's path, forwards or backwards.
use Rattle.std.proofs.Common.{◌≡◌, ◌<◌, ◌^◌, ℕ, length, ap, ◌∙◌, sym, arith}
use Rattle.tri_atlas.specs.Arena.{Arena}
use Rattle.surface_lib.specs.Refusals.{handles_kind, flips_among}
use Rattle.surface_lib.specs.inside.Counted.{capped, of_name}
use Rattle.surface_lib.specs.inside.Found.{moves_of_named}
use Rattle.surface_lib.specs.declared.counts.Counts.{Counts}
use Rattle.surface_lib.specs.declared.names.Named.{Named}
use Rattle.surface_lib.proofs.Backwards.{flips-turned, length-turned}

capped_small : (n : ℕ) → n < 2 ^ 64 → n ≡ capped n
capped_small n small = omega arith

pub counts_of_named : (arena : Arena) (n : Named) (flips moves : ℕ) → flips ≡ flips_among (handles_kind arena) n.path.now.moves
    → moves ≡ length n.path.now.moves → flips < 2 ^ 64 → moves < 2 ^ 64
    → record { names = 1; flips = flips; moves = moves } ≡ of_name arena (moves_of_named n)
counts_of_named arena n flips moves f m few short =
    let count : ℕ → ℕ → Counts = λ a b. record { names = 1; flips = a; moves = b } in
    let flips_are : flips ≡ capped (flips_among (handles_kind arena) (moves_of_named n)) =
    capped_small flips few ∙ ap capped (f ∙ sym (flips-turned arena n.backwards n.path.now.moves)) in
    let moves_are : moves ≡ capped (length (moves_of_named n)) =
    capped_small moves short ∙ ap capped (m ∙ sym (length-turned n.backwards n.path.now.moves)) in
    ap (λ (z : ℕ). count z moves) flips_are ∙ ap (λ (z : ℕ). count (capped (flips_among (handles_kind arena) (moves_of_named n))) z)
    moves_are
