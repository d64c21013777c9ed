use Rattle.std.proofs.Common.{◌≤◌, ◌<◌, ◌+◌, ◌^◌, sym, subst, ℕ, arith}
use Rattle.surface_lib.specs.Pieces.{dots}
use Rattle.surface_lib.specs.Surfaces.{names_of}
use Rattle.surface_lib.proofs.Sizes.{counts_of_word, verdict}
use Rattle.surface_lib.proofs.word.test_pieces.Goals as goal

pub test_sizes-requires-clause-flips : goal.test_sizes-requires-clause-flips
test_sizes-requires-clause-flips c h =
    let few : dots c.args.text.now + 1 ≤ 4096 = omega (
      arith,
      c.if-parts-gt-PART_LIMIT.false,
      c.dots-parts.ensures.count,
    ) in
    let are = counts_of_word c.args.s.now.atlas c.args.s.now.generators.entries c.requires c.args.text.now
    c.count_text.result few
    c.count_text.ensures in
    let small = subst (λ (z : ℕ). z ≤ 4096) are.names_is h in
    subst (λ (z : ℕ). z < 2 ^ 64) (sym (are.flips_is small)) (are.few small)

pub test_sizes-requires-clause-moves : goal.test_sizes-requires-clause-moves
test_sizes-requires-clause-moves c h =
    let few : dots c.args.text.now + 1 ≤ 4096 = omega (
      arith,
      c.if-parts-gt-PART_LIMIT.false,
      c.dots-parts.ensures.count,
    ) in
    let are = counts_of_word c.args.s.now.atlas c.args.s.now.generators.entries c.requires c.args.text.now
    c.count_text.result few
    c.count_text.ensures in
    let small = subst (λ (z : ℕ). z ≤ 4096) are.names_is h in
    subst (λ (z : ℕ). z < 2 ^ 64) (sym (are.moves_is small)) (are.short small)

pub returns : goal.returns
returns c =
    let few : dots c.args.text.now + 1 ≤ 4096 = omega (
      arith,
      c.if-parts-gt-PART_LIMIT.false,
      c.dots-parts.ensures.count,
    ) in
    let are = counts_of_word c.args.s.now.atlas c.args.s.now.generators.entries c.requires c.args.text.now
    c.count_text.result few
    c.count_text.ensures in
    verdict c.args.s.now.atlas (names_of c.args.s.now) c.args.text.now c.count_text.result c.test_sizes.result
    c.in_ok-test_text.field-0
    are few c.in_ok-test_text.ensures.tested c.test_sizes.ensures
