use Rattle.std.proofs.Common.{◌∙◌, length, ap, sym, arith, Option, List}
use Rattle.tri_atlas.specs.Arena.{MoveHandle}
use Rattle.surface_lib.specs.Words.{named_if}
use Rattle.surface_lib.specs.inside.Counted.{counted}
use Rattle.surface_lib.specs.inside.Found.{moves_found}
use Rattle.surface_lib.specs.declared.names.Named.{Named}
use Rattle.surface_lib.proofs.Backwards.{flips-map}
use Rattle.surface_lib.proofs.Named.{counts_of_named}
use Rattle.surface_lib.proofs.counts.of_name.Goals as goal

pub returns-in-Some : goal.returns-in-Some
returns-in-Some c =
    counts_of_named c.args.s.now.atlas c.in-Some.named c.from.result (length c.moves.result.now)
    (c.from.ensures ∙ c.flips.ensures ∙ flips-map c.args.s.now.atlas c.in-Some.named.path.now.moves) (ap (λ (z : List MoveHandle). length z) c.moves.ensures)
    (omega (arith, c.from.ensures, c.flips.type_inv)) (omega (arith, c.moves.type_inv))
    ∙ ap (λ (z : Option Named). named_if (counted c.args.s.now.atlas) (moves_found z)) (sym c.in-Some.is)
