use Rattle.std.proofs.Common.{arith}
use Rattle.std.proofs.lemmas.Grind.{common_steps}
use Rattle.surface_lib.proofs.Cuts.{one_piece, first_of_pieces}
use Rattle.surface_lib.proofs.piece.first_piece.Goals as goal

pub returns-then-end-text-clause-cut : goal.returns-then-end-text-clause-cut
returns-then-end-text-clause-cut c = grind (arith, common_steps, first_of_pieces c.args.text.now)

pub returns-else-end-text-clause-cut : goal.returns-else-end-text-clause-cut
returns-else-end-text-clause-cut c = grind (arith, common_steps, one_piece c.args.text.now)
