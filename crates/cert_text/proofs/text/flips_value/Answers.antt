use Rattle.std.proofs.Common.{arith}
use Rattle.cert_text.proofs.ReadBack.{counts_back}
use Rattle.cert_text.proofs.text.flips_value.Goals as goal

pub returns-clause-read_back : goal.returns-clause-read_back
returns-clause-read_back c = counts_back c.args.edges.now (λ i. omega (arith, c.type_inv.edges i))
