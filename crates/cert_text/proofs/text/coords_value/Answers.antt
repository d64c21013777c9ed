use Rattle.std.proofs.Common.{arith, ◌∙◌}
use Rattle.std.specs.Fmt.{decimal}
use Rattle.serde_json.specs.Data.{string}
use Rattle.cert_text.proofs.Lists.{all_made}
use Rattle.cert_text.proofs.ReadBack.{coords_back}
use Rattle.cert_text.proofs.text.coords_value.Goals as goal

pub returns-clause-tree : goal.returns-clause-tree
returns-clause-tree c =
    c.from-2.ensures
    ∙ all_made (λ n. string (decimal n)) c.args.coords.now c.loop-n.n-index _ (omega arith) c.loop-n.invariant

pub returns-clause-read_back : goal.returns-clause-read_back
returns-clause-read_back c = coords_back c.args.coords.now (λ i. omega (arith, c.type_inv.coords i))
