use Rattle.std.proofs.Common.{◌<◌, ◌^◌, rules, arith}
use Rattle.cert_text.proofs.ReadBack.{count_back}
use Rattle.cert_text.proofs.text.count_value.Goals as goal

pub returns-clause-read_back : goal.returns-clause-read_back
returns-clause-read_back c =
    let small : c.args.n < 2 ^ 32 = search (rules, arith) in count_back c.args.n small
