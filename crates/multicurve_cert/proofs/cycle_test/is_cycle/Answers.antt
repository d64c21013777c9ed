use Rattle.std.proofs.Common.{rules, IsTrue}
use Rattle.std.proofs.lemmas.Result.{IfOk-weaker}
use Rattle.multicurve_cert.proofs.cycle_test.is_cycle.Goals as goal

pub returns-then-visits_once : goal.returns-then-visits_once
returns-then-visits_once c =
    let is_loop : IsTrue c.is_loop.result = search rules in
    let is_once : IsTrue c.visits_once.result = search rules in
    IfOk-weaker c.is_least.result _ _
    (λ r h. (
      λ t. record {
        loop = c.is_loop.ensures.0 is_loop;
        short = c.requires.short;
        once = c.visits_once.ensures.0 is_once;
        least = h.0 t;
      },
      λ cycle. h.1 cycle.least,
    ))
    c.is_least.ensures
