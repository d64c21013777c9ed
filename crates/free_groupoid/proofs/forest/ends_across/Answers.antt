use Rattle.std.proofs.Common.{arith, ◌∙◌, ap, nat_eq}
use Rattle.free_groupoid.proofs.Sprouting.{ends_across_last}
use Rattle.free_groupoid.proofs.forest.ends_across.Goals as goal

pub returns-in-Some : goal.returns-in-Some
returns-in-Some c =
    ap (λ n. nat_eq n c.args.e) c.edge.ensures
    ∙ ends_across_last _ _ _ (omega (arith, c.in-Some.ensures.item.3.0)) c.in-Some.ensures.item.1
