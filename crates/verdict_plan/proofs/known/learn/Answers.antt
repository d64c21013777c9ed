use Rattle.std.proofs.Common.{ℕ, ℤ, List, sym, subst}
use Rattle.std.proofs.lemmas.List.Elements.{All-push}
use Rattle.verdict_plan.specs.inside.Known.{AreKnown, IsLineFor}
use Rattle.verdict_plan.specs.declared.known.Known.{Known}
use Rattle.verdict_plan.proofs.known.learn.Goals as goal

pub returns : goal.returns
returns c triples moves all new =
    subst (AreKnown triples moves) (sym c.in_ok-push.ensures.items)
    (All-push (λ (k : Known). IsLineFor triples moves k.flips.items k.left_out.items k.power k.line)
    c.args.known.now.items _ all
    (subst (λ (out : List ℤ). IsLineFor triples moves c.in_ok-flips.flips.items out c.args.power c.args.line)
    (sym c.in_ok-left_out.ensures.items)
    (subst (λ (es : List ℕ). IsLineFor triples moves es c.args.left_out.now c.args.power c.args.line)
    (sym c.in_ok-flips.ensures.items) new)))
