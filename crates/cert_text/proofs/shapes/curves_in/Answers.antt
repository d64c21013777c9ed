use Rattle.std.proofs.Common.{Some, ap, sym, ◌∙◌, option_and_then}
use Rattle.cert_text.specs.Shapes.{all_read, curve_in}
use Rattle.cert_text.proofs.Entries.{read_more, read_stuck}
use Rattle.cert_text.proofs.shapes.curves_in.Goals as goal

pub returns-in_default-curve_in : goal.returns-in_default-curve_in
returns-in_default-curve_in c =
    read_stuck curve_in c.in-Some.list.now c.loop-entry.entry-index _ c.loop-entry-test.true c.entry-item.is
    c.in_default-curve_in.ensures
    ∙ ap (option_and_then (all_read curve_in)) c.in-Some.ensures

pub loop-entry-preserved : goal.loop-entry-preserved
loop-entry-preserved c =
    read_more curve_in c.in-Some.list.now c.loop-entry.entry-index _ _ _ c.loop-entry-test.true c.entry-item.is
    c.loop-entry.invariant c.in-Some-curve_in.ensures
    ∙ ap Some (sym c.in_ok-push.ensures.items)
