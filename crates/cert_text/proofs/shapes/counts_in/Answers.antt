use Rattle.std.proofs.Common.{Some, ap, sym, ◌∙◌, option_and_then}
use Rattle.cert_text.specs.Shapes.{all_read, count_in}
use Rattle.cert_text.proofs.Entries.{read_more, read_stuck}
use Rattle.cert_text.proofs.shapes.counts_in.Goals as goal

pub returns-in_default-count_in : goal.returns-in_default-count_in
returns-in_default-count_in c =
    read_stuck count_in c.in-Some.list.now c.loop-entry.entry-index _ c.loop-entry-test.true c.entry-item.is
    c.in_default-count_in.ensures
    ∙ ap (option_and_then (all_read count_in)) c.in-Some.ensures

pub loop-entry-preserved : goal.loop-entry-preserved
loop-entry-preserved c =
    read_more count_in c.in-Some.list.now c.loop-entry.entry-index _ _ _ c.loop-entry-test.true c.entry-item.is
    c.loop-entry.invariant c.in-Some-count_in.ensures
    ∙ ap Some (sym c.in_ok-push.ensures.items)
