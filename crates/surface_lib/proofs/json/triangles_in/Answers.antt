use Rattle.std.proofs.Common.{ap, sym, ◌∙◌, Some, option_and_then}
use Rattle.surface_lib.specs.Json.{all_read, triple_in}
use Rattle.surface_lib.proofs.Entries.{read_more, read_stuck}
use Rattle.surface_lib.proofs.json.triangles_in.Goals as goal

pub returns-in_default-triple_in : goal.returns-in_default-triple_in
returns-in_default-triple_in c =
    read_stuck triple_in c.in-Some.list.now c.loop-entry.entry-index _ c.loop-entry-test.true c.entry-item.is
    c.in_default-triple_in.ensures
    ∙ ap (option_and_then (all_read triple_in)) c.in-Some.ensures

pub loop-entry-preserved : goal.loop-entry-preserved
loop-entry-preserved c =
    read_more triple_in c.in-Some.list.now c.loop-entry.entry-index _ _ _ c.loop-entry-test.true c.entry-item.is
    c.loop-entry.invariant c.in-Some-triple_in.ensures
    ∙ ap Some (sym c.in_ok-push.ensures.items)
