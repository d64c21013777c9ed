use Rattle.std.proofs.Common.{ℤ, Vec, Global, Some, ap, sym, ◌∙◌, option_and_then, arith}
use Rattle.std.specs.Option.{option_map}
use Rattle.cert_text.specs.Certificates.{walks_of}
use Rattle.cert_text.specs.Shapes.{all_read, walk_in}
use Rattle.cert_text.proofs.Entries.{seen_more, read_all, read_stuck}
use Rattle.cert_text.proofs.shapes.walks_in.Goals as goal

pub returns-in_default-2 : goal.returns-in_default-2
returns-in_default-2 c =
    let nothing = sym (ap (option_map (λ (v : Vec ℤ Global). v.items)) c.in_default-2.is) ∙ c.in_ok-walk.ensures in
    read_stuck walk_in c.in-Some.list.now c.loop-entry.entry-index _ c.loop-entry-test.true c.entry-item.is nothing
    ∙ ap (option_and_then (all_read walk_in)) c.in-Some.ensures

pub loop-entry-preserved : goal.loop-entry-preserved
loop-entry-preserved c =
    let now = sym (ap (option_map (λ (v : Vec ℤ Global). v.items)) c.in-Some-2.is) ∙ c.in_ok-walk.ensures in
    seen_more walk_in (λ (v : Vec ℤ Global). v.items) c.in-Some.list.now c.loop-entry.entry-index _ _ _ c.loop-entry-test.true c.entry-item.is
    c.loop-entry.invariant now
    ∙ ap (λ xs. Some (walks_of xs)) (sym c.in_ok-push.ensures.items)

pub returns : goal.returns
returns c =
    read_all walk_in c.in-Some.list.now c.loop-entry.entry-index (walks_of c.loop-entry.walks.items) (omega arith)
    c.loop-entry.invariant
    ∙ ap (option_and_then (all_read walk_in)) c.in-Some.ensures
