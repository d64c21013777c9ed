use Rattle.std.proofs.Common.{ℕ, Vec, Global, Some, ap, sym, ◌∙◌, option_and_then, arith}
use Rattle.std.specs.Option.{option_map}
use Rattle.cert_text.specs.Certificates.{rows_of}
use Rattle.cert_text.specs.Shapes.{all_read, list_in, natural_in}
use Rattle.cert_text.proofs.Entries.{seen_more, read_all, read_stuck}
use Rattle.cert_text.proofs.shapes.rows_in.Goals as goal

pub returns-in_default-2 : goal.returns-in_default-2
returns-in_default-2 c =
    let nothing = sym (ap (option_map (λ (v : Vec ℕ Global). v.items)) c.in_default-2.is) ∙ c.in_ok-row.ensures in
    read_stuck (list_in natural_in) c.in-Some.list.now c.loop-entry.entry-index _ c.loop-entry-test.true c.entry-item.is nothing
    ∙ ap (option_and_then (all_read (list_in natural_in))) c.in-Some.ensures

pub loop-entry-preserved : goal.loop-entry-preserved
loop-entry-preserved c =
    let now = sym (ap (option_map (λ (v : Vec ℕ Global). v.items)) c.in-Some-2.is) ∙ c.in_ok-row.ensures in
    seen_more (list_in natural_in) (λ (v : Vec ℕ Global). v.items) c.in-Some.list.now c.loop-entry.entry-index _ _ _ c.loop-entry-test.true c.entry-item.is
    c.loop-entry.invariant now
    ∙ ap (λ xs. Some (rows_of xs)) (sym c.in_ok-push.ensures.items)

pub returns : goal.returns
returns c =
    read_all (list_in natural_in) c.in-Some.list.now c.loop-entry.entry-index (rows_of c.loop-entry.rows.items) (omega arith)
    c.loop-entry.invariant
    ∙ ap (option_and_then (all_read (list_in natural_in))) c.in-Some.ensures
