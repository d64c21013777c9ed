use Rattle.std.proofs.Common.{◌<◌, ◌^◌, Some, ap, sym, subst, ◌∙◌, All, option_and_then}
use Rattle.std.proofs.lemmas.List.Elements.{All-push}
use Rattle.surface_lib.specs.Json.{all_read}
use Rattle.surface_lib.specs.TwistForms.{count_in}
use Rattle.surface_lib.proofs.Entries.{read_more, read_stuck}
use Rattle.surface_lib.proofs.twist_form.counts_in.Goals as goal

pub returns-in_default-count_in-clause-read : goal.returns-in_default-count_in-clause-read
returns-in_default-count_in-clause-read c =
    read_stuck count_in c.in-Some.list.now c.loop-entry.entry-index _ c.loop-entry-test.true c.entry-item.is
    c.in_default-count_in.ensures.value
    ∙ ap (option_and_then (all_read count_in)) c.in-Some.ensures

pub loop-entry-preserved : goal.loop-entry-preserved
loop-entry-preserved c = record {
  read =
      read_more count_in c.in-Some.list.now c.loop-entry.entry-index _ _ _ c.loop-entry-test.true c.entry-item.is
      c.loop-entry.invariant.read c.in-Some-count_in.ensures.value
      ∙ ap Some (sym c.in_ok-push.ensures.items);
  small =
      subst (All (λ n. n < 2 ^ 31)) (sym c.in_ok-push.ensures.items)
      (All-push (λ n. n < 2 ^ 31) c.loop-entry.counts.items c.in-Some-count_in.count c.loop-entry.invariant.small
      c.in-Some-count_in.ensures.small);
}
