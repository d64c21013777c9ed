use Rattle.std.proofs.Common.{◌≡◌, ◌++◌, ◌∷◌, [], ℤ, Some, ap, sym, ◌∙◌, option_and_then, arith, to_z, of_z, w32}
use Rattle.std.proofs.lemmas.Int.{ints}
use Rattle.surface_lib.specs.Json.{all_read, whole_in}
use Rattle.surface_lib.proofs.Entries.{read_more, read_stuck}
use Rattle.surface_lib.proofs.json.numbers_in.Goals as goal

pub returns-in_default-whole_in : goal.returns-in_default-whole_in
returns-in_default-whole_in c =
    read_stuck whole_in c.in-Some.list.now c.loop-entry.entry-index _ c.loop-entry-test.true c.entry-item.is
    c.in_default-whole_in.ensures
    ∙ ap (option_and_then (all_read whole_in)) c.in-Some.ensures

pub loop-entry-preserved : goal.loop-entry-preserved
loop-entry-preserved c =
    let back : to_z w32 (of_z w32 c.in-Some-whole_in.number) ≡ c.in-Some-whole_in.number = grind (arith, ints) in
    read_more whole_in c.in-Some.list.now c.loop-entry.entry-index _ _ _ c.loop-entry-test.true c.entry-item.is
    c.loop-entry.invariant c.in-Some-whole_in.ensures
    ∙ ap (λ (x : ℤ). Some (c.loop-entry.numbers.items ++ x ∷ [])) (sym back)
    ∙ ap Some (sym c.in_ok-push.ensures.items)
