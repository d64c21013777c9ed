use Rattle.std.proofs.Common.{◌≡◌, ◌++◌, ◌∷◌, [], ℤ, Some, ap, sym, ◌∙◌, option_and_then, arith, to_z, of_z, w32}
use Rattle.std.proofs.lemmas.Int.{ints}
use Rattle.cert_text.specs.Shapes.{all_read, integer_in}
use Rattle.cert_text.proofs.Entries.{read_more, read_stuck}
use Rattle.cert_text.proofs.shapes.walk_in.Goals as goal

pub returns-in_default-integer_in : goal.returns-in_default-integer_in
returns-in_default-integer_in c =
    read_stuck integer_in c.in-Some.list.now c.loop-entry.entry-index _ c.loop-entry-test.true c.entry-item.is
    c.in_default-integer_in.ensures
    ∙ ap (option_and_then (all_read integer_in)) c.in-Some.ensures

pub loop-entry-preserved : goal.loop-entry-preserved
loop-entry-preserved c =
    let back : to_z w32 (of_z w32 c.in-Some-integer_in.letter) ≡ c.in-Some-integer_in.letter = grind (arith, ints) in
    read_more integer_in c.in-Some.list.now c.loop-entry.entry-index _ _ _ c.loop-entry-test.true c.entry-item.is
    c.loop-entry.invariant c.in-Some-integer_in.ensures
    ∙ ap (λ (x : ℤ). Some (c.loop-entry.letters.items ++ x ∷ [])) (sym back)
    ∙ ap Some (sym c.in_ok-push.ensures.items)
