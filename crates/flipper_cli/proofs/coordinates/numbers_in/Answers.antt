use Rattle.std.proofs.Common.{◌≡◌, sym, inr, lit<, length, arith}
use Rattle.std.proofs.lemmas.Iterator.Splits.{YieldsList-from_str_split}
use Rattle.std.proofs.lemmas.Iterator.Consumers.{YieldsList-at, YieldsList-turn, YieldsList-end}
use Rattle.std.proofs.lemmas.List.{length_push}
use Rattle.flipper_cli.specs.Coordinates.{fields_of, is_number, number_in}
use Rattle.flipper_cli.proofs.Numbers.{none_read, one_read, all_read, bad_read, some_from, none_from}
use Rattle.flipper_cli.proofs.coordinates.numbers_in.Goals as goal

pub loop-field-init : goal.loop-field-init
loop-field-init c = none_read (fields_of c.args.text.now) _ c.new-numbers.ensures.items

pub loop-field-preserved : goal.loop-field-preserved
loop-field-preserved c =
    let text = c.args.text.now in
    let yields = YieldsList-at c.into_iter-field-iterator.ensures.into_iter_gives
    (YieldsList-from_str_split 44 text (lit< tt) c.split-field-items.ensures.text c.split-field-items.ensures.has_more
    c.split-field-items.ensures.pattern) in
    let turn = YieldsList-turn yields c.loop-field.yielded _ c.loop-field.yielded_by _ _ c.in-Some.field c.in-Some.is
    c.next.ensures.steps in
    let field = c.in-Some.field.now in
    let found = some_from (is_number field) (number_in field) c.in-Some-number_in.n _ c.number_in.ensures
    c.in-Some-number_in.is in
    one_read (fields_of text) (length c.loop-field.yielded) _ c.in-Some-number_in.n field _ _ c.loop-field.invariant turn
    found c.in_ok-push-in-Some-number_in.ensures.items (length_push c.loop-field.yielded c.in-Some.field)

pub returns-in-None-number_in-clause-refused : goal.returns-in-None-number_in-clause-refused
returns-in-None-number_in-clause-refused c =
    let text = c.args.text.now in
    let yields = YieldsList-at c.into_iter-field-iterator.ensures.into_iter_gives
    (YieldsList-from_str_split 44 text (lit< tt) c.split-field-items.ensures.text c.split-field-items.ensures.has_more
    c.split-field-items.ensures.pattern) in
    let turn = YieldsList-turn yields c.loop-field.yielded _ c.loop-field.yielded_by _ _ c.in-Some.field c.in-Some.is
    c.next.ensures.steps in
    let field = c.in-Some.field.now in
    let wrong = none_from (is_number field) (number_in field) _ c.number_in.ensures c.in-None-number_in.is in
    let place : c.len.result ≡ length c.loop-field.numbers.items = omega (arith, c.loop-field.numbers.ok.0) in
    inr (bad_read text c.loop-field.numbers.items field (length c.loop-field.yielded) _ c.loop-field.invariant place turn
    wrong)

pub returns-clause-read : goal.returns-clause-read
returns-clause-read c =
    let text = c.args.text.now in
    let yields = YieldsList-at c.into_iter-field-iterator.ensures.into_iter_gives
    (YieldsList-from_str_split 44 text (lit< tt) c.split-field-items.ensures.text c.split-field-items.ensures.has_more
    c.split-field-items.ensures.pattern) in
    let end = YieldsList-end yields c.loop-field.yielded _ c.loop-field.yielded_by _ _ c.in-None.is
    c.next.ensures.steps in
    all_read text c.loop-field.numbers.items (length c.loop-field.yielded) c.loop-field.invariant (sym end.1)
