use Rattle.std.proofs.Common.{[], ◌≡◌, ◌<◌, ◌+◌, ◌*◌, ◌-◌, ◌/◌, List, length, get_or, slice_index}
use Rattle.std.proofs.Common.{sym, ◌∙◌, ap, subst, rules}
use Rattle.std.proofs.lemmas.List.{get_or_default}
use Rattle.carry_map.specs.Anchors.{Place}
use Rattle.carry_map.proofs.MiddleSteps.{number_more}
use Rattle.carry_map.proofs.middle.middle_numbers.Goals as goal

pub halfway-requires-clause-on : goal.halfway-requires-clause-on
halfway-requires-clause-on c =
    let less : c.loop-i.i < length c.args.all.now = search rules in
    let same : c.index-all-i.result ≡ get_or c.args.all.now c.loop-i.i [] =
    c.index-all-i.is ∙ get_or_default c.args.all.now c.loop-i.i c.index-all-i.result [] less in
    subst (λ (ps : List Place). slice_index c.args.heights.now (2 * c.loop-i.i) < length ps) (sym same)
    (c.requires.on c.loop-i.i less)

pub halfway-requires-clause-back : goal.halfway-requires-clause-back
halfway-requires-clause-back c =
    let less : c.loop-i.i < length c.args.all.now = search rules in
    let same : c.index-all-i.result ≡ get_or c.args.all.now c.loop-i.i [] =
    c.index-all-i.is ∙ get_or_default c.args.all.now c.loop-i.i c.index-all-i.result [] less in
    subst (λ (ps : List Place). slice_index c.args.heights.now (2 * c.loop-i.i + 1) < length ps) (sym same)
    (c.requires.back c.loop-i.i less)

pub loop-i-preserved : goal.loop-i-preserved
loop-i-preserved c =
    let less : c.loop-i.i < length c.args.all.now = search rules in
    let same : c.index-all-i.result ≡ get_or c.args.all.now c.loop-i.i [] =
    c.index-all-i.is ∙ get_or_default c.args.all.now c.loop-i.i c.index-all-i.result [] less in
    number_more c.loop-i.numbers.items c.push.new.self.items c.loop-i.i c.halfway.result
    (λ k. (length (get_or c.args.all.now k []) - 1 - slice_index c.args.heights.now (2 * k + 1)
    + slice_index c.args.heights.now (2 * k)) / 2)
    c.loop-i.invariant
    (c.halfway.ensures ∙ ap (λ (ps : List Place). (length ps - 1 - slice_index c.args.heights.now (2 * c.loop-i.i + 1)
    + slice_index c.args.heights.now (2 * c.loop-i.i)) / 2) same)
    c.in_ok-push.ensures.items
