use Rattle.std.proofs.Common.{ℕ, List, [], ◌≡◌, ◌<◌, ◌-◌, length, get_or, ◌∙◌, ap, arith, rules}
use Rattle.std.proofs.lemmas.List.{get_or_default}
use Rattle.carry_map.specs.Anchors.{Place}
use Rattle.carry_map.proofs.MiddleSteps.{number_more}
use Rattle.carry_map.proofs.picked.last_numbers.Goals as goal

pub overflow_sub-len : goal.overflow_sub-len
overflow_sub-len c =
    let less : c.loop-i.i < length c.args.all.now = search rules in
    let some : 0 < length (get_or c.args.all.now c.loop-i.i []) = c.requires c.loop-i.i less in
    let same : length c.index-all-i.result ≡ length (get_or c.args.all.now c.loop-i.i []) =
    ap (λ (ps : List Place). length ps)
    (c.index-all-i.is ∙ get_or_default c.args.all.now c.loop-i.i c.index-all-i.result [] less) in
    let long : c.len.result ≡ length c.index-all-i.result = search rules in
    omega arith

pub loop-i-preserved : goal.loop-i-preserved
loop-i-preserved c =
    let less : c.loop-i.i < length c.args.all.now = search rules in
    let same : length c.index-all-i.result ≡ length (get_or c.args.all.now c.loop-i.i []) =
    ap (λ (ps : List Place). length ps)
    (c.index-all-i.is ∙ get_or_default c.args.all.now c.loop-i.i c.index-all-i.result [] less) in
    let long : c.len.result ≡ length c.index-all-i.result = search rules in
    number_more c.loop-i.numbers.items c.push.new.self.items c.loop-i.i (c.len.result - 1)
    (λ k. length (get_or c.args.all.now k []) - 1) c.loop-i.invariant
    (ap (λ (n : ℕ). n - 1) (long ∙ same)) c.in_ok-push.ensures.items
