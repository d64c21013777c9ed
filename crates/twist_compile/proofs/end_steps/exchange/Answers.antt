use Rattle.std.proofs.Common.{◌≡◌, ◌<◌, ◌^◌, ◌∙◌, arith, w32, rules, to_z, of_z}
use Rattle.std.proofs.lemmas.Int.{to_z_pos}
use Rattle.twist_compile.proofs.Exchange.{images_more}
use Rattle.twist_compile.proofs.end_steps.exchange.Goals as goal

pub loop-e-preserved : goal.loop-e-preserved
loop-e-preserved c =
    let small : c.loop-e.e < 2 ^ 31 =
    omega (arith, c.edges-e-end.ensures.size.few, c.edges-e-end.ensures.count, c.loop-e-test.true) in
    let kept : to_z w32 (of_z w32 c.get.result) ≡ c.get.result = search rules in
    images_more c.args.p c.args.q c.loop-e.e c.loop-e.images.items _ _ c.new.result
    c.in_ok-push.ensures.items c.loop-e.invariant (kept ∙ c.get.ensures ∙ c.exchanged.ensures)
    (c.new.ensures ∙ to_z_pos w32 c.loop-e.e small)
