use Rattle.std.proofs.Common.{◌∙◌, ◌∷◌, [], ◌<◌, ◌^◌, ℕ, ℤ, List, pos, sym, ap, arith}
use Rattle.std.proofs.lemmas.Int.{to_z_pos}
use Rattle.std.proofs.lemmas.List.FromFn.{map-range_with_len_more}
use mir.Syntax.{w32}
use Rattle.free_groupoid.proofs.Lists.{word_made}
use Rattle.free_groupoid.proofs.map.Map.identity.Goals as goal

pub loop-n-preserved : goal.loop-n-preserved
loop-n-preserved c =
    let single : ℕ → List ℤ = λ k. pos k ∷ [] in
    let small : c.loop-n.n < 2 ^ 31 = omega (arith, c.edges-n-end.ensures.size.few) in
    word_made _ _ c.in_ok-vec.field-0 (single c.loop-n.n) _ c.in_ok-push.ensures.ok
    (c.in_ok-vec.ensures.items ∙ ap (λ (x : ℤ). x ∷ []) (c.new.ensures
    ∙ to_z_pos w32 c.loop-n.n small)) c.loop-n.invariant
    ∙ sym (map-range_with_len_more single 0 c.loop-n.n c.loop-n.n (omega arith))
