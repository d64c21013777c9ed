use Rattle.std.proofs.Common.{◌≡◌, ◌∙◌, [], ◌∷◌, ℤ, List, pos, get_or, set, to_z, of_z, w32, ap, replicate, rules}
use Rattle.std.proofs.Common.{arith}
use Rattle.ideal_tri.specs.declared.tri.TheConstants.{TRIANGLES}
use Rattle.ideal_tri.specs.inside.Places.{spare_triples}
use Rattle.ideal_tri.proofs.Places.{copied_next, all_copied, read_triple}
use Rattle.ideal_tri.proofs.tri.copy_sides.Goals as goal

pub loop-t-init : goal.loop-t-init
unfolding spare_triples
loop-t-init c = ap (λ (z : ℤ). replicate TRIANGLES (z ∷ (z ∷ (z ∷ [])))) c.new.ensures

pub loop-t-preserved : goal.loop-t-preserved
loop-t-preserved c =
    let t : List ℤ = get_or c.args.triples.now c.loop-t.t [] in
    let a : to_z w32 (of_z w32 (get_or t 0 (pos 0))) ≡ get_or t 0 (pos 0) = search rules in
    let b : to_z w32 (of_z w32 (get_or t 1 (pos 0))) ≡ get_or t 1 (pos 0) = search rules in
    let d : to_z w32 (of_z w32 (get_or t 2 (pos 0))) ≡ get_or t 2 (pos 0) = search rules in
    let read : ◌≡◌ {A = List ℤ} (c.new-in-loop-t.result ∷ (c.new-in-loop-t-2.result ∷ (c.new-in-loop-t-3.result ∷ [])))
    t =
    read_triple t _ _ _ (c.told-triples c.loop-t.t c.loop-t-test.true) (c.new-in-loop-t.ensures ∙ a)
    (c.new-in-loop-t-2.ensures ∙ b)
    (c.new-in-loop-t-3.ensures ∙ d) in
    ap (λ (z : List ℤ). set c.loop-t.sides c.loop-t.t z) read
    ∙ copied_next c.args.triples.now c.loop-t.sides c.loop-t.t c.loop-t-test.true c.requires c.loop-t.invariant

pub returns : goal.returns
returns c = all_copied c.args.triples.now c.loop-t.sides c.loop-t.t (omega arith) c.loop-t.invariant
