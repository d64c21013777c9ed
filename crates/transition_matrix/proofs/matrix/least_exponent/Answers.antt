use Rattle.std.proofs.Common.{◌≡◌, ◌<◌, ◌+◌, ◌*◌, ℕ, List, length, true, Bool, sym, ◌∙◌, ap, subst, arith}
use Rattle.std.specs.Prelude.{◌&&◌, IsTrue, false}
use Rattle.transition_matrix.specs.inside.Bits.{bit, any_below, IsTable}
use Rattle.transition_matrix.proofs.Exponents.{HasSigns, first_signs, next_reached, none_reached, least_reached}
use Rattle.transition_matrix.proofs.Exponents.{none_at_first}
use Rattle.transition_matrix.proofs.matrix.least_exponent.Goals as goal

-- a copy of a table is a table
copied : (n width : ℕ) (words new : List ℕ) → new ≡ words → IsTable n width words → IsTable n width new
copied n width words new same table = let P : List ℕ → Type 0 = λ w. IsTable n width w in subst P (sym same) table

pub loop-k-init : goal.loop-k-init
loop-k-init c =
    let same = c.copy_from_slice.ensures.after in
    let P : List ℕ → Type 0 = λ w. HasSigns c.args.matrix.now c.args.width 1 w in
    record {
      reached = subst P (sym same) (first_signs c.args.matrix.now c.args.width c.args.signs.now c.requires.signs);
      none = none_at_first c.args.matrix.now;
      room = copied c.args.matrix.now.size c.args.width c.args.signs.now _ same c.requires.table;
    }

pub loop-k-preserved : goal.loop-k-preserved
loop-k-preserved c =
    let m = c.args.matrix.now in
    let same = c.copy_from_slice-in-loop-k.ensures.after in
    let size : c.size-n.result ≡ m.size = c.size-n.ensures in
    let product : (i j : ℕ) → i < m.size → j < m.size → bit c.args.width c.multiply.new.words i j
    ≡ any_below m.size (λ l. bit c.args.width c.loop-k.power i l && bit c.args.width c.args.signs.now l j)
    = λ i j row column. c.multiply.ensures i j (omega arith) (omega arith)
    ∙ ap (λ (n : ℕ). any_below n (λ l. bit c.args.width c.loop-k.power i l && bit c.args.width c.args.signs.now l j))
    size in
    let missing : ¬ ((i j : ℕ) → i < m.size → j < m.size → bit c.args.width c.loop-k.power i j ≡ true)
    = λ full. let t : IsTrue false = c.if-is_full.ensures.1 (λ i j row column. full i j (omega arith) (omega arith)) in
    grind arith in
    let P : List ℕ → Type 0 = λ w. HasSigns m c.args.width (c.loop-k.k + 1 + 1) w in
    record {
      reached = subst P (sym same)
          (next_reached m c.args.width c.loop-k.k c.args.signs.now c.loop-k.power c.multiply.new.words c.requires.signs
          c.loop-k.invariant.reached product);
      none = none_reached m c.args.width c.loop-k.k c.loop-k.power c.loop-k.invariant.reached c.loop-k.invariant.none
          missing;
      room = copied m.size c.args.width c.multiply.new.words _ same
          (record {
            whole = omega (arith, c.multiply.auto.words, c.loop-k.auto.next, c.requires.next.whole);
            wide =
                c.requires.next.wide;
          });
    }
