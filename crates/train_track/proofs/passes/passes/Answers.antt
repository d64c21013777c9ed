use Rattle.std.proofs.Common.{ℕ, ℤ, List, ◌<◌, ◌+◌, ◌-◌, sym, ◌∙◌, ap, subst, arith, length, [], ◌∷◌, ◌++◌}
use Rattle.std.proofs.Common.{pos}
use Rattle.std.proofs.lemmas.List.{get_or_default, length-map}
use Rattle.free_groupoid.specs.Walks.{DualWalk}
use Rattle.train_track.specs.Branches.{letter_at, words_of}
use Rattle.train_track.specs.inside.Passing.{IsBeginning}
use Rattle.train_track.proofs.Cutting.{IsCutUpTo, cut_none, some_begins, cut_more, cut_all, word_at}
use Rattle.train_track.proofs.passes.passes.Goals as goal

pub loop-i-init : goal.loop-i-init
loop-i-init c =
    subst (λ (ns : List ℕ). IsCutUpTo (words_of c.args.branches.now) c.args.letters.now ns 0)
    (sym c.new-numbers.ensures.items)
    (cut_none (words_of c.args.branches.now) c.args.letters.now c.requires.cut)

pub passed-k-requires-clause-some : goal.passed-k-requires-clause-some
passed-k-requires-clause-some c =
    let bs : List (List ℤ) = words_of c.args.branches.now in
    let w : List ℤ = c.args.letters.now in
    let more = c.loop-i-test.true in
    subst (λ (x : ℤ). (k : ℕ) × IsBeginning bs x c.index-letters-i-in-loop-i.result k)
    (sym (c.index-letters-i.is ∙ get_or_default w c.loop-i.i c.index-letters-i.result (pos 0) (omega arith)))
    (subst (λ (y : ℤ). (k : ℕ) × IsBeginning bs (letter_at w c.loop-i.i) y k)
    (sym (c.index-letters-i-in-loop-i.is ∙ get_or_default w (c.loop-i.i + 1) c.index-letters-i-in-loop-i.result (pos 0)
    more))
    (some_begins c.word_laws.ensures bs w c.requires.cut c.loop-i.numbers.items c.loop-i.i c.loop-i.invariant more))

pub loop-i-preserved : goal.loop-i-preserved
loop-i-preserved c =
    let bs : List (List ℤ) = words_of c.args.branches.now in
    let w : List ℤ = c.args.letters.now in
    let more = c.loop-i-test.true in
    let begins : IsBeginning bs (letter_at w c.loop-i.i) (letter_at w (c.loop-i.i + 1)) c.passed-k.result =
    subst (λ (x : ℤ). IsBeginning bs x (letter_at w (c.loop-i.i + 1)) c.passed-k.result)
    (c.index-letters-i.is ∙ get_or_default w c.loop-i.i c.index-letters-i.result (pos 0) (omega arith))
    (subst (λ (y : ℤ). IsBeginning bs c.index-letters-i.result y c.passed-k.result)
    (c.index-letters-i-in-loop-i.is ∙ get_or_default w (c.loop-i.i + 1) c.index-letters-i-in-loop-i.result (pos 0) more)
    c.passed-k.ensures) in
    let within : c.passed-k.result < length c.args.branches.now =
    (let h = begins.0 in omega (arith, length-map c.args.branches.now (λ (w : DualWalk). w.letters))) in
    subst (λ (ns : List ℕ). IsCutUpTo bs w ns (c.loop-i.i + (c.length_of.result - 1))) (sym c.in_ok-push.ensures.items)
    (cut_more c.word_laws.ensures bs w c.requires.cut c.loop-i.numbers.items c.loop-i.i c.passed-k.result c.length_of.result
    c.loop-i.invariant more begins
    (sym (c.length_of.ensures ∙ ap length
    (word_at c.args.branches.now c.passed-k.result c.index-branches-k.result within c.index-branches-k.is))))

pub overflow_add-i-in-loop-i-2 : goal.overflow_add-i-in-loop-i-2
overflow_add-i-in-loop-i-2 c =
    let bs : List (List ℤ) = words_of c.args.branches.now in
    let w : List ℤ = c.args.letters.now in
    let more = c.loop-i-test.true in
    let begins : IsBeginning bs (letter_at w c.loop-i.i) (letter_at w (c.loop-i.i + 1)) c.passed-k.result =
    subst (λ (x : ℤ). IsBeginning bs x (letter_at w (c.loop-i.i + 1)) c.passed-k.result)
    (c.index-letters-i.is ∙ get_or_default w c.loop-i.i c.index-letters-i.result (pos 0) (omega arith))
    (subst (λ (y : ℤ). IsBeginning bs c.index-letters-i.result y c.passed-k.result)
    (c.index-letters-i-in-loop-i.is ∙ get_or_default w (c.loop-i.i + 1) c.index-letters-i-in-loop-i.result (pos 0) more)
    c.passed-k.ensures) in
    let here : c.passed-k.result < length c.args.branches.now =
    (let h = begins.0 in omega (arith, length-map c.args.branches.now (λ (w : DualWalk). w.letters))) in
    let next : IsCutUpTo bs w (c.loop-i.numbers.items ++ (c.passed-k.result ∷ []))
    (c.loop-i.i + (c.length_of.result - 1)) =
    cut_more c.word_laws.ensures bs w c.requires.cut c.loop-i.numbers.items c.loop-i.i c.passed-k.result c.length_of.result
    c.loop-i.invariant more begins
    (sym (c.length_of.ensures ∙ ap length
    (word_at c.args.branches.now c.passed-k.result c.index-branches-k.result here c.index-branches-k.is))) in
    let within : c.loop-i.i + (c.length_of.result - 1) < length w = next.within in
    omega arith

pub returns : goal.returns
returns c =
    cut_all c.word_laws.ensures (words_of c.args.branches.now) c.args.letters.now c.requires.cut c.loop-i.numbers.items c.loop-i.i
    c.loop-i.invariant
    c.loop-i-test.false
