use Rattle.std.proofs.Common.{ℤ, Vec, ◌≡◌, length, rules}
use Rattle.std.specs.Global.{Global}
use Rattle.cert_checker.proofs.ListsTogether.{letters_told, all_told}
use Rattle.cert_checker.proofs.images.letters_in.Goals as goal

pub loop-word-preserved : goal.loop-word-preserved
loop-word-preserved c =
    let long : c.len.result ≡ length c.word-item.result.items = search rules in
    letters_told (λ (w : Vec ℤ Global). w.items) c.args.words.now c.loop-word.word-index c.loop-word.letters
    c.len.result c.saturating_add-letters.result c.word-item.result c.loop-word-test.true c.word-item.is
    c.loop-word.invariant long c.saturating_add-letters.ensures

pub returns : goal.returns
returns c =
    all_told (λ (w : Vec ℤ Global). w.items) c.args.words.now c.loop-word.word-index c.loop-word.letters
    c.loop-word-test.false c.loop-word.invariant
