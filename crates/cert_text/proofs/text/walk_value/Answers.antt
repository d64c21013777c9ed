use Rattle.std.proofs.Common.{◌≡◌, ℤ, pos, map, arith, ◌∙◌, ap, refl, get_or, to_z, of_z, w32, rules, FitsSigned}
use Rattle.std.proofs.lemmas.Int.{ints}
use Rattle.serde_json.specs.Data.{number}
use Rattle.serde_json.specs.Find.{of_integer}
use Rattle.serde_json.specs.View.{view}
use Rattle.cert_text.specs.Shapes.{integer_in}
use Rattle.cert_text.specs.Texts.{integer}
use Rattle.cert_text.proofs.Lists.{all_made, made_more}
use Rattle.cert_text.proofs.ReadBack.{back_more, back_all, integer_back, same_number}
use Rattle.cert_text.proofs.text.walk_value.Goals as goal

pub loop-letter-preserved : goal.loop-letter-preserved
loop-letter-preserved c =
    let z : ℤ = get_or c.args.letters.now c.loop-letter.letter-index (pos 0) in
    let same : to_z w32 (of_z w32 z) ≡ z = grind (arith, ints) in
    let fits : FitsSigned w32 z = search (rules, arith) in
    let made = c.from.ensures ∙ ap (λ (y : ℤ). number (of_integer y)) same ∙ same_number z in (
      ap (map view) c.in_ok-push.ensures.items
          ∙ made_more integer (λ (y : ℤ). y) c.args.letters.now c.loop-letter.letter-index _ z _ _ c.loop-letter-test.true
          refl c.loop-letter.invariant.0 made,
      back_more integer_in integer c.args.letters.now c.loop-letter.letter-index z _ c.loop-letter-test.true refl
          c.loop-letter.invariant.1 (integer_back z fits),
    )

pub returns-clause-tree : goal.returns-clause-tree
returns-clause-tree c =
    c.from-2.ensures
    ∙ all_made integer c.args.letters.now c.loop-letter.letter-index _ (omega arith) c.loop-letter.invariant.0

pub returns-clause-read_back : goal.returns-clause-read_back
returns-clause-read_back c =
    back_all integer_in integer c.args.letters.now c.loop-letter.letter-index (omega arith) c.loop-letter.invariant.1
