use Rattle.std.proofs.Common.{◌≡◌, ◌-◌, sym, ◌∙◌, ap, arith, pos, inl, inr, length}
use Rattle.std.proofs.lemmas.Bool.{true≢false}
use Rattle.std.proofs.lemmas.List.{get_or_default}
use Rattle.ideal_tri.specs.Labels.{inverse}
use Rattle.train_track.specs.Branches.{letter_at}
use Rattle.train_track.proofs.Cutting.{begins_back, begins_cases}
use Rattle.train_track.proofs.passes.begins_some_way.Goals as goal

pub returns : goal.returns
returns c =
    let long = c.requires in
    let zero_is : c.index-letters-0.result ≡ letter_at c.args.letters.now 0 =
    c.index-letters-0.is ∙ get_or_default c.args.letters.now 0 c.index-letters-0.result (pos 0) (omega arith) in
    let one_is : c.index-letters-1.result ≡ letter_at c.args.letters.now 1 =
    c.index-letters-1.is ∙ get_or_default c.args.letters.now 1 c.index-letters-1.result (pos 0) (omega arith) in
    let last_is : c.inverse.result ≡ inverse (letter_at c.args.letters.now (length c.args.letters.now - 1)) =
    c.inverse.ensures
    ∙ ap inverse
    (c.index-letters-last.is ∙ get_or_default c.args.letters.now (length c.args.letters.now - 1)
    c.index-letters-last.result (pos 0) (omega arith)) in
    let second_is : c.inverse-2.result ≡ inverse (letter_at c.args.letters.now (length c.args.letters.now - 2)) =
    c.inverse-2.ensures
    ∙ ap inverse
    (c.index-letters-last-2.is ∙ get_or_default c.args.letters.now (length c.args.letters.now - 1 - 1)
    c.index-letters-last-2.result (pos 0) (omega arith)
    ∙ ap (letter_at c.args.letters.now)
    (let e : length c.args.letters.now - 1 - 1 ≡ length c.args.letters.now - 2 = omega arith in e)) in (
      λ t. (let (a, b) = c.are_letters-2.ensures.0 t in
          begins_back c.word_laws.ensures c.args.letters.now c.args.x c.args.y c.requires (sym last_is ∙ a) (sym second_is ∙ b)),
      λ h. elim (begins_cases c.word_laws.ensures c.args.letters.now c.args.x c.args.y c.requires h) [
        | inl (a, b) ↦
            absurd (true≢false (sym (c.are_letters.ensures.1 (zero_is ∙ a, one_is ∙ b)) ∙ c.if-are_letters.false))
        | inr (a, b) ↦ c.are_letters-2.ensures.1 (last_is ∙ a, second_is ∙ b)
      ],
    )
