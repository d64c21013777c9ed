use Rattle.std.proofs.Common.{◌≡◌, ◌↔◌, ◌∷◌, ◌-◌, ◌<◌, ℤ, IsTrue, pos, get_or, length, to_z, of_z, w32, ◌∙◌, arith, rules}
use Rattle.std.proofs.lemmas.List.{get_or_default}
use Rattle.ideal_tri.specs.Words.{IsReduced, IsCyclicallyReduced}
use Rattle.cert_checker.proofs.WalkReading.{round_and_round}
use Rattle.cert_checker.proofs.walks.is_cyclically_reduced.Goals as goal

pub returns : goal.returns
returns c =
    let w = c.args.letters.now in
    let some : 0 < length w = omega arith in
    let n : ℤ = get_or w (length w - 1) (pos 0) in
    let same : to_z w32 (of_z w32 n) ≡ n = search rules in
    let last : c.new.result ≡ get_or w (length w - 1) c.new.result =
    c.new.ensures ∙ same ∙ get_or_default w (length w - 1) (pos 0) c.new.result (omega arith) in
    let here : IsTrue c.is_reduced_behind.result ↔ IsReduced (c.new.result ∷ w) = c.is_reduced_behind.ensures in
    let round : IsReduced (c.new.result ∷ w) ↔ IsCyclicallyReduced w =
    round_and_round c.letter_laws.ensures w c.new.result some last in
    (λ t. round.0 (here.0 t), λ h. here.1 (round.1 h))
