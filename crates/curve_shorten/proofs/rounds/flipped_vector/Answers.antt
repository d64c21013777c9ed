use Rattle.std.proofs.Common.{◌<◌, ℕ, List, length, set, sym, ◌∙◌, ap, subst}
use Rattle.std.proofs.Math.Seq.{take-set-lt}
use Rattle.curve_shorten.proofs.rounds.flipped_vector.Goals as goal

pub returns : goal.returns
returns c =
    take-set-lt (length c.args.w.now) c.copied-numbers.result c.args.e c.flipped_number.result
    (subst (λ (n : ℕ). c.args.e < n) (sym c.requires.multicurve.one_per_edge) c.requires.flippable.0)
    ∙ ap (λ (v : List ℕ). set v c.args.e c.flipped_number.result) c.copied-numbers.ensures
    ∙ ap (λ (n : ℕ). set c.args.w.now c.args.e n) c.flipped_number.ensures
