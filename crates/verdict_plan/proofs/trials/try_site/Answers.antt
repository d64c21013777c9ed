use Rattle.std.proofs.Common.{ℕ, ℤ, List, refl, sym, subst}
use Rattle.tri_atlas.specs.Arena.{triangulation}
use Rattle.tri_atlas.specs.Moves.{Move}
use Rattle.tri_atlas.specs.Paths.{moves_of}
use Rattle.verdict_plan.specs.inside.Known.{AreKnown, IsLineFor}
use Rattle.verdict_plan.proofs.KnownLines.{line_here, some_told}
use Rattle.verdict_plan.proofs.trials.try_site.Goals as goal

pub returns-in-Failed-clause-trial : goal.returns-in-Failed-clause-trial
returns-in-Failed-clause-trial c =
    let stands = rw c.in-Failed.is at c.requires.standing in
    record { stage = refl; standing = stands; outcome = stands c.args.power }

pub returns-in-Some-clause-trial : goal.returns-in-Some-clause-trial
returns-in-Some-clause-trial c =
    let stands = rw c.in-Open.is at c.requires.standing in
    let base : List (List ℤ) = triangulation c.args.atlas.now 0 in
    let moves : List Move = moves_of c.args.atlas.now c.args.word.now in
    let told = some_told _ c.in-Some.is c.line_of.ensures base moves
    (subst (AreKnown base moves) (sym c.deref.ensures.value) c.requires.known) in record {
      stage = refl;
      standing = stands;
      outcome = line_here c.args.atlas.now c.args.word.now c.args.site.stage c.requires.kept c.in-Open.track stands.0
          c.args.power c.in-Some.line
          (subst (λ (out : List ℤ). IsLineFor base moves c.args.site.stage.edges.items out c.args.power c.in-Some.line)
          c.left_out.ensures
          (subst (λ (es : List ℕ). IsLineFor base moves es c.left_out.result.now c.args.power c.in-Some.line)
          c.deref-in-Open.ensures.value told));
    }
