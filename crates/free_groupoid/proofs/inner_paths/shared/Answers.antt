use Rattle.std.proofs.Common.{◌≡◌, ◌∙◌, ◌++◌, ℕ, ℤ, List, sym, ap, subst, nat_eq}
use Rattle.std.specs.List.{All, take_while}
use Rattle.ideal_tri.specs.Labels.{edge_of}
use Rattle.ideal_tri.specs.Triangulations.{IsLabel}
use Rattle.ideal_tri.specs.Words.{inverse_word, reduce}
use Rattle.free_groupoid.specs.inside.InnerPaths.{shared}
use Rattle.free_groupoid.proofs.Known.{Known}
use Rattle.free_groupoid.proofs.ThirdLetter.{shared_keeps}
use Rattle.free_groupoid.proofs.ComputedWords.{shared_computed}
use Rattle.free_groupoid.proofs.inner_paths.shared.Goals as goal

pub returns-clause-value : goal.returns-clause-value
returns-clause-value c =
    c.reduce-2.ensures
    ∙ shared_computed c.args.x c.args.a.now c.args.b.now c.front_of-front.result.now _
    (c.front_of-front.ensures
    ∙ ap (λ (e : ℕ). take_while (λ y. nat_eq (edge_of y) e) c.deref.result.now) c.edge.ensures
    ∙ ap (take_while (λ y. nat_eq (edge_of y) (edge_of c.args.x)))
    (c.deref.ensures.value ∙ c.reduce.ensures
    ∙ ap reduce (c.in_ok-push_inverse.ensures ∙ ap (λ (w : List ℤ). w ++ inverse_word c.args.b.now)
    c.in_ok-word.ensures.items)))
    (c.in_ok-extend_from_slice.ensures.items
    ∙ ap (λ (w : List ℤ). w ++ c.args.a.now)
    (c.in_ok-push_inverse-2.ensures
    ∙ ap (λ (w : List ℤ). w ++ inverse_word c.front_of-front.result.now) c.new-conjugator.ensures.items))

pub returns-clause-labels : goal.returns-clause-labels
returns-clause-labels c =
    let known : Known = record {
      labels = c.label_laws.ensures;
      words = c.word_laws.ensures;
      maps = c.map_laws.ensures;
    } in
    let value : c.reduce-2.new.letters.items ≡ shared c.args.x c.args.a.now c.args.b.now = returns-clause-value c in
    subst (All (IsLabel c.args.tri.now)) (sym value)
    (shared_keeps known (IsLabel c.args.tri.now) (known.labels.label c.args.tri.now) c.args.x c.args.a.now c.args.b.now
    c.requires.0 c.requires.1)
