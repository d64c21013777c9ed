use Rattle.std.proofs.Common.{arith, ℤ, List, ◌≡◌, ◌∙◌, sym, subst, take, Result, Ok, Err, IfOk, IfErr, IfSome, IfNone}
use Rattle.std.specs.Result.{result_ok}
use Rattle.relabel.specs.declared.relabelling.RelabelError.{RelabelError}
use Rattle.ideal_tri.specs.Relabellings.{IsRelabelling}
use Rattle.relabel.specs.Relabellings.{IsTheOne, NoneTakes}
use Rattle.relabel.proofs.Forced.{the_one, none_such}
use Rattle.relabel.proofs.relabelling.Relabelling.from_one.Goals as goal

some_of_ok : (r : Result (List ℤ) RelabelError) (P Q : List ℤ → Type 0) → ((t : List ℤ) → P t → Q t) → IfOk r P
    → IfSome (result_ok r) Q
some_of_ok (Ok t) P Q f h = f t h
some_of_ok (Err e) P Q f h = tt

none_of_err : (r : Result (List ℤ) RelabelError) (P N : Type 0) → (P → N) → IfErr r (λ _. P) → IfNone (result_ok r) N
none_of_err (Ok t) P N f h = tt
none_of_err (Err e) P N f h = f h

pub returns-clause-some : goal.returns-clause-some
returns-clause-some c =
    let list = take c.edges-edges.result c.forced_images-images.result in
    subst (λ o. IfSome o (IsTheOne c.args.from.now c.args.to.now c.args.x c.args.y)) (sym c.ok.ensures.value)
    (some_of_ok c.from_list.result (λ r. IsRelabelling c.args.from.now c.args.to.now list × (r ≡ list))
    (IsTheOne c.args.from.now c.args.to.now c.args.x c.args.y)
    (λ r h.
    the_one c.args.from.now c.args.to.now c.args.x c.args.y c.forced_images-images.result r c.edges-edges.result
    c.forced_images-images.ensures.forced c.forced_images-images.ensures.takes c.requires.label
    (c.edges-edges.ensures.count ∙ sym c.requires.same)
    (omega arith) h.0 h.1)
    c.from_list.ensures.accepted)

pub returns-clause-none : goal.returns-clause-none
returns-clause-none c =
    let list = take c.edges-edges.result c.forced_images-images.result in
    subst (λ o. IfNone o (NoneTakes c.args.from.now c.args.to.now c.args.x c.args.y)) (sym c.ok.ensures.value)
    (none_of_err c.from_list.result (¬ IsRelabelling c.args.from.now c.args.to.now list)
    (NoneTakes c.args.from.now c.args.to.now c.args.x c.args.y)
    (none_such c.args.from.now c.args.to.now c.args.x c.args.y c.forced_images-images.result c.edges-edges.result
    c.forced_images-images.ensures.forced (c.edges-edges.ensures.count ∙ sym c.requires.same) (omega arith))
    c.from_list.ensures.exact)
