use Rattle.std.proofs.Common.{◌≡◌, ◌≢◌, [], ◌∷◌, ◌++◌, sym, ◌∙◌, subst, arith}
use Rattle.std.proofs.lemmas.Bool.Decides.{Decides-int_eq, not_from_Decides}
use Rattle.ideal_tri.specs.Labels.{inverse}
use Rattle.ideal_tri.specs.Words.{IsReduced, reduce}
use Rattle.free_groupoid.proofs.InPlace.{push_cancels, push_first, push_on}
use Rattle.free_groupoid.proofs.word.push_reduced.Goals as goal
use Rattle.free_groupoid.proofs.word.push_reduced.Goals.{else-count-gt0-via-then-count-gt0+else-eq}
use Rattle.free_groupoid.proofs.word.push_reduced.Goals.{else-count-gt0-via-else-count-gt0}

pub returns-then-eq : goal.returns-then-eq
returns-then-eq c =
    let opposite : c.index.result.now ≡ inverse c.args.x =
    (Decides-int_eq c.index.result.now c.inverse.result).0 (sym c.eq.ensures ∙ c.if-eq.true) ∙ c.inverse.ensures in
    let value : c.truncate.new.self.items ≡ reduce (c.args.word.now.items ++ (c.args.x ∷ [])) =
    c.truncate.ensures.items
    ∙ push_cancels c.label_laws.ensures c.word_laws.ensures.reduction c.letter_laws.ensures _ _ c.args.x _ c.requires (omega arith) c.if-count-gt0.true
    c.index.ensures opposite in
    record {
      value = value;
      reduced = subst IsReduced (sym value)
          (c.word_laws.ensures.reduction.is_reduced (c.args.word.now.items ++ (c.args.x ∷ [])));
    }

pub returns-in_ok-push : goal.returns-in_ok-push
returns-in_ok-push c =
    let value : c.push.new.self.items ≡ reduce (c.args.word.now.items ++ (c.args.x ∷ [])) =
    c.in_ok-push.ensures.items
    ∙ elim c.else-count-gt0.branch [
      | else-count-gt0-via-then-count-gt0+else-eq w ↦
          (let apart : w.index.result.now ≢ inverse c.args.x =
          λ e. not_from_Decides _ (Decides-int_eq w.index.result.now w.inverse.result)
          (sym w.eq.ensures ∙ w.if-eq.false) (e ∙ sym w.inverse.ensures) in
          push_on c.label_laws.ensures c.word_laws.ensures.reduction c.letter_laws.ensures _ _ c.args.x _ c.requires (omega arith) (omega arith)
          w.index.ensures apart)
      | else-count-gt0-via-else-count-gt0 w ↦ push_first c.word_laws.ensures.reduction _ c.args.x (omega arith)
    ] in
    record {
      value = value;
      reduced = subst IsReduced (sym value)
          (c.word_laws.ensures.reduction.is_reduced (c.args.word.now.items ++ (c.args.x ∷ [])));
    }
