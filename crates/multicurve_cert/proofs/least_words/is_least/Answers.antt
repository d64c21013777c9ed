use Rattle.std.proofs.Common.{rules, arith, IsTrue, ℤ, List, length, sym, ◌∙◌, ap, subst}
use Rattle.multicurve_cert.specs.Cycles.{IsWordBefore}
use Rattle.multicurve_cert.proofs.WordRotations.{turned, turned_long, none_more, is_least_from_none, not_least_on}
use Rattle.multicurve_cert.proofs.WordRotations.{not_least_back}
use Rattle.multicurve_cert.proofs.least_words.is_least.Goals as goal

pub returns-then-is_word_before : goal.returns-then-is_word_before
returns-then-is_word_before c =
    let is_true : IsTrue c.is_word_before.result = search rules in (
      λ t. search rules,
      λ least. absurd (not_least_on c.word_laws.ensures _ _ c.loop-k.k (c.deref.ensures.value ∙ c.in_ok-rotated.ensures)
          (c.is_word_before.ensures.0 is_true) least),
    )

pub returns-then-is_word_before-2 : goal.returns-then-is_word_before-2
returns-then-is_word_before-2 c =
    let is_true : IsTrue c.is_word_before-in-loop-k.result = search rules in (
      λ t. search rules,
      λ least. absurd (not_least_back c.word_laws.ensures _ c.in_ok-back.back.items _ c.loop-k.k c.in_ok-back.ensures
          (c.deref-in-loop-k-2.ensures.value ∙ c.in_ok-rotated-2.ensures
          ∙ ap (turned c.loop-k.k) c.deref-in-loop-k.ensures.value)
          (c.is_word_before-in-loop-k.ensures.0 is_true) least),
    )

pub is_word_before-requires-in-loop-k : goal.is_word_before-requires-in-loop-k
is_word_before-requires-in-loop-k c =
    turned_long c.word_laws.ensures c.deref-in-loop-k.result.now _ c.loop-k.k
    (c.deref-in-loop-k-2.ensures.value ∙ c.in_ok-rotated-2.ensures)
    ∙ ap length (c.deref-in-loop-k.ensures.value ∙ c.in_ok-back.ensures)
    ∙ c.word_laws.ensures.inverses.as_long c.args.w.now

pub loop-k-preserved : goal.loop-k-preserved
loop-k-preserved c =
    none_more _ _ _ c.loop-k.invariant
    (λ before. let t : IsTrue c.is_word_before.result =
    c.is_word_before.ensures.1
    (subst (λ (v : List ℤ). IsWordBefore v c.args.w.now) (sym (c.deref.ensures.value ∙ c.in_ok-rotated.ensures)) before)
    in grind arith)
    (λ before. let t : IsTrue c.is_word_before-in-loop-k.result =
    c.is_word_before-in-loop-k.ensures.1
    (subst (λ (v : List ℤ). IsWordBefore v c.args.w.now)
    (sym (c.deref-in-loop-k-2.ensures.value ∙ c.in_ok-rotated-2.ensures
    ∙ ap (turned c.loop-k.k) c.deref-in-loop-k.ensures.value)) before)
    in grind arith)

pub returns : goal.returns
returns c = (
  λ t. is_least_from_none c.word_laws.ensures c.label_laws.ensures.order _ _ _ c.loop-k.invariant c.loop-k-test.false
      c.requires c.in_ok-back.ensures,
  λ least. search rules,
)
