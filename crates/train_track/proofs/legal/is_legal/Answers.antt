use Rattle.std.proofs.Common.{◌≡◌, false, true, refl, sym, ◌∙◌, subst, arith, ℕ, get_or, pos}
use Rattle.std.specs.Prelude.{IsTrue}
use Rattle.train_track.specs.inside.Growing.{is_legal_pair}
use Rattle.train_track.proofs.LegalWalks.{legal_from, not_legal}
use Rattle.train_track.proofs.legal.is_legal.Goals as goal

pub returns-then-not-is_legal_pair : goal.returns-then-not-is_legal_pair
returns-then-not-is_legal_pair c =
    let low = c.loop-i.auto.i in (
      λ t. absurd (let h : IsTrue false = t in grind arith),
      λ legal. absurd (not_legal c.args.tri.now c.args.left_out.now c.label_laws.ensures
          (c.surface_laws.ensures.triangles c.args.tri.now c.requires.sound) c.args.letters.now _ c.loop-i.i
          c.index-letters-i.result
          c.index-letters-i-in-loop-i.result c.requires.labels (omega arith) c.loop-i-test.true c.index-letters-i.is
          c.index-letters-i-in-loop-i.is (sym c.is_legal_pair.ensures ∙ c.if-not-is_legal_pair.true) legal),
    )

pub returns : goal.returns
returns c = (
  λ t. legal_from c.args.tri.now c.args.left_out.now c.label_laws.ensures
      (c.surface_laws.ensures.triangles c.args.tri.now c.requires.sound) c.args.letters.now c.loop-i.i c.requires.labels
      (omega arith)
      (λ k j e less. subst
      (λ (n : ℕ). is_legal_pair c.args.tri.now c.args.left_out.now (get_or c.args.letters.now k (pos 0))
      (get_or c.args.letters.now n (pos 0)) ≡ true)
      (sym e) (c.loop-i.invariant k (omega arith))),
  λ h. refl,
)
