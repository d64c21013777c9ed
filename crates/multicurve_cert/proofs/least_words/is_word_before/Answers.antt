use Rattle.std.proofs.Common.{rules, tests, ◌<◌, arith}
use Rattle.ideal_tri.specs.Vertices.{rank}
use Rattle.multicurve_cert.proofs.WordOrder.{same_none, same_more, first_other, all_same}
use Rattle.multicurve_cert.proofs.least_words.is_word_before.Goals as goal

pub loop-i-init : goal.loop-i-init
loop-i-init c = same_none _ _

pub loop-i-preserved : goal.loop-i-preserved
loop-i-preserved c =
    same_more c.letter_laws.ensures _ _ _ _ _ c.loop-i.invariant c.loop-i-test.true c.requires c.index-v-i.is c.index-w-i.is
    (c.letter_laws.ensures.agree _ _ _ c.ne.ensures c.if-ne.false)

pub returns-then-ne : goal.returns-then-ne
returns-then-ne c =
    let decides = first_other c.letter_laws.ensures _ _ _ _ _ c.loop-i.invariant c.loop-i-test.true c.requires
    c.index-v-i.is c.index-w-i.is
    (c.letter_laws.ensures.differ _ _ _ c.ne.ensures c.if-ne.true) in (
      λ t. decides.0 (let less : c.rank.result < c.rank-then-ne.result = search (rules, tests) in
          omega (arith, c.rank.ensures, c.rank-then-ne.ensures)),
      λ h. let less : rank c.index-v-i.result < rank c.index-w-i.result = decides.1 h in
          let less' : c.rank.result < c.rank-then-ne.result = omega (arith, c.rank.ensures, c.rank-then-ne.ensures) in
          search (rules, tests),
    )

pub returns : goal.returns
returns c = (
  λ t. search rules,
  λ h. absurd (all_same _ _ _ c.loop-i.invariant c.loop-i-test.false c.requires h),
)
