use Rattle.std.proofs.Common.{ℤ, List, ◌≡◌, ◌≤◌, sym, ◌∙◌, ap, subst, arith, length, get_or, [], inl, inr}
use Rattle.std.proofs.lemmas.Bool.{cases_eq, true≢false}
use Rattle.std.proofs.lemmas.List.{length-map}
use Rattle.free_groupoid.specs.Walks.{DualWalk}
use Rattle.train_track.specs.Branches.{words_of}
use Rattle.train_track.specs.inside.Passing.{BeginsSomeWay, IsBeginning}
use Rattle.train_track.proofs.Cutting.{word_at}
use Rattle.train_track.proofs.passes.passed.Goals as goal

as_many : (branches : List DualWalk) → length (words_of branches) ≡ length branches
as_many branches = length-map branches (λ (w : DualWalk). w.letters)

pub begins_some_way-requires : goal.begins_some_way-requires
begins_some_way-requires c =
    let word : c.deref.result.now ≡ get_or (words_of c.args.branches.now) c.loop-k.k [] =
    c.deref.ensures.value ∙ ap (λ (w : DualWalk). w.letters) c.branch.view_is
    ∙ word_at c.args.branches.now c.loop-k.k c.index-branches-k.result c.loop-k-test.true c.index-branches-k.is in
    subst (λ (w : List ℤ). 2 ≤ length w) (sym word)
    (c.requires.long c.loop-k.k [] (omega (arith, as_many c.args.branches.now)))

pub returns-then-begins_some_way : goal.returns-then-begins_some_way
returns-then-begins_some_way c =
    let word : c.deref.result.now ≡ get_or (words_of c.args.branches.now) c.loop-k.k [] =
    c.deref.ensures.value ∙ ap (λ (w : DualWalk). w.letters) c.branch.view_is
    ∙ word_at c.args.branches.now c.loop-k.k c.index-branches-k.result c.loop-k-test.true c.index-branches-k.is in (
      omega (arith, as_many c.args.branches.now),
      subst (BeginsSomeWay c.args.x c.args.y) word (c.begins_some_way.ensures.0 c.if-begins_some_way.true),
    )

pub loop-k-preserved : goal.loop-k-preserved
loop-k-preserved c j less h =
    let word : c.deref.result.now ≡ get_or (words_of c.args.branches.now) c.loop-k.k [] =
    c.deref.ensures.value ∙ ap (λ (w : DualWalk). w.letters) c.branch.view_is
    ∙ word_at c.args.branches.now c.loop-k.k c.index-branches-k.result c.loop-k-test.true c.index-branches-k.is in
    elim (cases_eq j c.loop-k.k) [
      | inl e ↦ true≢false
          (sym (c.begins_some_way.ensures.1
          (subst (BeginsSomeWay c.args.x c.args.y) (sym word)
          (subst (IsBeginning (words_of c.args.branches.now) c.args.x c.args.y) e h).1)) ∙ c.if-begins_some_way.false)
      | inr apart ↦ c.loop-k.invariant j (omega arith) h
    ]

pub returns : goal.returns
returns c =
    let (k, h) = c.requires.some in
    absurd (c.loop-k.invariant k (let within = h.0 in omega (arith, as_many c.args.branches.now)) h)
