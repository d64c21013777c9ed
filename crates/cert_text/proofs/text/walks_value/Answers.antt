use Rattle.std.proofs.Common.{ℤ, Vec, Global, ◌≡◌, ◌<◌, ◌≤◌, length, map, arith, ◌∙◌, ap, subst, List, Some}
use Rattle.std.proofs.lemmas.List.{length-map}
use Rattle.serde_json.specs.View.{view}
use Rattle.cert_text.specs.Certificates.{walks_of}
use Rattle.cert_text.specs.Shapes.{walk_in}
use Rattle.cert_text.specs.Texts.{walk_data}
use Rattle.cert_text.proofs.Lists.{all_made, in_one, made_more}
use Rattle.cert_text.proofs.ReadBack.{back_more, back_all, seen_at}
use Rattle.cert_text.proofs.text.walks_value.Goals as goal

pub loop-walk-preserved : goal.loop-walk-preserved
loop-walk-preserved c =
    let within : c.loop-walk.walk-index < length (walks_of c.args.walks.now) =
    simp length-map c.loop-walk-test.true in
    let made = c.in_ok-walk_value.ensures.tree ∙ ap walk_data c.deref.ensures.value in
    let back =
    subst (λ (w : List ℤ). walk_in (walk_data w) ≡ Some w) c.deref.ensures.value
    c.in_ok-walk_value.ensures.read_back in (
      ap (map view) c.in_ok-push.ensures.items
          ∙ made_more walk_data (λ (walk : Vec ℤ Global). walk.items) c.args.walks.now c.loop-walk.walk-index _ _ _ _
          c.loop-walk-test.true c.walk-item.is c.loop-walk.invariant.0 made,
      back_more walk_in walk_data (walks_of c.args.walks.now) c.loop-walk.walk-index _ _ within
          (seen_at (λ (walk : Vec ℤ Global). walk.items) c.args.walks.now c.loop-walk.walk-index _ _ c.loop-walk-test.true
          c.walk-item.is)
          c.loop-walk.invariant.1 back,
    )

pub returns-clause-tree : goal.returns-clause-tree
returns-clause-tree c =
    c.from.ensures
    ∙ all_made (λ walk. walk_data walk.items) c.args.walks.now c.loop-walk.walk-index _ (omega arith)
    c.loop-walk.invariant.0
    ∙ in_one (λ (walk : Vec ℤ Global). walk.items) walk_data c.args.walks.now

pub returns-clause-read_back : goal.returns-clause-read_back
returns-clause-read_back c =
    let all : length (walks_of c.args.walks.now) ≤ c.loop-walk.walk-index = simp length-map (omega arith) in
    back_all walk_in walk_data (walks_of c.args.walks.now) c.loop-walk.walk-index all c.loop-walk.invariant.1
