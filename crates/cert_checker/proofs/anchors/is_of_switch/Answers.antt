use Rattle.std.proofs.Common.{◌≡◌, ℤ, List, pos, sym, ◌∙◌, subst}
use Rattle.std.specs.List.{Contains}
use Rattle.std.specs.Ordering.{int_eq}
use Rattle.std.proofs.lemmas.Bool.Decides.{Decides-int_eq}
use Rattle.std.proofs.lemmas.List.Elements.{Decides-contains, contains_decides}
use Rattle.ideal_tri.specs.Labels.{edge_of}
use Rattle.tri_atlas.specs.Arena.{triangulation}
use Rattle.train_track.specs.Tracks.{switches_of}
use Rattle.cert_checker.proofs.SwitchLabels.{forwards_is, listed_switch, switch_listed}
use Rattle.cert_checker.proofs.anchors.is_of_switch.Goals as goal

pub returns : goal.returns
returns c =
    let here : List (List ℤ) = triangulation c.args.atlas.now c.args.track.now.tri in
    let out : List ℤ = c.args.track.now.left_out in
    let test = Decides-contains c.switches.result.now c.with_sign_of-forwards.result c.contains.result
    (contains_decides int_eq Decides-int_eq c.switches.result.now c.with_sign_of-forwards.result c.contains.result
    c.contains.ensures.cases) in
    let same : c.with_sign_of-forwards.result ≡ pos (edge_of c.args.x) =
    c.with_sign_of-forwards.ensures.value ∙ forwards_is c.args.x in
    let listed : c.switches.result.now ≡ switches_of here out = c.switches.ensures ∙ c.requires.switches in (
      λ h. listed_switch here out c.args.x
          (subst (λ (xs : List ℤ). Contains xs (pos (edge_of c.args.x))) listed
          (subst (Contains c.switches.result.now) same (test.0 h))),
      λ h. test.1
          (subst (Contains c.switches.result.now) (sym same)
          (subst (λ (xs : List ℤ). Contains xs (pos (edge_of c.args.x))) (sym listed)
          (switch_listed here out c.args.x h.0 h.1))),
    )
