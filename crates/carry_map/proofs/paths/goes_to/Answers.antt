use Rattle.std.proofs.Common.{ℤ, List, ◌∙◌, ap, subst, sym}
use Rattle.std.specs.List.{Contains}
use Rattle.ideal_tri.specs.Labels.{with_sign_of}
use Rattle.carry_map.specs.Anchors.{Place}
use Rattle.carry_map.specs.inside.Switches.{IsFirstAt}
use Rattle.carry_map.proofs.Anchored.{goes_by}
use Rattle.carry_map.proofs.paths.goes_to.Goals as goal

pub place_of-requires : goal.place_of-requires
place_of-requires c =
    subst (λ (xs : List ℤ). Contains xs c.forwards.result) (sym c.switches.ensures)
    (subst (Contains c.args.track.now.switches) (sym c.forwards.ensures) c.requires.listed)

pub returns : goal.returns
returns c =
    c.with_sign_of.ensures.value ∙ ap (λ (p : Place). with_sign_of c.args.x p.label) c.anchor.view_is
    ∙ goes_by c.label_laws.ensures c.args.track.now.switches c.args.anchors.now c.requires.as_many c.args.x
    c.place_of.result c.index-anchors-place_of.result
    (subst (λ (s : ℤ). IsFirstAt c.args.track.now.switches s c.place_of.result) c.forwards.ensures
    (subst (λ (xs : List ℤ). IsFirstAt xs c.forwards.result c.place_of.result) c.switches.ensures c.place_of.ensures))
    c.index-anchors-place_of.is
