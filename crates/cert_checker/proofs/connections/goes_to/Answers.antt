use Rattle.std.proofs.Common.{ℤ, List, ◌≡◌, ◌∙◌, ap, subst, sym, to_z, of_z, w32, rules}
use Rattle.std.specs.List.{Contains}
use Rattle.ideal_tri.specs.Labels.{with_sign_of}
use Rattle.cert_text.specs.Certificates.{anchor_seen, anchors_seen, walks_of}
use Rattle.cert_text.specs.declared.carried_track.Anchor.{Anchor}
use Rattle.cert_checker.proofs.FirstPlaces.{found_anchor, found_first, found_many, goes_by}
use Rattle.cert_checker.proofs.connections.goes_to.Goals as goal

pub place_of-requires : goal.place_of-requires
place_of-requires c =
    subst (λ (xs : List ℤ). Contains xs c.forwards.result) (sym c.switches.ensures)
    (subst (Contains c.args.site.now.track.switches) (sym c.forwards.ensures) c.requires.listed)

pub returns : goal.returns
returns c =
    let xs : List ℤ = c.args.site.now.track.switches in
    let items : List Anchor = c.args.c.now.anchors.items in
    let a : Anchor = c.index-anchor.result.now in
    let same : to_z w32 (of_z w32 a.to) ≡ a.to = search rules in
    c.with_sign_of.ensures.value ∙ ap (with_sign_of c.args.x) (c.new.ensures ∙ same)
    ∙ goes_by c.label_laws.ensures xs (anchors_seen items) (walks_of c.args.c.now.images.items)
    (found_many c.switches.result.now xs items c.args.x c.forwards.result c.place_of.result a c.switches.ensures
    c.forwards.ensures c.place_of.ensures c.requires.as_many c.index-anchor.ensures)
    c.args.x c.place_of.result (anchor_seen a)
    (found_first c.switches.result.now xs items c.args.x c.forwards.result c.place_of.result a c.switches.ensures
    c.forwards.ensures c.place_of.ensures c.requires.as_many c.index-anchor.ensures)
    (found_anchor c.switches.result.now xs items c.args.x c.forwards.result c.place_of.result a c.switches.ensures
    c.forwards.ensures c.place_of.ensures c.requires.as_many c.index-anchor.ensures)
