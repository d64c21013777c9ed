use Rattle.std.proofs.Common.{ℤ, List, [], ◌∷◌, ◌++◌, ◌≡◌, ◌≢◌, ◌∙◌, ap, subst, sym, to_z, of_z, w32, rules}
use Rattle.std.specs.List.{Contains}
use Rattle.std.proofs.lemmas.Bool.Decides.{Decides-int_eq, not_from_Decides}
use Rattle.std.proofs.lemmas.Result.{IfOk-weaker}
use Rattle.ideal_tri.specs.Words.{reduce}
use Rattle.free_groupoid.specs.GroupoidMaps.{substitution, reduced_image}
use Rattle.carry_map.specs.CarriedMaps.{connection}
use Rattle.cert_text.specs.Certificates.{anchor_seen, anchors_seen, track_seen, walks_of}
use Rattle.cert_text.specs.PseudoAnosov.{carrying_of}
use Rattle.cert_text.specs.declared.carried_track.Anchor.{Anchor}
use Rattle.cert_checker.proofs.FirstPlaces.{backwards, connects_back, connects_forwards, found_anchor, found_first}
use Rattle.cert_checker.proofs.FirstPlaces.{found_many}
use Rattle.cert_checker.proofs.connections.connection.Goals as goal

pub place_of-requires : goal.place_of-requires
place_of-requires c =
    subst (λ (xs : List ℤ). Contains xs c.forwards-s.result) (sym c.switches.ensures)
    (subst (Contains c.args.site.now.track.switches) (sym c.forwards-s.ensures) c.requires.listed)

pub returns-then-eq : goal.returns-then-eq
returns-then-eq c =
    let f : ℤ → List ℤ = substitution c.args.site.now.map.images in
    let xs : List ℤ = c.args.site.now.track.switches in
    let items : List Anchor = c.args.c.now.anchors.items in
    let a : Anchor = c.index-anchor.result.now in
    IfOk-weaker c.labels.result (λ v. v.items ≡ c.deref.result.now)
    (λ v. v.items ≡ connection f xs (carrying_of (track_seen c.args.c.now)) c.args.x)
    (λ v e. e ∙ c.deref.ensures.value
    ∙ connects_forwards c.label_laws.ensures xs (anchors_seen items) (walks_of c.args.c.now.images.items)
    (found_many c.switches.result.now xs items c.args.x c.forwards-s.result c.place_of.result a c.switches.ensures
    c.forwards-s.ensures c.place_of.ensures c.requires.as_many c.index-anchor.ensures)
    f c.args.x c.place_of.result (anchor_seen a)
    ((Decides-int_eq c.args.x c.forwards-s.result).0 (sym c.eq.ensures ∙ c.if-eq.true) ∙ c.forwards-s.ensures)
    (found_first c.switches.result.now xs items c.args.x c.forwards-s.result c.place_of.result a c.switches.ensures
    c.forwards-s.ensures c.place_of.ensures c.requires.as_many c.index-anchor.ensures)
    (found_anchor c.switches.result.now xs items c.args.x c.forwards-s.result c.place_of.result a c.switches.ensures
    c.forwards-s.ensures c.place_of.ensures c.requires.as_many c.index-anchor.ensures))
    c.labels.ensures

pub returns : goal.returns
returns c =
    let f : ℤ → List ℤ = substitution c.args.site.now.map.images in
    let xs : List ℤ = c.args.site.now.track.switches in
    let items : List Anchor = c.args.c.now.anchors.items in
    let a : Anchor = c.index-anchor.result.now in
    let same : to_z w32 (of_z w32 a.to) ≡ a.to = search rules in
    let other : c.args.x ≢ c.forwards-s.result =
    not_from_Decides _ (Decides-int_eq c.args.x c.forwards-s.result) (sym c.eq.ensures ∙ c.if-eq.false) in
    c.reduced.ensures
    ∙ ap reduce
    (c.in_ok-push.ensures.items
    ∙ ap (λ (w : List ℤ). w ++ (c.new.result ∷ []))
    (c.in_ok-extend_from_slice.ensures.items
    ∙ ap (λ (w : List ℤ). w ++ c.deref-3.result.now) c.in_ok-letters.ensures
    ∙ ap (λ (w : List ℤ). reduced_image f (c.args.x ∷ []) ++ w)
    (c.deref-3.ensures.value ∙ c.in_ok-labels.ensures ∙ c.deref-2.ensures.value))
    ∙ ap (λ (y : ℤ). (reduced_image f (c.args.x ∷ []) ++ a.connect.items) ++ (y ∷ [])) (c.new.ensures ∙ same))
    ∙ connects_back c.label_laws.ensures xs (anchors_seen items) (walks_of c.args.c.now.images.items)
    (found_many c.switches.result.now xs items c.args.x c.forwards-s.result c.place_of.result a c.switches.ensures
    c.forwards-s.ensures c.place_of.ensures c.requires.as_many c.index-anchor.ensures)
    c.word_laws.ensures f c.args.x c.place_of.result (anchor_seen a)
    (backwards c.args.x (λ e. other (e ∙ sym c.forwards-s.ensures)))
    (found_first c.switches.result.now xs items c.args.x c.forwards-s.result c.place_of.result a c.switches.ensures
    c.forwards-s.ensures c.place_of.ensures c.requires.as_many c.index-anchor.ensures)
    (found_anchor c.switches.result.now xs items c.args.x c.forwards-s.result c.place_of.result a c.switches.ensures
    c.forwards-s.ensures c.place_of.ensures c.requires.as_many c.index-anchor.ensures)
