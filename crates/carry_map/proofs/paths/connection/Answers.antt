use Rattle.std.proofs.Common.{ℤ, List, ◌≡◌, ◌++◌, ◌∷◌, [], pos, sym, ◌∙◌, ap, subst, rules, ◌≢◌, append_assoc}
use Rattle.std.specs.List.{Contains}
use Rattle.ideal_tri.specs.Labels.{edge_of}
use Rattle.ideal_tri.specs.Words.{reduce}
use Rattle.free_groupoid.specs.GroupoidMaps.{substitution, reduced_image}
use Rattle.carry_map.specs.Anchors.{Place}
use Rattle.carry_map.specs.inside.Switches.{IsFirstAt}
use Rattle.carry_map.proofs.Anchored.{backwards, connects_forwards, connects_back}
use Rattle.carry_map.proofs.SwitchPlaces.{switch_listed}
use Rattle.carry_map.proofs.paths.connection.Goals as goal

pub place_of-requires : goal.place_of-requires
place_of-requires c =
    subst (λ (xs : List ℤ). Contains xs c.forwards-s.result)
    (sym (c.switches.ensures ∙ c.requires.map.here.on.switches))
    (subst (Contains _) (sym c.forwards-s.ensures)
    (switch_listed _ c.args.track.now.left_out c.args.x c.requires.switch.label c.requires.switch.switch))

pub returns-then-eq : goal.returns-then-eq
returns-then-eq c =
    let at : IsFirstAt c.args.track.now.switches (pos (edge_of c.args.x)) c.place_of.result =
    subst (λ (xs : List ℤ). IsFirstAt xs (pos (edge_of c.args.x)) c.place_of.result) c.switches.ensures
    (subst (λ (s : ℤ). IsFirstAt c.switches.result.now s c.place_of.result) c.forwards-s.ensures c.place_of.ensures) in
    let same : c.args.x ≡ c.forwards-s.result = search rules in
    c.in_ok-from_slice.ensures.items ∙ c.deref.ensures.value ∙ ap (λ (p : Place). p.connect) c.anchor.view_is
    ∙ connects_forwards c.label_laws.ensures c.args.track.now.switches c.args.anchors.now c.requires.as_many
    (substitution c.args.psi.now.images) c.args.x c.place_of.result c.index-anchors-place_of.result
    (same ∙ c.forwards-s.ensures) at c.index-anchors-place_of.is

pub returns : goal.returns
returns c =
    let at : IsFirstAt c.args.track.now.switches (pos (edge_of c.args.x)) c.place_of.result =
    subst (λ (xs : List ℤ). IsFirstAt xs (pos (edge_of c.args.x)) c.place_of.result) c.switches.ensures
    (subst (λ (s : ℤ). IsFirstAt c.switches.result.now s c.place_of.result) c.forwards-s.ensures c.place_of.ensures) in
    let other : c.args.x ≢ c.forwards-s.result = search rules in
    let f : ℤ → List ℤ = substitution c.args.psi.now.images in
    let p : Place = c.index-anchors-place_of.result in
    c.reduced.ensures
    ∙ ap reduce
    (c.in_ok-push.ensures.items
    ∙ ap (λ (w : List ℤ). w ++ (c.anchor.inside.label ∷ []))
    (c.in_ok-extend_from_slice.ensures.items
    ∙ ap (λ (w : List ℤ). w ++ c.deref-2.result.now) c.in_ok-letters.ensures
    ∙ ap (λ (w : List ℤ). reduced_image f (c.args.x ∷ []) ++ w) c.deref-2.ensures.value)
    ∙ ap (λ (q : Place). (reduced_image f (c.args.x ∷ []) ++ q.connect) ++ (q.label ∷ [])) c.anchor.view_is
    ∙ append_assoc (reduced_image f (c.args.x ∷ [])) p.connect (p.label ∷ []))
    ∙ connects_back c.label_laws.ensures c.args.track.now.switches c.args.anchors.now c.requires.as_many
    c.word_laws.ensures f c.args.x c.place_of.result p
    (backwards c.args.x (λ e. other (e ∙ sym c.forwards-s.ensures))) at c.index-anchors-place_of.is
