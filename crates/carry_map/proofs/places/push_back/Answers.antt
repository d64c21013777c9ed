use Rattle.std.proofs.Common.{rules, ◌≡◌, ◌++◌, ◌∷◌, ◌-◌, ◌+◌, ℕ, ℤ, sym, subst, List, [], take, ap, ◌∙◌, append_assoc, arith}
use Rattle.carry_map.specs.Anchors.{Place}
use Rattle.carry_map.specs.inside.Rays.{at_listed, places_at}
use Rattle.carry_map.proofs.FirstOfLists.{take_more}
use Rattle.carry_map.proofs.ListedPlaces.{back_to, back_one}
use Rattle.carry_map.proofs.places.push_back.Goals as goal

pub loop-d-preserved : goal.loop-d-preserved
loop-d-preserved c =
    let piece : List Place =
    at_listed c.args.track.now.switches (record { connect = take c.loop-d.d c.args.back.now; label = c.inverse-y.result } ∷ []) in
    let one_back : back_to c.args.track.now.switches c.args.back.now (c.loop-d.d - 1)
    ≡ back_to c.args.track.now.switches c.args.back.now c.loop-d.d ++ piece =
    subst
    (λ (n : ℕ). back_to c.args.track.now.switches c.args.back.now (c.loop-d.d - 1)
    ≡ back_to c.args.track.now.switches c.args.back.now n
    ++ at_listed c.args.track.now.switches (record { connect = take n c.args.back.now; label = c.inverse-y.result } ∷ []))
    (let before : c.loop-d.d - 1 + 1 ≡ c.loop-d.d = omega arith in before)
    (subst
    (λ (y : ℤ). back_to c.args.track.now.switches c.args.back.now (c.loop-d.d - 1)
    ≡ back_to c.args.track.now.switches c.args.back.now (c.loop-d.d - 1 + 1)
    ++ at_listed c.args.track.now.switches
    (record { connect = take (c.loop-d.d - 1 + 1) c.args.back.now; label = y } ∷ []))
    (sym c.inverse-y.ensures)
    (back_one c.args.track.now.switches c.args.back.now (c.loop-d.d - 1) c.index-back-d.result (omega arith)
    c.index-back-d.is)) in
    record {
      within = search rules;
      reached = search rules;
      few = search rules;
      places = λ on.
          take_more c.args.most (places_at c.args.back.now on c.loop-d.spots.items)
          (places_at c.args.back.now on c.args.spots.now.items
          ++ back_to c.args.track.now.switches c.args.back.now c.loop-d.d)
          piece (places_at c.args.back.now on c.push_spot.new.spots.items) (c.loop-d.invariant.places on)
          (c.in_ok-push_spot.ensures.places c.args.back.now on)
          ∙ ap (take c.args.most)
          (append_assoc (places_at c.args.back.now on c.args.spots.now.items)
          (back_to c.args.track.now.switches c.args.back.now c.loop-d.d) piece
          ∙ ap (λ (xs : List Place). places_at c.args.back.now on c.args.spots.now.items ++ xs) (sym one_back));
    }
