-- Maps that agree on labels choose the same anchors in the middle.
use Rattle.std.proofs.Common.{ℕ, ℤ, pos, negsuc, List, [], ◌∷◌, ◌++◌, ◌≡◌, ◌<◌, ◌-◌, refl, sym, ◌∙◌, ap, subst}
use Rattle.std.proofs.Common.{length, get_or}
use Rattle.std.specs.List.{filter, flat_map}
use Rattle.ideal_tri.specs.Labels.{inverse}
use Rattle.ideal_tri.specs.Words.{inverse_word, reduce, but_last}
use Rattle.ideal_tri.specs.Triangulations.{IsLabel}
use Rattle.train_track.specs.Tracks.{is_switch, switches_of}
use Rattle.train_track.specs.Branches.{letter_at}
use Rattle.carry_map.specs.Anchors.{Place, ArePlaces}
use Rattle.carry_map.specs.AnchorAnswers.{place_at}
use Rattle.carry_map.specs.CarriedMaps.{beside, final}
use Rattle.carry_map.specs.AgreementLaws.{AgreeOn}
use Rattle.carry_map.specs.MiddleAnchors.{place_count, place_of, first_place, last_place}
use Rattle.carry_map.specs.MiddleAnchors.{walk_between, switches_between, LeavesRoom, AreHeights}
use Rattle.carry_map.specs.MiddleAnchors.{AreGreatestHeights, AreMiddleAnchors}

module _ (ts : List (List ℤ)) (out : List ℤ) (f g : ℤ → List ℤ) (agree : AgreeOn ts f g) where
  abbrev switches : List ℤ
  switches = switches_of ts out

  place_agree : (all : List (List Place)) (x : ℤ) (i : ℕ) → IsLabel ts x
      → place_of switches f all x i ≡ place_of switches g all x i
  place_agree all (pos n) i label = refl
  place_agree all (negsuc n) i label =
      let p : Place = place_at (beside [] switches all (pos n)) (place_count switches all (pos n) - 1 - i) in
      ap (λ (w : List ℤ). record { connect = reduce (w ++ (p.connect ++ (p.label ∷ []))); label = inverse p.label })
      (agree (negsuc n) label)

  pub between_agree : (all : List (List Place)) (b : List ℤ) → IsLabel ts (letter_at b 0) → IsLabel ts (final b)
      → flat_map f (but_last b) ≡ flat_map g (but_last b)
      → switches_between ts out f all b ≡ switches_between ts out g all b
  between_agree all b first last front =
      ap (λ (w : List ℤ). length (filter (is_switch ts out) w))
      (ap (λ (p : Place). walk_between f p (last_place switches f all (final b)) b)
      (place_agree all (letter_at b 0) 0 first)
      ∙ ap (λ (q : Place). walk_between f (first_place switches g all (letter_at b 0)) q b)
      (place_agree all (final b) (place_count switches all (final b) - 1) last)
      ∙ ap (λ (w : List ℤ). reduce (inverse_word (first_place switches g all (letter_at b 0)).connect
      ++ (w ++ ((last_place switches g all (final b)).connect
      ++ ((last_place switches g all (final b)).label ∷ []))))) front)

pub heights_agree : (ts : List (List ℤ)) (out : List ℤ) (f g : ℤ → List ℤ) (all : List (List Place))
    (branches : List (List ℤ)) (h : ℤ → ℕ)
    → ((j : ℕ) (d : List ℤ) → j < length branches
    → switches_between ts out f all (get_or branches j d) ≡ switches_between ts out g all (get_or branches j d))
    → AreHeights ts out branches f all h → AreHeights ts out branches g all h
heights_agree ts out f g all branches h same are = record {
  within = are.within;
  on = λ j d less.
      (let b : List ℤ = get_or branches j d in
      subst (λ (k : ℕ). LeavesRoom (place_count (switches_of ts out) all) h k (letter_at b 0) (final b)) (same j d less)
      (are.on j d less));
  back = λ j d less.
      (let b : List ℤ = get_or branches j d in
      subst (λ (k : ℕ). LeavesRoom (place_count (switches_of ts out) all) h k (inverse (final b))
      (inverse (letter_at b 0)))
      (same j d less) (are.back j d less));
}

module _ (ts : List (List ℤ)) (out : List ℤ) (f g : ℤ → List ℤ) (branches : List (List ℤ))
    (places : (s : ℤ) (ps : List Place) → ArePlaces ts out f s ps → ArePlaces ts out g s ps)
    (same : (all : List (List Place)) (j : ℕ) (d : List ℤ) → j < length branches
    → switches_between ts out f all (get_or branches j d) ≡ switches_between ts out g all (get_or branches j d)) where
  greatest_agree : (all : List (List Place)) (h : ℤ → ℕ) → AreGreatestHeights ts out branches f all h
      → AreGreatestHeights ts out branches g all h
  greatest_agree all h are = record {
    heights = heights_agree ts out f g all branches h (same all) are.heights;
    greatest = λ k is. are.greatest k
        (heights_agree ts out g f all branches k (λ j d less. sym (same all j d less)) is);
  }

  pub middles_agree : (anchors : List Place) → AreMiddleAnchors ts out branches f anchors
      → AreMiddleAnchors ts out branches g anchors
  middles_agree anchors are = record {
    all = are.all;
    have = record {
      one_list_each = are.have.one_list_each;
      places = λ i less. places (letter_at (switches_of ts out) i) (get_or are.all i []) (are.have.places i less);
      some = are.have.some;
    };
    h = are.h;
    greatest = greatest_agree are.all are.h are.greatest;
    one_each = are.one_each;
    halfway = are.halfway;
  }
