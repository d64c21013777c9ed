-- The anchors that are found, switch by switch.
--
-- After i switches there are i anchors, the one at k < i the first place of the switch k, and each reached from the
-- image of where its switch starts. A switch with places adds one; a switch without is the first of that kind, as all
-- before it have an anchor. At the end there is one for each switch, and being reached says of each just what is
-- asked of where a switch goes: the label of a switch, and a reduced walk to where it starts.
use Rattle.std.proofs.Common.{ℕ, ℤ, pos, true, List, [], ◌∷◌, ◌++◌, ◌≡◌, ◌<◌, ◌+◌, sym, ◌∙◌, ap, subst, arith}
use Rattle.std.proofs.Common.{length, map, get_or, inl, inr, ◌≤◌}
use Rattle.std.specs.List.{All}
use Rattle.std.proofs.lemmas.Bool.{cases_eq}
use Rattle.std.proofs.lemmas.List.{get_or-map, get_or_default, get_or_push, get_or_append_left, length-map}
use Rattle.std.proofs.lemmas.List.{length-append}
use Rattle.ideal_tri.specs.Words.{IsReduced}
use Rattle.ideal_tri.specs.Triangulations.{IsLabel, IsWalk, triangle_of}
use Rattle.train_track.specs.Tracks.{is_switch, switches_of}
use Rattle.train_track.specs.Branches.{TrainTrack, IsTrackOn, letter_at}
use Rattle.carry_map.specs.Anchors.{Place, ArePlaces}
use Rattle.carry_map.specs.AnchorAnswers.{IsAnchored, IsReachedFrom, carrying_by, place_at}
use Rattle.carry_map.specs.AnchorLaws.{AreConnected}

-- the switch that is read at a place
pub switch_read : (ts : List (List ℤ)) (track : TrainTrack) (xs : List ℤ) (i : ℕ) (y : ℤ) → IsTrackOn ts track
    → xs ≡ track.switches → i < length xs → y ≡ get_or xs i y
    → (i < length (switches_of ts track.left_out)) × (y ≡ letter_at (switches_of ts track.left_out) i)
switch_read ts track xs i y on e less is = (
  subst (λ (zs : List ℤ). i < length zs) (e ∙ on.switches) less,
  is ∙ get_or_default xs i y (pos 0) less ∙ ap (λ (zs : List ℤ). letter_at zs i) (e ∙ on.switches),
)

-- one more anchor
pub found_more : (P : ℕ → Place → Type 0) (found new : List Place) (i : ℕ) (p : Place) → length found ≡ i
    → new ≡ found ++ (p ∷ []) → ((k : ℕ) → k < i → P k (place_at found k)) → P i p
    → (length new ≡ i + 1) × ((k : ℕ) → k < i + 1 → P k (place_at new k))
found_more P found new i p long e before here = (
  ap (λ (ps : List Place). length ps) e ∙ length-append found (p ∷ []) ∙ ap (λ (n : ℕ). n + 1) long,
  λ k less. subst (λ (ps : List Place). P k (place_at ps k)) (sym e)
      (elim (cases_eq k i) [
        | inl same ↦
            subst (λ (q : Place). P k q) (sym (get_or_push found p none k (long ∙ sym same)))
            (subst (λ (n : ℕ). P n p) (sym same) here)
        | inr apart ↦
            subst (λ (q : Place). P k q) (sym (get_or_append_left found (p ∷ []) none k (omega (arith, long))))
            (before k (omega arith))
      ]),
)
  where
    none : Place
    none = record { connect = []; label = pos 0 }

pub first_found : (ts : List (List ℤ)) (out : List ℤ) (f : ℤ → List ℤ) (i : ℕ) (s : ℤ) (places : List Place) (p : Place)
    → s ≡ letter_at (switches_of ts out) i → ArePlaces ts out f s places
    → ((rest : List Place) × (places ≡ p ∷ rest)) → IsAnchored ts out f i p
first_found ts out f i s places p e are (rest, is) = (
  rest,
  subst (λ (ps : List Place). ArePlaces ts out f (letter_at (switches_of ts out) i) ps) is
      (subst (λ (x : ℤ). ArePlaces ts out f x places) e are),
)

-- places that are there begin with the first
pub begins_with : (places : List Place) (p : Place) → 0 < length places → p ≡ place_at places 0
    → (rest : List Place) × (places ≡ p ∷ rest)
begins_with [] p some is = absurd (omega arith)
begins_with (q ∷ rest) p some is = (rest, ap (λ (x : Place). x ∷ rest) (sym is))

-- anchors that are reached connect the switches
pub reached_connected : (ts : List (List ℤ)) (out : List ℤ) (triangles : ℕ → ℕ) (anchors : List Place)
    → length anchors ≡ length (switches_of ts out)
    → ((k : ℕ) → k < length anchors
    → IsReachedFrom ts out (triangles (triangle_of ts (letter_at (switches_of ts out) k))) (place_at anchors k))
    → AreConnected ts out triangles (carrying_by anchors)
reached_connected ts out triangles anchors long reached = record {
  one_label_each = length-map anchors (λ (p : Place). p.label) ∙ long;
  one_walk_each = length-map anchors (λ (p : Place). p.connect) ∙ long;
  labels = λ i less. subst (IsLabel ts) (label i (below i less)) (reached i (below i less)).label;
  switches = λ i less. subst (λ (y : ℤ). is_switch ts out y ≡ true) (label i (below i less))
      (reached i (below i less)).switch;
  walks = λ i less. subst (λ (y : ℤ). IsWalk ts (triangles (triangle_of ts (letter_at (switches_of ts out) i)))
      (get_or (map (λ (p : Place). p.connect) anchors) i []) (triangle_of ts y)) (label i (below i less))
      (subst (λ (w : List ℤ). IsWalk ts (triangles (triangle_of ts (letter_at (switches_of ts out) i))) w
      (triangle_of ts (place_at anchors i).label)) (connect i (below i less)) (reached i (below i less)).walk);
  reduced = λ i less. subst IsReduced (connect i (below i less)) (reached i (below i less)).reduced;
}
  where
    none : Place
    none = record { connect = []; label = pos 0 }

    below : (i : ℕ) → i < length (map (λ (p : Place). p.label) anchors) → i < length anchors
    below i less = omega (arith, length-map anchors (λ (p : Place). p.label))

    label : (i : ℕ) → i < length anchors
        → (place_at anchors i).label ≡ letter_at (map (λ (p : Place). p.label) anchors) i
    label i less = sym (get_or-map (λ (p : Place). p.label) anchors i none (pos 0) less)

    connect : (i : ℕ) → i < length anchors
        → (place_at anchors i).connect ≡ get_or (map (λ (p : Place). p.connect) anchors) i []
    connect i less = sym (get_or-map (λ (p : Place). p.connect) anchors i none [] less)

pub first_reached : (ts : List (List ℤ)) (out : List ℤ) (start : ℕ) (places : List Place) (p : Place)
    → All (IsReachedFrom ts out start) places → ((rest : List Place) × (places ≡ p ∷ rest))
    → IsReachedFrom ts out start p
first_reached ts out start places p all (rest, is) =
    subst (λ (ps : List Place). All (IsReachedFrom ts out start) ps) is all 0 p (omega arith)

-- at the end all have been seen
pub all_seen : (xs ys zs : List ℤ) (i n : ℕ) → xs ≡ ys → ys ≡ zs → i ≤ length xs → length xs ≤ i → n ≡ i
    → n ≡ length zs
all_seen xs ys zs i n e h low high is =
    let same : length xs ≡ length zs = ap (λ (w : List ℤ). length w) (e ∙ h) in omega arith
