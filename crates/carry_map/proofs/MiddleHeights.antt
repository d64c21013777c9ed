-- Heights of labels as functions, and as lists by the numbers of the labels.
--
-- A list gives a function that reads it at the number of a label, and a function a list that has at each number what
-- the function gives at the label with that number. What is asked of heights is the same on both sides, as counts and
-- heights are read label by label, and the steps are the branches and their inverses. So the function of the greatest
-- list is the greatest function: another function is at most the greatest where its list is.
use Rattle.std.proofs.Common.{◌≡◌, ◌<◌, ◌≤◌, ◌+◌, ◌*◌, ℕ, ℤ, pos, true, List, [], length, get_or}
use Rattle.std.proofs.Common.{inl, inr, refl, sym, ◌∙◌, ap, subst, arith, slice_index, slice_index_or}
use Rattle.std.specs.List.{All}
use Rattle.ideal_tri.specs.Labels.{inverse, edge_of}
use Rattle.ideal_tri.specs.LabelLaws.{LabelLaws}
use Rattle.train_track.specs.Tracks.{is_switch, switches_of}
use Rattle.train_track.specs.Branches.{IsBranch, letter_at}
use Rattle.carry_map.specs.Anchors.{Place}
use Rattle.carry_map.specs.CarriedMaps.{final, beside}
use Rattle.carry_map.specs.MiddleAnchors.{place_count, LeavesRoom, AreHeights, AreGreatestHeights, switches_between}
use Rattle.carry_map.specs.inside.Heights.{LeavesRoomAt, AreHeightsFor, AreGreatestFor}
use Rattle.carry_map.specs.declared.heights.Step.{Step}
use Rattle.carry_map.specs.inside.Steps.{number_of, counts_of, steps_of}
use Rattle.carry_map.specs.inside.Switches.{IsFirstAt, IsSwitchLabel}
use Rattle.carry_map.proofs.ListedSwitches.{switch_back}
use Rattle.carry_map.proofs.Pairs.{pairs, pairs_long, pair_on, pair_back, halves, all_pairs, pairs_on, pairs_back}
use Rattle.carry_map.proofs.Pairs.{half_below, odd_half_below}
use Rattle.carry_map.proofs.SwitchNumbers.{first_of_its_own, listed_forwards, read_pair, read_count, number_within}
use Rattle.carry_map.proofs.SwitchNumbers.{switch_first, listed_switch}
use Rattle.carry_map.proofs.SwitchPlaces.{beside_first, switch_label}
use Rattle.carry_map.proofs.SwitchWalks.{first_switch, last_switch}

-- the other direction of a switch
pub back_switch : LabelLaws → (ts : List (List ℤ)) (out : List ℤ) (x : ℤ) → IsSwitchLabel ts out x
    → IsSwitchLabel ts out (inverse x)
back_switch labels ts out x is = record {
  label = labels.label ts x is.label;
  switch = switch_back ts out labels (inverse x)
      (subst (λ (y : ℤ). is_switch ts out y ≡ true) (sym (labels.twice x)) is.switch);
}

-- inequalities between equal numbers
less_by : (a b c d : ℕ) → a ≡ c → b ≡ d → c < d → a < b
less_by a b c d e f less = omega arith

most_by : (a b c : ℕ) → a ≡ c → a ≤ b → c ≤ b
most_by a b c e most = omega arith

room_by : (a b c d e f k : ℕ) → a ≡ d → b ≡ e → c ≡ f → d + e < f + k → a + b < c + k
room_by a b c d e f k one two three less = omega arith

-- the step from one label to another
abbrev step : List ℤ → ℕ → ℤ → ℤ → Step
step xs between x y = record { from = number_of xs x; to = number_of xs y; gap = between }

module _ (labels : LabelLaws) (ts : List (List ℤ)) (out : List ℤ) (branches : List (List ℤ))
    (are : All (IsBranch ts out) branches) (f : ℤ → List ℤ) (all : List (List Place))
    (long : length all ≡ length (switches_of ts out)) where
  abbrev switches : List ℤ
  switches = switches_of ts out

  abbrev counts : List ℕ
  counts = counts_of all

  abbrev between : List ℤ → ℕ
  between = switches_between ts out f all

  abbrev steps : List Step
  steps = steps_of switches between branches

  abbrev on_step : List ℤ → Step
  on_step b = step switches (between b) (letter_at b 0) (final b)

  abbrev back_step : List ℤ → Step
  back_step b = step switches (between b) (inverse (final b)) (inverse (letter_at b 0))

  -- one step, where a list and a function agree at labels of switches
  module _ (hs : List ℕ) (h : ℤ → ℕ)
      (same : (x : ℤ) → IsSwitchLabel ts out x → slice_index hs (number_of switches x) ≡ h x) where
    counted : (x : ℤ) → IsSwitchLabel ts out x
        → slice_index counts (number_of switches x) ≡ place_count switches all x
    counted x is =
        let (i, at) = switch_first labels ts out x is in read_count labels switches all long x i at

    to_room : (k : ℕ) (x y : ℤ) → IsSwitchLabel ts out x → IsSwitchLabel ts out y
        → LeavesRoom (place_count switches all) h k x y → LeavesRoomAt counts hs (step switches k x y)
    to_room k x y is to room =
        elim room [
          | inl none ↦ inl (same x is ∙ none)
          | inr less ↦ inr (room_by _ _ _ _ _ _ k (same x is) (counted y to) (same y to) less)
        ]

    from_room : (k : ℕ) (x y : ℤ) → IsSwitchLabel ts out x → IsSwitchLabel ts out y
        → LeavesRoomAt counts hs (step switches k x y) → LeavesRoom (place_count switches all) h k x y
    from_room k x y is to room =
        elim room [
          | inl none ↦ inl (sym (same x is) ∙ none)
          | inr less ↦ inr (room_by _ _ _ _ _ _ k (sym (same x is)) (sym (counted y to)) (sym (same y to)) less)
        ]

    from_list : AreHeightsFor counts steps hs → AreHeights ts out branches f all h
    from_list given = record {
      within = λ x label switch.
          (let is : IsSwitchLabel ts out x = record { label = label; switch = switch } in
          let (i, at) = switch_first labels ts out x is in
          let below : number_of switches x < length counts = number_within labels switches all long x i at in
          less_by _ _ _ _ (sym (same x is)) (sym (counted x is)) (given.within (number_of switches x) below));
      on = λ j d less.
          (let b : List ℤ = get_or branches j d in
          from_room (between b) (letter_at b 0) (final b) (first_switch ts out b (are j d less))
          (last_switch ts out b (are j d less))
          (pairs_on (LeavesRoomAt counts hs) on_step back_step branches given.room j d less));
      back = λ j d less.
          (let b : List ℤ = get_or branches j d in
          from_room (between b) (inverse (final b)) (inverse (letter_at b 0))
          (back_switch labels ts out (final b) (last_switch ts out b (are j d less)))
          (back_switch labels ts out (letter_at b 0) (first_switch ts out b (are j d less)))
          (pairs_back (LeavesRoomAt counts hs) on_step back_step branches given.room j d less));
    }

    to_list : length hs ≡ length counts → ((i : ℕ) → i < length counts → slice_index hs i < slice_index counts i)
        → AreHeights ts out branches f all h → AreHeightsFor counts steps hs
    to_list as_long within heights = record {
      one_each = as_long;
      within = within;
      room =
          all_pairs (LeavesRoomAt counts hs) on_step back_step branches
          (λ j d less.
          (let b : List ℤ = get_or branches j d in
          to_room (between b) (letter_at b 0) (final b) (first_switch ts out b (are j d less))
          (last_switch ts out b (are j d less)) (heights.on j d less)))
          (λ j d less.
          (let b : List ℤ = get_or branches j d in
          to_room (between b) (inverse (final b)) (inverse (letter_at b 0))
          (back_switch labels ts out (final b) (last_switch ts out b (are j d less)))
          (back_switch labels ts out (letter_at b 0) (first_switch ts out b (are j d less))) (heights.back j d less)));
    }

  -- ---- the list of a function

  abbrev listed : (ℤ → ℕ) → List ℕ
  listed g = pairs g (λ s. g (inverse s)) switches

  listed_same : (g : ℤ → ℕ) (x : ℤ) → IsSwitchLabel ts out x → slice_index (listed g) (number_of switches x) ≡ g x
  listed_same g x is =
      let (i, at) = switch_first labels ts out x is in read_pair labels g switches x i at

  -- the switch at a place, which isn't negative, and how many places it has
  at_place : (k : ℕ) → k < length switches → IsSwitchLabel ts out (letter_at switches k)
  at_place k less = record {
    label = switch_label ts out k less;
    switch = listed_switch ts out k less;
  }

  count_at : (k : ℕ) → k < length switches
      → (place_count switches all (letter_at switches k) ≡ length (slice_index_or all k []))
      × (place_count switches all (inverse (letter_at switches k)) ≡ length (slice_index_or all k []))
  count_at k less =
      let s : ℤ = letter_at switches k in
      let at : IsFirstAt switches (pos (edge_of s)) k =
      subst (λ (x : ℤ). IsFirstAt switches x k) (listed_forwards ts out k less) (first_of_its_own ts out k less) in
      let one : place_count switches all s ≡ length (slice_index_or all k []) =
      ap length (beside_first labels [] switches all (pos (edge_of s)) k at long) in (
        one,
        ap (λ (n : ℕ). length (beside [] switches all (pos n))) (labels.edge s) ∙ one,
      )

  listed_within : (g : ℤ → ℕ) → AreHeights ts out branches f all g → (i : ℕ) → i < length counts
      → slice_index (listed g) i < slice_index counts i
  listed_within g heights i less =
      let many : length counts ≡ 2 * length all = pairs_long length length all in
      let (k, parity) = halves i in
      elim parity [
        | inl even ↦
            (let here : k < length all = half_below i k (length all) (length counts) even less many in
            let within : k < length switches = subst (λ (n : ℕ). k < n) long here in
            let is : IsSwitchLabel ts out (letter_at switches k) = at_place k within in
            subst (λ (n : ℕ). slice_index (listed g) n < slice_index counts n) (sym even)
            (less_by _ _ _ _ (pair_on g (λ s. g (inverse s)) switches k (pos 0) 0 within)
            (pair_on length length all k [] 0 here ∙ sym (count_at k within).0)
            (heights.within (letter_at switches k) is.label is.switch)))
        | inr odd ↦
            (let here : k < length all = odd_half_below i k (length all) (length counts) odd less many in
            let within : k < length switches = subst (λ (n : ℕ). k < n) long here in
            let is : IsSwitchLabel ts out (inverse (letter_at switches k)) =
            back_switch labels ts out (letter_at switches k) (at_place k within) in
            subst (λ (n : ℕ). slice_index (listed g) n < slice_index counts n) (sym odd)
            (less_by _ _ _ _ (pair_back g (λ s. g (inverse s)) switches k (pos 0) 0 within)
            (pair_back length length all k [] 0 here ∙ sym (count_at k within).1)
            (heights.within (inverse (letter_at switches k)) is.label is.switch)))
      ]

  -- ---- the greatest

  -- the height at the number of a label
  abbrev pub height_at : List ℕ → ℤ → ℕ
  height_at hs x = slice_index hs (number_of switches x)

  pub greatest_by_labels : (hs : List ℕ) → AreGreatestFor counts steps hs
      → AreGreatestHeights ts out branches f all (height_at hs)
  greatest_by_labels hs given = record {
    heights = from_list hs (height_at hs) (λ x is. refl) given.heights;
    greatest = λ g heights x label switch.
        (let is : IsSwitchLabel ts out x = record { label = label; switch = switch } in
        let (i, at) = switch_first labels ts out x is in
        most_by _ _ _ (listed_same g x is)
        (given.greatest (listed g)
        (to_list (listed g) g (listed_same g)
        (pairs_long g (λ s. g (inverse s)) switches
        ∙ ap (λ (n : ℕ). 2 * n) (sym long)
        ∙ sym (pairs_long length length all))
        (listed_within g heights) heights)
        (number_of switches x) (number_within labels switches all long x i at)));
  }
