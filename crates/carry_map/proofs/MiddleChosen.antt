-- The places in the middle, from lists of counts, steps, heights and numbers.
--
-- Each list comes twice, as it was made and as it is read: the places of each switch, how many there are, the steps
-- along the branches, the heights, and the numbers of the places that are picked.
--
-- The counts are positive, as each switch has a place, and the steps are between numbers of labels of switches. So
-- there are greatest heights; at 2 i and 2 i + 1 they are below the number of places of the switch i, and the number
-- halfway between them is that of one of its places.
use Rattle.std.proofs.Common.{◌≡◌, ◌<◌, ◌+◌, ◌*◌, ◌-◌, ◌/◌, ℕ, ℤ, List, [], length, get_or}
use Rattle.std.proofs.Common.{sym, ◌∙◌, ap, subst, slice_index}
use Rattle.std.specs.List.{All}
use Rattle.std.proofs.lemmas.List.{get_or_default}
use Rattle.ideal_tri.specs.Labels.{inverse}
use Rattle.ideal_tri.specs.LabelLaws.{LabelLaws}
use Rattle.train_track.specs.Tracks.{switches_of}
use Rattle.train_track.specs.Branches.{IsBranch, letter_at}
use Rattle.carry_map.specs.Anchors.{Place}
use Rattle.carry_map.specs.AnchorAnswers.{place_at, carrying_by}
use Rattle.carry_map.specs.AnchorLaws.{AreConnected}
use Rattle.carry_map.specs.CarriedMaps.{final}
use Rattle.carry_map.specs.MiddleAnchors.{HavePlaces, AreMiddleAnchors, switches_between, middle}
use Rattle.carry_map.specs.inside.Heights.{AreGreatestFor}
use Rattle.carry_map.specs.declared.heights.Step.{Step}
use Rattle.carry_map.specs.inside.Steps.{AreAllReached, ArePicked, number_of, counts_of, steps_of}
use Rattle.carry_map.specs.inside.Switches.{IsSwitchLabel}
use Rattle.carry_map.proofs.MiddleHeights.{greatest_by_labels, height_at, back_switch}
use Rattle.carry_map.proofs.MiddleSteps.{middle_within}
use Rattle.carry_map.proofs.Pairs.{pairs_long, pair_on, pair_back, all_pairs, double_below, odd_double_below}
use Rattle.carry_map.proofs.PickedPlaces.{picked_connected}
use Rattle.carry_map.proofs.SwitchNumbers.{number_within, number_forwards}
use Rattle.carry_map.proofs.SwitchNumbers.{number_back, switch_first}
use Rattle.carry_map.proofs.SwitchWalks.{first_switch, last_switch}

module _ (labels : LabelLaws) {ts : List (List ℤ)} {out : List ℤ} (branches : List (List ℤ))
    (are : All (IsBranch ts out) branches) {f : ℤ → List ℤ} {found all : List (List Place)}
    (all_read : all ≡ found) (found_places : HavePlaces ts out f found) {counted counts : List ℕ}
    (counts_read : counts ≡ counted) (counted_is : counted ≡ counts_of all) {listed : List ℤ}
    (listed_is : listed ≡ switches_of ts out) {made steps : List Step} (steps_read : steps ≡ made)
    (made_is : made ≡ steps_of listed (switches_between ts out f all) branches) where
  abbrev switches : List ℤ
  switches = switches_of ts out

  have : HavePlaces ts out f all
  have = subst (HavePlaces ts out f) (sym all_read) found_places

  all_reached : (triangles : ℕ → ℕ) → AreAllReached ts out triangles found → AreAllReached ts out triangles all
  all_reached triangles reached = subst (AreAllReached ts out triangles) (sym all_read) reached

  counts_is : counts ≡ counts_of all
  counts_is = counts_read ∙ counted_is

  steps_is : steps ≡ steps_of switches (switches_between ts out f all) branches
  steps_is =
      steps_read ∙ made_is ∙ ap (λ (xs : List ℤ). steps_of xs (switches_between ts out f all) branches) listed_is

  abbrev IsWithin : Step → Type 0
  IsWithin s = (s.from < length counts) × (s.to < length counts)

  abbrev on_step : List ℤ → Step
  on_step b = record {
    from = number_of switches (letter_at b 0);
    to = number_of switches (final b);
    gap = switches_between ts out f all b;
  }

  abbrev back_step : List ℤ → Step
  back_step b = record {
    from = number_of switches (inverse (final b));
    to = number_of switches (inverse (letter_at b 0));
    gap = switches_between ts out f all b;
  }

  pub counts_long : length counts ≡ 2 * length all
  counts_long = ap (λ (xs : List ℕ). length xs) counts_is ∙ pairs_long length length all

  some : All (λ ps. 0 < length ps) all
  some i d less = subst (λ (ps : List Place). 0 < length ps) (get_or_default all i [] d less) (have.some i less)

  pub counts_positive : All (λ n. 0 < n) counts
  counts_positive =
      subst (All (λ n. 0 < n)) (sym counts_is) (all_pairs (λ (n : ℕ). 0 < n) length length all some some)

  below : (x : ℤ) → IsSwitchLabel ts out x → number_of switches x < length counts
  below x is =
      let (i, at) = switch_first labels ts out x is in
      subst (λ (xs : List ℕ). number_of switches x < length xs) (sym counts_is)
      (number_within labels switches all have.one_list_each x i at)

  pub steps_within : All (λ s. (s.from < length counts) × (s.to < length counts)) steps
  steps_within =
      subst (All IsWithin) (sym steps_is)
      (all_pairs IsWithin on_step back_step branches
      (λ j d less. (let b : List ℤ = get_or branches j d in (
        below (letter_at b 0) (first_switch ts out b (are j d less)),
        below (final b) (last_switch ts out b (are j d less)),
      )))
      (λ j d less. (let b : List ℤ = get_or branches j d in (
        below (inverse (final b)) (back_switch labels ts out (final b) (last_switch ts out b (are j d less))),
        below (inverse (letter_at b 0))
            (back_switch labels ts out (letter_at b 0) (first_switch ts out b (are j d less))),
      ))))

  module _ {heights hs : List ℕ} (heights_read : hs ≡ heights) (highest : AreGreatestFor counts steps heights) where
    greatest : AreGreatestFor counts steps hs
    greatest = subst (AreGreatestFor counts steps) (sym heights_read) highest

    pub heights_long : length hs ≡ 2 * length all
    heights_long = greatest.heights.one_each ∙ counts_long

    pub on_within : (i : ℕ) → i < length all → slice_index hs (2 * i) < length (get_or all i [])
    on_within i less =
        let high : slice_index hs (2 * i) < slice_index counts (2 * i) =
        greatest.heights.within (2 * i) (double_below i (length all) (length counts) less counts_long) in
        subst (λ (n : ℕ). slice_index hs (2 * i) < n)
        (ap (λ (xs : List ℕ). slice_index xs (2 * i)) counts_is ∙ pair_on length length all i [] 0 less) high

    pub back_within : (i : ℕ) → i < length all → slice_index hs (2 * i + 1) < length (get_or all i [])
    back_within i less =
        let high : slice_index hs (2 * i + 1) < slice_index counts (2 * i + 1) =
        greatest.heights.within (2 * i + 1) (odd_double_below i (length all) (length counts) less counts_long) in
        subst (λ (n : ℕ). slice_index hs (2 * i + 1) < n)
        (ap (λ (xs : List ℕ). slice_index xs (2 * i + 1)) counts_is ∙ pair_back length length all i [] 0 less) high

    module _ {halves numbers : List ℕ} (numbers_read : numbers ≡ halves)
        (halves_are : (i : ℕ) → i < length all → slice_index halves i
        ≡ (length (get_or all i []) - 1 - slice_index hs (2 * i + 1) + slice_index hs (2 * i)) / 2) where
      halfway : (i : ℕ) → i < length all → slice_index numbers i
          ≡ (length (get_or all i []) - 1 - slice_index hs (2 * i + 1) + slice_index hs (2 * i)) / 2
      halfway i less = ap (λ (xs : List ℕ). slice_index xs i) numbers_read ∙ halves_are i less

      pub numbers_within : (i : ℕ) → i < length all → slice_index numbers i < length (get_or all i [])
      numbers_within i less =
          subst (λ (n : ℕ). n < length (get_or all i [])) (sym (halfway i less))
          (middle_within (length (get_or all i [])) (slice_index hs (2 * i)) (slice_index hs (2 * i + 1))
          (on_within i less) (back_within i less))

      module _ {picked : List Place} (is : ArePicked all (slice_index numbers) picked) where
        pub connected : (triangles : ℕ → ℕ) → AreAllReached ts out triangles found
            → AreConnected ts out triangles (carrying_by picked)
        connected triangles reached =
            picked_connected ts out triangles all (slice_index numbers) picked have.one_list_each
            (all_reached triangles reached) numbers_within is

        -- the number of the place by the heights of labels
        number_is : (i : ℕ) → i < length all → slice_index numbers i
            ≡ middle (length (get_or all i [])) (height_at labels ts out branches are f all have.one_list_each hs)
            (letter_at switches i)
        number_is i less =
            let within : i < length switches = subst (λ (n : ℕ). i < n) have.one_list_each less in
            halfway i less
            ∙ ap (λ (k : ℕ). (length (get_or all i []) - 1 - slice_index hs k + slice_index hs (2 * i)) / 2)
            (sym (number_back labels ts out i within))
            ∙ ap (λ (k : ℕ). (length (get_or all i []) - 1
            - slice_index hs (number_of switches (inverse (letter_at switches i))) + slice_index hs k) / 2)
            (sym (number_forwards labels ts out i within))

        pub chosen : AreMiddleAnchors ts out branches f picked
        chosen = record {
          all = all;
          have = have;
          h = height_at labels ts out branches are f all have.one_list_each hs;
          greatest =
              greatest_by_labels labels ts out branches are f all have.one_list_each hs
              (subst (λ (ss : List Step). AreGreatestFor (counts_of all) ss hs) steps_is
              (subst (λ (xs : List ℕ). AreGreatestFor xs steps hs) counts_is greatest));
          one_each = is.one_each;
          halfway = λ i less.
              (let here : i < length all = subst (λ (n : ℕ). i < n) is.one_each less in
              is.each i here ∙ ap (place_at (get_or all i [])) (number_is i here));
        }
