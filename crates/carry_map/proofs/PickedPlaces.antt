-- Places that are picked, one of each list.
--
-- What is picked is reached as all places are, so it connects the switches, whichever numbers are meant. At a label
-- that isn't negative it is the place with the number; at a negative one this place seen from the other end, so the
-- first places and the last are exchanged.
use Rattle.std.proofs.Common.{◌≡◌, ◌<◌, ◌-◌, ℕ, ℤ, pos, negsuc, List, [], ◌∷◌, ◌++◌, length, map, get_or}
use Rattle.std.proofs.Common.{refl, sym, ◌∙◌, ap, subst, arith}
use Rattle.std.specs.List.{flat_map}
use Rattle.std.proofs.lemmas.List.{get_or_default}
use Rattle.ideal_tri.specs.Labels.{inverse, edge_of}
use Rattle.ideal_tri.specs.LabelLaws.{LabelLaws}
use Rattle.ideal_tri.specs.Triangulations.{triangle_of}
use Rattle.ideal_tri.specs.Words.{inverse_word, reduce, but_last}
use Rattle.train_track.specs.Tracks.{switches_of}
use Rattle.train_track.specs.Branches.{letter_at}
use Rattle.carry_map.specs.Anchors.{Place}
use Rattle.carry_map.specs.AnchorAnswers.{IsReachedFrom, carrying_by, place_at}
use Rattle.carry_map.specs.AnchorLaws.{AreConnected}
use Rattle.carry_map.specs.CarriedMaps.{beside, goes_to, connection, final}
use Rattle.carry_map.specs.MiddleAnchors.{place_count, place_of, first_place, last_place, walk_between}
use Rattle.carry_map.specs.inside.Steps.{AreAllReached, ArePicked, AreFirsts, AreLasts, by_sign}
use Rattle.carry_map.specs.inside.Switches.{IsFirstAt, walk_from_to}
use Rattle.carry_map.proofs.Anchored.{beside_label, beside_walk}
use Rattle.carry_map.proofs.FoundAnchors.{reached_connected}
use Rattle.carry_map.proofs.SwitchPlaces.{beside_first}

pub picked_connected : (ts : List (List ℤ)) (out : List ℤ) (triangles : ℕ → ℕ) (all : List (List Place))
    (number : ℕ → ℕ) (picked : List Place) → length all ≡ length (switches_of ts out)
    → AreAllReached ts out triangles all
    → ((i : ℕ) → i < length all → number i < length (get_or all i [])) → ArePicked all number picked
    → AreConnected ts out triangles (carrying_by picked)
picked_connected ts out triangles all number picked long reached within are =
    reached_connected ts out triangles picked (are.one_each ∙ long)
    (λ k less.
    (let here : k < length all = subst (λ (n : ℕ). k < n) are.one_each less in
    subst (IsReachedFrom ts out (triangles (triangle_of ts (letter_at (switches_of ts out) k)))) (sym (are.each k here))
    (reached k here (number k) none (within k here))))
  where
    none : Place
    none = record { connect = []; label = pos 0 }

-- ---- the ends of walks along branches

module _ (labels : LabelLaws) (switches : List ℤ) (f : ℤ → List ℤ) (all : List (List Place))
    (long : length all ≡ length switches) where
  -- the place with the number k of the label x, which is the number of the picked place seen from x
  record IsSeen (picked : List Place) (x : ℤ) (k : ℕ) : Type 0 where
    connect : connection f switches (carrying_by picked) x ≡ (place_of switches f all x k).connect
    label : goes_to switches (carrying_by picked) x ≡ (place_of switches f all x k).label

  read : (number : ℕ → ℕ) (picked : List Place) → ArePicked all number picked → (i : ℕ) → i < length switches
      → (p : Place) → p ≡ place_at (get_or all i []) (number i) → p ≡ get_or picked i p
  read number picked are i less p e =
      e ∙ sym (are.each i (subst (λ (n : ℕ). i < n) (sym long) less))
      ∙ get_or_default picked i none p (subst (λ (n : ℕ). i < n) (sym (are.one_each ∙ long)) less)
    where
      none : Place
      none = record { connect = []; label = pos 0 }

  seen : (number : ℕ → ℕ) (picked : List Place) → ArePicked all number picked → (x : ℤ) (i k : ℕ)
      → IsFirstAt switches (pos (edge_of x)) i
      → number i ≡ by_sign x k (place_count switches all x - 1 - k) → IsSeen picked x k
  seen number picked are (pos n) i k at e =
      let here : get_or all i [] ≡ beside [] switches all (pos n) =
      sym (beside_first labels [] switches all (pos n) i at long) in
      let p : Place = place_at (beside [] switches all (pos n)) k in
      let is : p ≡ get_or picked i p =
      read number picked are i at.within p
      (ap (λ (ps : List Place). place_at ps k) (sym here) ∙ ap (place_at (get_or all i [])) (sym e)) in
      record {
        connect = beside_walk labels switches picked (are.one_each ∙ long) (pos n) i p at is;
        label = beside_label labels switches picked (are.one_each ∙ long) (pos n) i p at is;
      }
  seen number picked are (negsuc n) i k at e =
      let here : get_or all i [] ≡ beside [] switches all (pos n) =
      sym (beside_first labels [] switches all (pos n) i at long) in
      let p : Place = place_at (beside [] switches all (pos n)) (place_count switches all (pos n) - 1 - k) in
      let is : p ≡ get_or picked i p =
      read number picked are i at.within p
      (ap (λ (ps : List Place). place_at ps (place_count switches all (pos n) - 1 - k)) (sym here)
      ∙ ap (place_at (get_or all i [])) (sym e)) in
      let walk : beside [] switches (map (λ (q : Place). q.connect) picked) (pos n) ≡ p.connect =
      beside_walk labels switches picked (are.one_each ∙ long) (pos n) i p at is in
      let label : beside (pos 0) switches (map (λ (q : Place). q.label) picked) (pos n) ≡ p.label =
      beside_label labels switches picked (are.one_each ∙ long) (pos n) i p at is in
      record {
        connect =
            ap (λ (w : List ℤ). reduce (f (negsuc n)
            ++ (w ++ (beside (pos 0) switches (map (λ (q : Place). q.label) picked) (pos n) ∷ [])))) walk
            ∙ ap (λ (y : ℤ). reduce (f (negsuc n) ++ (p.connect ++ (y ∷ [])))) label;
        label = ap inverse label;
      }

  module _ (firsts lasts : List Place) (first : AreFirsts all firsts) (last : AreLasts all lasts) where
    count_here : (x : ℤ) (i : ℕ) → IsFirstAt switches (pos (edge_of x)) i
        → length (get_or all i []) ≡ place_count switches all x
    count_here x i at =
        ap length (sym (beside_first labels [] switches all (pos (edge_of x)) i at long))

    first_seen : (x : ℤ) (i : ℕ) → IsFirstAt switches (pos (edge_of x)) i → IsSeen (by_sign x firsts lasts) x 0
    first_seen (pos n) i at = seen (λ j. 0) firsts first (pos n) i 0 at refl
    first_seen (negsuc n) i at =
        let e : length (get_or all i []) - 1 ≡ place_count switches all (negsuc n) - 1 - 0 =
        omega (arith, count_here (negsuc n) i at) in
        seen (λ j. length (get_or all j []) - 1) lasts last (negsuc n) i 0 at e

    last_seen : (x : ℤ) (i : ℕ) → IsFirstAt switches (pos (edge_of x)) i
        → IsSeen (by_sign x lasts firsts) x (place_count switches all x - 1)
    last_seen (pos n) i at =
        seen (λ j. length (get_or all j []) - 1) lasts last (pos n) i (place_count switches all (pos n) - 1) at
        (ap (λ (m : ℕ). m - 1) (count_here (pos n) i at))
    last_seen (negsuc n) i at =
        let m : ℕ = place_count switches all (negsuc n) in
        let e : 0 ≡ m - 1 - (m - 1) = omega arith in
        seen (λ j. 0) firsts first (negsuc n) i (m - 1) at e

    -- the walk between the first places and the last
    pub between_ends : (b : List ℤ) (i j : ℕ) → IsFirstAt switches (pos (edge_of (letter_at b 0))) i
        → IsFirstAt switches (pos (edge_of (final b))) j
        → walk_from_to switches f (carrying_by (by_sign (letter_at b 0) firsts lasts))
        (carrying_by (by_sign (final b) lasts firsts)) b
        ≡ walk_between f (first_place switches f all (letter_at b 0)) (last_place switches f all (final b)) b
    between_ends b i j at there =
        let x : IsSeen (by_sign (letter_at b 0) firsts lasts) (letter_at b 0) 0 = first_seen (letter_at b 0) i at in
        let y : IsSeen (by_sign (final b) lasts firsts) (final b) (place_count switches all (final b) - 1) =
        last_seen (final b) j there in
        ap (λ (w : List ℤ). reduce (inverse_word w ++ (flat_map f (but_last b)
        ++ (connection f switches (carrying_by (by_sign (final b) lasts firsts)) (final b)
        ++ (goes_to switches (carrying_by (by_sign (final b) lasts firsts)) (final b) ∷ []))))) x.connect
        ∙ ap (λ (w : List ℤ). reduce (inverse_word (first_place switches f all (letter_at b 0)).connect
        ++ (flat_map f (but_last b)
        ++ (w ++ (goes_to switches (carrying_by (by_sign (final b) lasts firsts)) (final b) ∷ []))))) y.connect
        ∙ ap (λ (z : ℤ). reduce (inverse_word (first_place switches f all (letter_at b 0)).connect
        ++ (flat_map f (but_last b) ++ ((last_place switches f all (final b)).connect ++ (z ∷ []))))) y.label
