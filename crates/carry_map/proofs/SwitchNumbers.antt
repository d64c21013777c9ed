-- The numbers of the labels of switches, and what is read at them.
--
-- The switches are listed by their labels that aren't negative, each once, as they are some of 0, 1, 2, .. in their
-- order. So each stands first at its own place, and the label of a switch has the number 2 i or 2 i + 1, where i is
-- the place of its edge. A list with two numbers for each switch has at this number the one for the label.
use Rattle.std.proofs.Common.{◌≡◌, ◌≢◌, ◌<◌, ◌≤◌, ◌+◌, ◌*◌, ℕ, zero, suc, ℤ, pos, negsuc, Bool, true}
use Rattle.std.proofs.Common.{List, [], ◌∷◌, length, map, inl, inr, refl, sym, ◌∙◌, ap, subst, arith}
use Rattle.std.proofs.Common.{slice_index, if◌then◌else◌}
use Rattle.std.proofs.lemmas.Bool.{cases_Bool, cond-true, cond-false}
use Rattle.std.proofs.lemmas.List.Elements.{All-filter, filter_passes}
use Rattle.std.proofs.lemmas.List.FromFn.{length-map-range_with_len, get_or-map-range_with_len}
use Rattle.std.specs.List.{All, filter, range_with_len}
use Rattle.ideal_tri.specs.Labels.{inverse, edge_of}
use Rattle.ideal_tri.specs.LabelLaws.{LabelLaws}
use Rattle.ideal_tri.specs.Triangulations.{edge_count, place_in}
use Rattle.train_track.specs.Tracks.{is_switch, switches_of}
use Rattle.train_track.specs.Branches.{letter_at}
use Rattle.carry_map.specs.Anchors.{Place}
use Rattle.carry_map.specs.MiddleAnchors.{place_count}
use Rattle.carry_map.specs.inside.Steps.{number_of, counts_of}
use Rattle.carry_map.specs.inside.Switches.{IsFirstAt, IsSwitchLabel}
use Rattle.carry_map.proofs.Pairs.{pairs, pair_on, pair_back, pairs_long}
use Rattle.carry_map.proofs.SwitchPlaces.{switch_listed, first_at, beside_first}

-- ---- each switch is listed once

-- those listed from a on
abbrev kept_from : (ℤ → Bool) → ℕ → ℕ → List ℤ
kept_from p a n = filter p (map pos (range_with_len a n))

abbrev IsFrom : ℕ → ℤ → Type 0
IsFrom a x = (m : ℕ) × (a ≤ m) × (x ≡ pos m)

from_here : (p : ℤ → Bool) (a n : ℕ) → All (IsFrom a) (kept_from p a n)
from_here p a n =
    All-filter p (IsFrom a) (map pos (range_with_len a n))
    (λ k d less.
    let below : k < n = subst (λ (m : ℕ). k < m) (length-map-range_with_len (λ (m : ℕ). pos m) a n) less in
    (a + k, omega arith, get_or-map-range_with_len (λ (m : ℕ). pos m) a n k (a + k) d below refl))

apart_from : (a : ℕ) (x : ℤ) → IsFrom (a + 1) x → pos a ≢ x
apart_from a x (m, high, e) same = absurd (let one : a ≡ m = ap edge_of (same ∙ e) in omega arith)

apart_in_range : (p : ℤ → Bool) (a n k l : ℕ) → k < l → l < length (kept_from p a n)
    → letter_at (kept_from p a n) k ≢ letter_at (kept_from p a n) l
apart_in_range p a zero k l before less = absurd (omega arith)
apart_in_range p a (suc n) k l before less =
    elim (cases_Bool (p (pos a))) [
      | inl e ↦
          subst (λ (xs : List ℤ). l < length xs → letter_at xs k ≢ letter_at xs l)
          (sym (cond-true (p (pos a)) (pos a ∷ rest) rest e))
          (with_first (λ i j low within. apart_in_range p (a + 1) n i j low within) k l before) less
      | inr e ↦
          subst (λ (xs : List ℤ). l < length xs → letter_at xs k ≢ letter_at xs l)
          (sym (cond-false (p (pos a)) (pos a ∷ rest) rest e)) (apart_in_range p (a + 1) n k l before) less
    ]
  where
    rest : List ℤ
    rest = kept_from p (a + 1) n

    with_first : ((i j : ℕ) → i < j → j < length rest → letter_at rest i ≢ letter_at rest j)
        → (i j : ℕ) → i < j → j < length (pos a ∷ rest)
        → letter_at (pos a ∷ rest) i ≢ letter_at (pos a ∷ rest) j
    with_first others i zero low within = absurd (omega arith)
    with_first others zero (suc j) low within =
        apart_from a (letter_at rest j) (from_here p (a + 1) n j (pos 0) (omega arith))
    with_first others (suc i) (suc j) low within = others i j (omega arith) (omega arith)

pub first_of_its_own : (ts : List (List ℤ)) (out : List ℤ) (i : ℕ) → i < length (switches_of ts out)
    → IsFirstAt (switches_of ts out) (letter_at (switches_of ts out) i) i
first_of_its_own ts out i less = record {
  within = less;
  here = refl;
  before = λ k below. apart_in_range (is_switch ts out) 0 (edge_count ts) k i below less;
}

-- the label of a switch in the list isn't negative
pub listed_forwards : (ts : List (List ℤ)) (out : List ℤ) (i : ℕ) → i < length (switches_of ts out)
    → letter_at (switches_of ts out) i ≡ pos (edge_of (letter_at (switches_of ts out) i))
listed_forwards ts out i less =
    let (m, high, e) = from_here (is_switch ts out) 0 (edge_count ts) i (pos 0) less in
    e ∙ ap (λ (x : ℤ). pos (edge_of x)) (sym e)

pub listed_switch : (ts : List (List ℤ)) (out : List ℤ) (i : ℕ) → i < length (switches_of ts out)
    → is_switch ts out (letter_at (switches_of ts out) i) ≡ true
listed_switch ts out i less =
    filter_passes (is_switch ts out) (map pos (range_with_len 0 (edge_count ts))) i (pos 0) less

-- ---- numbers

module _ (labels : LabelLaws) where
  pub place_first : (xs : List ℤ) (x : ℤ) (i : ℕ) → IsFirstAt xs x i → place_in xs x ≡ i
  place_first [] x i at = absurd (let w = at.within in omega arith)
  place_first (y ∷ xs) x zero at =
      ap (λ (b : Bool). if b then 0 else suc (place_in xs x)) (labels.test_same y x at.here)
  place_first (y ∷ xs) x (suc i) at =
      ap (λ (b : Bool). if b then 0 else suc (place_in xs x)) (labels.test_other y x (at.before 0 (omega arith)))
      ∙ ap suc (place_first xs x i (record {
        within = (let w = at.within in omega arith);
        here = at.here;
        before = λ k below. at.before (suc k) (omega arith);
      }))

  -- the number of a label that isn't negative, and of a negative one
  pub number_on : (xs : List ℤ) (x : ℤ) (i : ℕ) → x ≡ pos (edge_of x) → IsFirstAt xs (pos (edge_of x)) i
      → 2 * i ≡ number_of xs x
  number_on xs x i forwards at =
      ap (λ (k : ℕ). 2 * k) (sym (place_first xs (pos (edge_of x)) i at)) ∙ ap (number_of xs) (sym forwards)

  pub number_off : (xs : List ℤ) (x : ℤ) (i : ℕ) → x ≡ negsuc (edge_of x) → IsFirstAt xs (pos (edge_of x)) i
      → 2 * i + 1 ≡ number_of xs x
  number_off xs x i back at =
      ap (λ (k : ℕ). 2 * k + 1) (sym (place_first xs (pos (edge_of x)) i at)) ∙ ap (number_of xs) (sym back)

  -- two numbers for each switch, read at the number of a label
  pub read_pair : (u : ℤ → ℕ) (xs : List ℤ) (x : ℤ) (i : ℕ) → IsFirstAt xs (pos (edge_of x)) i
      → slice_index (pairs u (λ s. u (inverse s)) xs) (number_of xs x) ≡ u x
  read_pair u xs (pos n) i at =
      ap (λ (k : ℕ). slice_index (pairs u (λ s. u (inverse s)) xs) (2 * k)) (place_first xs (pos n) i at)
      ∙ pair_on u (λ s. u (inverse s)) xs i (pos 0) 0 at.within
      ∙ ap u at.here
  read_pair u xs (negsuc n) i at =
      ap (λ (k : ℕ). slice_index (pairs u (λ s. u (inverse s)) xs) (2 * k + 1)) (place_first xs (pos n) i at)
      ∙ pair_back u (λ s. u (inverse s)) xs i (pos 0) 0 at.within
      ∙ ap (λ (s : ℤ). u (inverse s)) at.here

  pub read_count : (xs : List ℤ) (all : List (List Place)) → length all ≡ length xs → (x : ℤ) (i : ℕ)
      → IsFirstAt xs (pos (edge_of x)) i → slice_index (counts_of all) (number_of xs x) ≡ place_count xs all x
  read_count xs all long (pos n) i at =
      ap (λ (k : ℕ). slice_index (counts_of all) (2 * k)) (place_first xs (pos n) i at)
      ∙ pair_on length length all i [] 0 (let w = at.within in omega (arith, long))
      ∙ ap length (sym (beside_first labels [] xs all (pos n) i at long))
  read_count xs all long (negsuc n) i at =
      ap (λ (k : ℕ). slice_index (counts_of all) (2 * k + 1)) (place_first xs (pos n) i at)
      ∙ pair_back length length all i [] 0 (let w = at.within in omega (arith, long))
      ∙ ap length (sym (beside_first labels [] xs all (pos n) i at long))

  pub number_within : (xs : List ℤ) (all : List (List Place)) → length all ≡ length xs → (x : ℤ) (i : ℕ)
      → IsFirstAt xs (pos (edge_of x)) i → number_of xs x < length (counts_of all)
  number_within xs all long (pos n) i at =
      let w = at.within in omega (arith, long, place_first xs (pos n) i at, pairs_long length length all)
  number_within xs all long (negsuc n) i at =
      let w = at.within in omega (arith, long, place_first xs (pos n) i at, pairs_long length length all)

  -- of the label of a switch
  pub switch_first : (ts : List (List ℤ)) (out : List ℤ) (x : ℤ) → IsSwitchLabel ts out x
      → (i : ℕ) × IsFirstAt (switches_of ts out) (pos (edge_of x)) i
  switch_first ts out x is =
      first_at labels (switches_of ts out) (pos (edge_of x)) (switch_listed ts out x is.label is.switch)

  -- of a listed switch, and of its inverse
  pub number_forwards : (ts : List (List ℤ)) (out : List ℤ) (i : ℕ) → i < length (switches_of ts out)
      → number_of (switches_of ts out) (letter_at (switches_of ts out) i) ≡ 2 * i
  number_forwards ts out i less =
      let s : ℤ = letter_at (switches_of ts out) i in
      ap (number_of (switches_of ts out)) (listed_forwards ts out i less)
      ∙ ap (λ (x : ℤ). 2 * place_in (switches_of ts out) x) (sym (listed_forwards ts out i less))
      ∙ ap (λ (k : ℕ). 2 * k) (place_first (switches_of ts out) s i (first_of_its_own ts out i less))

  pub number_back : (ts : List (List ℤ)) (out : List ℤ) (i : ℕ) → i < length (switches_of ts out)
      → number_of (switches_of ts out) (inverse (letter_at (switches_of ts out) i)) ≡ 2 * i + 1
  number_back ts out i less =
      let s : ℤ = letter_at (switches_of ts out) i in
      ap (λ (x : ℤ). number_of (switches_of ts out) (inverse x)) (listed_forwards ts out i less)
      ∙ ap (λ (x : ℤ). 2 * place_in (switches_of ts out) x + 1) (sym (listed_forwards ts out i less))
      ∙ ap (λ (k : ℕ). 2 * k + 1) (place_first (switches_of ts out) s i (first_of_its_own ts out i less))
