-- The places of switches in their list, and what stands beside them in another.
--
-- The list has the labels of switches that aren't negative, in rising order, so it has pos k exactly where k is an edge
-- whose label passes the test; and the test gives the same for a label and its inverse, as it asks for a fork on either
-- side. In a list that has x there is a first place where x stands. What stands beside x in a second list of the same
-- length is the entry at that place: before it the labels differ from x, and there they agree.
use Rattle.std.proofs.Common.{ℕ, zero, suc, ℤ, pos, negsuc, Bool, true, List, [], ◌∷◌, ◌≡◌, ◌≢◌, ◌<◌}
use Rattle.std.proofs.Common.{◌≤◌, ◌+◌, inl, inr, sym, ◌∙◌, ap, subst, arith, length, map, get_or}
use Rattle.std.proofs.Common.{if◌then◌else◌}
use Rattle.std.proofs.Math.Bool.{or_comm}
use Rattle.std.proofs.lemmas.Bool.{cases_Bool, cases_eq, cond-true, cond-false}
use Rattle.std.specs.List.{All, Contains, filter, range_with_len}
use Rattle.std.proofs.lemmas.List.Elements.{All-filter}
use Rattle.std.proofs.lemmas.List.FromFn.{length-map-range_with_len, get_or-map-range_with_len}
use Rattle.ideal_tri.specs.Labels.{edge_of}
use Rattle.ideal_tri.specs.LabelLaws.{LabelLaws}
use Rattle.ideal_tri.specs.Triangulations.{IsLabel, edge_count}
use Rattle.train_track.specs.Tracks.{is_fork, is_switch, switches_of}
use Rattle.train_track.specs.Branches.{letter_at}
use Rattle.carry_map.specs.CarriedMaps.{beside}
use Rattle.carry_map.proofs.ElementsAndPairs.{contains_here, contains_later}
use Rattle.carry_map.specs.inside.Switches.{IsFirstAt}

-- ---- the labels of switches that aren't negative are listed

kept_in_range : (p : ℤ → Bool) (a n k : ℕ) → a ≤ k → k < a + n → p (pos k) ≡ true
    → Contains (filter p (map pos (range_with_len a n))) (pos k)
kept_in_range p a zero k low high h = absurd (omega arith)
kept_in_range p a (suc n) k low high h =
    elim (cases_eq k a) [
      | inl e ↦
          subst (λ (xs : List ℤ). Contains xs (pos k))
          (sym (cond-true (p (pos a)) (pos a ∷ rest) rest (ap (λ (i : ℕ). p (pos i)) (sym e) ∙ h)))
          (subst (λ (i : ℕ). Contains (pos i ∷ rest) (pos k)) e (contains_here (pos k) rest))
      | inr apart ↦
          (let more : Contains rest (pos k) = kept_in_range p (a + 1) n k (omega arith) (omega arith) h in
          elim (cases_Bool (p (pos a))) [
            | inl e ↦
                subst (λ (xs : List ℤ). Contains xs (pos k)) (sym (cond-true (p (pos a)) (pos a ∷ rest) rest e))
                (contains_later (pos a) rest (pos k) more)
            | inr e ↦
                subst (λ (xs : List ℤ). Contains xs (pos k)) (sym (cond-false (p (pos a)) (pos a ∷ rest) rest e)) more
          ])
    ]
  where
    rest : List ℤ
    rest = filter p (map pos (range_with_len (a + 1) n))

-- an edge is a switch from both its sides
pub switch_forwards : (ts : List (List ℤ)) (out : List ℤ) (x : ℤ) → is_switch ts out x ≡ true
    → is_switch ts out (pos (edge_of x)) ≡ true
unfolding is_switch
switch_forwards ts out (pos n) h = h
switch_forwards ts out (negsuc n) h = or_comm (is_fork ts out (pos n)) (is_fork ts out (negsuc n)) ∙ h

pub switch_listed : (ts : List (List ℤ)) (out : List ℤ) (x : ℤ) → IsLabel ts x → is_switch ts out x ≡ true
    → Contains (switches_of ts out) (pos (edge_of x))
switch_listed ts out x label h =
    kept_in_range (is_switch ts out) 0 (edge_count ts) (edge_of x) (omega arith) (omega arith)
    (switch_forwards ts out x h)

-- ---- the first place of a label in a list

module _ (labels : LabelLaws) where
  pub first_at : (xs : List ℤ) (x : ℤ) → Contains xs x → (i : ℕ) × IsFirstAt xs x i
  first_at [] x (k, less, e) = absurd (omega arith)
  first_at (y ∷ xs) x (zero, less, e) =
      (0, record { within = omega arith; here = e; before = λ k below. absurd (omega arith) })
  first_at (y ∷ xs) x (suc k, less, e) =
      elim (labels.same_or_not y x) [
        | inl same ↦ (0, record { within = omega arith; here = same; before = λ j below. absurd (omega arith) })
        | inr other ↦
            (let (i, at) = first_at xs x (k, omega arith, e) in (
              suc i,
              record {
                within = (let w = at.within in omega arith);
                here = at.here;
                before = λ j below. not_before y xs x i other at.before j below;
              },
            ))
      ]
    where
      not_before : (y : ℤ) (xs : List ℤ) (x : ℤ) (i : ℕ) → y ≢ x → ((k : ℕ) → k < i → letter_at xs k ≢ x)
          → (j : ℕ) → j < suc i → letter_at (y ∷ xs) j ≢ x
      not_before y xs x i other before zero below = other
      not_before y xs x i other before (suc j) below = before j (omega arith)

  pub beside_first : {A : Type 0} → (none : A) (xs : List ℤ) (ys : List A) (x : ℤ) (i : ℕ) → IsFirstAt xs x i
      → length ys ≡ length xs → beside none xs ys x ≡ get_or ys i none
  beside_first none [] ys x i at long = absurd (let w = at.within in omega arith)
  beside_first none (s ∷ xs) [] x i at long = absurd (omega arith)
  beside_first none (s ∷ xs) (y ∷ ys) x zero at long =
      ap (λ (b : Bool). if b then y else beside none xs ys x) (labels.test_same s x at.here)
  beside_first none (s ∷ xs) (y ∷ ys) x (suc i) at long =
      ap (λ (b : Bool). if b then y else beside none xs ys x)
      (labels.test_other s x (at.before 0 (omega arith)))
      ∙ beside_first none xs ys x i
      (record {
        within = (let w = at.within in omega arith);
        here = at.here;
        before = λ k below. at.before (suc k) (omega arith);
      })
      (omega arith)

-- ---- the switches that are listed are labels

labels_in_range : (ts : List (List ℤ)) → All (IsLabel ts) (map pos (range_with_len 0 (edge_count ts)))
labels_in_range ts k d less =
    let below : k < edge_count ts =
    subst (λ (n : ℕ). k < n) (length-map-range_with_len (λ (n : ℕ). pos n) 0 (edge_count ts)) less in
    subst (IsLabel ts)
    (sym (get_or-map-range_with_len (λ (n : ℕ). pos n) 0 (edge_count ts) k k d below (omega arith))) below

pub switch_label : (ts : List (List ℤ)) (out : List ℤ) (i : ℕ) → i < length (switches_of ts out)
    → IsLabel ts (letter_at (switches_of ts out) i)
switch_label ts out i less =
    All-filter (is_switch ts out) (IsLabel ts) (map pos (range_with_len 0 (edge_count ts))) (labels_in_range ts) i
    (pos 0) less
