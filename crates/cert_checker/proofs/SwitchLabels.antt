-- A label is one of a switch exactly where that of the two labels of its edge that isn't negative is listed.
--
-- The list has the labels of switches that aren't negative, in rising order, so it has pos k exactly where k is an edge
-- whose label passes the test; and the test gives the same for a label and its inverse, as it asks for a fork on either
-- side.
use Rattle.std.proofs.Common.{ℕ, zero, suc, ℤ, pos, negsuc, Bool, true, false, List, ◌∷◌, ◌≡◌, ◌<◌, ◌≤◌, ◌+◌}
use Rattle.std.proofs.Common.{inl, inr, refl, sym, ◌∙◌, ap, subst, arith, length, map, ◌||◌}
use Rattle.std.proofs.lemmas.Bool.{cases_Bool, cases_eq, cond-true, cond-false}
use Rattle.std.specs.List.{All, Contains, filter, range_with_len}
use Rattle.std.proofs.lemmas.List.Elements.{All-filter, All-contains, filter_passes}
use Rattle.std.proofs.lemmas.List.FromFn.{length-map-range_with_len, get_or-map-range_with_len}
use Rattle.ideal_tri.specs.Labels.{edge_of, with_sign_of}
use Rattle.ideal_tri.specs.Triangulations.{IsLabel, edge_count}
use Rattle.train_track.specs.Branches.{letter_at}
use Rattle.train_track.specs.Tracks.{is_fork, is_switch, switches_of}

-- ---- both labels of an edge are those of a switch, or neither

pub or_turned : (a b : Bool) → (a || b) ≡ (b || a)
or_turned true true = refl
or_turned true false = refl
or_turned false true = refl
or_turned false false = refl

forwards_test : (ts : List (List ℤ)) (out : List ℤ) (x : ℤ) → is_switch ts out x ≡ is_switch ts out (pos (edge_of x))
unfolding is_switch
forwards_test ts out (pos n) = refl
forwards_test ts out (negsuc n) = or_turned (is_fork ts out (negsuc n)) (is_fork ts out (pos n))

-- the label of the edge that isn't negative
pub forwards_is : (x : ℤ) → with_sign_of x x ≡ pos (edge_of x)
forwards_is (pos n) = refl
forwards_is (negsuc n) = refl

-- ---- what is listed

kept_in_range : (p : ℤ → Bool) (a n k : ℕ) → a ≤ k → k < a + n → p (pos k) ≡ true
    → Contains (filter p (map pos (range_with_len a n))) (pos k)
kept_in_range p a zero k low high h = absurd (omega arith)
kept_in_range p a (suc n) k low high h =
    elim (cases_eq k a) [
      | inl e ↦
          subst (λ (xs : List ℤ). Contains xs (pos k))
          (sym (cond-true (p (pos a)) (pos a ∷ rest) rest (ap (λ (i : ℕ). p (pos i)) (sym e) ∙ h)))
          (0, omega arith, ap (λ (i : ℕ). pos i) (sym e))
      | inr apart ↦
          (let (i, less, is) = kept_in_range p (a + 1) n k (omega arith) (omega arith) h in
          elim (cases_Bool (p (pos a))) [
            | inl e ↦
                subst (λ (xs : List ℤ). Contains xs (pos k)) (sym (cond-true (p (pos a)) (pos a ∷ rest) rest e))
                (suc i, omega arith, is)
            | inr e ↦
                subst (λ (xs : List ℤ). Contains xs (pos k)) (sym (cond-false (p (pos a)) (pos a ∷ rest) rest e))
                (i, less, is)
          ])
    ]
  where
    rest : List ℤ
    rest = filter p (map pos (range_with_len (a + 1) n))

labels_in_range : (ts : List (List ℤ)) → All (IsLabel ts) (map pos (range_with_len 0 (edge_count ts)))
labels_in_range ts k d less =
    let below : k < edge_count ts =
    subst (λ (n : ℕ). k < n) (length-map-range_with_len (λ (n : ℕ). pos n) 0 (edge_count ts)) less in
    subst (IsLabel ts)
    (sym (get_or-map-range_with_len (λ (n : ℕ). pos n) 0 (edge_count ts) k k d below (omega arith))) below

module _ (ts : List (List ℤ)) (out : List ℤ) where
  listed_labels : All (IsLabel ts) (switches_of ts out)
  listed_labels =
      All-filter (is_switch ts out) (IsLabel ts) (map pos (range_with_len 0 (edge_count ts))) (labels_in_range ts)

  -- the switches that are listed are labels
  pub switch_label : (i : ℕ) → i < length (switches_of ts out) → IsLabel ts (letter_at (switches_of ts out) i)
  switch_label i less = listed_labels i (pos 0) less

  pub switch_listed : (x : ℤ) → IsLabel ts x → is_switch ts out x ≡ true → Contains (switches_of ts out) (pos (edge_of x))
  switch_listed x label h =
      kept_in_range (is_switch ts out) 0 (edge_count ts) (edge_of x) (omega arith) (omega arith)
      (sym (forwards_test ts out x) ∙ h)

  pub listed_switch : (x : ℤ) → Contains (switches_of ts out) (pos (edge_of x)) → IsLabel ts x × (is_switch ts out x ≡ true)
  listed_switch x has = (
    All-contains (IsLabel ts) (switches_of ts out) (pos (edge_of x)) listed_labels has,
    forwards_test ts out x
        ∙ All-contains (λ (y : ℤ). is_switch ts out y ≡ true) (switches_of ts out) (pos (edge_of x))
        (filter_passes (is_switch ts out) (map pos (range_with_len 0 (edge_count ts)))) has,
  )
