-- The order of labels, and of words by their first two letters.
use Rattle.std.proofs.Common.{ℕ, ℤ, Bool, true, false, ◌&&◌, List, ◌≡◌}
use Rattle.std.proofs.Common.{◌<◌, ◌*◌, inl, inr, refl, sym, ◌∙◌, ap, subst, arith}
use Rattle.std.specs.List.{All, AllPairs, Contains}
use Rattle.std.specs.Ordering.{int_eq}
use Rattle.std.proofs.lemmas.Bool.{true≢false, cases_lt, lt-ltb, le-ltb, ltb-true, or_left, or_right}
use Rattle.std.proofs.lemmas.Bool.{or_from, and_from, and_left, or_cases, and_parts}
use Rattle.std.proofs.lemmas.List.FromFn.{length-map-range_with_len, get_or-map-range_with_len}
use Rattle.ideal_tri.specs.LabelLaws.{LabelLaws}
use Rattle.ideal_tri.specs.Triangulations.{IsLabel, edge_count}
use Rattle.ideal_tri.specs.Vertices.{rank, label_of_rank, ordered_labels}
use Rattle.train_track.specs.Branches.{are_before}

-- ---- labels and their places

module _ (labels : LabelLaws) (ts : List (List ℤ)) where
  label_at : (k : ℕ) → k < 2 * edge_count ts → IsLabel ts (label_of_rank k)
  label_at k h =
      labels.order.edge_below (label_of_rank k) (edge_count ts)
      (subst (λ (n : ℕ). n < 2 * edge_count ts) (sym (labels.order.rank_of k)) h)

  -- each label is among those listed
  pub label_listed : (x : ℤ) → IsLabel ts x → Contains (ordered_labels ts) x
  label_listed x l =
      let below : rank x < 2 * edge_count ts = labels.order.rank_below x (edge_count ts) l in (
        rank x,
        omega (arith, length-map-range_with_len label_of_rank 0 (2 * edge_count ts)),
        get_or-map-range_with_len label_of_rank 0 (2 * edge_count ts) (rank x) (rank x) x below (omega arith)
            ∙ labels.order.label_of x,
      )

  pub labels_in_order : AllPairs (λ x y. rank x < rank y) (ordered_labels ts)
  labels_in_order i j d less within =
      let n : ℕ = 2 * edge_count ts in
      let below : j < n = omega (arith, length-map-range_with_len label_of_rank 0 n) in
      omega (
        arith,
        ap rank (get_or-map-range_with_len label_of_rank 0 n i i d (omega arith) (omega arith)),
        ap rank (get_or-map-range_with_len label_of_rank 0 n j j d below (omega arith)),
        labels.order.rank_of i,
        labels.order.rank_of j,
      )

  pub labels_listed : All (IsLabel ts) (ordered_labels ts)
  labels_listed k d within =
      let n : ℕ = 2 * edge_count ts in
      let below : k < n = omega (arith, length-map-range_with_len label_of_rank 0 n) in
      subst (IsLabel ts) (sym (get_or-map-range_with_len label_of_rank 0 n k k d below (omega arith)))
      (label_at k below)

-- ---- pairs of letters

pub before_first : (x y u v : ℤ) → rank x < rank u → are_before x y u v ≡ true
unfolding are_before
before_first x y u v h = or_left _ _ (lt-ltb _ _ h)

pub before_second : LabelLaws → (x y v : ℤ) → rank y < rank v → are_before x y x v ≡ true
unfolding are_before
before_second labels x y v h = or_right _ _ (and_from _ _ (labels.test_same x x refl) (lt-ltb _ _ h))

-- of two different pairs one is before the other
pub one_before : LabelLaws → (x y u v : ℤ) → ¬ ((x ≡ u) × (y ≡ v)) → are_before u v x y ≡ false
    → are_before x y u v ≡ true
one_before labels x y u v apart e = elim (cases_lt (rank x) (rank u)) [
  | inl h ↦ before_first x y u v h
  | inr h ↦ elim (cases_lt (rank u) (rank x)) [
    | inl less ↦ absurd (true≢false (sym (before_first u v x y less) ∙ e))
    | inr more ↦
        (let same : x ≡ u = labels.order.one x u (omega arith) in
        subst (λ (w : ℤ). are_before x y w v ≡ true) same (before_second labels x y v
        (elim (cases_lt (rank y) (rank v)) [
          | inl less ↦ less
          | inr more ↦ elim (cases_lt (rank v) (rank y)) [
            | inl less ↦
                absurd (true≢false
                (sym (subst (λ (w : ℤ). are_before w v x y ≡ true) same (before_second labels x v y less)) ∙ e))
            | inr again ↦ absurd (apart (same, labels.order.one y v (omega arith)))
          ]
        ])))
  ]
]

pub not_both : LabelLaws → (x y u v : ℤ) → are_before x y u v ≡ true → are_before u v x y ≡ false
unfolding are_before
not_both labels x y u v e = elim (or_cases _ _ e) [
  | inl h ↦
      (let less : rank x < rank u = ltb-true _ _ h in
      or_from _ _ (le-ltb _ _ (omega arith))
      (and_left _ _ (labels.test_other u x (λ f. (let same : rank u ≡ rank x = ap rank f in omega arith)))))
  | inr h ↦
      (let (same, below) = and_parts _ _ h in
      let f : x ≡ u = is_same x u same in
      let less : rank y < rank v = ltb-true _ _ below in
      let level : rank x ≡ rank u = ap rank f in
      or_from _ _ (le-ltb _ _ (omega arith)) (right (int_eq u x) _ (le-ltb _ _ (omega arith))))
]
  where
    is_same : (x u : ℤ) → int_eq x u ≡ true → x ≡ u
    is_same x u e =
        elim (labels.same_or_not x u) [ inl f ↦ f | inr f ↦ absurd (true≢false (sym e ∙ labels.test_other x u f)) ]

    right : (a b : Bool) → b ≡ false → (a && b) ≡ false
    right true b e = e
    right false b e = refl
