-- The corners with light counts, gathered in the order of labels.
--
-- Let the corners of rank below k with light counts be listed in order. The label x of rank k is behind all of them, so
-- it can be put at the end where its count is light; and it is none of them, so without it the list leaves it out where
-- its count isn't light. A label of rank below k + 1 has rank below k, or is x.
use Rattle.std.proofs.Common.{◌≡◌, ◌≢◌, ◌<◌, ◌+◌, ◌*◌, ◌++◌, ◌||◌, ◌⊎◌, ◌↔◌, ℕ, suc, ℤ, pos, Bool, true, false}
use Rattle.std.proofs.Common.{List, [], ◌∷◌, length, All, get_or, max, inl, inr, refl, sym, ◌∙◌, ap, subst, arith}
use Rattle.std.specs.List.{fold, list_any}
use Rattle.std.specs.Ordering.{int_eq}
use Rattle.std.proofs.lemmas.Bool.{true≢false, or_cases, or_right, cases_lt}
use Rattle.std.proofs.lemmas.List.{length-append, get_or_append_left}
use Rattle.std.proofs.lemmas.List.Elements.{All-push}
use Rattle.std.proofs.lemmas.List.Folds.{list_any-append}
use Rattle.std.proofs.Math.Seq.{get_or-append_seam}
use Rattle.ideal_tri.specs.LabelLaws.{LabelLaws}
use Rattle.ideal_tri.specs.Triangulations.{IsLabel, edge_count}
use Rattle.ideal_tri.specs.Vectors.{corner_count}
use Rattle.ideal_tri.specs.Vertices.{rank, label_of_rank}
use Rattle.train_track.specs.Tracks.{ArePlaced, IsPlaced, is_left_out}
use Rattle.cycle_stages.specs.Light.{IsLight}
use Rattle.verdict_plan.specs.FurtherTracks.{AreLightCorners}

-- ---- the greatest number

-- of small numbers
pub greatest_below : (bound low : ℕ) (w : List ℕ) → low < bound → All (λ n. n < bound) w → fold max low w < bound
greatest_below bound low [] less all = less
greatest_below bound low (n ∷ w) less all =
    greatest_below bound (max low n) w (omega (arith, less, all 0 n (omega arith)))
    (λ k d within. all (suc k) d (omega (arith, within)))

-- ---- a list with one corner more

out_more : (out : List ℤ) (x y : ℤ) → is_left_out (out ++ x ∷ []) y ≡ (is_left_out out y || (int_eq x y || false))
unfolding is_left_out
out_more out x y = list_any-append (λ z. int_eq z y) out (x ∷ [])

or_none : (b : Bool) → (b || (false || false)) ≡ b
or_none true = refl
or_none false = refl

-- a corner that isn't the new one
out_as_before : LabelLaws → (out : List ℤ) (x y : ℤ) → x ≢ y → is_left_out (out ++ x ∷ []) y ≡ is_left_out out y
out_as_before labels out x y other =
    out_more out x y
    ∙ ap (λ (b : Bool). is_left_out out y || (b || false)) (labels.test_other x y other)
    ∙ or_none (is_left_out out y)

-- the new one
out_now : LabelLaws → (out : List ℤ) (x y : ℤ) → x ≡ y → is_left_out (out ++ x ∷ []) y ≡ true
out_now labels out x y same =
    out_more out x y
    ∙ or_right (is_left_out out y) (int_eq x y || false)
    (ap (λ (b : Bool). b || false) (labels.test_same x y same))

-- each corner of the list has what all have
of_each : LabelLaws → (P : ℤ → Type 0) (out : List ℤ) (y : ℤ) → is_left_out out y ≡ true → All P out → P y
unfolding is_left_out
of_each labels P [] y e all = absurd (true≢false (sym e))
of_each labels P (x ∷ out) y e all = elim (or_cases (int_eq x y) (list_any (λ z. int_eq z y) out) e) [
  | inl h ↦ elim (labels.same_or_not x y) [
    | inl same ↦ subst P same (all 0 x (omega arith))
    | inr other ↦ absurd (true≢false (sym h ∙ labels.test_other x y other))
  ]
  | inr h ↦ of_each labels P out y h (λ k d within. all (suc k) d (omega (arith, within)))
]

-- ---- the corners of rank below k

pub record AreLightBelow (triples : List (List ℤ)) (w : List ℕ) (k : ℕ) (found : List ℤ) : Type 0 where
  pub placed : ArePlaced triples found
  pub below : All (λ x. rank x < k) found
  pub light : (x : ℤ) → rank x < k
      → (is_left_out found x ≡ true) ↔ IsLight w (corner_count triples w x)

module _ (labels : LabelLaws) (triples : List (List ℤ)) (w : List ℕ) where
  pub none_below : (found : List ℤ) → found ≡ [] → AreLightBelow triples w 0 found
  none_below found none = subst (AreLightBelow triples w 0) (sym none) (record {
    placed = λ i within. absurd (omega (arith, within));
    below = λ i d within. absurd (omega (arith, within));
    light = λ x less. absurd (omega (arith, less));
  })

  pub all_below : (k : ℕ) (found : List ℤ) → k ≡ 2 * edge_count triples → AreLightBelow triples w k found
      → AreLightCorners triples w found
  all_below k found all h = record {
    placed = h.placed;
    light = λ x label. h.light x (omega (arith, all, labels.order.rank_below x (edge_count triples) label));
  }

  module _ (k : ℕ) (x : ℤ) (found : List ℤ) (h : AreLightBelow triples w k found) (is : x ≡ label_of_rank k) where
    rank_is : rank x ≡ k
    rank_is = ap rank is ∙ labels.order.rank_of k

    -- a corner of rank below k + 1
    next_or_before : (y : ℤ) → rank y < k + 1 → (rank y < k) ⊎ (x ≡ y)
    next_or_before y less = elim (cases_lt (rank y) k) [
      | inl before ↦ inl before
      | inr not_before ↦ inr (labels.order.one x y (omega (arith, rank_is, less, not_before)))
    ]

    other : (y : ℤ) → rank y < k → x ≢ y
    other y less same = omega (arith, less, rank_is, ap rank same)

    -- its count isn't light
    pub dropped : ¬ IsLight w (corner_count triples w x) → (more : List ℤ) → more ≡ found
        → AreLightBelow triples w (k + 1) more
    dropped dark more same_list = subst (AreLightBelow triples w (k + 1)) (sym same_list) (record {
      placed = h.placed;
      below = λ i d within. omega (arith, h.below i d within);
      light = λ y less. elim (next_or_before y less) [
        | inl before ↦ h.light y before
        | inr same ↦ (
          λ out. absurd (omega (arith, rank_is, ap rank same, of_each labels (λ z. rank z < k) found y out h.below)),
          λ light. absurd (dark (subst (λ (z : ℤ). IsLight w (corner_count triples w z)) (sym same) light)),
        )
      ];
    })

    -- its count is light
    entry_before : (i : ℕ) → i < length found → get_or (found ++ x ∷ []) i (pos 0) ≡ get_or found i (pos 0)
    entry_before i within = get_or_append_left found (x ∷ []) (pos 0) i within

    entry_last : (i : ℕ) → i ≡ length found → get_or (found ++ x ∷ []) i (pos 0) ≡ x
    entry_last i last =
        ap (λ (j : ℕ). get_or (found ++ x ∷ []) j (pos 0)) last ∙ get_or-append_seam found x [] (pos 0)

    placed_before : (i : ℕ) → i < length found → IsPlaced triples (found ++ x ∷ []) i
    placed_before i within = (
      subst (IsLabel triples) (sym (entry_before i within)) (h.placed i within).0,
      λ j next.
          let before : j < length found = omega (arith, next, within) in
          subst (λ (y : ℤ). rank y < rank (get_or (found ++ x ∷ []) i (pos 0))) (sym (entry_before j before))
          (subst (λ (y : ℤ). rank (get_or found j (pos 0)) < rank y) (sym (entry_before i within))
          ((h.placed i within).1 j next)),
    )

    placed_last : IsLabel triples x → (i : ℕ) → i ≡ length found → IsPlaced triples (found ++ x ∷ []) i
    placed_last label i last = (
      subst (IsLabel triples) (sym (entry_last i last)) label,
      λ j next.
          let before : j < length found = omega (arith, next, last) in
          subst (λ (y : ℤ). rank y < rank (get_or (found ++ x ∷ []) i (pos 0))) (sym (entry_before j before))
          (subst (λ (y : ℤ). rank (get_or found j (pos 0)) < rank y) (sym (entry_last i last))
          (omega (arith, rank_is, h.below j (pos 0) before))),
    )

    placed_more : IsLabel triples x → ArePlaced triples (found ++ x ∷ [])
    placed_more label i within = elim (cases_lt i (length found)) [
      | inl before ↦ placed_before i before
      | inr not_before ↦ placed_last label i (omega (arith, within, not_before, length-append found (x ∷ [])))
    ]

    pub kept : IsLabel triples x → IsLight w (corner_count triples w x) → (more : List ℤ) → more ≡ found ++ x ∷ []
        → AreLightBelow triples w (k + 1) more
    kept label light more pushed = subst (AreLightBelow triples w (k + 1)) (sym pushed) (record {
      placed = placed_more label;
      below = All-push (λ y. rank y < k + 1) found x (λ i d within. omega (arith, h.below i d within))
          (omega (arith, rank_is));
      light = λ y less. elim (next_or_before y less) [
        | inl before ↦
            subst (λ (b : Bool). (b ≡ true) ↔ IsLight w (corner_count triples w y))
            (sym (out_as_before labels found x y (other y before))) (h.light y before)
        | inr same ↦ (
          λ out. subst (λ (z : ℤ). IsLight w (corner_count triples w z)) same light,
          λ there. out_now labels found x y same,
        )
      ];
    })
