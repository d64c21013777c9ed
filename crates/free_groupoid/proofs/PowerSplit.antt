-- Where x u y u⁻¹ is conjugate to x y, with x and y of different edges, u is letters of the edge of x followed by
-- letters of the edge of y.
--
-- Letters of the edge of x at the front of u, and of the edge of y at its end, commute with x and with y, so they may
-- be taken off. If a word w is left, it begins with another edge than that of x and ends with another than that of y,
-- so x w y w⁻¹ is cyclically reduced. Conjugate words that are cyclically reduced are rotations of each other and
-- have the same length: but x y has two letters, and the other word has more.
use Rattle.std.proofs.Common.{ℤ, List, [], ◌∷◌, ◌++◌, ◌≡◌, ◌≢◌, inl, inr, refl, sym, ◌∙◌, ap, subst, append_assoc}
use Rattle.std.proofs.Common.{arith, length, length-append}
use Rattle.ideal_tri.specs.Labels.{inverse, edge_of}
use Rattle.ideal_tri.specs.Words.{inverse_word, IsReduced, reduce, cyclic_reduce, IsRotation, IsCyclicallyReduced}
use Rattle.free_groupoid.proofs.Known.{Known}
use Rattle.free_groupoid.proofs.Names.{+0, +1, +2, -2, +3, -3, +4, -4, +5, +6, -6, by_fact}
use Rattle.free_groupoid.proofs.Carrying.{Carries, carries-rotation}
use Rattle.free_groupoid.proofs.Reduced.{IsReduced-join, apart}
use Rattle.free_groupoid.proofs.Powers.{Only, StartsApart, power_commutes}
use Rattle.free_groupoid.proofs.Splits.{end_split}

-- ---- a product that is cyclically reduced

product_cyclic : Known → (x y : ℤ) (w m : List ℤ) (l h : ℤ) (t : List ℤ) → w ≡ m ++ (l ∷ []) → w ≡ h ∷ t
    → edge_of h ≢ edge_of x → edge_of l ≢ edge_of y → IsReduced w
    → IsCyclicallyReduced (x ∷ (w ++ (y ∷ inverse_word w)))
product_cyclic known x y w m l h t ends starts n_x n_y reduced =
    subst (λ (z : List ℤ). IsReduced (x ∷ z)) (sym regroup) (apart known h x n_x, subst IsReduced starts_with joined)
  where
    back : List ℤ
    back = inverse_word w

    back_starts : back ≡ inverse l ∷ inverse_word m
    back_starts = ap inverse_word ends ∙ known.words.inverses.append m (l ∷ [])

    -- w⁻¹ x
    back_then : IsReduced (back ++ (x ∷ []))
    back_then =
        subst IsReduced
        (sym (ap (λ (z : List ℤ). z ++ (x ∷ [])) (ap inverse_word starts) ∙ append_assoc (inverse_word t)
        (inverse h ∷ []) (x ∷ [])))
        (IsReduced-join known (inverse_word t) (inverse h) x [] (λ e. n_x (sym (known.labels.edge h) ∙ sym e))
        (subst IsReduced (ap inverse_word starts) (known.words.reduction.turned w reduced)) tt)

    -- y w⁻¹ x
    from_y : IsReduced (y ∷ (back ++ (x ∷ [])))
    from_y =
        subst (λ (z : List ℤ). IsReduced (y ∷ (z ++ (x ∷ [])))) (sym back_starts) (
          apart known (inverse l) y (λ e. n_y (sym (known.labels.edge l) ∙ e)),
          subst (λ (z : List ℤ). IsReduced (z ++ (x ∷ []))) back_starts back_then,
        )

    -- w y w⁻¹ x
    joined : IsReduced (w ++ (y ∷ (back ++ (x ∷ []))))
    joined =
        subst IsReduced
        (sym (ap (λ (z : List ℤ). z ++ (y ∷ (back ++ (x ∷ [])))) ends ∙ append_assoc m (l ∷ [])
        (y ∷ (back ++ (x ∷ [])))))
        (IsReduced-join known m l y (back ++ (x ∷ [])) (λ e. n_y (sym e)) (subst IsReduced ends reduced) from_y)

    starts_with : w ++ (y ∷ (back ++ (x ∷ []))) ≡ h ∷ (t ++ (y ∷ (back ++ (x ∷ []))))
    starts_with = ap (λ (z : List ℤ). z ++ (y ∷ (back ++ (x ∷ [])))) starts

    regroup : (w ++ (y ∷ back)) ++ (x ∷ []) ≡ h ∷ (t ++ (y ∷ (back ++ (x ∷ []))))
    regroup = append_assoc w (y ∷ back) (x ∷ []) ∙ starts_with

-- ---- what commutes is taken off

module _ (known : Known) where
  -- u is p w e, with letters of the edge of x in p and of the edge of y in e
  taken_off : (x y : ℤ) (u p w e q : List ℤ) → u ≡ p ++ (w ++ e) → Only x p → Only y e
      → Carries q (x ∷ (u ++ (y ∷ inverse_word u))) (x ∷ (y ∷ []))
      → Carries (inverse_word p ++ q) (x ∷ (w ++ (y ∷ inverse_word w))) (x ∷ (y ∷ []))
  taken_off x y u p w e q parts only_x only_y carries =
      ap (λ (z : List ℤ). reduce (x ∷ z)) (append_assoc w (y ∷ inverse_word w) (inverse_word p ++ q))
      ∙ by_fact known names (+0 ∷ +3 ∷ +1 ∷ -3 ∷ -2 ∷ +5 ∷ []) (-2 ∷ +0 ∷ +2 ∷ +3 ∷ +1 ∷ -3 ∷ -2 ∷ +5 ∷ [])
      (-2 ∷ []) (+2 ∷ +0 ∷ []) (+0 ∷ +2 ∷ []) (+3 ∷ +1 ∷ -3 ∷ -2 ∷ +5 ∷ []) refl
      (sym (power_commutes known x p only_x)) refl
      ∙ by_fact known names (-2 ∷ +0 ∷ +2 ∷ +3 ∷ +1 ∷ -3 ∷ -2 ∷ +5 ∷ [])
      (-2 ∷ +0 ∷ +2 ∷ +3 ∷ +4 ∷ +1 ∷ -4 ∷ -3 ∷ -2 ∷ +5 ∷ [])
      (-2 ∷ +0 ∷ +2 ∷ +3 ∷ []) (+1 ∷ +4 ∷ []) (+4 ∷ +1 ∷ []) (-4 ∷ -3 ∷ -2 ∷ +5 ∷ []) refl
      (power_commutes known y e only_y) refl
      ∙ by_fact known names (-2 ∷ +0 ∷ +2 ∷ +3 ∷ +4 ∷ +1 ∷ -4 ∷ -3 ∷ -2 ∷ +5 ∷ [])
      (-2 ∷ +0 ∷ +6 ∷ +1 ∷ -4 ∷ -3 ∷ -2 ∷ +5 ∷ [])
      (-2 ∷ +0 ∷ []) (+2 ∷ +3 ∷ +4 ∷ []) (+6 ∷ []) (+1 ∷ -4 ∷ -3 ∷ -2 ∷ +5 ∷ []) refl (ap reduce (sym parts)) refl
      ∙ by_fact known names (-2 ∷ +0 ∷ +6 ∷ +1 ∷ -4 ∷ -3 ∷ -2 ∷ +5 ∷ []) (-2 ∷ +0 ∷ +6 ∷ +1 ∷ -6 ∷ +5 ∷ [])
      (-2 ∷ +0 ∷ +6 ∷ +1 ∷ -6 ∷ []) (+6 ∷ []) (+2 ∷ +3 ∷ +4 ∷ []) (-4 ∷ -3 ∷ -2 ∷ +5 ∷ []) refl (ap reduce parts) refl
      ∙ by_fact known names (-2 ∷ +0 ∷ +6 ∷ +1 ∷ -6 ∷ +5 ∷ []) (-2 ∷ +5 ∷ +0 ∷ +1 ∷ [])
      (-2 ∷ []) (+0 ∷ +6 ∷ +1 ∷ -6 ∷ +5 ∷ []) (+5 ∷ +0 ∷ +1 ∷ []) [] refl given refl
      ∙ ap reduce (sym (append_assoc (inverse_word p) q (x ∷ (y ∷ []))))
    where
      names : List (List ℤ)
      names = (x ∷ []) ∷ (y ∷ []) ∷ p ∷ w ∷ e ∷ q ∷ u ∷ []

      given : reduce (x ∷ (u ++ (y ∷ (inverse_word u ++ q)))) ≡ reduce (q ++ (x ∷ (y ∷ [])))
      given = ap (λ (z : List ℤ). reduce (x ∷ z)) (sym (append_assoc u (y ∷ inverse_word u) q)) ∙ carries

-- ---- the split

rotations_long : (u v : List ℤ) → IsRotation u v → length u ≡ length v
rotations_long u v (a, b, e, f) = omega (arith, ap length e, ap length f, length-append a b, length-append b a)

-- the first letter of w ++ (l ∷ [])
starts : (x : ℤ) (m : List ℤ) (l : ℤ) (e : List ℤ) → StartsApart x (m ++ (l ∷ e))
    → (h : ℤ) × (t : List ℤ) × (m ++ (l ∷ []) ≡ h ∷ t) × (edge_of h ≢ edge_of x)
starts x [] l e n = (l, [], refl, n)
starts x (h ∷ m) l e n = (h, m ++ (l ∷ []), refl, n)

module _ (known : Known) where
  -- the word that is left would be too long
  nothing_left : (x y : ℤ) (m : List ℤ) (l : ℤ) (e q : List ℤ) → edge_of x ≢ edge_of y → IsReduced (m ++ (l ∷ []))
      → StartsApart x (m ++ (l ∷ e)) → edge_of l ≢ edge_of y
      → Carries q (x ∷ ((m ++ (l ∷ [])) ++ (y ∷ inverse_word (m ++ (l ∷ []))))) (x ∷ (y ∷ [])) → ⊥
  nothing_left x y m l e q n reduced start_x end_y carries =
      let (h, t, split, n_x) = starts x m l e start_x in
      let w : List ℤ = m ++ (l ∷ []) in
      let long : List ℤ = x ∷ (w ++ (y ∷ inverse_word w)) in
      let cyclic : cyclic_reduce long ≡ long =
      known.words.cyclic.fixed long (product_cyclic known x y w m l h t refl split n_x end_y reduced) in
      let short : cyclic_reduce (x ∷ (y ∷ [])) ≡ x ∷ (y ∷ []) =
      known.words.cyclic.fixed (x ∷ (y ∷ [])) (apart known y x (λ e. n (sym e)), (apart known x y n, tt)) in
      let same : length (cyclic_reduce long) ≡ length (cyclic_reduce (x ∷ (y ∷ []))) =
      rotations_long (cyclic_reduce long) (cyclic_reduce (x ∷ (y ∷ [])))
      (carries-rotation known q long (x ∷ (y ∷ [])) carries) in
      omega (
        arith,
        same,
        ap length cyclic,
        ap length short,
        length-append w (y ∷ inverse_word w),
        length-append m
            (l ∷ []),
      )

  -- u is p w, with letters of the edge of x in p, and w begins with another edge
  pub power_split : (x y : ℤ) (p w q : List ℤ) → edge_of x ≢ edge_of y → IsReduced (p ++ w) → Only x p → StartsApart x w
      → Carries q (x ∷ ((p ++ w) ++ (y ∷ inverse_word (p ++ w)))) (x ∷ (y ∷ [])) → Only y w
  power_split x y p w q n reduced only start_x carries =
      elim (end_split y w) [
        | inl only_y ↦ only_y
        | inr split ↦
            (let parts : w ≡ (split.before ++ (split.last ∷ [])) ++ split.end =
            split.parts ∙ sym (append_assoc split.before (split.last ∷ []) split.end) in
            absurd
            (nothing_left x y split.before split.last split.end (inverse_word p ++ q) n
            (known.words.reduction.front (split.before ++ (split.last ∷ [])) split.end
            (subst IsReduced parts (known.words.reduction.back p w reduced)))
            (subst (StartsApart x) split.parts start_x) split.apart
            (taken_off known x y (p ++ w) p (split.before ++ (split.last ∷ [])) split.end q
            (ap (λ (z : List ℤ). p ++ z) parts) only split.only carries)))
      ]
