-- The exchange takes the triangles behind the flip of q to those before it.
--
-- Before the flip the two triangles are (p,q,r) and (~p,~q,s), behind it (q,~p,r) and (~q,p,s). The exchange takes q to
-- p and p to ~q, and so the second pair to the first.
use Rattle.std.proofs.Common.{ℕ, ℤ, pos, negsuc, List, [], ◌∷◌, ◌≡◌, ◌≢◌, ◌<◌, inl, inr, refl, sym, ◌∙◌}
use Rattle.std.proofs.Common.{ap, subst, arith, length, map, ◌+◌, ◌++◌}
use Rattle.std.specs.List.{range_with_len}
use Rattle.std.proofs.lemmas.List.FromFn.{length-map-range_with_len, get_or-map-range_with_len, map-range_with_len_more}
use Rattle.std.specs.Prelude.{slice_index_or}
use Rattle.ideal_tri.specs.LabelLaws.{LabelLaws}
use Rattle.ideal_tri.specs.Labels.{inverse, edge_of}
use Rattle.ideal_tri.specs.Relabellings.{image_of}
use Rattle.twist_compile.specs.TwistPaths.{exchanged}

-- ---- where a label goes

-- x is one of the labels of p and q, or of another edge
pub data Place (p q x : ℤ) : Type 0 where
  at_q : x ≡ q → Place p q x
  at_q_inverse : x ≡ inverse q → Place p q x
  at_p : x ≡ p → Place p q x
  at_p_inverse : x ≡ inverse p → Place p q x
  elsewhere : edge_of x ≢ edge_of p → edge_of x ≢ edge_of q → Place p q x

-- where the edge of x goes
pub data Moved (p q x : ℤ) : Type 0 where
  to_p : edge_of x ≡ edge_of q → edge_of (exchanged p q x) ≡ edge_of p → Moved p q x
  to_q : edge_of x ≡ edge_of p → edge_of (exchanged p q x) ≡ edge_of q → Moved p q x
  stays : edge_of x ≢ edge_of p → edge_of x ≢ edge_of q → edge_of (exchanged p q x) ≡ edge_of x → Moved p q x

module _ (labels : LabelLaws) (p q : ℤ) (apart : edge_of q ≢ edge_of p) where
  pub place_of : (x : ℤ) → Place p q x
  place_of x =
      elim (labels.same_or_not x q) [
        | inl k ↦ at_q k
        | inr a ↦ elim (labels.same_or_not x (inverse q)) [
          | inl k ↦ at_q_inverse k
          | inr b ↦ elim (labels.same_or_not x p) [
            | inl k ↦ at_p k
            | inr c ↦ elim (labels.same_or_not x (inverse p)) [
              | inl k ↦ at_p_inverse k
              | inr d ↦ elsewhere (not_of x p c d) (not_of x q a b)
            ]
          ]
        ]
      ]
    where
      not_of : (x y : ℤ) → x ≢ y → x ≢ inverse y → edge_of x ≢ edge_of y
      not_of x y a b same = elim (labels.of_edge x y same) [ inl k ↦ a k | inr k ↦ b k ]

  -- the first test that holds decides
  first : (x : ℤ) → x ≡ q → exchanged p q x ≡ p
  first x k = rw (labels.test_same x q k) refl

  second : (x : ℤ) → x ≢ q → x ≡ inverse q → exchanged p q x ≡ inverse p
  second x a k = rw (labels.test_other x q a, labels.test_same x (inverse q) k) refl

  third : (x : ℤ) → x ≢ q → x ≢ inverse q → x ≡ p → exchanged p q x ≡ inverse q
  third x a b k = rw (labels.test_other x q a, labels.test_other x (inverse q) b, labels.test_same x p k) refl

  fourth : (x : ℤ) → x ≢ q → x ≢ inverse q → x ≢ p → x ≡ inverse p → exchanged p q x ≡ q
  fourth x a b c k =
      rw (
        labels.test_other x q a,
        labels.test_other x (inverse q) b,
        labels.test_other x p c,
        labels.test_same x (inverse p) k,
      ) refl

  last : (x : ℤ) → x ≢ q → x ≢ inverse q → x ≢ p → x ≢ inverse p → exchanged p q x ≡ x
  last x a b c d =
      rw (
        labels.test_other x q a,
        labels.test_other x (inverse q) b,
        labels.test_other x p c,
        labels.test_other x (inverse p) d,
      ) refl

  -- ---- the images

  off : (x y : ℤ) → edge_of x ≢ edge_of y → x ≢ y
  off x y ne k = ne (ap edge_of k)

  off_inverse : (x y : ℤ) → edge_of x ≢ edge_of y → x ≢ inverse y
  off_inverse x y ne k = ne (ap edge_of k ∙ labels.edge y)

  turned : edge_of p ≢ edge_of q
  turned same = apart (sym same)

  pub image_q : exchanged p q q ≡ p
  image_q = first q refl

  pub image_q_inverse : exchanged p q (inverse q) ≡ inverse p
  image_q_inverse = second (inverse q) (λ k. labels.apart q (sym k)) refl

  pub image_p : exchanged p q p ≡ inverse q
  image_p = third p (off p q turned) (off_inverse p q turned) refl

  pub image_p_inverse : exchanged p q (inverse p) ≡ q
  image_p_inverse =
      fourth (inverse p) (λ k. apart (sym (ap edge_of k) ∙ labels.edge p))
      (λ k. turned (sym (labels.edge p) ∙ ap edge_of k ∙ labels.edge q)) (λ k. labels.apart p (sym k)) refl

  pub image_other : (x : ℤ) → edge_of x ≢ edge_of p → edge_of x ≢ edge_of q → exchanged p q x ≡ x
  image_other x a b = last x (off x q b) (off_inverse x q b) (off x p a) (off_inverse x p a)

  abbrev σ : ℤ → ℤ
  σ x = exchanged p q x

  -- from the image of y and of its inverse
  odd_at : (x y z : ℤ) → x ≡ y → σ y ≡ z → σ (inverse y) ≡ inverse z → σ (inverse x) ≡ inverse (σ x)
  odd_at x y z k there back =
      ap (λ (u : ℤ). σ (inverse u)) k ∙ back ∙ ap inverse (sym (ap (λ (u : ℤ). σ u) k ∙ there))

  pub odd : (x : ℤ) → σ (inverse x) ≡ inverse (σ x)
  odd x =
      elim (place_of x) [
        | at_q k ↦ odd_at x q p k image_q image_q_inverse
        | at_q_inverse k ↦
            odd_at x (inverse q) (inverse p) k image_q_inverse
            (ap (λ (u : ℤ). σ u) (labels.twice q) ∙ image_q ∙ sym (labels.twice p))
        | at_p k ↦
            odd_at x p (inverse q) k image_p (image_p_inverse ∙ sym (labels.twice q))
        | at_p_inverse k ↦
            odd_at x (inverse p) q k image_p_inverse (ap (λ (u : ℤ). σ u) (labels.twice p) ∙ image_p)
        | elsewhere a b ↦
            image_other (inverse x) (λ k. a (sym (labels.edge x) ∙ k)) (λ k. b (sym (labels.edge x) ∙ k))
            ∙ ap inverse (sym (image_other x a b))
      ]

  -- ---- the edges of the images, and the list of images

  moved : (x : ℤ) → Moved p q x
  moved x =
      elim (place_of x) [
        | at_q k ↦ to_p (ap edge_of k) (ap (λ (u : ℤ). edge_of (σ u)) k ∙ ap edge_of image_q)
        | at_q_inverse k ↦
            to_p (ap edge_of k ∙ labels.edge q)
            (ap (λ (u : ℤ). edge_of (σ u)) k ∙ ap edge_of image_q_inverse ∙ labels.edge p)
        | at_p k ↦
            to_q (ap edge_of k) (ap (λ (u : ℤ). edge_of (σ u)) k ∙ ap edge_of image_p ∙ labels.edge q)
        | at_p_inverse k ↦
            to_q (ap edge_of k ∙ labels.edge p) (ap (λ (u : ℤ). edge_of (σ u)) k ∙ ap edge_of image_p_inverse)
        | elsewhere a b ↦ stays a b (ap edge_of (image_other x a b))
      ]

  pub one_edge : (x y : ℤ) → edge_of (σ x) ≡ edge_of (σ y) → edge_of x ≡ edge_of y
  one_edge x y same =
      elim (moved x) [
        | to_p a b ↦ elim (moved y) [
          | to_p c d ↦ a ∙ sym c
          | to_q c d ↦ absurd (apart (sym d ∙ sym same ∙ b))
          | stays c d e ↦ absurd (c (sym e ∙ sym same ∙ b))
        ]
        | to_q a b ↦ elim (moved y) [
          | to_p c d ↦ absurd (apart (sym b ∙ same ∙ d))
          | to_q c d ↦ a ∙ sym c
          | stays c d e ↦ absurd (d (sym e ∙ sym same ∙ b))
        ]
        | stays a b e ↦ elim (moved y) [
          | to_p c d ↦ absurd (a (sym e ∙ same ∙ d))
          | to_q c d ↦ absurd (b (sym e ∙ same ∙ d))
          | stays c d f ↦ sym e ∙ same ∙ f
        ]
      ]

  pub below : (n : ℕ) (x : ℤ) → edge_of p < n → edge_of q < n → edge_of x < n → edge_of (σ x) < n
  below n x a b c =
      elim (moved x) [
        | to_p d e ↦ subst (λ (k : ℕ). k < n) (sym e) a
        | to_q d e ↦ subst (λ (k : ℕ). k < n) (sym e) b
        | stays d e f ↦ subst (λ (k : ℕ). k < n) (sym f) c
      ]

  module _ (n : ℕ) where
    abbrev images : List ℤ
    images = map (λ (e : ℕ). exchanged p q (pos e)) (range_with_len 0 n)

    pub as_many : length images ≡ n
    as_many = length-map-range_with_len (λ (e : ℕ). exchanged p q (pos e)) 0 n

    pub at : (i : ℕ) (d : ℤ) → i < n → slice_index_or images i d ≡ σ (pos i)
    at i d b = get_or-map-range_with_len (λ (e : ℕ). exchanged p q (pos e)) 0 n i i d b (omega arith)

    pub image : (x : ℤ) → edge_of x < n → image_of images x ≡ σ x
    image (pos i) b = at i (pos 0) b
    image (negsuc i) b = ap inverse (at i (pos 0) b) ∙ sym (odd (pos i))

-- one more image
pub images_more : (p q : ℤ) (k : ℕ) (items more : List ℤ) (x y : ℤ) → more ≡ items ++ (x ∷ [])
    → items ≡ map (λ (e : ℕ). exchanged p q (pos e)) (range_with_len 0 k) → x ≡ exchanged p q y → y ≡ pos k
    → more ≡ map (λ (e : ℕ). exchanged p q (pos e)) (range_with_len 0 (k + 1))
images_more p q k items more x y push so_far is at =
    push
    ∙ ap (λ (z : List ℤ). z ++ (x ∷ [])) so_far
    ∙ ap (λ (z : ℤ). map (λ (e : ℕ). exchanged p q (pos e)) (range_with_len 0 k) ++ (z ∷ []))
    (is ∙ ap (λ (z : ℤ). exchanged p q z) at)
    ∙ sym (map-range_with_len_more (λ (e : ℕ). exchanged p q (pos e)) 0 k k (omega arith))
