-- Two edges exchanged: where labels go, and what the substitutions of a twist do to them.
--
-- A label is one of the four labels of the edges of p and q, or of another edge. In each of these five cases the
-- exchange of the two edges and the two substitutions are known.
use Rattle.std.proofs.Common.{ℤ, Bool, List, [], ◌∷◌, ◌≡◌, ◌≢◌, ◌⊎◌, inl, inr, refl, sym, ◌∙◌, ap, subst}
use Rattle.std.specs.Prelude.{if◌then◌else◌}
use Rattle.std.specs.Ordering.{int_eq}
use Rattle.ideal_tri.specs.Labels.{inverse}
use Rattle.ideal_tri.specs.LabelLaws.{LabelLaws}
use Rattle.ideal_tri.specs.Words.{inverse_word}
use Rattle.tri_atlas.specs.Maps.{IsOdd}
use Rattle.curve_shorten.specs.Twists.{twisted, untwisted}
use Rattle.twist_compile.specs.TwistPaths.{exchanged}
use Rattle.twist_compile.proofs.Annuli.{AreApart}

-- which of the labels of the two edges x is, or none
pub data Which (p q x : ℤ) : Type 0 where
  is_p : x ≡ p → Which p q x
  is_p_back : x ≡ inverse p → Which p q x
  is_q : x ≡ q → Which p q x
  is_q_back : x ≡ inverse q → Which p q x
  is_other : x ≢ p → x ≢ inverse p → x ≢ q → x ≢ inverse q → Which p q x

module _ (labels : LabelLaws) where
  pub which : (p q x : ℤ) → Which p q x
  which p q x = by_p (labels.same_or_not x p)
    where
      by_q_back : x ≢ p → x ≢ inverse p → x ≢ q → (x ≡ inverse q) ⊎ (x ≢ inverse q) → Which p q x
      by_q_back a b c (inl is) = is_q_back is
      by_q_back a b c (inr not) = is_other a b c not

      by_q : x ≢ p → x ≢ inverse p → (x ≡ q) ⊎ (x ≢ q) → Which p q x
      by_q a b (inl is) = is_q is
      by_q a b (inr not) = by_q_back a b not (labels.same_or_not x (inverse q))

      by_p_back : x ≢ p → (x ≡ inverse p) ⊎ (x ≢ inverse p) → Which p q x
      by_p_back a (inl is) = is_p_back is
      by_p_back a (inr not) = by_q a not (labels.same_or_not x q)

      by_p : (x ≡ p) ⊎ (x ≢ p) → Which p q x
      by_p (inl is) = is_p is
      by_p (inr not) = by_p_back not (labels.same_or_not x (inverse p))

  -- ---- inverse labels

  pub inverse-flips : (x y : ℤ) → inverse x ≡ y → x ≡ inverse y
  inverse-flips x y h = sym (labels.twice x) ∙ ap inverse h

  pub inverse-same : (x y : ℤ) → inverse x ≡ inverse y → x ≡ y
  inverse-same x y h = inverse-flips x (inverse y) h ∙ labels.twice y

  -- the four labels are different
  pub record AreFour (p q : ℤ) : Type 0 where
    pub p_q : p ≢ q
    pub p_q_back : p ≢ inverse q
    pub p_back_q : inverse p ≢ q
    pub p_back_q_back : inverse p ≢ inverse q
    pub p_back_p : inverse p ≢ p
    pub q_back_q : inverse q ≢ q
    pub q_p : q ≢ p
    pub q_p_back : q ≢ inverse p
    pub q_back_p : inverse q ≢ p
    pub q_back_p_back : inverse q ≢ inverse p

  pub four : (p q : ℤ) → AreApart p q → AreFour p q
  four p q h = record {
    p_q = λ e. h.labels (sym e);
    p_q_back = λ e. h.edges (inverse-flips q p (sym e));
    p_back_q = λ e. h.edges (sym e);
    p_back_q_back = λ e. h.labels (sym (inverse-same p q e));
    p_back_p = λ e. labels.apart p (sym e);
    q_back_q = λ e. labels.apart q (sym e);
    q_p = h.labels;
    q_p_back = h.edges;
    q_back_p = λ e. h.edges (inverse-flips q p e);
    q_back_p_back = λ e. h.labels (inverse-same q p e);
  }

  -- the inverse of a label of neither edge is one too
  pub other-inverse : (y x : ℤ) → x ≢ inverse y → inverse x ≢ y
  other-inverse y x n e = n (inverse-flips x y e)

  pub other-inverses : (y x : ℤ) → x ≢ y → inverse x ≢ inverse y
  other-inverses y x n e = n (inverse-same x y e)

  -- ---- the first of four tests that passes

  module _ {A : Type 0} (x k l m n : ℤ) (a b c d other : A) where
    abbrev last_choice : A
    last_choice = if int_eq x n then d else other

    abbrev later_choice : A
    later_choice = if int_eq x m then c else last_choice

    abbrev next_choice : A
    next_choice = if int_eq x l then b else later_choice

    abbrev pub choice : A
    choice = if int_eq x k then a else next_choice

    pub first_choice : x ≡ k → choice ≡ a
    first_choice is = ap (λ (t : Bool). if t then a else next_choice) (labels.test_same x k is)

    skips_first : x ≢ k → choice ≡ next_choice
    skips_first not = ap (λ (t : Bool). if t then a else next_choice) (labels.test_other x k not)

    skips_second : x ≢ l → next_choice ≡ later_choice
    skips_second not = ap (λ (t : Bool). if t then b else later_choice) (labels.test_other x l not)

    skips_third : x ≢ m → later_choice ≡ last_choice
    skips_third not = ap (λ (t : Bool). if t then c else last_choice) (labels.test_other x m not)

    pub second_choice : x ≢ k → x ≡ l → choice ≡ b
    second_choice not is =
        skips_first not ∙ ap (λ (t : Bool). if t then b else later_choice) (labels.test_same x l is)

    pub third_choice : x ≢ k → x ≢ l → x ≡ m → choice ≡ c
    third_choice not nor is =
        skips_first not
        ∙ skips_second nor
        ∙ ap (λ (t : Bool). if t then c else last_choice) (labels.test_same x m is)

    pub fourth_choice : x ≢ k → x ≢ l → x ≢ m → x ≡ n → choice ≡ d
    fourth_choice not nor nor' is =
        skips_first not
        ∙ skips_second nor
        ∙ skips_third nor'
        ∙ ap (λ (t : Bool). if t then d else other) (labels.test_same x n is)

    pub other_choice : x ≢ k → x ≢ l → x ≢ m → x ≢ n → choice ≡ other
    other_choice not nor nor' none =
        skips_first not
        ∙ skips_second nor
        ∙ skips_third nor'
        ∙ ap (λ (t : Bool). if t then d else other) (labels.test_other x n none)

  -- ---- the exchange and the substitutions, case by case

  module _ (p q : ℤ) (apart : AreApart p q) where
    are_four : AreFour p q
    are_four = four p q apart

    pub exchanged-p : exchanged p q p ≡ inverse q
    exchanged-p =
        third_choice p q (inverse q) p (inverse p) p (inverse p) (inverse q) q p are_four.p_q are_four.p_q_back refl

    pub exchanged-p_back : exchanged p q (inverse p) ≡ q
    exchanged-p_back =
        fourth_choice (inverse p) q (inverse q) p (inverse p) p (inverse p) (inverse q) q (inverse p)
        are_four.p_back_q are_four.p_back_q_back are_four.p_back_p refl

    pub exchanged-q : exchanged p q q ≡ p
    exchanged-q = first_choice q q (inverse q) p (inverse p) p (inverse p) (inverse q) q q refl

    pub exchanged-q_back : exchanged p q (inverse q) ≡ inverse p
    exchanged-q_back =
        second_choice (inverse q) q (inverse q) p (inverse p) p (inverse p) (inverse q) q (inverse q)
        are_four.q_back_q refl

    pub exchanged-other : (x : ℤ) → x ≢ p → x ≢ inverse p → x ≢ q → x ≢ inverse q → exchanged p q x ≡ x
    exchanged-other x a b c d = other_choice x q (inverse q) p (inverse p) p (inverse p) (inverse q) q x c d a b

    pub twisted-p : twisted p q p ≡ p ∷ (inverse q ∷ (p ∷ []))
    twisted-p = first_choice p p (inverse p) q (inverse q) (p ∷ (inverse q ∷ (p ∷ []))) _ (p ∷ []) (inverse p ∷ []) _ refl

    pub twisted-p_back : twisted p q (inverse p) ≡ inverse p ∷ (q ∷ (inverse p ∷ []))
    twisted-p_back =
        second_choice (inverse p) p (inverse p) q (inverse q) _ (inverse p ∷ (q ∷ (inverse p ∷ []))) (p ∷ [])
        (inverse p ∷ []) _ are_four.p_back_p refl

    pub twisted-q : twisted p q q ≡ p ∷ []
    twisted-q =
        third_choice q p (inverse p) q (inverse q) _ _ (p ∷ []) (inverse p ∷ []) _ are_four.q_p are_four.q_p_back refl

    pub twisted-q_back : twisted p q (inverse q) ≡ inverse p ∷ []
    twisted-q_back =
        fourth_choice (inverse q) p (inverse p) q (inverse q) _ _ (p ∷ []) (inverse p ∷ []) _ are_four.q_back_p
        are_four.q_back_p_back are_four.q_back_q refl

    pub twisted-other : (x : ℤ) → x ≢ p → x ≢ inverse p → x ≢ q → x ≢ inverse q → twisted p q x ≡ x ∷ []
    twisted-other x a b c d =
        other_choice x p (inverse p) q (inverse q) _ _ (p ∷ []) (inverse p ∷ []) (x ∷ []) a b c d

    pub untwisted-p : untwisted p q p ≡ q ∷ []
    untwisted-p =
        first_choice p p (inverse p) q (inverse q) (q ∷ []) (inverse q ∷ []) (q ∷ (inverse p ∷ (q ∷ [])))
        (inverse q ∷ (p ∷ (inverse q ∷ []))) _ refl

    pub untwisted-p_back : untwisted p q (inverse p) ≡ inverse q ∷ []
    untwisted-p_back =
        second_choice (inverse p) p (inverse p) q (inverse q) (q ∷ []) (inverse q ∷ [])
        (q ∷ (inverse p ∷ (q ∷ []))) (inverse q ∷ (p ∷ (inverse q ∷ []))) _ are_four.p_back_p refl

    pub untwisted-q : untwisted p q q ≡ q ∷ (inverse p ∷ (q ∷ []))
    untwisted-q =
        third_choice q p (inverse p) q (inverse q) (q ∷ []) (inverse q ∷ []) (q ∷ (inverse p ∷ (q ∷ [])))
        (inverse q ∷ (p ∷ (inverse q ∷ []))) _ are_four.q_p are_four.q_p_back refl

    pub untwisted-q_back : untwisted p q (inverse q) ≡ inverse q ∷ (p ∷ (inverse q ∷ []))
    untwisted-q_back =
        fourth_choice (inverse q) p (inverse p) q (inverse q) (q ∷ []) (inverse q ∷ [])
        (q ∷ (inverse p ∷ (q ∷ []))) (inverse q ∷ (p ∷ (inverse q ∷ []))) _ are_four.q_back_p
        are_four.q_back_p_back are_four.q_back_q refl

    pub untwisted-other : (x : ℤ) → x ≢ p → x ≢ inverse p → x ≢ q → x ≢ inverse q → untwisted p q x ≡ x ∷ []
    untwisted-other x a b c d =
        other_choice x p (inverse p) q (inverse q) (q ∷ []) (inverse q ∷ []) (q ∷ (inverse p ∷ (q ∷ [])))
        (inverse q ∷ (p ∷ (inverse q ∷ []))) (x ∷ []) a b c d

    -- ---- the exchange goes with inverses

    pub exchanged-inverse : (x : ℤ) → exchanged p q (inverse x) ≡ inverse (exchanged p q x)
    exchanged-inverse x = go (which p q x)
      where
        at : (y : ℤ) → x ≡ y → exchanged p q (inverse y) ≡ inverse (exchanged p q y)
            → exchanged p q (inverse x) ≡ inverse (exchanged p q x)
        at y is h = subst (λ (z : ℤ). exchanged p q (inverse z) ≡ inverse (exchanged p q z)) (sym is) h

        go : Which p q x → exchanged p q (inverse x) ≡ inverse (exchanged p q x)
        go (is_p is) = at p is (exchanged-p_back ∙ sym (labels.twice q) ∙ ap inverse (sym exchanged-p))
        go (is_p_back is) =
            at (inverse p) is
            (ap (exchanged p q) (labels.twice p) ∙ exchanged-p ∙ ap inverse (sym exchanged-p_back))
        go (is_q is) = at q is (exchanged-q_back ∙ ap inverse (sym exchanged-q))
        go (is_q_back is) =
            at (inverse q) is
            (ap (exchanged p q) (labels.twice q)
            ∙ exchanged-q
            ∙ sym (labels.twice p)
            ∙ ap inverse (sym exchanged-q_back))
        go (is_other a b c d) =
            exchanged-other (inverse x) (other-inverse p x b) (other-inverses p x a) (other-inverse q x d)
            (other-inverses q x c)
            ∙ ap inverse (sym (exchanged-other x a b c d))

    -- ---- odd substitutions with these images are the substitutions of a twist

    module _ (f : ℤ → List ℤ) (odd : IsOdd f) (P : ℤ → Type 0)
        (others : (x : ℤ) → P x → x ≢ p → x ≢ inverse p → x ≢ q → x ≢ inverse q → f x ≡ x ∷ []) where
      pub is_twisted : f p ≡ p ∷ (inverse q ∷ (p ∷ [])) → f q ≡ p ∷ [] → (x : ℤ) → P x → f x ≡ twisted p q x
      is_twisted at_p at_q x inside = go (which p q x)
        where
          at : (y : ℤ) → x ≡ y → f y ≡ twisted p q y → f x ≡ twisted p q x
          at y is h = subst (λ (z : ℤ). f z ≡ twisted p q z) (sym is) h

          go : Which p q x → f x ≡ twisted p q x
          go (is_p is) = at p is (at_p ∙ sym twisted-p)
          go (is_p_back is) =
              at (inverse p) is
              (odd p
              ∙ ap inverse_word at_p
              ∙ ap (λ (y : ℤ). inverse p ∷ (y ∷ (inverse p ∷ []))) (labels.twice q)
              ∙ sym twisted-p_back)
          go (is_q is) = at q is (at_q ∙ sym twisted-q)
          go (is_q_back is) = at (inverse q) is (odd q ∙ ap inverse_word at_q ∙ sym twisted-q_back)
          go (is_other a b c d) = others x inside a b c d ∙ sym (twisted-other x a b c d)

      pub is_untwisted : f p ≡ q ∷ [] → f q ≡ q ∷ (inverse p ∷ (q ∷ [])) → (x : ℤ) → P x → f x ≡ untwisted p q x
      is_untwisted at_p at_q x inside = go (which p q x)
        where
          at : (y : ℤ) → x ≡ y → f y ≡ untwisted p q y → f x ≡ untwisted p q x
          at y is h = subst (λ (z : ℤ). f z ≡ untwisted p q z) (sym is) h

          go : Which p q x → f x ≡ untwisted p q x
          go (is_p is) = at p is (at_p ∙ sym untwisted-p)
          go (is_p_back is) = at (inverse p) is (odd p ∙ ap inverse_word at_p ∙ sym untwisted-p_back)
          go (is_q is) = at q is (at_q ∙ sym untwisted-q)
          go (is_q_back is) =
              at (inverse q) is
              (odd q
              ∙ ap inverse_word at_q
              ∙ ap (λ (y : ℤ). inverse q ∷ (y ∷ (inverse q ∷ []))) (labels.twice p)
              ∙ sym untwisted-q_back)
          go (is_other a b c d) = others x inside a b c d ∙ sym (untwisted-other x a b c d)
