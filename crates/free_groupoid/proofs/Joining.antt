-- Two reduced words put together. Where they meet, letters fall away in pairs; what is left is reduced as soon as the
-- two letters that meet are not inverse to each other, or one of the words is used up.
use Rattle.std.proofs.Common.{ℕ, ℤ, List, [], ◌∷◌, ◌++◌, ◌≡◌, ◌≢◌, ◌+◌, ◌-◌, ◌<◌, ◌≤◌, ◌⊎◌, inl, inr, sym, ◌∙◌}
use Rattle.std.proofs.Common.{ap, subst, append_assoc, min, arith, length, take, drop, get_or}
use Rattle.std.proofs.lemmas.List.{append-nil, take_all, take_more, drop_all, get_or-take, length-take-le}
use Rattle.std.proofs.lemmas.Bool.{cases_lt}
use Rattle.ideal_tri.specs.Labels.{inverse}
use Rattle.ideal_tri.specs.Words.{inverse_word, IsReduced, reduce}
use Rattle.ideal_tri.specs.LabelLaws.{LabelLaws}
use Rattle.ideal_tri.specs.WordLaws.{WordLaws, ReductionLaws, LetterLaws}
use Rattle.free_groupoid.proofs.Words.{reduce-pair}
use Rattle.free_groupoid.proofs.Appending.{letters_back}

-- u and v are what is left of two reduced words with the reduction w
pub record Meets (w u v : List ℤ) : Type 0 where
  pub front : IsReduced u
  pub behind : IsReduced v
  pub value : w ≡ reduce (u ++ v)

meets_as : (w u v a b : List ℤ) → Meets w u v → u ≡ a → v ≡ b → Meets w a b
meets_as w u v a b h e f = subst (λ (z : List ℤ). Meets w z b) e (subst (Meets w u) f h)

-- the letters that meet are inverse to each other
one_more_met : LabelLaws → ReductionLaws → (w u v : List ℤ) (y x : ℤ) → Meets w (u ++ (y ∷ [])) (x ∷ v)
    → y ≡ inverse x
    → Meets w u v
one_more_met l r w u v y x h opposite =
    let x_is : x ≡ inverse y = sym (l.twice x) ∙ ap inverse (sym opposite) in
    record {
      front = r.front u (y ∷ []) h.front;
      behind = r.back (x ∷ []) v h.behind;
      value = h.value
          ∙ ap reduce (append_assoc u (y ∷ []) (x ∷ v))
          ∙ ap (λ (z : ℤ). reduce (u ++ (y ∷ (z ∷ v)))) x_is
          ∙ reduce-pair r u y v;
    }

-- they are not
met_apart : LabelLaws → ReductionLaws → (w u v : List ℤ) (y x : ℤ) → Meets w (u ++ (y ∷ [])) (x ∷ v)
    → y ≢ inverse x
    → w ≡ (u ++ (y ∷ [])) ++ (x ∷ v)
met_apart l r w u v y x h n =
    h.value
    ∙ r.fixed ((u ++ (y ∷ [])) ++ (x ∷ v))
    (subst IsReduced (sym (append_assoc u (y ∷ []) (x ∷ v)))
    (r.glue u y (x ∷ v) h.front (λ e. n (sym (l.twice y) ∙ ap inverse (sym e)), h.behind)))

-- one of the words is used up
front_used : ReductionLaws → (w u v : List ℤ) → Meets w u v → u ≡ [] → w ≡ u ++ v
front_used r w u v h none =
    h.value ∙ r.fixed (u ++ v) (subst (λ (z : List ℤ). IsReduced (z ++ v)) (sym none) h.behind)

behind_used : ReductionLaws → (w u v : List ℤ) → Meets w u v → v ≡ [] → w ≡ u ++ v
behind_used r w u v h none =
    h.value
    ∙ r.fixed (u ++ v) (subst IsReduced (sym (ap (λ (z : List ℤ). u ++ z) none ∙ append-nil u)) h.front)

-- ---- letters counted from the end of a word

-- the last of those that are left
last_left : (w : List ℤ) (k : ℕ) (y : ℤ) → k < length w → y ≡ get_or w (length w - 1 - k) y
    → take (length w - k) w ≡ take (length w - (k + 1)) w ++ (y ∷ [])
last_left w k y more is_y =
    let place : length w - 1 - k ≡ length w - (k + 1) = omega arith in
    let after : length w - k ≡ (length w - (k + 1)) + 1 = omega arith in
    ap (λ (n : ℕ). take n w) after
    ∙ take_more w (length w - (k + 1)) y (omega arith)
    ∙ ap (λ (z : ℤ). take (length w - (k + 1)) w ++ (z ∷ [])) (sym (is_y ∙ ap (λ (n : ℕ). get_or w n y) place))

all_left : (w : List ℤ) → take (length w - 0) w ≡ w
all_left w = take_all (length w - 0) w (omega arith)

none_left : (w : List ℤ) (k : ℕ) → length w ≤ k → take (length w - k) w ≡ []
none_left w k all = ap (λ (n : ℕ). take n w) (let none : length w - k ≡ 0 = omega arith in none)

-- ---- a word behind another: so many letters fell away at the end of the one, and at the start of the other

pub record AreCancelled (word more : List ℤ) (k : ℕ) : Type 0 where
  pub within : k ≤ length word
  pub within_more : k ≤ length more
  pub left : Meets (reduce (word ++ more)) (take (length word - k) word) (drop k more)

pub none_cancelled : (word more : List ℤ) → IsReduced word → IsReduced more → AreCancelled word more 0
none_cancelled word more h j = record {
  within = omega arith;
  within_more = omega arith;
  left = record {
    front = subst IsReduced (sym (all_left word)) h;
    behind = j;
    value = ap (λ (z : List ℤ). reduce (z ++ more)) (sym (all_left word));
  };
}

module _ (l : LabelLaws) (words : WordLaws) (letters : LetterLaws) (word more : List ℤ) (k : ℕ) where
  module _ (y x : ℤ) (h : AreCancelled word more k) (inside : k < length word) (inside_more : k < length more)
      (is_y : y ≡ get_or word (length word - 1 - k) y) (is_x : x ≡ get_or more k x) where
    letters_meet : Meets (reduce (word ++ more)) (take (length word - (k + 1)) word ++ (y ∷ [])) (x ∷ drop (k + 1) more)
    letters_meet =
        meets_as _ _ _ _ _ h.left (last_left word k y inside is_y) (letters.next more k x inside_more is_x)

    pub one_more_cancelled : y ≡ inverse x → AreCancelled word more (k + 1)
    one_more_cancelled opposite = record {
      within = omega arith;
      within_more = omega arith;
      left = one_more_met l words.reduction _ _ _ y x letters_meet opposite;
    }

    pub cancelled_apart : y ≢ inverse x → reduce (word ++ more) ≡ take (length word - k) word ++ drop k more
    cancelled_apart apart =
        met_apart l words.reduction _ _ _ y x letters_meet apart
        ∙ ap (λ (z : List ℤ). z ++ (x ∷ drop (k + 1) more)) (sym (last_left word k y inside is_y))
        ∙ ap (λ (z : List ℤ). take (length word - k) word ++ z) (sym (letters.next more k x inside_more is_x))

-- no letters are left that could meet
pub all_cancelled : WordLaws → (word more : List ℤ) (k most : ℕ) → AreCancelled word more k
    → most ≡ min (length word) (length more) → k ≤ most → most ≤ k
    → reduce (word ++ more) ≡ take (length word - most) word ++ drop most more
all_cancelled words word more k most h is_most within all =
    subst (λ (n : ℕ). reduce (word ++ more) ≡ take (length word - n) word ++ drop n more)
    (let same : k ≡ most = omega arith in same) (used_up (cases_lt (length word) (length more)))
  where
    used_up : (length word < length more) ⊎ (length more ≤ length word)
        → reduce (word ++ more) ≡ take (length word - k) word ++ drop k more
    used_up (inl shorter) = front_used words.reduction _ _ _ h.left (none_left word k (omega arith))
    used_up (inr longer) = behind_used words.reduction _ _ _ h.left (drop_all k more (omega arith))

-- ---- the way back along a word behind another: so many letters at the ends of the two words are the same

pub record AreCommon (word more : List ℤ) (k : ℕ) : Type 0 where
  pub within : k ≤ length word
  pub within_more : k ≤ length more
  pub left : Meets (reduce (word ++ inverse_word more)) (take (length word - k) word)
      (inverse_word (take (length more - k) more))

pub none_common : ReductionLaws → (word more : List ℤ) → IsReduced word → IsReduced more → AreCommon word more 0
none_common r word more h j = record {
  within = omega arith;
  within_more = omega arith;
  left = record {
    front = subst IsReduced (sym (all_left word)) h;
    behind = subst (λ (z : List ℤ). IsReduced (inverse_word z)) (sym (all_left more)) (r.turned more j);
    value = ap (λ (z : List ℤ). reduce (z ++ inverse_word more)) (sym (all_left word))
        ∙ ap (λ (z : List ℤ). reduce (take (length word - 0) word ++ inverse_word z)) (sym (all_left more));
  };
}

-- the way back along a word begins with the inverse of its last letter
back_from_last : WordLaws → (more : List ℤ) (k : ℕ) (x : ℤ) → k < length more
    → x ≡ get_or more (length more - 1 - k) x
    → inverse_word (take (length more - k) more) ≡ inverse x ∷ inverse_word (take (length more - (k + 1)) more)
back_from_last words more k x inside is_x =
    ap inverse_word (last_left more k x inside is_x)
    ∙ words.inverses.append (take (length more - (k + 1)) more) (x ∷ [])

module _ (l : LabelLaws) (words : WordLaws) (word more : List ℤ) (k : ℕ) where
  module _ (y x : ℤ) (h : AreCommon word more k) (inside : k < length word) (inside_more : k < length more)
      (is_y : y ≡ get_or word (length word - 1 - k) y) (is_x : x ≡ get_or more (length more - 1 - k) x) where
    ends_meet : Meets (reduce (word ++ inverse_word more)) (take (length word - (k + 1)) word ++ (y ∷ []))
        (inverse x ∷ inverse_word (take (length more - (k + 1)) more))
    ends_meet =
        meets_as _ _ _ _ _ h.left (last_left word k y inside is_y) (back_from_last words more k x inside_more is_x)

    pub one_more_common : y ≡ x → AreCommon word more (k + 1)
    one_more_common same = record {
      within = omega arith;
      within_more = omega arith;
      left = one_more_met l words.reduction _ _ _ y (inverse x) ends_meet (same ∙ sym (l.twice x));
    }

    pub ends_differ : y ≢ x
        → reduce (word ++ inverse_word more)
        ≡ take (length word - k) word ++ inverse_word (take (length more - k) more)
    ends_differ apart =
        met_apart l words.reduction _ _ _ y (inverse x) ends_meet (λ e. apart (e ∙ l.twice x))
        ∙ ap (λ (z : List ℤ). z ++ (inverse x ∷ inverse_word (take (length more - (k + 1)) more)))
        (sym (last_left word k y inside is_y))
        ∙ ap (λ (z : List ℤ). take (length word - k) word ++ z)
        (sym (back_from_last words more k x inside_more is_x))

-- no letters are left that could meet
pub all_common : WordLaws → (word more : List ℤ) (k most : ℕ) → AreCommon word more k
    → most ≡ min (length word) (length more) → k ≤ most → most ≤ k
    → reduce (word ++ inverse_word more)
    ≡ take (length word - most) word ++ inverse_word (take (length more - most) more)
all_common words word more k most h is_most within all =
    subst (λ (n : ℕ). reduce (word ++ inverse_word more)
    ≡ take (length word - n) word ++ inverse_word (take (length more - n) more))
    (let same : k ≡ most = omega arith in same) (used_up (cases_lt (length word) (length more)))
  where
    used_up : (length word < length more) ⊎ (length more ≤ length word)
        → reduce (word ++ inverse_word more)
        ≡ take (length word - k) word ++ inverse_word (take (length more - k) more)
    used_up (inl shorter) = front_used words.reduction _ _ _ h.left (none_left word k (omega arith))
    used_up (inr longer) =
        behind_used words.reduction _ _ _ h.left (ap inverse_word (none_left more k (omega arith)))

-- the letters that are left go over one by one, from the last on
module _ (front more : List ℤ) (kept : ℕ) where
  abbrev pub BackUpTo : List ℤ → ℕ → Type 0
  BackUpTo word k = word ≡ front ++ inverse_word (drop (kept - k) (take kept more))

  pub none_back : (word : List ℤ) → kept ≤ length more → word ≡ front → BackUpTo word 0
  none_back word within same =
      same
      ∙ sym (append-nil front)
      ∙ ap (λ (z : List ℤ). front ++ inverse_word z)
      (sym (drop_all (kept - 0) (take kept more) (omega (arith, length-take-le kept more within))))

  pub one_back : (word new : List ℤ) (k : ℕ) (x : ℤ) → kept ≤ length more → k < kept
      → x ≡ get_or more (kept - 1 - k) x → BackUpTo word k
      → new ≡ word ++ (inverse x ∷ []) → BackUpTo new (k + 1)
  one_back word new k x within inside is_x so_far pushed =
      pushed
      ∙ ap (λ (z : List ℤ). z ++ (inverse x ∷ [])) so_far
      ∙ letters_back front (take kept more) kept k x (sym (length-take-le kept more within)) inside
      (is_x ∙ sym (get_or-take kept more (kept - 1 - k) x (omega arith)))

  pub all_back : (word : List ℤ) (k : ℕ) → kept ≤ k → BackUpTo word k → word ≡ front ++ inverse_word (take kept more)
  all_back word k all so_far =
      so_far
      ∙ ap (λ (n : ℕ). front ++ inverse_word (drop n (take kept more))) (let none : kept - k ≡ 0 = omega arith in none)
