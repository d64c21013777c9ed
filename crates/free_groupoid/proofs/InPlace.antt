-- The loop that reduces a word in place: the letters below `top` are reduced, and with those from `i` on they have the
-- reduction of the whole word.
use Rattle.std.proofs.Common.{ℕ, ℤ, List, [], ◌∷◌, ◌++◌, ◌≡◌, ◌≢◌, ◌+◌, ◌-◌, ◌<◌, ◌≤◌, refl, sym, ◌∙◌, ap, subst}
use Rattle.std.proofs.Common.{append_assoc, arith, length, take, drop, set, get_or}
use Rattle.std.proofs.lemmas.List.{append-nil, take_more, take_more_set, drop-set-lt, drop_all}
use Rattle.std.proofs.lemmas.List.{length-set}
use Rattle.ideal_tri.specs.Labels.{inverse}
use Rattle.ideal_tri.specs.Words.{IsReduced, reduce}
use Rattle.ideal_tri.specs.LabelLaws.{LabelLaws}
use Rattle.ideal_tri.specs.WordLaws.{ReductionLaws, LetterLaws}
use Rattle.free_groupoid.proofs.Words.{IsReduced-append_letter, reduce-pair}

pub record IsReducedUpTo (start now : List ℤ) (top i : ℕ) : Type 0 where
  pub within : top ≤ i
  pub same_length : length now ≡ length start
  pub reduced : IsReduced (take top now)
  pub same_reduction : reduce (take top now ++ drop i now) ≡ reduce start

pub at_start : (start : List ℤ) → IsReducedUpTo start start 0 0
at_start start = record { within = omega arith; same_length = refl; reduced = tt; same_reduction = refl }

-- the last letter that was kept
last_kept : (start now : List ℤ) (top i : ℕ) (y : ℤ) → IsReducedUpTo start now top i → 0 < top → i < length now
    → y ≡ get_or now (top - 1) y → take top now ≡ take (top - 1) now ++ (y ∷ [])
last_kept start now top i y h above inside is_y =
    let within : top ≤ i = h.within in
    let same_top : (top - 1) + 1 ≡ top = omega arith in
    ap (λ (k : ℕ). take k now) (sym same_top)
    ∙ take_more now (top - 1) y (omega arith)
    ∙ ap (λ (z : ℤ). take (top - 1) now ++ (z ∷ [])) (sym is_y)

-- the next letter x cancels the last one that was kept
pub cancelled : LabelLaws → ReductionLaws → LetterLaws → (start now : List ℤ) (top i : ℕ) (x y : ℤ)
    → IsReducedUpTo start now top i → 0 < top
    → i < length now
    → x ≡ get_or now i x → y ≡ get_or now (top - 1) y → y ≡ inverse x → IsReducedUpTo start now (top - 1) (i + 1)
cancelled l r letters start now top i x y h above inside is_x is_y opposite =
    let within : top ≤ i = h.within in
    let kept : take top now ≡ take (top - 1) now ++ (y ∷ []) = last_kept start now top i y h above inside is_y in
    let x_is : x ≡ inverse y = sym (l.twice x) ∙ ap inverse (sym opposite) in
    record {
      within = omega arith;
      same_length = h.same_length;
      reduced = r.front (take (top - 1) now) (y ∷ []) (subst IsReduced kept h.reduced);
      same_reduction =
          sym (reduce-pair r (take (top - 1) now) y (drop (i + 1) now))
          ∙ ap (λ (z : ℤ). reduce (take (top - 1) now ++ (y ∷ (z ∷ drop (i + 1) now)))) (sym x_is)
          ∙ ap reduce (sym (append_assoc (take (top - 1) now) (y ∷ []) (x ∷ drop (i + 1) now)))
          ∙ ap (λ (z : List ℤ). reduce (z ++ (x ∷ drop (i + 1) now))) (sym kept)
          ∙ ap (λ (z : List ℤ). reduce (take top now ++ z)) (sym (letters.next now i x inside is_x))
          ∙ h.same_reduction;
    }

-- the next letter x is kept, where the letters that were kept stay reduced with it
pushed : LetterLaws → (start now : List ℤ) (top i : ℕ) (x : ℤ) → IsReducedUpTo start now top i → i < length now
    → x ≡ get_or now i x
    → IsReduced (take top now ++ (x ∷ [])) → IsReducedUpTo start (set now top x) (top + 1) (i + 1)
pushed letters start now top i x h inside is_x reduced =
    let within : top ≤ i = h.within in
    let room : top < length now = omega arith in
    let kept : take (top + 1) (set now top x) ≡ take top now ++ (x ∷ []) = take_more_set now top x room in
    let rest : drop (i + 1) (set now top x) ≡ drop (i + 1) now = drop-set-lt (i + 1) now top x (omega arith) in
    record {
      within = omega arith;
      same_length = length-set now top x ∙ h.same_length;
      reduced = subst IsReduced (sym kept) reduced;
      same_reduction =
          ap (λ (z : List ℤ). reduce (z ++ drop (i + 1) (set now top x))) kept
          ∙ ap (λ (z : List ℤ). reduce ((take top now ++ (x ∷ [])) ++ z)) rest
          ∙ ap reduce (append_assoc (take top now) (x ∷ []) (drop (i + 1) now))
          ∙ ap (λ (z : List ℤ). reduce (take top now ++ z)) (sym (letters.next now i x inside is_x))
          ∙ h.same_reduction;
    }

-- no letter was kept before x
pub pushed_first : LetterLaws → (start now : List ℤ) (top i : ℕ) (x : ℤ) → IsReducedUpTo start now top i
    → i < length now
    → x ≡ get_or now i x
    → top ≡ 0 → IsReducedUpTo start (set now top x) (top + 1) (i + 1)
pushed_first letters start now top i x h inside is_x none =
    pushed letters start now top i x h inside is_x
    (subst (λ (k : ℕ). IsReduced (take k now ++ (x ∷ []))) (sym none) tt)

-- the last letter y that was kept does not cancel x
pub pushed_on : LabelLaws → ReductionLaws → LetterLaws → (start now : List ℤ) (top i : ℕ) (x y : ℤ)
    → IsReducedUpTo start now top i → 0 < top → i < length now
    → x ≡ get_or now i x → y ≡ get_or now (top - 1) y → y ≢ inverse x
    → IsReducedUpTo start (set now top x) (top + 1) (i + 1)
pushed_on l r letters start now top i x y h above inside is_x is_y apart =
    let kept : take top now ≡ take (top - 1) now ++ (y ∷ []) = last_kept start now top i y h above inside is_y in
    pushed letters start now top i x h inside is_x
    (subst (λ (z : List ℤ). IsReduced (z ++ (x ∷ []))) (sym kept)
    (IsReduced-append_letter l r (take (top - 1) now) y x (subst IsReduced kept h.reduced) apart))

-- all letters were read
pub at_end : ReductionLaws → (start now : List ℤ) (top i : ℕ) → IsReducedUpTo start now top i → length start ≤ i
    → take top now ≡ reduce start
at_end r start now top i h all =
    let same : length now ≡ length start = h.same_length in
    sym (r.fixed (take top now) h.reduced)
    ∙ ap reduce (sym (append-nil (take top now)))
    ∙ ap (λ (z : List ℤ). reduce (take top now ++ z)) (sym (drop_all i now (omega arith)))
    ∙ h.same_reduction

-- ---- one letter behind a reduced word

pub push_cancels : LabelLaws → ReductionLaws → LetterLaws → (w : List ℤ) (n : ℕ) (x y : ℤ) → IsReduced w
    → n ≡ length w → 0 < n
    → y ≡ get_or w (n - 1) y → y ≡ inverse x
    → take (n - 1) w ≡ reduce (w ++ (x ∷ []))
push_cancels l r letters w n x y h is_n some is_y opposite =
    let split : w ≡ take (n - 1) w ++ (y ∷ []) = letters.parts w n y is_n some is_y in
    let x_is : x ≡ inverse y = sym (l.twice x) ∙ ap inverse (sym opposite) in
    sym (r.fixed (take (n - 1) w) (r.front (take (n - 1) w) (y ∷ []) (subst IsReduced split h)))
    ∙ ap reduce (sym (append-nil (take (n - 1) w)))
    ∙ sym (reduce-pair r (take (n - 1) w) y [])
    ∙ ap (λ (z : ℤ). reduce (take (n - 1) w ++ (y ∷ (z ∷ [])))) (sym x_is)
    ∙ ap reduce (sym (append_assoc (take (n - 1) w) (y ∷ []) (x ∷ [])))
    ∙ ap (λ (z : List ℤ). reduce (z ++ (x ∷ []))) (sym split)

pub push_first : ReductionLaws → (w : List ℤ) (x : ℤ) → length w ≡ 0 → w ++ (x ∷ []) ≡ reduce (w ++ (x ∷ []))
push_first r [] x none = refl
push_first r (y ∷ w) x none = absurd (omega arith)

pub push_on : LabelLaws → ReductionLaws → LetterLaws → (w : List ℤ) (n : ℕ) (x y : ℤ) → IsReduced w → n ≡ length w
    → 0 < n
    → y ≡ get_or w (n - 1) y → y ≢ inverse x
    → w ++ (x ∷ []) ≡ reduce (w ++ (x ∷ []))
push_on l r letters w n x y h is_n some is_y apart =
    let split : w ≡ take (n - 1) w ++ (y ∷ []) = letters.parts w n y is_n some is_y in
    sym (r.fixed (w ++ (x ∷ []))
    (subst (λ (z : List ℤ). IsReduced (z ++ (x ∷ []))) (sym split)
    (IsReduced-append_letter l r (take (n - 1) w) y x (subst IsReduced split h) apart)))
