-- The cyclic reduction in place: letters at the two ends that are inverse to each other are counted from outside, and
-- what stands between them is kept.
use Rattle.std.proofs.Common.{ℕ, zero, suc, ℤ, pos, negsuc, Bool, cond, List, [], ◌∷◌, ◌++◌, ◌≡◌, ◌≢◌, ◌+◌}
use Rattle.std.proofs.Common.{◌-◌, ◌*◌, ◌<◌, ◌≤◌, refl, sym, ◌∙◌, ap, arith, length, take, drop, get_or}
use Rattle.std.proofs.lemmas.Bool.Decides.{Decides-int_eq}
use Rattle.std.proofs.lemmas.List.{take_more, drop_more, get_or-drop, take_at, take_all, drop-take, length-take-le}
use Rattle.std.proofs.lemmas.List.{length-drop}
use Rattle.ideal_tri.specs.Labels.{inverse}
use Rattle.ideal_tri.specs.LabelLaws.{LabelLaws}
use Rattle.ideal_tri.specs.Words.{reduce, last_of, but_last, strip, cyclic_reduce}

-- what is left of a word without so many letters at each end
abbrev pub middle : ℕ → List ℤ → List ℤ
middle k w = take (length w - 2 * k) (drop k w)

pub length-middle : (k : ℕ) (w : List ℤ) → 2 * k ≤ length w → length (middle k w) ≡ length w - 2 * k
length-middle k w h = length-take-le (length w - 2 * k) (drop k w) (omega (arith, length-drop k w))

-- the two letters at its ends, and what is between
pub middle-more : (k : ℕ) (w : List ℤ) (x y : ℤ) → 2 * k + 1 < length w → x ≡ get_or w k x
    → y ≡ get_or w (length w - 1 - k) y
    → middle k w ≡ x ∷ (middle (k + 1) w ++ (y ∷ []))
middle-more k w x y h is_x is_y =
    ap (λ (n : ℕ). take n (drop k w)) (let long : length w - 2 * k
    ≡ suc (length w - 2 * (k + 1) + 1) = omega arith in long)
    ∙ ap (take (suc (length w - 2 * (k + 1) + 1))) (drop_more w k x (omega arith)
    ∙ ap (λ (z : ℤ). z ∷ drop (k + 1) w) (sym is_x))
    ∙ ap (λ (z : List ℤ). x ∷ z) (take_more (drop (k + 1) w) (length w - 2 * (k + 1)) y (omega (
      arith,
      length-drop (k +
          1) w,
    )))
    ∙ ap (λ (z : ℤ). x ∷ (middle (k + 1) w ++ (z ∷ [])))
    (get_or-drop (k + 1) w (length w - 2 * (k + 1)) y
    ∙ ap (λ (n : ℕ). get_or w n y) (let place : k + 1 + (length w - 2 * (k + 1))
    ≡ length w - 1 - k = omega arith in place)
    ∙ sym is_y)

-- ---- one step of the definition

last_of-push : (x y : ℤ) (u : List ℤ) → last_of x (u ++ (y ∷ [])) ≡ y
last_of-push x y [] = refl
last_of-push x y (z ∷ u) = last_of-push z y u

but_last-push : (y : ℤ) (u : List ℤ) → but_last (u ++ (y ∷ [])) ≡ u
but_last-push y [] = refl
but_last-push y (x ∷ []) = refl
but_last-push y (x ∷ (z ∷ u)) = ap (λ (w : List ℤ). x ∷ w) (but_last-push y (z ∷ u))

strip-peels : (n : ℕ) (x y : ℤ) (u : List ℤ) → y ≡ inverse x → strip (suc n) (x ∷ (u ++ (y ∷ []))) ≡ strip n u
unfolding strip
strip-peels n x y u e =
    ap (λ (b : Bool). cond b (strip n (but_last (u ++ (y ∷ [])))) (x ∷ (u ++ (y ∷ []))))
    ((Decides-int_eq (last_of x (u ++ (y ∷ []))) (inverse x)).1 (last_of-push x y u ∙ e))
    ∙ ap (strip n) (but_last-push y u)

strip-stays : LabelLaws → (n : ℕ) (x y : ℤ) (u : List ℤ) → y ≢ inverse x → strip (suc n) (x ∷ (u ++ (y ∷ []))) ≡ x ∷ (u ++ (y ∷ []))
unfolding strip
strip-stays l n x y u e =
    ap (λ (b : Bool). cond b (strip n (but_last (u ++ (y ∷ [])))) (x ∷ (u ++ (y ∷ []))))
    (l.test_other (last_of x (u ++ (y ∷ []))) (inverse x) (λ f. e (sym (last_of-push x y u) ∙ f)))

strip-one : (n : ℕ) (x : ℤ) → strip n (x ∷ []) ≡ x ∷ []
unfolding strip
strip-one zero x = refl
strip-one (suc n) (pos k) = refl
strip-one (suc n) (negsuc k) = refl

strip-short : (n : ℕ) (w : List ℤ) → length w < 2 → strip n w ≡ w
unfolding strip
strip-short zero [] h = refl
strip-short (suc n) [] h = refl
strip-short n (x ∷ []) h = strip-one n x
strip-short n (x ∷ (y ∷ w)) h = absurd (omega arith)

-- ---- the loop: so many letters at each end were found to be inverse to each other

pub record AreStripped (w : List ℤ) (k : ℕ) : Type 0 where
  pub within : 2 * k ≤ length w
  pub rest : strip (length w) w ≡ strip (length w - k) (middle k w)

pub none_stripped : (w : List ℤ) → AreStripped w 0
none_stripped w = record {
  within = omega arith;
  rest = ap (strip (length w)) (sym (take_all (length w) w (omega arith)))
      ∙ ap (λ (n : ℕ). strip n (take n w)) (let whole : length w ≡ length w - 0 = omega arith in whole);
}

pub one_more_stripped : (w : List ℤ) (k : ℕ) (x y : ℤ) → AreStripped w k → 2 * k + 1 < length w → x ≡ get_or w k x
    → y ≡ get_or w (length w - 1 - k) y → y ≡ inverse x → AreStripped w (k + 1)
one_more_stripped w k x y h more is_x is_y opposite = record {
  within = omega arith;
  rest = h.rest
      ∙ ap (λ (n : ℕ). strip n (middle k w)) (let fuel : length w - k ≡ suc (length w - (k + 1)) = omega arith in fuel)
      ∙ ap (strip (suc (length w - (k + 1)))) (middle-more k w x y more is_x is_y)
      ∙ strip-peels (length w - (k + 1)) x y (middle (k + 1) w) opposite;
}

pub ends_apart : LabelLaws → (w : List ℤ) (k : ℕ) (x y : ℤ) → AreStripped w k → 2 * k + 1 < length w → x ≡ get_or w k x
    → y ≡ get_or w (length w - 1 - k) y → y ≢ inverse x → strip (length w) w ≡ middle k w
ends_apart l w k x y h more is_x is_y apart =
    h.rest
    ∙ ap (λ (n : ℕ). strip n (middle k w)) (let fuel : length w - k ≡ suc (length w - (k + 1)) = omega arith in fuel)
    ∙ ap (strip (suc (length w - (k + 1)))) (middle-more k w x y more is_x is_y)
    ∙ strip-stays l (length w - (k + 1)) x y (middle (k + 1) w) apart
    ∙ sym (middle-more k w x y more is_x is_y)

pub all_stripped : (w : List ℤ) (k : ℕ) → AreStripped w k → length w < 2 * k + 2 → strip (length w) w ≡ middle k w
all_stripped w k h few =
    let within : 2 * k ≤ length w = h.within in
    h.rest ∙ strip-short (length w - k) (middle k w) (omega (arith, length-middle k w within))

-- ---- the letters between are moved to the front

-- a word without n letters at its end, turned by n letters, and cut
pub turned_and_cut : (w : List ℤ) (n : ℕ) → 2 * n ≤ length w
    → take (length w - n - n) (drop n (take (length w - n) w) ++ take n (take (length w - n) w)) ≡ middle n w
turned_and_cut w n h =
    let kept : length (take (length w - n) w) ≡ length w - n = length-take-le (length w - n) w (omega arith) in
    take_at (drop n (take (length w - n) w)) (take n (take (length w - n) w)) (length w - n - n) (omega (
      arith,
      length-drop n (take (length w - n) w),
    ))
    ∙ ap (λ (k : ℕ). drop n (take k w)) (let long : length w - n ≡ n + (length w - 2 * n) = omega arith in long)
    ∙ drop-take n (length w - 2 * n) w

-- the steps of the code: `seen` is the reduced word w, as the ends are counted
pub ends_taken_off : (start w seen front turned kept : List ℤ) (n ends : ℕ) → w ≡ reduce start → seen ≡ w → n ≡ length w
    → 2 * ends ≤ length seen → strip (length seen) seen ≡ middle ends seen
    → front ≡ take (n - ends) w → turned ≡ drop ends front ++ take ends front → kept ≡ take (n - ends - ends) turned
    → kept ≡ cyclic_reduce start
unfolding cyclic_reduce
ends_taken_off start w seen front turned kept n ends is_w is_seen is_n within between is_front is_turned is_kept =
    is_kept
    ∙ ap (take (n - ends - ends)) (is_turned ∙ ap (λ (z : List ℤ). drop ends z ++ take ends z) is_front)
    ∙ ap (λ (k : ℕ). take (k - ends - ends) (drop ends (take (k - ends) w) ++ take ends (take (k - ends) w))) is_n
    ∙ turned_and_cut w ends (let short : 2 * ends ≤ length w = omega (arith, ap length is_seen) in short)
    ∙ ap (middle ends) (sym is_seen)
    ∙ sym between
    ∙ ap (λ (z : List ℤ). strip (length z) z) (is_seen ∙ is_w)
