-- Images laid out in the slots of a `Relabelling`, one after another.
use Rattle.std.proofs.Common.{ℕ, suc, ℤ, pos, List, [], ◌∷◌, ◌++◌, ◌≡◌, ◌≤◌, ◌<◌, ◌+◌, ◌-◌, refl, sym, ◌∙◌, ap, subst}
use Rattle.std.proofs.Common.{arith, length, take, drop, set, get_or, replicate, map, append_assoc, length-append}
use Rattle.std.proofs.lemmas.List.{length-replicate, length-take-le, set_at, take_more, take_all, take_at, drop_at}
use Rattle.std.proofs.lemmas.List.{ext_get_or, get_or-take, get_or-map, length-map, get_or_default}
use Rattle.ideal_tri.specs.Labels.{edge_of, with_sign_of}
use Rattle.ideal_tri.specs.BijectionLaws.{BijectionLaws}
use Rattle.ideal_tri.specs.Relabellings.{IsBijection, image_of}
use Rattle.relabel.specs.inside.LaidOut.{spare_slots, IsLaidOut, count_again}

pub no_slots : (x : ℤ) → x ≡ pos 0 → replicate 48 x ≡ spare_slots 48
unfolding spare_slots
no_slots x e = ap (replicate 48) e

-- one more image
pub slots_next : (xs slots : List ℤ) (i : ℕ) → i < length xs → length xs ≤ 48
    → slots ≡ take i xs ++ spare_slots (48 - i)
    → set slots i (get_or xs i (pos 0)) ≡ take (i + 1) xs ++ spare_slots (48 - (i + 1))
unfolding spare_slots
slots_next xs slots i below small e =
    let left : 48 - i ≡ suc (48 - (i + 1)) = omega arith in
    ap (λ (z : List ℤ). set z i (get_or xs i (pos 0))) (e ∙ ap (λ (n : ℕ). take i xs ++ spare_slots n) left)
    ∙ set_at (take i xs) (pos 0) (spare_slots (48 - (i + 1))) (get_or xs i (pos 0)) i
    (length-take-le i xs (omega arith))
    ∙ sym (append_assoc (take i xs) (get_or xs i (pos 0) ∷ []) (spare_slots (48 - (i + 1))))
    ∙ ap (λ (z : List ℤ). z ++ spare_slots (48 - (i + 1))) (sym (take_more xs i (pos 0) below))

slots_at_end : (xs slots : List ℤ) (i : ℕ) → length xs ≡ i → slots ≡ take i xs ++ spare_slots (48 - i)
    → slots ≡ xs ++ spare_slots (48 - length xs)
slots_at_end xs slots i all e =
    e ∙ ap (λ (z : List ℤ). z ++ spare_slots (48 - i)) (take_all i xs (omega arith))
    ∙ ap (λ (n : ℕ). xs ++ spare_slots (48 - n)) (sym all)

pub view_at_end : (xs slots : List ℤ) (i : ℕ) → length xs ≡ i → slots ≡ take i xs ++ spare_slots (48 - i)
    → take (length xs) slots ≡ xs
view_at_end xs slots i all e =
    ap (take (length xs)) (slots_at_end xs slots i all e) ∙ take_at xs (spare_slots (48 - length xs)) (length xs) refl

pub laid_out : (xs slots : List ℤ) (i : ℕ) → length xs ≤ 48 → IsBijection xs → length xs ≡ i
    → slots ≡ take i xs ++ spare_slots (48 - i)
    → IsLaidOut (length xs) slots
unfolding spare_slots
laid_out xs slots i small bijection all e =
    let copied : slots ≡ xs ++ spare_slots (48 - length xs) = slots_at_end xs slots i all e in
    record {
      fits = small;
      room =
          ap length copied ∙ length-append xs (spare_slots (48 - length xs))
          ∙ ap (λ (n : ℕ). length xs + n) (length-replicate (48 - length xs) (pos 0)) ∙ omega arith;
      sound = subst IsBijection (sym (view_at_end xs slots i all e)) bijection;
      spare = ap (drop (length xs)) copied ∙ drop_at xs (spare_slots (48 - length xs)) (length xs) refl;
    }

-- ---- the image of one label

pub read_image : BijectionLaws → (n : ℕ) (slots : List ℤ) (x y : ℤ) (k : ℕ) → IsLaidOut n slots
    → edge_of x < length (take n slots)
    → k ≡ edge_of x → with_sign_of x (get_or slots k y) ≡ image_of (take n slots) x
read_image laws n slots x y k h x_in is =
    let fits : n ≤ 48 = h.fits in
    let room : length slots ≡ 48 = h.room in
    let below : edge_of x < n = omega (arith, count_again n slots h) in
    ap (λ (m : ℕ). with_sign_of x (get_or slots m y)) is
    ∙ ap (with_sign_of x)
    (get_or_default slots (edge_of x) y (pos 0) (omega arith) ∙ sym (get_or-take n slots (edge_of x) (pos 0) below))
    ∙ sym (laws.is (take n slots) x)

-- ---- one relabelling after another

-- the first n slots, made one by one, are the images under both
pub through_made : (images others slots : List ℤ) (n : ℕ) → n ≡ length images → n ≤ length slots
    → ((d : ℕ) → d < n → get_or slots d (pos 0) ≡ image_of others (get_or images d (pos 0)))
    → take n slots ≡ map (image_of others) images
through_made images others slots n is_n room made =
    let long : length (take n slots) ≡ n = length-take-le n slots room in
    ext_get_or (pos 0) (take n slots) (map (image_of others) images)
    (long ∙ is_n ∙ sym (length-map images (image_of others)))
    (λ i below.
    let i_in : i < n = omega arith in
    get_or-take n slots i (pos 0) i_in ∙ made i i_in
    ∙ sym (get_or-map (image_of others) images i (pos 0) (pos 0) (omega arith)))

-- ---- the slots of the inverse

pub laid_out_back : (n : ℕ) (slots : List ℤ) → n ≤ 48 → length slots ≡ 48 → drop n slots ≡ replicate (48 - n) (pos 0)
    → IsBijection (take n slots) → IsLaidOut n slots
unfolding spare_slots
laid_out_back n slots few room rest sound = record { fits = few; room = room; spare = rest; sound = sound }
