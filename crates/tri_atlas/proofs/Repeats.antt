-- Lists taken several times, one after another.
use Rattle.std.proofs.Common.{ℕ, zero, suc, List, ◌++◌, ◌≡◌, ◌+◌, refl, sym, ◌∙◌, ap, map, append_assoc, add-one}
use Rattle.std.proofs.Common.{arith}
use Rattle.std.specs.List.{repeat}
use Rattle.std.proofs.lemmas.List.{map-append, append-nil}
use Rattle.tri_atlas.specs.MapLaws.{RepeatLaws}

-- one more time, at the end
repeat_suc : {A : Type 0} (n : ℕ) (xs : List A) → repeat (suc n) xs ≡ repeat n xs ++ xs
repeat_suc zero xs = append-nil xs
repeat_suc {A} (suc n) xs =
    ap (λ (ys : List A). xs ++ ys) (repeat_suc n xs) ∙ sym (append_assoc xs (repeat n xs) xs)

repeat_more : {A : Type 0} (n : ℕ) (xs : List A) → repeat (n + 1) xs ≡ repeat n xs ++ xs
repeat_more {A} n xs = ap (λ (k : ℕ). repeat k xs) (add-one n) ∙ repeat_suc n xs

-- so many more times
repeat_join : {A : Type 0} (n m : ℕ) (xs : List A) → repeat (n + m) xs ≡ repeat n xs ++ repeat m xs
repeat_join zero m xs = ap (λ (k : ℕ). repeat k xs) (let same : 0 + m ≡ m = omega arith in same)
repeat_join {A} (suc n) m xs =
    ap (λ (k : ℕ). repeat k xs) (let more : suc n + m ≡ suc (n + m) = omega arith in more)
    ∙ ap (λ (ys : List A). xs ++ ys) (repeat_join n m xs)
    ∙ sym (append_assoc xs (repeat n xs) (repeat m xs))

pub map-repeat : {A B : Type 0} (f : A → B) (n : ℕ) (xs : List A) → map f (repeat n xs) ≡ repeat n (map f xs)
map-repeat f zero xs = refl
map-repeat {A} {B} f (suc n) xs =
    map-append f xs (repeat n xs) ∙ ap (λ (ys : List B). map f xs ++ ys) (map-repeat f n xs)

pub repeat_laws : (A : Type 0) → RepeatLaws A
repeat_laws A = record { more = repeat_more; join = repeat_join }
