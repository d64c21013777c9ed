-- The first few elements of a list that is made piece by piece.
use Rattle.std.proofs.Common.{◌≡◌, ◌++◌, ℕ, zero, suc, List, [], ◌∷◌, length, take, refl, ◌∙◌, ap}
use Rattle.std.proofs.Common.{arith}
use Rattle.std.specs.List.{All}

-- the first n of a piece, and then of what follows
pub take_again : {A : Type 0} (n : ℕ) (xs ys : List A) → take n (take n xs ++ ys) ≡ take n (xs ++ ys)
take_again zero xs ys = refl
take_again (suc n) [] ys = refl
take_again {A} (suc n) (x ∷ xs) ys = ap (λ (zs : List A). x ∷ zs) (take_again n xs ys)

-- one piece more
pub take_more : {A : Type 0} (n : ℕ) (made before piece new : List A) → made ≡ take n before
    → new ≡ take n (made ++ piece) → new ≡ take n (before ++ piece)
take_more {A} n made before piece new is more =
    more ∙ ap (λ (xs : List A). take n (xs ++ piece)) is ∙ take_again n before piece

pub first_of_all : {A : Type 0} (all : List A) (p : A) (rest : List A) → p ∷ rest ≡ take 1 all
    → (more : List A) × (all ≡ p ∷ more)
first_of_all [] p rest is = absurd (let long : length (p ∷ rest) ≡ 0 = ap length is in omega arith)
first_of_all {A} (q ∷ all) p rest is =
    (all, ap (λ (x : A). x ∷ all) (let same : q ≡ p = cc in same))

pub All-take : {A : Type 0} (P : A → Type 0) (n : ℕ) (xs : List A) → All P xs → All P (take n xs)
All-take P zero xs all k d within = absurd (omega arith)
All-take P (suc n) [] all k d within = absurd (omega arith)
All-take P (suc n) (x ∷ xs) all zero d within = all 0 d (omega arith)
All-take P (suc n) (x ∷ xs) all (suc k) d within =
    All-take P n xs (λ j e less. all (suc j) e (omega arith)) k d (omega arith)
