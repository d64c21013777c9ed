-- The number of names of a text with few dots is below 2^128.
--
-- Let a text be weighed by its dots and one more. Cut at the dots outside brackets, its pieces together weigh as much
-- (the dots that are taken out make up for the pieces' own ones). The inside of a group weighs at most what the group
-- weighs, and a name at least one. A power multiplies the names of a piece by at most 4,096. So, by induction on the
-- levels, a text has at most 4,096^k names for each unit of its weight, where k is the number of levels; at nine levels
-- and a weight of at most 4,096 these are 2^120.
use Rattle.std.proofs.Common.{◌≡◌, ◌<◌, ◌≤◌, ◌+◌, ◌*◌, ◌^◌, ℕ, zero, suc, Bool, true, false, List, [], ◌∷◌, take, drop}
use Rattle.std.proofs.Common.{Option, Some, None, refl, ap, ◌∙◌, sym, arith, zero-le}
use Rattle.std.proofs.Math.Nat.{mul-le-mul, mul-le-mul_right}
use Rattle.std.proofs.lemmas.Grind.{common_steps}
use Rattle.std.specs.Prelude.{◌==◌, ◌&&◌, if◌then◌else◌}
use Rattle.tri_atlas.specs.Arena.{MoveHandle}
use Rattle.surface_lib.specs.Pieces.{open_bracket, close_bracket, dot, dots, depth_after, before, parts, pieces}
use Rattle.surface_lib.specs.Pieces.{in_front, piece, group_behind, name_in, before_first, power_sign}
use Rattle.surface_lib.specs.Powers.{power}
use Rattle.surface_lib.specs.Words.{Names, names_written, taken_if, named_if, value_of_piece}
use Rattle.surface_lib.specs.Words.{value_of_pieces, value_of_text}
use Rattle.surface_lib.specs.declared.power.Power.{Power}
use Rattle.surface_lib.proofs.Small.{IsSmall, power_small}

-- ---- the dots of the pieces

abbrev weight : List (List ℕ) → ℕ
weight [] = 0
weight (q ∷ qs) = dots q + 1 + weight qs

abbrev one : Bool → ℕ
one b = if b then 1 else 0

dots-cons : (c : ℕ) (s : List ℕ) → dots (c ∷ s) ≡ one (c == dot) + dots s
dots-cons c s = by (c == dot) refl
  where
    by : (b : Bool) → (c == dot) ≡ b → dots (c ∷ s) ≡ (if b then 1 else 0) + dots s
    by true e = grind (arith, common_steps, e)
    by false e = grind (arith, common_steps, e)

front_weight : (c n : ℕ) (rest : List (List ℕ)) → weight rest ≡ n + 1
    → weight (in_front c rest) ≡ one (c == dot) + n + 1
front_weight c n [] e = absurd (omega (arith, e))
front_weight c n (q ∷ qs) e = omega (arith, e, dots-cons c q)

parts_weight : (d : ℕ) (s : List ℕ) → weight (parts d s) ≡ dots s + 1
parts_weight d [] = refl
parts_weight d (c ∷ s) = by (c == dot) (d == 0) refl (parts_weight (depth_after d c) s)
  where
    by : (b e : Bool) → (c == dot) ≡ b → weight (parts (depth_after d c) s) ≡ dots s + 1
        → weight (if b && e then [] ∷ parts (depth_after d c) s else in_front c (parts (depth_after d c) s))
        ≡ dots (c ∷ s) + 1
    by true true h later =
        let one_more : dots (c ∷ s) ≡ 1 + dots s = dots-cons c s ∙ ap (λ (z : Bool). (if z then 1 else 0) + dots s) h in
        omega (arith, later, one_more)
    by true false h later = front_weight c (dots s) (parts (depth_after d c) s) later
        ∙ ap (λ (z : ℕ). z + 1) (sym (dots-cons c s))
    by false true h later = front_weight c (dots s) (parts (depth_after d c) s) later
        ∙ ap (λ (z : ℕ). z + 1) (sym (dots-cons c s))
    by false false h later = front_weight c (dots s) (parts (depth_after d c) s) later
        ∙ ap (λ (z : ℕ). z + 1) (sym (dots-cons c s))

pieces_weight : (s : List ℕ) → weight (pieces s) ≤ dots s + 1
pieces_weight [] = omega arith
pieces_weight (c ∷ s) = omega (arith, parts_weight 0 (c ∷ s))

take_dots : (n : ℕ) (s : List ℕ) → dots (take n s) ≤ dots s
take_dots zero s = omega arith
take_dots (suc n) [] = omega arith
take_dots (suc n) (c ∷ s) = omega (arith, take_dots n s, dots-cons c s, dots-cons c (take n s))

-- ---- the names of a text

-- how many names a dot stands for at most, so many levels from the inside
abbrev scale : ℕ → ℕ
scale zero = 1
scale (suc k) = 4096 * scale k

scaled : (t n d e p : ℕ) → t ≤ 4096 → n ≤ d * p → d ≤ e → t * n ≤ e * (4096 * p)
scaled t n d e p few names more =
    let a : t * n ≤ 4096 * (d * p) = mul-le-mul few names in
    let b : d * p ≤ e * p = mul-le-mul_right p more in
    omega (arith, a, b)

at_least_one : (k : ℕ) → 1 ≤ scale k
at_least_one zero = omega arith
at_least_one (suc k) = omega (arith, at_least_one k)

taken_bound : (n d e p : ℕ) (k : Option Power) → IsSmall k → n ≤ d * p → d ≤ e
    → taken_if (names_written {M = MoveHandle}) n k ≤ e * (4096 * p)
taken_bound n d e p None small names more = zero-le
taken_bound n d e p (Some k) small names more = scaled k.times n d e p small names more

named_bound : (moves : Option (List MoveHandle)) (p : ℕ) → 1 ≤ p → named_if names_written moves ≤ 1 * p
named_bound None p some = omega arith
named_bound (Some moves) p some = omega arith

piece_bound : (names : Names MoveHandle) (f : List ℕ → ℕ) (k : ℕ) → ((u : List ℕ) → f u ≤ (dots u + 1) * scale k)
    → (q : List ℕ) → value_of_piece names_written names f (piece q) ≤ (dots q + 1) * (4096 * scale k)
piece_bound names f k inside [] = zero-le
piece_bound names f k inside (c ∷ s) = by (c == open_bracket)
  where
    group_dots : dots (take (before close_bracket 0 s) s) + 1 ≤ dots (c ∷ s) + 1
    group_dots = omega (arith, take_dots (before close_bracket 0 s) s, dots-cons c s)

    by : (b : Bool) → value_of_piece names_written names f (if b then group_behind s else name_in (c ∷ s))
        ≤ (dots (c ∷ s) + 1) * (4096 * scale k)
    by true = taken_bound _ (dots (take (before close_bracket 0 s) s) + 1) _ (scale k) (power (drop (before
        close_bracket 0 s + 1) s))
        (power_small (drop (before close_bracket 0 s + 1) s)) (inside (take (before close_bracket 0 s) s)) group_dots
    by false =
        let n : ℕ = before_first power_sign (c ∷ s) in
        taken_bound _ 1 _ (scale k) (power (drop n (c ∷ s))) (power_small (drop n (c ∷ s)))
        (named_bound (names (take n (c ∷ s))) (scale k) (at_least_one k)) (omega arith)

pieces_bound : (names : Names MoveHandle) (f : List ℕ → ℕ) (k : ℕ) → ((u : List ℕ) → f u ≤ (dots u + 1) * scale k)
    → (qs : List (List ℕ)) (v : ℕ) → value_of_pieces names_written names f v qs ≤ v + weight qs * (4096 * scale k)
pieces_bound names f k inside [] v = omega arith
pieces_bound names f k inside (q ∷ qs) v =
    let first = piece_bound names f k inside q in
    let others = pieces_bound names f k inside qs (v + value_of_piece names_written names f (piece q)) in
    omega (arith, first, others)

pub names_bound : (names : Names MoveHandle) (k : ℕ) (s : List ℕ)
    → value_of_text names_written names k s ≤ (dots s + 1) * scale k
names_bound names zero s = zero-le
names_bound names (suc k) s =
    let all = pieces_bound names (value_of_text names_written names k) k (names_bound names k) (pieces
    s) 0 in
    let few : weight (pieces s) * (4096 * scale k) ≤ (dots s + 1) * (4096 * scale k) =
    mul-le-mul_right (4096 * scale k) (pieces_weight s) in
    omega (arith, all, few)

-- with few dots the number of names is below 2^128
pub few_names : (names : Names MoveHandle) (s : List ℕ) → dots s + 1 ≤ 4096
    → value_of_text names_written names 9 s < 2 ^ 128
few_names names s few =
    let all = names_bound names 9 s in
    let most : (dots s + 1) * scale 9 ≤ 4096 * scale 9 = mul-le-mul_right (scale 9) few in
    omega (arith, all, most)
