-- How often the image of a multicurve crosses edges.
--
-- The image of a multicurve under a map runs along the images of the letters of its curves, and what is reduced makes
-- it no longer. Each letter lies on one edge, so that all crossings together are at most the letters of those images.
-- The image of a letter is as long as that of the label of its edge. So where the curves cross each edge at most so
-- often, the images have at most that many times the letters of the map.
use Rattle.std.proofs.Common.{◌≡◌, ◌<◌, ◌≤◌, ◌+◌, ◌*◌, ◌++◌, ℕ, zero, suc, ℤ, pos, negsuc, Bool, true, false, cond}
use Rattle.std.proofs.Common.{List, [], ◌∷◌, length, take, slice_index, nat_eq, sum, sum_by, count_by, All}
use Rattle.std.proofs.Common.{inl, inr, refl, sym, ◌∙◌, ap, subst, arith, length-append, add-one}
use Rattle.std.specs.List.{flat_map}
use Rattle.std.proofs.Math.Nat.{le_trans, mul-le-mul_right}
use Rattle.std.proofs.lemmas.Bool.{cases_eq, cases_lt, eq-eqb, ne_eqb}
use Rattle.std.proofs.lemmas.List.{take_all}
use Rattle.std.proofs.lemmas.List.Concat.{flat_map-append, length-flat_map}
use Rattle.std.proofs.lemmas.List.Elements.{All-head, All-tail}
use Rattle.std.proofs.lemmas.List.Sums.{sum_by-cons, sum_by_more, sum_by-le-sum_by}
use Rattle.ideal_tri.specs.Labels.{inverse, edge_of}
use Rattle.ideal_tri.specs.Words.{cyclic_reduce}
use Rattle.ideal_tri.specs.WordLaws.{WordLaws}
use Rattle.ideal_tri.specs.Curves.{crossings}
use Rattle.ideal_tri.specs.Triangulations.{IsWalk, edge_count, triangle_of}
use Rattle.ideal_tri.specs.Vectors.{IsMulticurve}
use Rattle.ideal_tri.specs.Strands.{State, IsDrawing, words_of}
use Rattle.ideal_tri.specs.Drawings.{draw}
use Rattle.ideal_tri.specs.DrawingLaws.{DrawingLaws}
use Rattle.tri_atlas.specs.Maps.{IsOdd, IsImageVector, images_under, letters_below, letters_of}

-- ---- images

-- the images of words are together no longer than the image of the words one after another
images_short : WordLaws → (f : ℤ → List ℤ) (ws : List (List ℤ))
    → length (flat_map (λ w. w) (images_under f ws)) ≤ length (flat_map f (flat_map (λ w. w) ws))
images_short words f [] = omega arith
images_short words f (w ∷ ws) =
    let rest : length (flat_map (λ u. u) (images_under f ws)) ≤ length (flat_map f (flat_map (λ u. u) ws)) =
    images_short words f ws in
    let first : length (cyclic_reduce (flat_map f w)) ≤ length (flat_map f w) = words.cyclic.no_longer (flat_map f w) in
    let parts : length (cyclic_reduce (flat_map f w) ++ flat_map (λ u. u) (images_under f ws))
    ≡ length (cyclic_reduce (flat_map f w)) + length (flat_map (λ u. u) (images_under f ws)) =
    length-append (cyclic_reduce (flat_map f w)) (flat_map (λ u. u) (images_under f ws)) in
    let whole : length (flat_map f (w ++ flat_map (λ u. u) ws))
    ≡ length (flat_map f w) + length (flat_map f (flat_map (λ u. u) ws)) =
    ap length (flat_map-append f w (flat_map (λ u. u) ws))
    ∙ length-append (flat_map f w) (flat_map f (flat_map (λ u. u) ws)) in omega (arith, rest, first, parts, whole)

-- ---- sums over the numbers below n

-- the sum of the values at 0, 1, .. below n
sum_below : (ℕ → ℕ) → ℕ → ℕ
sum_below g zero = 0
sum_below g (suc n) = sum_below g n + g n

-- smaller values have a smaller sum
sum_below_most : (g h : ℕ → ℕ) (n : ℕ) → ((e : ℕ) → e < n → g e ≤ h e) → sum_below g n ≤ sum_below h n
unfolding sum_below
sum_below_most g h zero less = omega arith
sum_below_most g h (suc n) less =
    let before : sum_below g n ≤ sum_below h n = sum_below_most g h n (λ e below. less e (omega arith)) in
    let last : g n ≤ h n = less n (omega arith) in omega arith

-- the sum of zeros is zero
sum_below_zeros : (g : ℕ → ℕ) (n : ℕ) → ((e : ℕ) → e < n → g e ≡ 0) → sum_below g n ≡ 0
unfolding sum_below
sum_below_zeros g zero none = refl
sum_below_zeros g (suc n) none =
    let before : sum_below g n ≡ 0 = sum_below_zeros g n (λ e below. none e (omega arith)) in
    let last : g n ≡ 0 = none n (omega arith) in omega arith

-- sums are added value by value
sum_below_add : (g h both : ℕ → ℕ) (n : ℕ) → ((e : ℕ) → both e ≡ g e + h e)
    → sum_below both n ≡ sum_below g n + sum_below h n
unfolding sum_below
sum_below_add g h both zero is = refl
sum_below_add g h both (suc n) is =
    let before : sum_below both n ≡ sum_below g n + sum_below h n = sum_below_add g h both n is in
    let last : both n ≡ g n + h n = is n in omega arith

-- and multiplied
sum_below_times : (m : ℕ) (g : ℕ → ℕ) (n : ℕ) → sum_below (λ e. m * g e) n ≡ m * sum_below g n
unfolding sum_below
sum_below_times m g zero = omega arith
sum_below_times m g (suc n) =
    let before : sum_below (λ e. m * g e) n ≡ m * sum_below g n = sum_below_times m g n in omega (arith, before)

-- the value of g at k, at k alone
abbrev only_at : (ℕ → ℕ) → ℕ → ℕ → ℕ
only_at g k e = cond (nat_eq k e) (g e) 0

-- it's that value at k
only_here : (g : ℕ → ℕ) (k e : ℕ) → k ≡ e → only_at g k e ≡ g e
only_here g k e same = ap (λ (b : Bool). cond b (g e) 0) (eq-eqb k e same)

-- and zero elsewhere
only_there : (g : ℕ → ℕ) (k e : ℕ) → (k ≡ e → ⊥) → only_at g k e ≡ 0
only_there g k e other = ap (λ (b : Bool). cond b (g e) 0) (ne_eqb k e other)

-- below n it has the sum g k, where k is below n
sum_below_only : (g : ℕ → ℕ) (k n : ℕ) → k < n → sum_below (only_at g k) n ≡ g k
unfolding sum_below
sum_below_only g k zero within = absurd (omega arith)
sum_below_only g k (suc n) within =
    elim (cases_eq k n) [
      | inl same ↦
          (let before : sum_below (only_at g k) n ≡ 0 =
          sum_below_zeros (only_at g k) n (λ e below. only_there g k e (λ is. omega arith)) in
          let last : only_at g k n ≡ g n = only_here g k n same in
          let value : g n ≡ g k = ap g (sym same) in omega (arith, before, last, value))
      | inr other ↦
          (let before : sum_below (only_at g k) n ≡ g k = sum_below_only g k n (omega arith) in
          let last : only_at g k n ≡ 0 = only_there g k n other in omega (arith, before, last))
    ]

-- and zero, where it's not
sum_below_past : (g : ℕ → ℕ) (k n : ℕ) → n ≤ k → sum_below (only_at g k) n ≡ 0
sum_below_past g k n past = sum_below_zeros (only_at g k) n (λ e below. only_there g k e (λ is. omega arith))

-- a list has the sum of its entries
sum_is : (xs : List ℕ) (g : ℕ → ℕ) (n : ℕ) → n ≤ length xs → ((e : ℕ) → e < n → slice_index xs e ≡ g e)
    → sum (take n xs) ≡ sum_below g n
unfolding sum_below
sum_is xs g zero long are = refl
sum_is xs g (suc n) long are =
    let before : sum (take n xs) ≡ sum_below g n = sum_is xs g n (omega arith) (λ e below. are e (omega arith)) in
    let more : sum (take (n + 1) xs) ≡ sum (take n xs) + slice_index xs n =
    sum_by_more (λ (i : ℕ). i) xs n 0 (omega arith) in
    let same : sum (take (n + 1) xs) ≡ sum (take (suc n) xs) = ap (λ (i : ℕ). sum (take i xs)) (add-one n) in
    let last : slice_index xs n ≡ g n = are n (omega arith) in omega (arith, before, more, same, last)

-- ---- letters by their edges

-- how much the letters on the edge e count together, where each letter on it counts g e
abbrev on_edge : (ℕ → ℕ) → List ℤ → ℕ → ℕ
on_edge g xs e = sum_by (λ x. only_at g (edge_of x) e) xs

-- it is g e for each crossing of the edge
on_edge_is : (g : ℕ → ℕ) (xs : List ℤ) (e : ℕ) → on_edge g xs e ≡ count_by (λ x. nat_eq (edge_of x) e) xs * g e
on_edge_is g [] e = omega arith
on_edge_is g (x ∷ xs) e =
    let rest : on_edge g xs e ≡ count_by (λ y. nat_eq (edge_of y) e) xs * g e = on_edge_is g xs e in
    let sums : on_edge g (x ∷ xs) e ≡ only_at g (edge_of x) e + on_edge g xs e =
    sum_by-cons (λ y. only_at g (edge_of y) e) x xs in
    let counts : count_by (λ y. nat_eq (edge_of y) e) (x ∷ xs)
    ≡ cond (nat_eq (edge_of x) e) 1 0 + count_by (λ y. nat_eq (edge_of y) e) xs =
    sum_by-cons (λ y. cond (nat_eq (edge_of y) e) 1 0) x xs in
    sums ∙ ap (λ (k : ℕ). only_at g (edge_of x) e + k) rest
    ∙ joined (nat_eq (edge_of x) e) (g e) (count_by (λ y. nat_eq (edge_of y) e) xs)
    ∙ ap (λ (k : ℕ). k * g e) (sym counts)
  where
    joined : (b : Bool) (value count : ℕ) → cond b value 0 + count * value ≡ (cond b 1 0 + count) * value
    joined true value count = omega arith
    joined false value count = omega arith

-- one letter more adds its own part
on_edges_more : (g : ℕ → ℕ) (x : ℤ) (xs : List ℤ) (n : ℕ)
    → sum_below (on_edge g (x ∷ xs)) n ≡ sum_below (only_at g (edge_of x)) n + sum_below (on_edge g xs) n
on_edges_more g x xs n =
    sum_below_add (only_at g (edge_of x)) (on_edge g xs) (on_edge g (x ∷ xs)) n
    (λ e. sum_by-cons (λ y. only_at g (edge_of y) e) x xs)

-- the letters count on all edges below n at most what they count in all
on_edges_most : (g : ℕ → ℕ) (xs : List ℤ) (n : ℕ) → sum_below (on_edge g xs) n ≤ sum_by (λ x. g (edge_of x)) xs
on_edges_most g [] n =
    let none : sum_below (on_edge g []) n ≡ 0 = sum_below_zeros (on_edge g []) n (λ e below. refl) in
    omega (arith, none)
on_edges_most g (x ∷ xs) n =
    let rest : sum_below (on_edge g xs) n ≤ sum_by (λ y. g (edge_of y)) xs = on_edges_most g xs n in
    let more : sum_below (on_edge g (x ∷ xs)) n ≡ sum_below (only_at g (edge_of x)) n + sum_below (on_edge g xs) n =
    on_edges_more g x xs n in
    let sums : sum_by (λ y. g (edge_of y)) (x ∷ xs) ≡ g (edge_of x) + sum_by (λ y. g (edge_of y)) xs =
    sum_by-cons (λ y. g (edge_of y)) x xs in
    elim (cases_lt (edge_of x) n) [
      | inl less ↦
          (let one : sum_below (only_at g (edge_of x)) n ≡ g (edge_of x) = sum_below_only g (edge_of x) n less in
          omega (arith, rest, more, sums, one))
      | inr past ↦
          (let one : sum_below (only_at g (edge_of x)) n ≡ 0 = sum_below_past g (edge_of x) n past in
          omega (arith, rest, more, sums, one))
    ]

-- the edges of all letters are below n
abbrev AreBelow : ℕ → List ℤ → Type 0
AreBelow n [] = Unit {0}
AreBelow n (x ∷ xs) = (edge_of x < n) × AreBelow n xs

-- then the letters count on all these edges what they count in all
on_edges_all : (g : ℕ → ℕ) (xs : List ℤ) (n : ℕ) → AreBelow n xs
    → sum_by (λ x. g (edge_of x)) xs ≡ sum_below (on_edge g xs) n
on_edges_all g [] n below = sym (sum_below_zeros (on_edge g []) n (λ e less. refl))
on_edges_all g (x ∷ xs) n (less, below) =
    let rest : sum_by (λ y. g (edge_of y)) xs ≡ sum_below (on_edge g xs) n = on_edges_all g xs n below in
    let more : sum_below (on_edge g (x ∷ xs)) n ≡ sum_below (only_at g (edge_of x)) n + sum_below (on_edge g xs) n =
    on_edges_more g x xs n in
    let sums : sum_by (λ y. g (edge_of y)) (x ∷ xs) ≡ g (edge_of x) + sum_by (λ y. g (edge_of y)) xs =
    sum_by-cons (λ y. g (edge_of y)) x xs in
    let one : sum_below (only_at g (edge_of x)) n ≡ g (edge_of x) = sum_below_only g (edge_of x) n less in
    omega (arith, rest, more, sums, one)

-- two words of such letters one after another are such a word
append_below : (n : ℕ) (u v : List ℤ) → AreBelow n u → AreBelow n v → AreBelow n (u ++ v)
append_below n [] v first second = second
append_below n (x ∷ u) v (less, first) second = (less, append_below n u v first second)

-- the letters of a walk are labels
walk_below : (ts : List (List ℤ)) (s : ℕ) (w : List ℤ) (t : ℕ) → IsWalk ts s w t → AreBelow (edge_count ts) w
walk_below ts s [] t walk = tt
walk_below ts s (x ∷ w) t (label, start, rest) = (label, walk_below ts (triangle_of ts (inverse x)) w t rest)

-- and so are those of closed walks one after another
walks_below : (ts : List (List ℤ)) (ws : List (List ℤ)) → All (λ word. (t : ℕ) × IsWalk ts t word t) ws
    → AreBelow (edge_count ts) (flat_map (λ w. w) ws)
walks_below ts [] walks = tt
walks_below ts (w ∷ ws) walks =
    let (t, walk) = All-head (λ word. (t : ℕ) × IsWalk ts t word t) w ws walks in
    append_below (edge_count ts) w (flat_map (λ u. u) ws) (walk_below ts t w t walk)
    (walks_below ts ws (All-tail (λ word. (t : ℕ) × IsWalk ts t word t) w ws walks))

-- ---- lengths of images

-- the image of a letter is as long as that of the label of its edge
letter_long : WordLaws → (f : ℤ → List ℤ) → IsOdd f → (x : ℤ) → length (f x) ≡ length (f (pos (edge_of x)))
letter_long words f odd (pos n) = refl
letter_long words f odd (negsuc n) = ap length (odd (pos n)) ∙ words.inverses.as_long (f (pos n))

-- the letters of a map are summed over the edges
letters_are : (f : ℤ → List ℤ) (n : ℕ) → letters_below n f ≡ sum_below (λ e. length (f (pos e))) n
unfolding sum_below
letters_are f zero = refl
letters_are f (suc n) = ap (λ (k : ℕ). k + length (f (pos n))) (letters_are f n)

-- each letter counts one
ones_long : (w : List ℤ) → sum_by (λ x. 1) w ≡ length w
ones_long [] = refl
ones_long (x ∷ w) =
    let rest : sum_by (λ y. 1) w ≡ length w = ones_long w in
    let more : sum_by (λ y. 1) (x ∷ w) ≡ 1 + sum_by (λ y. 1) w = sum_by-cons (λ y. 1) x w in omega (arith, rest, more)

-- words cross all edges together at most as often as they have letters
crossings_most : (ws : List (List ℤ)) (n : ℕ) → sum_below (λ e. crossings e ws) n ≤ length (flat_map (λ w. w) ws)
crossings_most ws n =
    let counted : sum_below (λ e. crossings e ws) n ≤ sum_by (λ x. 1) (flat_map (λ w. w) ws) =
    on_edges_most (λ e. 1) (flat_map (λ w. w) ws) n in
    omega (arith, counted, ones_long (flat_map (λ w. w) ws))

-- the image of a word that crosses each edge at most so often has at most that many times the letters of the map
crossed_letters : WordLaws → (f : ℤ → List ℤ) → IsOdd f → (n most : ℕ) (w : List ℤ) → AreBelow n w
    → ((e : ℕ) → e < n → count_by (λ x. nat_eq (edge_of x) e) w ≤ most)
    → length (flat_map f w) ≤ most * letters_below n f
crossed_letters words f odd n most w below few =
    let long : length (flat_map f w) ≡ sum_by (λ x. length (f x)) w = length-flat_map f w in
    let edges : sum_by (λ x. length (f x)) w ≤ sum_by (λ x. length (f (pos (edge_of x)))) w =
    sum_by-le-sum_by (λ x. length (f x)) (λ x. length (f (pos (edge_of x)))) w
    (λ x. let same = letter_long words f odd x in omega (arith, same)) in
    let parts : sum_by (λ x. length (f (pos (edge_of x)))) w ≡ sum_below (on_edge (λ e. length (f (pos e))) w) n =
    on_edges_all (λ e. length (f (pos e))) w n below in
    let each : sum_below (on_edge (λ e. length (f (pos e))) w) n ≤ sum_below (λ e. most * length (f (pos e))) n =
    sum_below_most (on_edge (λ e. length (f (pos e))) w) (λ e. most * length (f (pos e))) n
    (λ e less. subst (λ (k : ℕ). k ≤ most * length (f (pos e))) (sym (on_edge_is (λ i. length (f (pos i))) w e))
    (mul-le-mul_right (length (f (pos e))) (few e less))) in
    let times : sum_below (λ e. most * length (f (pos e))) n ≡ most * sum_below (λ e. length (f (pos e))) n =
    sum_below_times most (λ e. length (f (pos e))) n in
    let letters : most * letters_below n f ≡ most * sum_below (λ e. length (f (pos e))) n =
    ap (λ (k : ℕ). most * k) (letters_are f n) in
    let first : length (flat_map f w) ≤ sum_below (λ e. most * length (f (pos e))) n =
    omega (arith, long, edges, parts, each) in
    subst (λ (k : ℕ). length (flat_map f w) ≤ k) (times ∙ sym letters) first

-- an image vector counts at most the letters of the images of the letters of a drawing
image_letters : WordLaws → (ts : List (List ℤ)) (f : ℤ → List ℤ) (v image : List ℕ) → IsImageVector ts v f image
    → (runs : List (List State)) → IsDrawing ts v runs
    → sum image ≤ length (flat_map f (flat_map (λ w. w) (words_of runs)))
image_letters words ts f v image images runs drawn =
    let sized : length image ≡ edge_count ts = images.one_per_edge in
    let whole : sum (take (edge_count ts) image) ≡ sum image =
    ap sum (take_all (edge_count ts) image (omega (arith, sized))) in
    let summed : sum (take (edge_count ts) image)
    ≡ sum_below (λ e. crossings e (images_under f (words_of runs))) (edge_count ts) =
    sum_is image (λ e. crossings e (images_under f (words_of runs))) (edge_count ts) (omega (arith, sized))
    (images.counts runs drawn) in
    let crossed : sum_below (λ e. crossings e (images_under f (words_of runs))) (edge_count ts)
    ≤ length (flat_map (λ w. w) (images_under f (words_of runs))) =
    crossings_most (images_under f (words_of runs)) (edge_count ts) in
    let shorter : length (flat_map (λ w. w) (images_under f (words_of runs)))
    ≤ length (flat_map f (flat_map (λ w. w) (words_of runs))) = images_short words f (words_of runs) in
    omega (arith, whole, summed, crossed, shorter)

-- The image of a multicurve has at most as many crossings as the letters of the map allow, each taken as often as the
-- multicurve crosses an edge at most.
pub image_total : WordLaws → (ts : List (List ℤ)) → DrawingLaws ts → (f : ℤ → List ℤ) → IsOdd f
    → (v image : List ℕ) → IsMulticurve ts v → IsImageVector ts v f image → (most : ℕ)
    → ((e : ℕ) → e < edge_count ts → slice_index v e ≤ most) → sum image ≤ most * letters_of ts f
image_total words ts drawing f odd v image curve images most few =
    let drawn : IsDrawing ts v (draw ts v) = drawing.exists v curve in
    let letters : sum image ≤ length (flat_map f (flat_map (λ w. w) (words_of (draw ts v)))) =
    image_letters words ts f v image images (draw ts v) drawn in
    let crossed : length (flat_map f (flat_map (λ w. w) (words_of (draw ts v)))) ≤ most * letters_of ts f =
    crossed_letters words f odd (edge_count ts) most (flat_map (λ w. w) (words_of (draw ts v)))
    (walks_below ts (words_of (draw ts v)) (drawing.walks v (draw ts v) curve drawn))
    (λ e less. subst (λ (k : ℕ). k ≤ most) (sym (drawing.counts v (draw ts v) curve drawn e less)) (few e less)) in
    le_trans letters crossed
