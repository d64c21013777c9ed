-- What is read of rays letter by letter and ray by ray.
--
-- The common prefix of two words is found letter by letter: as far as they agree, it is what has been read, and then
-- that of the rests; where they differ, or one ends, that of the rests is empty. What several rays have in common is
-- found ray by ray, and so is the greatest number of letters that a word has in common with one of them: in each case
-- what has been found so far, with the rays that are left, gives the whole.
use Rattle.std.proofs.Common.{ℕ, ℤ, List, [], ◌∷◌, ◌++◌, ◌≡◌, ◌≢◌, ◌<◌, ◌≤◌, ◌+◌, ◌⊎◌, inl, inr, refl, sym}
use Rattle.std.proofs.Common.{◌∙◌, ap, arith, length, get_or, append_assoc}
use Rattle.std.proofs.Common.{true, false, Bool, cond, ◌==◌, Less, Equal, Greater}
use Rattle.std.specs.Prelude.{take, drop, max, min}
use Rattle.std.specs.Ordering.{ord_max, nat_cmp, is_lt}
use Rattle.std.proofs.lemmas.Bool.{cases_lt, lt-ltb, le-ltb}
use Rattle.std.proofs.lemmas.List.{append-nil, drop_more, drop_all, take_more, length-take-le, get_or_default}
use Rattle.ideal_tri.specs.LabelLaws.{LabelLaws}
use Rattle.free_groupoid.specs.Walks.{DualWalk}
use Rattle.train_track.specs.Branches.{words_of}
use Rattle.carry_map.specs.inside.Rays.{common_prefix, common_with, common_of, shared, most_shared}
use Rattle.carry_map.proofs.CommonPrefixes.{common_same, common_other}

-- ---- two words

-- what has been read of their common prefix
abbrev pub IsReadTo : List ℤ → List ℤ → ℕ → Type 0
IsReadTo u v i = common_prefix u v ≡ take i u ++ common_prefix (drop i u) (drop i v)

module _ (labels : LabelLaws) (u v : List ℤ) (i : ℕ) (read : IsReadTo u v i) where
  read_on : i < length u → i < length v → (d : ℤ) → get_or u i d ≡ get_or v i d → IsReadTo u v (i + 1)
  read_on less less' d same =
      let x : ℤ = get_or u i d in
      read
      ∙ ap (λ (k : List ℤ). take i u ++ common_prefix k (drop i v)) (drop_more u i d less)
      ∙ ap (λ (k : List ℤ). take i u ++ common_prefix (x ∷ drop (i + 1) u) k)
      (drop_more v i d less' ∙ ap (λ (z : ℤ). z ∷ drop (i + 1) v) (sym same))
      ∙ ap (λ (k : List ℤ). take i u ++ k) (common_same labels x (drop (i + 1) u) (drop (i + 1) v))
      ∙ sym (append_assoc (take i u) (x ∷ []) (common_prefix (drop (i + 1) u) (drop (i + 1) v)))
      ∙ ap (λ (k : List ℤ). k ++ common_prefix (drop (i + 1) u) (drop (i + 1) v)) (sym (take_more u i d less))

  read_up : common_prefix (drop i u) (drop i v) ≡ [] → take i u ≡ common_prefix u v
  read_up e = sym (read ∙ ap (λ (k : List ℤ). take i u ++ k) e ∙ append-nil (take i u))

  read_to_difference : i < length u → i < length v → (d : ℤ) → get_or u i d ≢ get_or v i d
      → take i u ≡ common_prefix u v
  read_to_difference less less' d other =
      read_up
      (ap (λ (k : List ℤ). common_prefix k (drop i v)) (drop_more u i d less)
      ∙ ap (common_prefix (get_or u i d ∷ drop (i + 1) u)) (drop_more v i d less')
      ∙ common_other labels (get_or u i d) (get_or v i d) (drop (i + 1) u) (drop (i + 1) v) other)

  nothing : (w : List ℤ) → common_prefix w [] ≡ []
  nothing [] = refl
  nothing (x ∷ w) = refl

  -- at two letters that were read
  pub read_same : (x y : ℤ) → i < length u → i < length v → x ≡ get_or u i x → y ≡ get_or v i y
      → x ≡ y → IsReadTo u v (i + 1)
  read_same x y less less' is is' same =
      read_on less less' x
      (sym is ∙ same ∙ is' ∙ get_or_default v i y x less')

  pub read_other : (x y : ℤ) → i < length u → i < length v → x ≡ get_or u i x → y ≡ get_or v i y
      → x ≢ y → take i u ≡ common_prefix u v
  read_other x y less less' is is' other =
      read_to_difference less less' x
      (λ e. other (is ∙ e ∙ get_or_default v i x y less' ∙ sym is'))

  pub read_to_end : (length u ≤ i) ⊎ (length v ≤ i) → take i u ≡ common_prefix u v
  read_to_end (inl short) = read_up (ap (λ (k : List ℤ). common_prefix k (drop i v)) (drop_all i u short))
  read_to_end (inr short) = read_up (ap (common_prefix (drop i u)) (drop_all i v short) ∙ nothing (drop i u))

-- up to the end of the shorter one
pub read_all : (labels : LabelLaws) (u v : List ℤ) (i most : ℕ) → IsReadTo u v i → most ≡ min (length u) (length v)
    → i ≤ most → most ≤ i → take most u ≡ common_prefix u v
read_all labels u v i most read shorter low high =
    ap (λ (k : ℕ). take k u) (omega arith)
    ∙ read_to_end labels u v i read
    (elim (cases_lt (length v) (length u)) [ inl less ↦ inr (omega arith) | inr above ↦ inl (omega arith) ])

pub counted : (n : ℕ) (u p : List ℤ) → n ≤ length u → take n u ≡ p → n ≡ length p
counted n u p within e = sym (length-take-le n u within) ∙ ap length e

-- ---- a word and several rays

-- the greatest number so far, and that of the rays that are left
abbrev pub IsMostSoFar : List ℤ → List DualWalk → ℕ → ℕ → Type 0
IsMostSoFar u rays i most = max most (shared u (words_of (drop i rays))) ≡ shared u (words_of rays)

module _ (rays : List DualWalk) (i : ℕ) (ray : DualWalk) (less : i < length rays) (is : ray ≡ get_or rays i ray) where
  pub ray_next : drop i rays ≡ ray ∷ drop (i + 1) rays
  ray_next = drop_more rays i ray less ∙ ap (λ (r : DualWalk). r ∷ drop (i + 1) rays) (sym is)

  pub most_on : (u v : List ℤ) (most n more : ℕ) → v ≡ ray.letters → n ≤ length u → take n u ≡ common_prefix u v
      → more ≡ max most n → IsMostSoFar u rays i most → IsMostSoFar u rays (i + 1) more
  most_on u v most n more letters within e is_more so_far =
      let n_is : n ≡ length (common_prefix u ray.letters)
      = counted n u (common_prefix u v) within e ∙ ap (λ (k : List ℤ). length (common_prefix u k)) letters in
      let before : max most (max (length (common_prefix u ray.letters)) (shared u (words_of (drop (i + 1) rays))))
      ≡ shared u (words_of rays)
      = ap (λ (k : List DualWalk). max most (shared u (words_of k))) (sym ray_next) ∙ so_far in
      omega (arith, n_is, before, is_more)

pub most_end : (u : List ℤ) (rays : List DualWalk) (i most : ℕ) → length rays ≤ i → IsMostSoFar u rays i most
    → most ≡ shared u (words_of rays)
most_end u rays i most all so_far =
    let end : max most 0 ≡ shared u (words_of rays)
    = ap (λ (k : List DualWalk). max most (shared u (words_of k))) (sym (drop_all i rays all)) ∙ so_far in
    omega (arith, end)

pub greater : (a b : ℕ) → ord_max nat_cmp a b ≡ max a b
greater a b = elim (cases_lt b a) [
  | inl less ↦
      ap (λ (t : Bool). cond (is_lt (cond t Less (cond (b == a) Equal Greater))) a b) (lt-ltb b a less) ∙ omega arith
  | inr above ↦
      ap (λ (t : Bool). cond (is_lt (cond t Less (cond (b == a) Equal Greater))) a b) (le-ltb b a above)
      ∙ same (b == a) ∙ omega arith
]
  where
    same : (t : Bool) → cond (is_lt (cond t Equal Greater)) a b ≡ b
    same true = refl
    same false = refl

-- ---- back rays and front rays

-- the greatest number so far, and that of the back rays that are left
abbrev pub IsMostBetween : List DualWalk → List DualWalk → ℕ → ℕ → Type 0
IsMostBetween backs fronts i most =
    max most (most_shared (words_of (drop i backs)) (words_of fronts)) ≡ most_shared (words_of backs) (words_of fronts)

pub between_on : (backs fronts : List DualWalk) (i : ℕ) (ray : DualWalk) (v : List ℤ) (most n more : ℕ)
    → i < length backs → ray ≡ get_or backs i ray → v ≡ ray.letters → n ≡ shared v (words_of fronts)
    → more ≡ max most n → IsMostBetween backs fronts i most → IsMostBetween backs fronts (i + 1) more
between_on backs fronts i ray v most n more less is letters counts is_more so_far =
    let n_is : n ≡ shared ray.letters (words_of fronts)
    = counts ∙ ap (λ (k : List ℤ). shared k (words_of fronts)) letters in
    let before : max most
    (max (shared ray.letters (words_of fronts)) (most_shared (words_of (drop (i + 1) backs)) (words_of fronts)))
    ≡ most_shared (words_of backs) (words_of fronts)
    = ap (λ (k : List DualWalk). max most (most_shared (words_of k) (words_of fronts)))
    (sym (ray_next backs i ray less is))
    ∙ so_far in
    omega (arith, n_is, before, is_more)

pub between_end : (backs fronts : List DualWalk) (i most : ℕ) → length backs ≤ i → IsMostBetween backs fronts i most
    → most ≡ most_shared (words_of backs) (words_of fronts)
between_end backs fronts i most all so_far =
    let end : max most 0 ≡ most_shared (words_of backs) (words_of fronts)
    = ap (λ (k : List DualWalk). max most (most_shared (words_of k) (words_of fronts))) (sym (drop_all i backs all))
    ∙ so_far in
    omega (arith, end)

-- ---- what several rays have in common

-- so many letters of the first ray, with the rays that are left, give what all have in common
abbrev pub IsCommonSoFar : List DualWalk → List ℤ → ℕ → ℕ → Type 0
IsCommonSoFar rays first i count =
    (count ≤ length first) × (common_with (take count first) (words_of (drop i rays)) ≡ common_of (words_of rays))
