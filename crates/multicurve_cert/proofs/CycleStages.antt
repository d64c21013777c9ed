-- All cycles: letter by letter in the order of their first letters, and length by length.
use Rattle.std.proofs.Common.{ℕ, ℤ, pos, negsuc, List, [], ◌∷◌, ◌++◌, ◌≡◌, ◌⊎◌, inl, inr, ◌+◌, ◌*◌, ◌<◌, ◌≤◌, refl, sym, ◌∙◌, ap, subst}
use Rattle.std.proofs.Common.{arith, length, map}
use Rattle.std.proofs.lemmas.Bool.{cases_lt}
use Rattle.std.proofs.lemmas.List.{length-map}
use Rattle.ideal_tri.specs.LabelLaws.{OrderLaws}
use Rattle.ideal_tri.specs.Triangulations.{edge_count}
use Rattle.ideal_tri.specs.Vertices.{rank}
use Rattle.ideal_tri.specs.WordLaws.{WordLaws}
use Rattle.multicurve_cert.proofs.CyclePrefixes.{no_negative}
use Rattle.free_groupoid.specs.Walks.{DualWalk, walk_of_letters}
use Rattle.multicurve_cert.specs.Cycles.{IsBefore, IsWordBefore, IsCycle, AreCycleWalks, letter_limit}
use Rattle.multicurve_cert.specs.inside.CycleParts.{Adds, IsCycleOf, IsCycleFrom}
use Rattle.multicurve_cert.proofs.CycleLists.{adds_none, adds_join, adds_same}

-- ---- the cycles of one length whose first letters have ranks below k

pub record BeginsBelow (triples : List (List ℤ)) (n k : ℕ) (w : List ℤ) : Type 0 where
  pub cycle : IsCycleOf triples n w
  pub first : ℤ
  pub rest : List ℤ
  pub is_word : w ≡ first ∷ rest
  pub below : rank first < k

pub below_none : (triples : List (List ℤ)) (n : ℕ) (walks : List DualWalk) → Adds triples (BeginsBelow triples n 0) walks walks
below_none triples n walks =
    adds_none triples (BeginsBelow triples n 0) walks (λ w h. let low : rank h.first < 0 = h.below in omega arith)

below_before : (triples : List (List ℤ)) (n k : ℕ) (x : ℤ) → rank x ≡ k → (u v : List ℤ) → BeginsBelow triples n k u
    → IsCycleFrom triples n (x ∷ []) v → IsBefore u v
below_before triples n k x is_k u v h g =
    let low : rank h.first < k = h.below in
    inr (
      h.cycle.of_length ∙ sym g.cycle.of_length,
      subst (λ (z : List ℤ). IsWordBefore z v) (sym h.is_word)
          (subst (IsWordBefore (h.first ∷ h.rest)) (sym g.begins) (inl (omega arith))),
    )

below_wider : (triples : List (List ℤ)) (n k : ℕ) (w : List ℤ) → BeginsBelow triples n k w → BeginsBelow triples n (k + 1) w
below_wider triples n k w h = let low : rank h.first < k = h.below in record {
  cycle = h.cycle;
  first = h.first;
  rest = h.rest;
  is_word = h.is_word;
  below = omega arith;
}

below_new : (triples : List (List ℤ)) (n k : ℕ) (x : ℤ) → rank x ≡ k → (w : List ℤ) → IsCycleFrom triples n (x ∷ []) w
    → BeginsBelow triples n (k + 1) w
below_new triples n k x is_k w g = record {
  cycle = g.cycle;
  first = x;
  rest = g.rest;
  is_word = g.begins;
  below = omega arith;
}

below_either : OrderLaws → (triples : List (List ℤ)) (n k : ℕ) (x : ℤ) → rank x ≡ k → (w : List ℤ)
    → BeginsBelow triples n (k + 1) w → BeginsBelow triples n k w ⊎ IsCycleFrom triples n (x ∷ []) w
below_either order triples n k x is_k w h =
    let low : rank h.first < k + 1 = h.below in
    elim (cases_lt (rank h.first) k) as (λ _. BeginsBelow triples n k w ⊎ IsCycleFrom triples n (x ∷ []) w) [
      | inl less ↦
          inl (record { cycle = h.cycle; first = h.first; rest = h.rest; is_word = h.is_word; below = less })
      | inr more ↦
          (let same : rank h.first ≡ rank x = omega arith in
          inr (record {
            cycle = h.cycle;
            rest = h.rest;
            begins = h.is_word ∙ ap (λ (z : ℤ). z ∷ h.rest) (order.one h.first x same);
          }))
    ]

pub below_letter : OrderLaws → (triples : List (List ℤ)) (n k : ℕ) (x : ℤ) (old mid new : List DualWalk) → rank x ≡ k
    → Adds triples (BeginsBelow triples n k) old mid → Adds triples (IsCycleFrom triples n (x ∷ [])) mid new
    → Adds triples (BeginsBelow triples n (k + 1)) old new
below_letter order triples n k x old mid new is_k left right =
    adds_join triples (BeginsBelow triples n k) (IsCycleFrom triples n (x ∷ [])) (BeginsBelow triples n (k + 1)) old mid new
    left right (below_before triples n k x is_k) (below_wider triples n k) (below_new triples n k x is_k)
    (below_either order triples n k x is_k)

-- the negative label of an edge begins no cycle
skip_negative : WordLaws → OrderLaws → (triples : List (List ℤ)) (n e : ℕ) (w : List ℤ)
    → BeginsBelow triples n (2 * (e + 1)) w → BeginsBelow triples n (2 * e + 1) w
skip_negative words order triples n e w h =
    let low : rank h.first < 2 * (e + 1) = h.below in
    elim (cases_lt (rank h.first) (2 * e + 1)) as (λ _. BeginsBelow triples n (2 * e + 1) w) [
      | inl less ↦ record { cycle = h.cycle; first = h.first; rest = h.rest; is_word = h.is_word; below = less }
      | inr more ↦
          (let same : rank h.first ≡ 2 * e + 1 = omega arith in
          let negative : h.first ≡ negsuc e = order.one h.first (negsuc e) same in
          absurd (no_negative words triples e h.rest
          (subst (IsCycle triples) (h.is_word ∙ ap (λ (z : ℤ). z ∷ h.rest) negative) h.cycle.cycle)))
    ]

pub below_edge : WordLaws → OrderLaws → (triples : List (List ℤ)) (n e : ℕ) (x : ℤ) (old mid new : List DualWalk)
    → x ≡ pos e → Adds triples (BeginsBelow triples n (2 * e)) old mid
    → Adds triples (IsCycleFrom triples n (x ∷ [])) mid new → Adds triples (BeginsBelow triples n (2 * (e + 1))) old new
below_edge words order triples n e x old mid new is_x so_far here =
    adds_same triples (BeginsBelow triples n (2 * e + 1)) (BeginsBelow triples n (2 * (e + 1))) old new
    (below_letter order triples n (2 * e) x old mid new (ap rank is_x) so_far here)
    (λ w h. let low : rank h.first < 2 * e + 1 = h.below in
    record { cycle = h.cycle; first = h.first; rest = h.rest; is_word = h.is_word; below = omega arith })
    (skip_negative words order triples n e)

-- the first letter of a cycle is a label
begins_low : OrderLaws → (triples : List (List ℤ)) (n : ℕ) (w : List ℤ) → IsCycleOf triples n w
    → BeginsBelow triples n (2 * edge_count triples) w
begins_low order triples n [] h = absurd h.cycle.loop
begins_low order triples n (x ∷ w) h = record {
  cycle = h;
  first = x;
  rest = w;
  is_word = refl;
  below = order.rank_below x (edge_count triples) h.cycle.loop.0.0;
}

pub below_all : OrderLaws → (triples : List (List ℤ)) (n k : ℕ) (old new : List DualWalk) → k ≡ 2 * edge_count triples
    → Adds triples (BeginsBelow triples n k) old new → Adds triples (IsCycleOf triples n) old new
below_all order triples n k old new is_k h =
    adds_same triples (BeginsBelow triples n k) (IsCycleOf triples n) old new h (λ w g. g.cycle)
    (λ w g. subst (λ (j : ℕ). BeginsBelow triples n j w) (sym is_k) (begins_low order triples n w g))

-- ---- the cycles of less than n letters

pub record IsShorter (triples : List (List ℤ)) (n : ℕ) (w : List ℤ) : Type 0 where
  pub cycle : IsCycle triples w
  pub short : length w < n

pub shorter_none : (triples : List (List ℤ)) (walks : List DualWalk) → Adds triples (IsShorter triples 1) walks walks
shorter_none triples walks = adds_none triples (IsShorter triples 1) walks (λ w h. none w h.cycle h.short)
  where
    none : (w : List ℤ) → IsCycle triples w → length w < 1 → ⊥
    none [] h short = h.loop
    none (x ∷ w) h short = omega arith

pub shorter_more : (triples : List (List ℤ)) (n : ℕ) (old mid new : List DualWalk) → Adds triples (IsShorter triples n) old mid
    → Adds triples (IsCycleOf triples n) mid new → Adds triples (IsShorter triples (n + 1)) old new
shorter_more triples n old mid new left right =
    adds_join triples (IsShorter triples n) (IsCycleOf triples n) (IsShorter triples (n + 1)) old mid new left right
    (λ u v h g. let short : length u < n = h.short in let long : length v ≡ n = g.of_length in inl (omega arith))
    (λ w h. let short : length w < n = h.short in record { cycle = h.cycle; short = omega arith })
    (λ w g. let long : length w ≡ n = g.of_length in record { cycle = g.cycle; short = omega arith })
    (λ w h. either w h (cases_lt (length w) n))
  where
    either : (w : List ℤ) → IsShorter triples (n + 1) w → (length w < n) ⊎ (n ≤ length w)
        → IsShorter triples n w ⊎ IsCycleOf triples n w
    either w h (inl less) = inl (record { cycle = h.cycle; short = less })
    either w h (inr more) =
        let short : length w < n + 1 = h.short in inr (record { cycle = h.cycle; of_length = omega arith })

-- no cycle has more than eight letters
pub all_cycles : (triples : List (List ℤ)) (n : ℕ) (old new : List DualWalk) → old ≡ [] → letter_limit < n
    → Adds triples (IsShorter triples n) old new → (words : List (List ℤ)) × AreCycleWalks triples words new
all_cycles triples n old new is_old many h =
    let all = adds_same triples (IsShorter triples n) (IsCycle triples) old new h (λ w g. g.cycle)
    (λ w g. let short : length w ≤ letter_limit = g.short in record { cycle = g; short = omega arith }) in (
      all.words,
      (
        record { each = all.list.each; all = all.list.all; rising = all.list.rising },
        all.added ∙ ap (λ (z : List DualWalk). z ++ map (walk_of_letters triples) all.words) is_old,
      ),
    )

-- as many walks as cycles
pub some_walk : (triples : List (List ℤ)) (words : List (List ℤ)) (walks : List DualWalk) → AreCycleWalks triples words walks
    → (w : List ℤ) × IsCycle triples w → 0 < length walks
some_walk triples words walks h (w, cycle) =
    let (k, inside, at) = h.0.all w cycle in
    omega (arith, ap length h.1, length-map words (walk_of_letters triples))
