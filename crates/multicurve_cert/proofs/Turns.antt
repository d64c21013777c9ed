-- A closed walk turns round corners: it crosses each side as often as it turns round the corners at the two ends.
use Rattle.std.proofs.Common.{◌≡◌, ◌≢◌, ◌+◌, inl, inr, ℕ, ℤ, List, [], ◌∷◌, ◌++◌, Bool}
use Rattle.std.proofs.Common.{true, false, cond, nat_eq, count_by, refl, sym, ◌∙◌, ap, arith}
use Rattle.std.specs.Ordering.{int_eq}
use Rattle.std.proofs.lemmas.Bool.{eq-eqb, eqb-true, false_from_ne_true}
use Rattle.std.proofs.lemmas.List.Sums.{sum_by-cons}
use Rattle.ideal_tri.specs.Labels.{inverse, edge_of}
use Rattle.ideal_tri.specs.LabelLaws.{LabelLaws}
use Rattle.ideal_tri.specs.SurfaceLaws.{TriangleLaws}
use Rattle.ideal_tri.specs.Triangulations.{IsLabel, IsWalk, triangle_of, next, previous}
use Rattle.ideal_tri.specs.Words.{IsReduced}

-- ---- one turn

-- 1 where it holds
abbrev one_if : Bool → ℕ
one_if b = cond b 1 0

-- 1 where both hold
abbrev both : Bool → Bool → ℕ
both b c = cond b (one_if c) 0

-- 1 where the two are the same label
abbrev same : ℤ → ℤ → ℕ
same x y = one_if (int_eq x y)

-- a walk that enters a triangle through side a and leaves through side v turns round the corner of y, one way or the
-- other
abbrev turn : List (List ℤ) → ℤ → ℤ → ℤ → ℕ
turn triples a v y =
    both (int_eq a y) (int_eq v (next triples y)) + both (int_eq v y) (int_eq a (next triples y))

-- v and a for being x, v-next and a-next for the side after it, v-before and a-before for the one before
counted : (v a v-next a-next v-before a-before : Bool) → (v ≡ true → a ≡ true → ⊥)
    → (v ≡ true → one_if a-next + one_if a-before ≡ 1) → (a ≡ true → one_if v-next + one_if v-before ≡ 1)
    → one_if v + one_if a ≡ (both a v-next + both v a-next) + (both a-before v + both v-before a)
counted true true v-next a-next v-before a-before apart one other = absurd (apart refl refl)
counted true false v-next a-next true a-before apart one other =
    let e : one_if a-next + one_if a-before ≡ 1 = one refl in omega arith
counted true false v-next a-next false a-before apart one other =
    let e : one_if a-next + one_if a-before ≡ 1 = one refl in omega arith
counted false true v-next a-next v-before true apart one other =
    let e : one_if v-next + one_if v-before ≡ 1 = other refl in omega arith
counted false true v-next a-next v-before false apart one other =
    let e : one_if v-next + one_if v-before ≡ 1 = other refl in omega arith
counted false false v-next a-next true true apart one other = omega arith
counted false false v-next a-next true false apart one other = omega arith
counted false false v-next a-next false true apart one other = omega arith
counted false false v-next a-next false false apart one other = omega arith

module _ (triples : List (List ℤ)) (labels : LabelLaws) (laws : TriangleLaws triples) where
  same_label : (x y : ℤ) → int_eq x y ≡ true → x ≡ y
  same_label x y test = elim (labels.same_or_not x y) [
    | inl e ↦ e
    | inr apart ↦ absurd (let no : true ≡ false = sym test ∙ labels.test_other x y apart in grind arith)
  ]

  next_not_before : (x : ℤ) → IsLabel triples x → next triples x ≢ previous triples x
  next_not_before x here e = (laws.moves (next triples x) (laws.label x here)).0 (sym e)

  -- another side of the triangle of x is either the next or the one before
  one_of : (x y : ℤ) → IsLabel triples x → IsLabel triples y → triangle_of triples y ≡ triangle_of triples x → y ≢ x
      → same y (next triples x) + same y (previous triples x) ≡ 1
  one_of x y here there beside apart = elim (laws.sides x y here there beside) [
    | inl e ↦ absurd (apart e)
    | inr (inl e) ↦
        ap (λ (b : Bool). cond b 1 0 + same y (previous triples x)) (labels.test_same _ _ e)
        ∙ ap (λ (b : Bool). 1 + cond b 1 0) (labels.test_other y (previous triples x)
        (λ f. next_not_before x here (sym e ∙ f)))
    | inr (inr e) ↦
        ap (λ (b : Bool). same y (next triples x) + cond b 1 0) (labels.test_same _ _ e)
        ∙ ap (λ (b : Bool). cond b 1 0 + 1) (labels.test_other y (next triples x)
        (λ f. next_not_before x here (sym f ∙ e)))
  ]

  turned : (x a v : ℤ) → IsLabel triples x → IsLabel triples a → IsLabel triples v
      → triangle_of triples v ≡ triangle_of triples a → v ≢ a
      → same v x + same a x ≡ turn triples a v x + turn triples a v (previous triples x)
  turned x a v here a-here v-here beside apart =
      counted (int_eq v x) (int_eq a x) (int_eq v (next triples x)) (int_eq a (next triples x))
      (int_eq v (previous triples x)) (int_eq a (previous triples x))
      (λ v-is a-is. apart (same_label v x v-is ∙ sym (same_label a x a-is)))
      (λ v-is. let e : v ≡ x = same_label v x v-is in
      one_of x a here a-here (sym beside ∙ ap (triangle_of triples) e) (λ f. apart (e ∙ sym f)))
      (λ a-is. let e : a ≡ x = same_label a x a-is in
      one_of x v here v-here (beside ∙ ap (triangle_of triples) e) (λ f. apart (f ∙ sym e)))
      ∙ ap (λ (y : ℤ). turn triples a v x + (both (int_eq a (previous triples x)) (int_eq v y)
      + both (int_eq v (previous triples x)) (int_eq a y))) (sym (laws.round x here))

-- ---- all turns

-- how often a walk of these letters turns round the corner of y, which begins with u
abbrev pub turns : List (List ℤ) → ℤ → ℤ → List ℤ → ℕ
turns triples y u [] = 0
turns triples y u (v ∷ rest) = turn triples (inverse u) v y + turns triples y v rest

-- how often it enters or leaves through x
abbrev passes : ℤ → ℤ → List ℤ → ℕ
passes x u [] = 0
passes x u (v ∷ rest) = same v x + same (inverse u) x + passes x v rest

-- how often the letters are x or its inverse
abbrev crossed : ℤ → List ℤ → ℕ
crossed x [] = 0
crossed x (v ∷ rest) = same v x + same (inverse v) x + crossed x rest

-- each letter leaves the triangle that the one before it enters, through another side
abbrev Goes : List (List ℤ) → ℤ → List ℤ → Type 0
Goes triples u [] = Unit {0}
Goes triples u (v ∷ rest) =
    IsLabel triples (inverse u) × IsLabel triples v × (triangle_of triples v ≡ triangle_of triples (inverse u))
    × (v ≢ inverse u) × Goes triples v rest

passes_turns : (triples : List (List ℤ)) (labels : LabelLaws) (laws : TriangleLaws triples) (x u : ℤ) (rest : List ℤ)
    → IsLabel triples x → Goes triples u rest
    → passes x u rest ≡ turns triples x u rest + turns triples (previous triples x) u rest
passes_turns triples labels laws x u [] here goes = omega arith
passes_turns triples labels laws x u (v ∷ rest) here goes =
    let first : same v x + same (inverse u) x
    ≡ turn triples (inverse u) v x + turn triples (inverse u) v (previous triples x) =
    turned triples labels laws x (inverse u) v here goes.0 goes.1 goes.2 goes.3 in
    let others : passes x v rest ≡ turns triples x v rest + turns triples (previous triples x) v rest =
    passes_turns triples labels laws x v rest here goes.4 in
    omega arith

-- round a closed walk each letter is left and entered once
passes_crossed : (x u z : ℤ) (rest : List ℤ) → passes x u (rest ++ z ∷ []) + same u x ≡ crossed x (u ∷ rest) + same z x
passes_crossed x u z [] = omega arith
passes_crossed x u z (v ∷ rest) =
    let others : passes x v (rest ++ z ∷ []) + same v x ≡ crossed x (v ∷ rest) + same z x =
    passes_crossed x v z rest in
    omega arith

goes_round : (triples : List (List ℤ)) (labels : LabelLaws) (u z : ℤ) (rest : List ℤ) (t : ℕ) → IsLabel triples u
    → IsWalk triples (triangle_of triples (inverse u)) rest t → IsLabel triples z → triangle_of triples z ≡ t
    → IsReduced (u ∷ (rest ++ z ∷ [])) → Goes triples u (rest ++ z ∷ [])
goes_round triples labels u z [] t here walk last end reduced =
    (labels.label triples u here, last, end ∙ sym walk, reduced.0, tt)
goes_round triples labels u z (v ∷ rest) t here walk last end reduced = (
  labels.label triples u here,
  walk.0,
  walk.1,
  reduced.0,
  goes_round triples labels v z rest t walk.0 walk.2 last end reduced.1,
)

-- ---- the edges of the letters

-- y and x are of one edge where they are the same or inverse to each other
edge_test : (labels : LabelLaws) (y x : ℤ) → y ≢ x → inverse y ≢ x → nat_eq (edge_of y) (edge_of x) ≡ false
edge_test labels y x apart opposed = false_from_ne_true _ (λ test. elim (labels.of_edge y x (eqb-true _ _ test)) [
  | inl e ↦ apart e
  | inr e ↦ opposed (ap inverse e ∙ labels.twice x)
])

same_is : (labels : LabelLaws) (y x : ℤ) → y ≡ x → same y x ≡ 1
same_is labels y x e = ap one_if (labels.test_same y x e)

same_is_not : (labels : LabelLaws) (y x : ℤ) → y ≢ x → same y x ≡ 0
same_is_not labels y x apart = ap one_if (labels.test_other y x apart)

test_is : (b c : Bool) → b ≡ c → one_if b ≡ one_if c
test_is b c e = ap one_if e

other_edge : (labels : LabelLaws) (y x : ℤ) → y ≢ x
    → one_if (nat_eq (edge_of y) (edge_of x)) ≡ same y x + same (inverse y) x
other_edge labels y x apart = elim (labels.same_or_not (inverse y) x) [
  | inl e ↦ omega (
    arith,
    same_is_not labels y x apart,
    same_is labels (inverse y) x e,
    test_is _ true (eq-eqb _ _ (sym (labels.edge y) ∙ ap edge_of e)),
  )
  | inr opposed ↦ omega (
    arith,
    same_is_not labels y x apart,
    same_is_not labels (inverse y) x opposed,
    test_is _ false (edge_test labels y x apart opposed),
  )
]

same_edge : (labels : LabelLaws) (y x : ℤ)
    → one_if (nat_eq (edge_of y) (edge_of x)) ≡ same y x + same (inverse y) x
same_edge labels y x = elim (labels.same_or_not y x) [
  | inl e ↦ omega (
    arith,
    same_is labels y x e,
    same_is_not labels (inverse y) x (λ f. labels.apart y (e ∙ sym f)),
    test_is _ true (eq-eqb _ _ (ap edge_of e)),
  )
  | inr apart ↦ other_edge labels y x apart
]

count_more : (p : ℤ → Bool) (y : ℤ) (w : List ℤ) → count_by p (y ∷ w) ≡ one_if (p y) + count_by p w
count_more p y w = sum_by-cons (λ x. one_if (p x)) y w

crossed_is : (labels : LabelLaws) (x : ℤ) (w : List ℤ) → count_by (λ y. nat_eq (edge_of y) (edge_of x)) w ≡ crossed x w
crossed_is labels x [] = refl
crossed_is labels x (y ∷ w) =
    let here : one_if (nat_eq (edge_of y) (edge_of x)) ≡ same y x + same (inverse y) x = same_edge labels y x in
    let others : count_by (λ z. nat_eq (edge_of z) (edge_of x)) w ≡ crossed x w = crossed_is labels x w in
    omega (arith, count_more (λ z. nat_eq (edge_of z) (edge_of x)) y w)

-- a closed walk with nothing to reduce crosses the edge of x as often as it turns round the corners at the ends
pub crossed_turns : (triples : List (List ℤ)) (labels : LabelLaws) (laws : TriangleLaws triples) (x u : ℤ)
    (rest : List ℤ) → IsLabel triples x
    → IsWalk triples (triangle_of triples u) (u ∷ rest) (triangle_of triples u)
    → IsReduced (u ∷ (rest ++ u ∷ []))
    → count_by (λ y. nat_eq (edge_of y) (edge_of x)) (u ∷ rest)
    ≡ turns triples x u (rest ++ u ∷ []) + turns triples (previous triples x) u (rest ++ u ∷ [])
crossed_turns triples labels laws x u rest here walk reduced =
    let goes = goes_round triples labels u u rest (triangle_of triples u) walk.0 walk.2 walk.0 refl reduced in
    let turned_all : passes x u (rest ++ u ∷ [])
    ≡ turns triples x u (rest ++ u ∷ []) + turns triples (previous triples x) u (rest ++ u ∷ []) =
    passes_turns triples labels laws x u (rest ++ u ∷ []) here goes in
    omega (arith, passes_crossed x u u rest, crossed_is labels x (u ∷ rest))
