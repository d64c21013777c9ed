-- Each label of a triangulation stands at one place, and next runs round its triangle.
--
-- A triple in which no label stands twice has three different sides, and each is followed by another. Where no label
-- stands twice in all triples, the search for a label ends at the triple that has it, so that the first triple gives a
-- triangle, and each later one is still a triangle behind one more triple. In a triangulation each label of the range
-- stands once and no other stands at all. So it has a triangle, which can be read from any of its three sides: three
-- steps of next come back, and the sides of the triangle are just these three.
use Rattle.std.proofs.Common.{ℕ, zero, ℤ, suc, Bool, ◌||◌, true, false, cond, List, [], ◌∷◌, ◌++◌, ◌≡◌, ◌≢◌, ◌≤◌, ◌<◌}
use Rattle.std.proofs.Common.{◌+◌, ◌⊎◌, inl, inr, refl, sym, ◌∙◌, ap, subst, arith, length, get_or}
use Rattle.std.specs.List.{All, Contains, count_by}
use Rattle.std.specs.Ordering.{int_eq}
use Rattle.std.proofs.lemmas.Bool.{cases_Bool, cases_lt, false≢true, lt-ltb, le-ltb}
use Rattle.std.proofs.lemmas.List.Elements.{All-head, All-tail}
use Rattle.std.proofs.lemmas.List.Sums.{sum_by-cons, sum_by-append}
use Rattle.ideal_tri.specs.Labels.{edge_of}
use Rattle.ideal_tri.specs.Triangulations.{labels_of, edge_count, IsLabel, IsTriangulation, has_side, triangle_of}
use Rattle.ideal_tri.specs.Triangulations.{next_in, next, previous}
use Rattle.ideal_tri.specs.Vertices.{corner_step, corner_after}
use Rattle.ideal_tri.specs.SurfaceLaws.{TriangleLaws}
use Rattle.ideal_tri.proofs.Labels.{same_or_not, int_eq-same, int_eq-other}

-- ---- how often a label stands in a list

abbrev pub times : ℤ → List ℤ → ℕ
times x xs = count_by (λ y. int_eq y x) xs

pub times-cons : (x y : ℤ) (ys : List ℤ) → times x (y ∷ ys) ≡ cond (int_eq y x) 1 0 + times x ys
times-cons x y ys = sum_by-cons (λ z. cond (int_eq z x) 1 0) y ys

pub times-append : (x : ℤ) (ys zs : List ℤ) → times x (ys ++ zs) ≡ times x ys + times x zs
times-append x ys zs = sum_by-append (λ z. cond (int_eq z x) 1 0) ys zs

times_here : (x y : ℤ) (ys : List ℤ) → y ≡ x → times x (y ∷ ys) ≡ 1 + times x ys
times_here x y ys e = times-cons x y ys ∙ ap (λ (b : Bool). cond b 1 0 + times x ys) (int_eq-same y x e)

times_later : (x y : ℤ) (ys : List ℤ) → y ≢ x → times x (y ∷ ys) ≡ times x ys
times_later x y ys ne =
    times-cons x y ys ∙ ap (λ (b : Bool). cond b 1 0 + times x ys) (int_eq-other y x ne) ∙ zero_plus (times x ys)
  where
    zero_plus : (n : ℕ) → 0 + n ≡ n
    zero_plus n = omega arith

has_side_here : (x y : ℤ) (ys : List ℤ) → y ≡ x → has_side x (y ∷ ys) ≡ true
has_side_here x y ys e = ap (λ (b : Bool). b || has_side x ys) (int_eq-same y x e)

has_side_later : (x y : ℤ) (ys : List ℤ) → y ≢ x → has_side x (y ∷ ys) ≡ has_side x ys
has_side_later x y ys ne = ap (λ (b : Bool). b || has_side x ys) (int_eq-other y x ne)

-- a triangle that has the side counts it
times_of_side : (x : ℤ) (t : List ℤ) → has_side x t ≡ true → 0 < times x t
times_of_side x [] h = absurd (false≢true h)
times_of_side x (y ∷ ys) h =
    elim (same_or_not y x) [
      | inl e ↦ omega (arith, times_here x y ys e)
      | inr ne ↦ omega (arith, times_later x y ys ne, times_of_side x ys (sym (has_side_later x y ys ne) ∙ h))
    ]

-- and one that hasn't does not
pub times_of_no_side : (x : ℤ) (t : List ℤ) → has_side x t ≡ false → times x t ≡ 0
times_of_no_side x [] h = refl
times_of_no_side x (y ∷ ys) h =
    elim (same_or_not y x) [
      | inl e ↦ absurd (false≢true (sym h ∙ has_side_here x y ys e))
      | inr ne ↦ times_later x y ys ne ∙ times_of_no_side x ys (sym (has_side_later x y ys ne) ∙ h)
    ]

no_side_of_times : (x : ℤ) (t : List ℤ) → times x t ≡ 0 → has_side x t ≡ false
no_side_of_times x t none =
    elim (cases_Bool (has_side x t)) [
      | inl h ↦ absurd (omega (arith, times_of_side x t h))
      | inr h ↦ h
    ]

-- ---- the three sides of a triangle

-- x stands in triangle n, and y comes after it
pub record GoesTo (triples : List (List ℤ)) (x y : ℤ) (n : ℕ) : Type 0 where
  pub counted : 0 < times x (labels_of triples)
  pub triangle : triangle_of triples x ≡ n
  pub after : next triples x ≡ y

-- triangle n has the sides x, y, z in this order, and no others
pub record Triangle (triples : List (List ℤ)) (x y z : ℤ) (n : ℕ) : Type 0 where
  pub below : n < length triples
  pub first : GoesTo triples x y n
  pub second : GoesTo triples y z n
  pub third : GoesTo triples z x n
  pub first_second : x ≢ y
  pub second_third : y ≢ z
  pub third_first : z ≢ x
  pub only : (u : ℤ) → 0 < times u (labels_of triples) → triangle_of triples u ≡ n → (u ≡ x) ⊎ ((u ≡ y) ⊎ (u ≡ z))
  pub triple : List ℤ
  pub stands : Contains triples triple
  pub is : (triple ≡ x ∷ (y ∷ (z ∷ []))) ⊎ ((triple ≡ y ∷ (z ∷ (x ∷ []))) ⊎ (triple ≡ z ∷ (x ∷ (y ∷ []))))

-- the same triangle, read from its next side
pub turned : (triples : List (List ℤ)) (x y z : ℤ) (n : ℕ) → Triangle triples x y z n → Triangle triples y z x n
turned triples x y z n h = record {
  below = h.below;
  first = h.second;
  second = h.third;
  third = h.first;
  first_second = h.second_third;
  second_third = h.third_first;
  third_first = h.first_second;
  only = λ u counted at. turn_only u (h.only u counted at);
  triple = h.triple;
  stands = h.stands;
  is = turn_is h.is;
}
  where
    turn_only : (u : ℤ) → (u ≡ x) ⊎ ((u ≡ y) ⊎ (u ≡ z)) → (u ≡ y) ⊎ ((u ≡ z) ⊎ (u ≡ x))
    turn_only u (inl e) = inr (inr e)
    turn_only u (inr (inl e)) = inl e
    turn_only u (inr (inr e)) = inr (inl e)

    turn_is : (h.triple ≡ x ∷ (y ∷ (z ∷ []))) ⊎ ((h.triple ≡ y ∷ (z ∷ (x ∷ []))) ⊎ (h.triple ≡ z ∷ (x ∷ (y ∷ []))))
        → (h.triple ≡ y ∷ (z ∷ (x ∷ []))) ⊎ ((h.triple ≡ z ∷ (x ∷ (y ∷ []))) ⊎ (h.triple ≡ x ∷ (y ∷ (z ∷ []))))
    turn_is (inl e) = inr (inr e)
    turn_is (inr (inl e)) = inl e
    turn_is (inr (inr e)) = inr (inl e)

next_in-first : (a b c : ℤ) → next_in (a ∷ (b ∷ (c ∷ []))) a ≡ b
next_in-first a b c = ap (λ (t : Bool). cond t b (cond (int_eq b a) c a)) (int_eq-same a a refl)

next_in-second : (a b c : ℤ) → a ≢ b → next_in (a ∷ (b ∷ (c ∷ []))) b ≡ c
next_in-second a b c ne =
    ap (λ (t : Bool). cond t b (cond (int_eq b b) c a)) (int_eq-other a b ne)
    ∙ ap (λ (t : Bool). cond t c a) (int_eq-same b b refl)

next_in-third : (a b c : ℤ) → a ≢ c → b ≢ c → next_in (a ∷ (b ∷ (c ∷ []))) c ≡ a
next_in-third a b c ne nf =
    ap (λ (t : Bool). cond t b (cond (int_eq b c) c a)) (int_eq-other a c ne)
    ∙ ap (λ (t : Bool). cond t c a) (int_eq-other b c nf)

-- ---- the first triangle of a list, and the later ones

-- a side of the first triangle, with the side after it there
first_goes : (t : List ℤ) (rest : List (List ℤ)) (x y : ℤ) → has_side x t ≡ true → next_in t x ≡ y
    → GoesTo (t ∷ rest) x y 0
first_goes t rest x y h e = record {
  counted = omega (arith, times-append x t (labels_of rest), times_of_side x t h);
  triangle = ap (λ (b : Bool). cond b 0 (suc (triangle_of rest x))) h;
  after = ap (λ (b : Bool). cond b (next_in t x) (next rest x)) h ∙ e;
}

-- a side of a later triangle
later_goes : (t : List ℤ) (rest : List (List ℤ)) (x y : ℤ) (n : ℕ) → has_side x t ≡ false → GoesTo rest x y n
    → GoesTo (t ∷ rest) x y (suc n)
later_goes t rest x y n h g = record {
  counted = omega (arith, times-append x t (labels_of rest), g.counted);
  triangle = ap (λ (b : Bool). cond b 0 (suc (triangle_of rest x))) h ∙ ap suc g.triangle;
  after = ap (λ (b : Bool). cond b (next_in t x) (next rest x)) h ∙ g.after;
}

-- each label stands at most once
pub record IsOnce (triples : List (List ℤ)) : Type 0 where
  pub once : (x : ℤ) → times x (labels_of triples) ≤ 1

pub IsOnce-tail : (t : List ℤ) (rest : List (List ℤ)) → IsOnce (t ∷ rest) → IsOnce rest
IsOnce-tail t rest h = record { once = λ x. omega (arith, h.once x, times-append x t (labels_of rest)) }

-- a label of the later triangles is no side of the first
not_first : (t : List ℤ) (rest : List (List ℤ)) (x : ℤ) → IsOnce (t ∷ rest) → 0 < times x (labels_of rest)
    → has_side x t ≡ false
not_first t rest x h counted = no_side_of_times x t (omega (arith, h.once x, times-append x t (labels_of rest)))

side_cases : (a b c x : ℤ) → has_side x (a ∷ (b ∷ (c ∷ []))) ≡ true → (x ≡ a) ⊎ ((x ≡ b) ⊎ (x ≡ c))
side_cases a b c x h =
    elim (same_or_not a x) [
      | inl e ↦ inl (sym e)
      | inr na ↦
          elim (same_or_not b x) [
            | inl e ↦ inr (inl (sym e))
            | inr nb ↦
                elim (same_or_not c x) [
                  | inl e ↦ inr (inr (sym e))
                  | inr nc ↦
                      absurd (false≢true
                      (sym (has_side_later x a (b ∷ (c ∷ [])) na ∙ has_side_later x b (c ∷ []) nb ∙ has_side_later x c
                      [] nc) ∙ h))
                ]
          ]
    ]

-- the three sides of a triangle in which no label stands twice
pub first_triangle : (a b c : ℤ) (rest : List (List ℤ)) → IsOnce ((a ∷ (b ∷ (c ∷ []))) ∷ rest)
    → Triangle ((a ∷ (b ∷ (c ∷ []))) ∷ rest) a b c 0
first_triangle a b c rest h = record {
  below = omega arith;
  first = first_goes (a ∷ (b ∷ (c ∷ []))) rest a b (has_side_here a a (b ∷ (c ∷ [])) refl) (next_in-first a b c);
  second =
      first_goes (a ∷ (b ∷ (c ∷ []))) rest b c (has_side_later b a (b ∷ (c ∷ [])) ab ∙ has_side_here b b (c ∷ []) refl)
      (next_in-second a b c ab);
  third =
      first_goes (a ∷ (b ∷ (c ∷ []))) rest c a
      (has_side_later c a (b ∷ (c ∷ [])) (λ e. ca (sym e)) ∙ has_side_later c b (c ∷ []) bc ∙ has_side_here c c [] refl)
      (next_in-third a b c (λ e. ca (sym e)) bc);
  first_second = ab;
  second_third = bc;
  third_first = ca;
  only = only;
  triple = a ∷ (b ∷ (c ∷ []));
  stands = (0, omega arith, refl);
  is = inl refl;
}
  where
    ab : a ≢ b
    ab e =
        omega (
          arith,
          h.once b,
          times-append b (a ∷ (b ∷ (c ∷ []))) (labels_of rest),
          times_here b a (b ∷ (c ∷ [])) e,
          times_here b b (c ∷ []) refl,
        )

    bc : b ≢ c
    bc e =
        omega (
          arith,
          h.once c,
          times-append c (a ∷ (b ∷ (c ∷ []))) (labels_of rest),
          times-cons c a (b ∷ (c ∷ [])),
          times_here c b (c ∷ []) e,
          times_here c c [] refl,
        )

    ca : c ≢ a
    ca e =
        omega (
          arith,
          h.once a,
          times-append a (a ∷ (b ∷ (c ∷ []))) (labels_of rest),
          times_here a a (b ∷ (c ∷ []))
              refl,
          times-cons a b (c ∷ []),
          times_here a c [] e,
        )

    only : (u : ℤ) → 0 < times u (labels_of ((a ∷ (b ∷ (c ∷ []))) ∷ rest))
        → triangle_of ((a ∷ (b ∷ (c ∷ []))) ∷ rest) u ≡ 0 → (u ≡ a) ⊎ ((u ≡ b) ⊎ (u ≡ c))
    only u counted at =
        elim (cases_Bool (has_side u (a ∷ (b ∷ (c ∷ []))))) [
          | inl s ↦ side_cases a b c u s
          | inr s ↦
              (let later : suc (triangle_of rest u) ≡ 0 =
              sym (ap (λ (r : Bool). cond r 0 (suc (triangle_of rest u))) s) ∙ at in
              absurd (omega arith))
        ]

-- a later triangle keeps its sides behind one more triangle
pub later_triangle : (t : List ℤ) (rest : List (List ℤ)) (x y z : ℤ) (n : ℕ) → IsOnce (t ∷ rest) → Triangle rest x y z n
    → Triangle (t ∷ rest) x y z (suc n)
later_triangle t rest x y z n h g = record {
  below = omega (arith, g.below);
  first = later_goes t rest x y n (not_first t rest x h g.first.counted) g.first;
  second = later_goes t rest y z n (not_first t rest y h g.second.counted) g.second;
  third = later_goes t rest z x n (not_first t rest z h g.third.counted) g.third;
  first_second = g.first_second;
  second_third = g.second_third;
  third_first = g.third_first;
  only = only;
  triple = g.triple;
  stands = later g.stands;
  is = g.is;
}
  where
    only : (u : ℤ) → 0 < times u (labels_of (t ∷ rest)) → triangle_of (t ∷ rest) u ≡ suc n
        → (u ≡ x) ⊎ ((u ≡ y) ⊎ (u ≡ z))
    only u counted at =
        elim (cases_Bool (has_side u t)) [
          | inl s ↦
              (let here : 0 ≡ suc n = sym (ap (λ (r : Bool). cond r 0 (suc (triangle_of rest u))) s) ∙ at in
              absurd (omega arith))
          | inr s ↦
              (let later : suc (triangle_of rest u) ≡ suc n =
              sym (ap (λ (r : Bool). cond r 0 (suc (triangle_of rest u))) s) ∙ at in
              g.only u (omega (arith, times-append u t (labels_of rest), times_of_no_side u t s)) (omega arith))
        ]

    later : Contains rest g.triple → Contains (t ∷ rest) g.triple
    later (k, below, is) = (suc k, omega arith, is)

-- the triangle of a label, read from that label
pub record HasTriangle (triples : List (List ℤ)) (x : ℤ) : Type 0 where
  pub second : ℤ
  pub third : ℤ
  pub number : ℕ
  pub sides : Triangle triples x second third number

in_later : (t : List ℤ) (rest : List (List ℤ)) (x : ℤ) → IsOnce (t ∷ rest) → HasTriangle rest x
    → HasTriangle (t ∷ rest) x
in_later t rest x h g = record {
  second = g.second;
  third = g.third;
  number = suc g.number;
  sides = later_triangle t rest x g.second g.third g.number h g.sides;
}

in_first : (a b c : ℤ) (rest : List (List ℤ)) (x : ℤ) → Triangle ((a ∷ (b ∷ (c ∷ []))) ∷ rest) a b c 0
    → (x ≡ a) ⊎ ((x ≡ b) ⊎ (x ≡ c))
    → HasTriangle ((a ∷ (b ∷ (c ∷ []))) ∷ rest) x
in_first a b c rest x g (inl e) =
    subst (HasTriangle ((a ∷ (b ∷ (c ∷ []))) ∷ rest)) (sym e) (record { second = b; third = c; number = 0; sides = g })
in_first a b c rest x g (inr (inl e)) =
    subst (HasTriangle ((a ∷ (b ∷ (c ∷ []))) ∷ rest)) (sym e)
    (record { second = c; third = a; number = 0; sides = turned ((a ∷ (b ∷ (c ∷ []))) ∷ rest) a b c 0 g })
in_first a b c rest x g (inr (inr e)) =
    subst (HasTriangle ((a ∷ (b ∷ (c ∷ []))) ∷ rest)) (sym e)
    (record {
      second = a;
      third = b;
      number = 0;
      sides = turned ((a ∷ (b ∷ (c ∷ []))) ∷ rest) b c a 0 (turned ((a ∷ (b ∷ (c ∷ []))) ∷ rest) a b c 0 g);
    })

-- the first triangle has three sides
first_of_three : (t : List ℤ) (rest : List (List ℤ)) (x : ℤ) → length t ≡ 3 → IsOnce (t ∷ rest) → has_side x t ≡ true
    → HasTriangle (t ∷ rest) x
first_of_three [] rest x l h s = absurd (omega arith)
first_of_three (a ∷ []) rest x l h s = absurd (omega arith)
first_of_three (a ∷ (b ∷ [])) rest x l h s = absurd (omega arith)
first_of_three (a ∷ (b ∷ (c ∷ []))) rest x l h s =
    in_first a b c rest x (first_triangle a b c rest h) (side_cases a b c x s)
first_of_three (a ∷ (b ∷ (c ∷ (d ∷ more)))) rest x l h s = absurd (omega arith)

-- each label that stands in the triples has a triangle
pub triangle_of_label : (triples : List (List ℤ)) → All (λ t. length t ≡ 3) triples → IsOnce triples → (x : ℤ)
    → 0 < times x (labels_of triples)
    → HasTriangle triples x
triangle_of_label [] three h x counted = absurd (omega arith)
triangle_of_label (t ∷ rest) three h x counted =
    elim (cases_Bool (has_side x t)) [
      | inl s ↦ first_of_three t rest x (All-head (λ u. length u ≡ 3) t rest three) h s
      | inr s ↦
          in_later t rest x h
          (triangle_of_label rest (All-tail (λ u. length u ≡ 3) t rest three) (IsOnce-tail t rest h) x
          (omega (arith, times-append x t (labels_of rest), times_of_no_side x t s)))
    ]

-- ---- the triangle with a given number

times_of_contained : (x : ℤ) (xs : List ℤ) → Contains xs x → 0 < times x xs
times_of_contained x [] (k, below, is) = absurd (omega arith)
times_of_contained x (y ∷ ys) (zero, below, is) = omega (arith, times_here x y ys is)
times_of_contained x (y ∷ ys) (suc k, below, is) =
    omega (arith, times-cons x y ys, times_of_contained x ys (k, omega arith, is))

-- its sides are counted, and it is their triangle
numbered : (triples : List (List ℤ)) → IsOnce triples → (t : ℕ) (x : ℤ) → t < length triples
    → 0 < times x (get_or triples t []) → (0 < times x (labels_of triples)) × (triangle_of triples x ≡ t)
numbered [] h t x below c = absurd (omega arith)
numbered (u ∷ rest) h zero x below c =
    elim (cases_Bool (has_side x u)) [
      | inl s ↦
          (omega (arith, times-append x u (labels_of rest)), ap (λ (b : Bool). cond b 0 (suc (triangle_of rest x))) s)
      | inr s ↦ absurd (omega (arith, times_of_no_side x u s))
    ]
numbered (u ∷ rest) h (suc t) x below c =
    let (counted, is) = numbered rest (IsOnce-tail u rest h) t x (omega arith) c in (
      omega (arith, times-append x u (labels_of rest)),
      ap (λ (b : Bool). cond b 0 (suc (triangle_of rest x))) (not_first u rest x h counted) ∙ ap suc is,
    )

-- ---- triangulations

pub counted_once : (triples : List (List ℤ)) → IsTriangulation triples → (x : ℤ) → IsLabel triples x
    → times x (labels_of triples) ≡ 1
counted_once triples h x l = h.labels x ∙ ap (λ (b : Bool). cond b 1 0) (lt-ltb (edge_of x) (edge_count triples) l)

pub label_of_counted : (triples : List (List ℤ)) → IsTriangulation triples → (x : ℤ) → 0 < times x (labels_of triples)
    → IsLabel triples x
label_of_counted triples h x c =
    elim (cases_lt (edge_of x) (edge_count triples)) [
      | inl l ↦ l
      | inr l ↦
          (let none : times x (labels_of triples) ≡ 0 =
          h.labels x ∙ ap (λ (b : Bool). cond b 1 0) (le-ltb (edge_of x) (edge_count triples) l) in
          absurd (omega arith))
    ]

pub IsOnce-triangulation : (triples : List (List ℤ)) → IsTriangulation triples → IsOnce triples
IsOnce-triangulation triples h = record {
  once = λ x.
      elim (cases_lt (edge_of x) (edge_count triples)) [
        | inl l ↦ omega (arith, counted_once triples h x l)
        | inr l ↦
            (let none : times x (labels_of triples) ≡ 0 =
            h.labels x ∙ ap (λ (b : Bool). cond b 1 0) (le-ltb (edge_of x) (edge_count triples) l) in
            omega arith)
      ];
}

-- the triangle of a label of a triangulation
pub triangle_at : (triples : List (List ℤ)) → IsTriangulation triples → (x : ℤ) → IsLabel triples x
    → HasTriangle triples x
triangle_at triples h x l =
    triangle_of_label triples h.three_sides (IsOnce-triangulation triples h) x
    (omega (arith, counted_once triples h x l))

pub previous-is : (triples : List (List ℤ)) (x y z : ℤ) (n : ℕ) → Triangle triples x y z n → previous triples x ≡ z
previous-is triples x y z n g = ap (next triples) g.first.after ∙ g.second.after

-- ---- the laws

-- next runs round the sides of each triangle
-- a corner that is alone at its vertex
alone_turned : (triples : List (List ℤ)) (n : ℕ) (x : ℤ) → corner_step triples x ≡ x → corner_after triples n x ≡ x
alone_turned triples zero x is = refl
alone_turned triples (suc n) x is = ap (corner_after triples n) is ∙ alone_turned triples n x is

pub triangle_laws : (triples : List (List ℤ)) → IsTriangulation triples → TriangleLaws triples
triangle_laws triples h = record {
  alone = alone_turned triples;
  triangle = λ x l. let g = triangle_at triples h x l in
      subst (λ (k : ℕ). k < length triples) (sym g.sides.first.triangle) g.sides.below;
  listed =
      λ t x below here. let (counted, is) =
      numbered triples (IsOnce-triangulation triples h) t x below (times_of_contained x _ here) in
      (label_of_counted triples h x counted, is);
  label = λ x l. let g = triangle_at triples h x l in
      subst (IsLabel triples) (sym g.sides.first.after) (label_of_counted triples h g.second g.sides.second.counted);
  round = λ x l. let g = triangle_at triples h x l in
      ap (next triples) (previous-is triples x g.second g.third g.number g.sides) ∙ g.sides.third.after;
  moves = λ x l. let g = triangle_at triples h x l in (
    λ e. g.sides.first_second (sym e ∙ g.sides.first.after),
    λ e. g.sides.third_first (sym (previous-is triples x g.second g.third g.number g.sides) ∙ e),
  );
  stays = λ x l. let g = triangle_at triples h x l in
      ap (triangle_of triples) g.sides.first.after ∙ g.sides.second.triangle ∙ sym g.sides.first.triangle;
  sides = λ x y l m e. let g = triangle_at triples h x l in
      named x y g (g.sides.only y (omega (arith, counted_once triples h y m)) (e ∙ g.sides.first.triangle));
}
  where
    named : (x y : ℤ) (g : HasTriangle triples x) → (y ≡ x) ⊎ ((y ≡ g.second) ⊎ (y ≡ g.third))
        → (y ≡ x) ⊎ ((y ≡ next triples x) ⊎ (y ≡ previous triples x))
    named x y g (inl e) = inl e
    named x y g (inr (inl e)) = inr (inl (e ∙ sym g.sides.first.after))
    named x y g (inr (inr e)) = inr (inr (e ∙ sym (previous-is triples x g.second g.third g.number g.sides)))
