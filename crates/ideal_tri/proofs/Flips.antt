-- Which label stands where before and after the flip of an edge.
--
-- Two different triangles i and j have the sides e, a, b and f, c, d. Their triples, begun at any of the three sides,
-- are replaced by e, d, a and f, b, c; nothing else changes. As multisets the six labels are the same, so no label
-- stands more often than before, and a label that stood once stands once. So the new triple at a place gives the
-- triangle of its labels and the side after each. The six labels are different: those of one triangle, since it has
-- three sides, and those of two triangles, since a label stands in one triangle only.
use Rattle.std.proofs.Common.{ℕ, zero, suc, ℤ, pos, List, [], ◌∷◌, ◌≡◌, ◌≢◌, ◌≤◌, ◌<◌, ◌+◌, ◌⊎◌, inl, inr, cond, refl}
use Rattle.std.proofs.Common.{sym, ◌∙◌, ap, subst, arith, length, get_or, set}
use Rattle.std.specs.List.{All, sum_by}
use Rattle.std.specs.Ordering.{int_eq}
use Rattle.std.proofs.lemmas.Bool.{cases_eq}
use Rattle.std.proofs.lemmas.List.{length-set, get_or-set_same, get_or-set_other}
use Rattle.std.proofs.lemmas.List.Elements.{All-nil, All-cons}
use Rattle.std.proofs.lemmas.List.Sums.{sum_by-cons, sum_by-set}
use Rattle.ideal_tri.specs.Triangulations.{labels_of, IsLabel, IsTriangulation, triangle_of, next, previous}
use Rattle.ideal_tri.specs.Refusals.{IsDistinct}
use Rattle.ideal_tri.proofs.Triangles.{times, times-cons, times-append, IsOnce, IsOnce-triangulation, Triangle, turned}
use Rattle.ideal_tri.proofs.Triangles.{triangle_at, counted_once, previous-is}
use Rattle.ideal_tri.proofs.Triples.{three_listed, triangle_at_place}

-- ---- the triple at a place

-- the triple is x, y, z, begun at one of the three
abbrev pub IsTurned : List ℤ → ℤ → ℤ → ℤ → Type 0
IsTurned t x y z = (t ≡ x ∷ (y ∷ (z ∷ []))) ⊎ ((t ≡ y ∷ (z ∷ (x ∷ []))) ⊎ (t ≡ z ∷ (x ∷ (y ∷ []))))

-- triangle n is x, y, z, and its triple says so
pub record StandsAt (triples : List (List ℤ)) (x y z : ℤ) (n : ℕ) : Type 0 where
  pub sides : Triangle triples x y z n
  pub is : IsTurned (get_or triples n []) x y z

-- the triple at a place gives the triangle
pub stands_at : (triples : List (List ℤ)) (x y z : ℤ) (n : ℕ) → IsOnce triples → n < length triples
    → get_or triples n [] ≡ x ∷ (y ∷ (z ∷ []))
    → StandsAt triples x y z n
stands_at triples x y z n h l e = record { sides = triangle_at_place triples n x y z h l e; is = inl e }

stands_turned : (triples : List (List ℤ)) (x y z : ℤ) (n : ℕ) → StandsAt triples x y z n → StandsAt triples y z x n
stands_turned triples x y z n s = record { sides = turned triples x y z n s.sides; is = turn s.is }
  where
    turn : IsTurned (get_or triples n []) x y z → IsTurned (get_or triples n []) y z x
    turn (inl e) = inr (inr e)
    turn (inr (inl e)) = inl e
    turn (inr (inr e)) = inr (inl e)

-- the same triple at the same place of other triples
pub stands_still : (triples others : List (List ℤ)) (x y z : ℤ) (n : ℕ) → IsOnce others → n < length others
    → get_or others n [] ≡ get_or triples n [] → StandsAt triples x y z n → StandsAt others x y z n
stands_still triples others x y z n h l same s = go s.is
  where
    go : IsTurned (get_or triples n []) x y z → StandsAt others x y z n
    go (inl e) = stands_at others x y z n h l (same ∙ e)
    go (inr (inl e)) =
        stands_turned others z x y n (stands_turned others y z x n (stands_at others y z x n h l (same ∙ e)))
    go (inr (inr e)) = stands_turned others z x y n (stands_at others z x y n h l (same ∙ e))

-- each label of a triangulation stands in the triple of its triangle
pub label_stands : (triples : List (List ℤ)) → IsTriangulation triples → (x : ℤ) → IsLabel triples x
    → StandsAt triples x (next triples x) (previous triples x) (triangle_of triples x)
label_stands triples h x l =
    let g = triangle_at triples h x l in
    let below : triangle_of triples x < length triples =
    subst (λ (k : ℕ). k < length triples) (sym g.sides.first.triangle) g.sides.below in
    let (a, b, c, is) =
    three_listed (get_or triples (triangle_of triples x) []) (h.three_sides (triangle_of triples x) [] below) in
    let s = stands_at triples a b c (triangle_of triples x) (IsOnce-triangulation triples h) below is in
    found a b c s (s.sides.only x (omega (arith, counted_once triples h x l)) refl)
  where
    named : (y z : ℤ) → StandsAt triples x y z (triangle_of triples x)
        → StandsAt triples x (next triples x) (previous triples x) (triangle_of triples x)
    named y z s =
        subst (λ (v : ℤ). StandsAt triples x v (previous triples x) (triangle_of triples x)) (sym s.sides.first.after)
        (subst (λ (w : ℤ). StandsAt triples x y w (triangle_of triples x))
        (sym (previous-is triples x y z (triangle_of triples x) s.sides)) s)

    found : (a b c : ℤ) → StandsAt triples a b c (triangle_of triples x) → (x ≡ a) ⊎ ((x ≡ b) ⊎ (x ≡ c))
        → StandsAt triples x (next triples x) (previous triples x) (triangle_of triples x)
    found a b c s (inl e) = named b c (subst (λ (u : ℤ). StandsAt triples u b c (triangle_of triples x)) (sym e) s)
    found a b c s (inr (inl e)) =
        named c a
        (subst (λ (u : ℤ). StandsAt triples u c a (triangle_of triples x)) (sym e)
        (stands_turned triples a b c (triangle_of triples x) s))
    found a b c s (inr (inr e)) =
        named a b
        (subst (λ (u : ℤ). StandsAt triples u a b (triangle_of triples x)) (sym e)
        (stands_turned triples b c a (triangle_of triples x) (stands_turned triples a b c (triangle_of triples x) s)))

-- ---- how often a label stands in triples

times_labels : (x : ℤ) (triples : List (List ℤ)) → times x (labels_of triples) ≡ sum_by (times x) triples
times_labels x [] = refl
times_labels x (t ∷ rest) =
    times-append x t (labels_of rest)
    ∙ ap (λ (k : ℕ). times x t + k) (times_labels x rest)
    ∙ sym (sum_by-cons (times x) t rest)

-- how often x stands in one place that holds y
abbrev once_at : ℤ → ℤ → ℕ
once_at x y = cond (int_eq y x) 1 0

times_triple : (x a b c : ℤ) → times x (a ∷ (b ∷ (c ∷ []))) ≡ once_at x a + once_at x b + once_at x c
times_triple x a b c = omega (arith, times-cons x a (b ∷ (c ∷ [])), times-cons x b (c ∷ []), times-cons x c [])

times_turned : (x : ℤ) (t : List ℤ) (a b c : ℤ) → IsTurned t a b c → times x t ≡ once_at x a + once_at x b + once_at x c
times_turned x t a b c (inl e) = ap (times x) e ∙ times_triple x a b c
times_turned x t a b c (inr (inl e)) = ap (times x) e ∙ omega (arith, times_triple x b c a)
times_turned x t a b c (inr (inr e)) = ap (times x) e ∙ omega (arith, times_triple x c a b)

-- ---- two triangles with a side between them

-- the triangles e, a, b and f, c, d stand at different places
pub record Quadrilateral (triples : List (List ℤ)) (e a b f c d : ℤ) (i j : ℕ) : Type 0 where
  pub first : StandsAt triples e a b i
  pub second : StandsAt triples f c d j
  pub apart : i ≢ j

-- the triangles become e, d, a and f, b, c
abbrev pub turned_edge : List (List ℤ) → ℤ → ℤ → ℤ → ℤ → ℤ → ℤ → ℕ → ℕ → List (List ℤ)
turned_edge triples e a b f c d i j = set (set triples i (e ∷ (d ∷ (a ∷ [])))) j (f ∷ (b ∷ (c ∷ [])))

pub turned_edge-length : (triples : List (List ℤ)) (e a b f c d : ℤ) (i j : ℕ)
    → length (turned_edge triples e a b f c d i j) ≡ length triples
turned_edge-length triples e a b f c d i j =
    length-set (set triples i (e ∷ (d ∷ (a ∷ [])))) j (f ∷ (b ∷ (c ∷ []))) ∙ length-set triples i (e ∷ (d ∷ (a ∷ [])))

-- the other triples stay
pub turned_edge-other : (triples : List (List ℤ)) (e a b f c d : ℤ) (i j k : ℕ) → k ≢ i → k ≢ j
    → get_or (turned_edge triples e a b f c d i j) k [] ≡ get_or triples k []
turned_edge-other triples e a b f c d i j k ki kj =
    get_or-set_other (set triples i (e ∷ (d ∷ (a ∷ [])))) j k (f ∷ (b ∷ (c ∷ []))) [] kj
    ∙ get_or-set_other triples i k (e ∷ (d ∷ (a ∷ []))) [] ki

-- each label stands as often as before
pub turned_edge-times : (triples : List (List ℤ)) (e a b f c d : ℤ) (i j : ℕ) → Quadrilateral triples e a b f c d i j
    → (x : ℤ) → times x (labels_of (turned_edge triples e a b f c d i j)) ≡ times x (labels_of triples)
turned_edge-times triples e a b f c d i j q x =
    times_labels x (turned_edge triples e a b f c d i j) ∙ same ∙ sym (times_labels x triples)
  where
    one : sum_by (times x) (set triples i (e ∷ (d ∷ (a ∷ [])))) + (once_at x e + once_at x a + once_at x b)
        ≡ sum_by (times x) triples + (once_at x e + once_at x d + once_at x a)
    one =
        omega (
          arith,
          sum_by-set (times x) triples i (e ∷ (d ∷ (a ∷ []))) [] q.first.sides.below,
          times_turned x (get_or triples i []) e a b q.first.is,
          times_triple x e d a,
        )

    still : get_or (set triples i (e ∷ (d ∷ (a ∷ [])))) j [] ≡ get_or triples j []
    still = get_or-set_other triples i j (e ∷ (d ∷ (a ∷ []))) [] (λ s. q.apart (sym s))

    two : sum_by (times x) (turned_edge triples e a b f c d i j) + (once_at x f + once_at x c + once_at x d)
        ≡ sum_by (times x) (set triples i (e ∷ (d ∷ (a ∷ [])))) + (once_at x f + once_at x b + once_at x c)
    two =
        omega (
          arith,
          sum_by-set (times x) (set triples i (e ∷ (d ∷ (a ∷ [])))) j (f ∷ (b ∷ (c ∷ []))) [] within,
          ap (times x) still,
          times_turned x (get_or triples j []) f c d q.second.is,
          times_triple x f b c,
        )
      where
        within : j < length (set triples i (e ∷ (d ∷ (a ∷ []))))
        within = omega (arith, length-set triples i (e ∷ (d ∷ (a ∷ []))), q.second.sides.below)

    same : sum_by (times x) (turned_edge triples e a b f c d i j) ≡ sum_by (times x) triples
    same = omega (arith, one, two)

pub turned_edge-once : (triples : List (List ℤ)) (e a b f c d : ℤ) (i j : ℕ) → Quadrilateral triples e a b f c d i j
    → IsOnce triples
    → IsOnce (turned_edge triples e a b f c d i j)
turned_edge-once triples e a b f c d i j q h = record {
  once = λ x. subst (λ (k : ℕ). k ≤ 1) (sym (turned_edge-times triples e a b f c d i j q x)) (h.once x);
}

-- the two new triangles
pub turned_edge-first : (triples : List (List ℤ)) (e a b f c d : ℤ) (i j : ℕ) → Quadrilateral triples e a b f c d i j
    → IsOnce triples
    → StandsAt (turned_edge triples e a b f c d i j) e d a i
turned_edge-first triples e a b f c d i j q h =
    stands_at (turned_edge triples e a b f c d i j) e d a i (turned_edge-once triples e a b f c d i j q h)
    (omega (arith, turned_edge-length triples e a b f c d i j, q.first.sides.below))
    (get_or-set_other (set triples i (e ∷ (d ∷ (a ∷ [])))) j i (f ∷ (b ∷ (c ∷ []))) [] q.apart
    ∙ get_or-set_same triples i (e ∷ (d ∷ (a ∷ []))) [] q.first.sides.below)

pub turned_edge-second : (triples : List (List ℤ)) (e a b f c d : ℤ) (i j : ℕ) → Quadrilateral triples e a b f c d i j
    → IsOnce triples
    → StandsAt (turned_edge triples e a b f c d i j) f b c j
turned_edge-second triples e a b f c d i j q h =
    stands_at (turned_edge triples e a b f c d i j) f b c j (turned_edge-once triples e a b f c d i j q h)
    (omega (arith, turned_edge-length triples e a b f c d i j, q.second.sides.below))
    (get_or-set_same (set triples i (e ∷ (d ∷ (a ∷ [])))) j (f ∷ (b ∷ (c ∷ []))) []
    (omega (arith, length-set triples i (e ∷ (d ∷ (a ∷ []))), q.second.sides.below)))

-- the labels of the other triangles stay where they are
pub turned_edge-still : (triples : List (List ℤ)) (e a b f c d : ℤ) (i j : ℕ) → Quadrilateral triples e a b f c d i j
    → IsOnce triples
    → (x y z : ℤ) (k : ℕ) → k ≢ i → k ≢ j → StandsAt triples x y z k
    → StandsAt (turned_edge triples e a b f c d i j) x y z k
turned_edge-still triples e a b f c d i j q h x y z k ki kj s =
    stands_still triples (turned_edge triples e a b f c d i j) x y z k (turned_edge-once triples e a b f c d i j q h)
    (omega (arith, turned_edge-length triples e a b f c d i j, s.sides.below))
    (turned_edge-other triples e a b f c d i j k ki kj) s

-- all but b and d keep their triangle
pub turned_edge-stays : (triples : List (List ℤ)) (e a b f c d : ℤ) (i j : ℕ) → Quadrilateral triples e a b f c d i j
    → IsOnce triples
    → (x y z : ℤ) (k : ℕ) → StandsAt triples x y z k → x ≢ b → x ≢ d
    → triangle_of (turned_edge triples e a b f c d i j) x ≡ k
turned_edge-stays triples e a b f c d i j q h x y z k s nb nd =
    elim (cases_eq k i) [
      | inl ki ↦ in_first ki (q.first.sides.only x s.sides.first.counted (s.sides.first.triangle ∙ ki))
      | inr ki ↦
          elim (cases_eq k j) [
            | inl kj ↦ in_second kj (q.second.sides.only x s.sides.first.counted (s.sides.first.triangle ∙ kj))
            | inr kj ↦
                (let now : StandsAt (turned_edge triples e a b f c d i j) x y z k =
                turned_edge-still triples e a b f c d i j q h x y z k ki kj s in
                now.sides.first.triangle)
          ]
    ]
  where
    in_first : k ≡ i → (x ≡ e) ⊎ ((x ≡ a) ⊎ (x ≡ b)) → triangle_of (turned_edge triples e a b f c d i j) x ≡ k
    in_first ki (inl xe) =
        ap (triangle_of (turned_edge triples e a b f c d i j)) xe
        ∙ (turned_edge-first triples e a b f c d i j q h).sides.first.triangle
        ∙ sym ki
    in_first ki (inr (inl xa)) =
        ap (triangle_of (turned_edge triples e a b f c d i j)) xa
        ∙ (turned_edge-first triples e a b f c d i j q h).sides.third.triangle
        ∙ sym ki
    in_first ki (inr (inr xb)) = absurd (nb xb)

    in_second : k ≡ j → (x ≡ f) ⊎ ((x ≡ c) ⊎ (x ≡ d)) → triangle_of (turned_edge triples e a b f c d i j) x ≡ k
    in_second kj (inl xf) =
        ap (triangle_of (turned_edge triples e a b f c d i j)) xf
        ∙ (turned_edge-second triples e a b f c d i j q h).sides.first.triangle
        ∙ sym kj
    in_second kj (inr (inl xc)) =
        ap (triangle_of (turned_edge triples e a b f c d i j)) xc
        ∙ (turned_edge-second triples e a b f c d i j q h).sides.third.triangle
        ∙ sym kj
    in_second kj (inr (inr xd)) = absurd (nd xd)

-- ---- the six sides

distinct_nil : IsDistinct []
distinct_nil i j l m = absurd (omega arith)

distinct_cons : (x : ℤ) (xs : List ℤ) → All (λ y. x ≢ y) xs → IsDistinct xs → IsDistinct (x ∷ xs)
distinct_cons x xs h k zero zero l m = absurd (omega arith)
distinct_cons x xs h k zero (suc j) l m = h j (pos 0) (omega arith)
distinct_cons x xs h k (suc i) zero l m = absurd (omega arith)
distinct_cons x xs h k (suc i) (suc j) l m = k i j (omega arith) (omega arith)

-- labels of two triangles differ
differ : (triples : List (List ℤ)) (i j : ℕ) → i ≢ j → (x y : ℤ) → triangle_of triples x ≡ i → triangle_of triples y ≡ j
    → x ≢ y
differ triples i j apart x y at_i at_j e = apart (sym at_i ∙ ap (triangle_of triples) e ∙ at_j)

-- the six sides are different labels
pub six_distinct : (triples : List (List ℤ)) (e a b f c d : ℤ) (i j : ℕ) → Quadrilateral triples e a b f c d i j
    → IsDistinct (e ∷ (a ∷ (b ∷ (f ∷ (c ∷ (d ∷ []))))))
six_distinct triples e a b f c d i j q =
    distinct_cons e (a ∷ (b ∷ (f ∷ (c ∷ (d ∷ [])))))
    (All-cons (λ y. e ≢ y) a (b ∷ (f ∷ (c ∷ (d ∷ [])))) q.first.sides.first_second
    (All-cons (λ y. e ≢ y) b (f ∷ (c ∷ (d ∷ []))) (λ s. q.first.sides.third_first (sym s))
    (across e q.first.sides.first.triangle)))
    (distinct_cons a (b ∷ (f ∷ (c ∷ (d ∷ []))))
    (All-cons (λ y. a ≢ y) b (f ∷ (c ∷ (d ∷ []))) q.first.sides.second_third (across a q.first.sides.second.triangle))
    (distinct_cons b (f ∷ (c ∷ (d ∷ []))) (across b q.first.sides.third.triangle)
    (distinct_cons f (c ∷ (d ∷ []))
    (All-cons (λ y. f ≢ y) c (d ∷ []) q.second.sides.first_second
    (All-cons (λ y. f ≢ y) d [] (λ s. q.second.sides.third_first (sym s)) (All-nil (λ y. f ≢ y))))
    (distinct_cons c (d ∷ []) (All-cons (λ y. c ≢ y) d [] q.second.sides.second_third (All-nil (λ y. c ≢ y)))
    (distinct_cons d [] (All-nil (λ y. d ≢ y)) distinct_nil)))))
  where
    across : (x : ℤ) → triangle_of triples x ≡ i → All (λ y. x ≢ y) (f ∷ (c ∷ (d ∷ [])))
    across x at =
        All-cons (λ y. x ≢ y) f (c ∷ (d ∷ [])) (differ triples i j q.apart x f at q.second.sides.first.triangle)
        (All-cons (λ y. x ≢ y) c (d ∷ []) (differ triples i j q.apart x c at q.second.sides.second.triangle)
        (All-cons (λ y. x ≢ y) d [] (differ triples i j q.apart x d at q.second.sides.third.triangle)
        (All-nil (λ y. x ≢ y))))
