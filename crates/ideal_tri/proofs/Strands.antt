-- The corners of a vector, and the strands through the triangles.
use Rattle.std.proofs.Common.{ℕ, ℤ, List, [], ◌∷◌, ◌≡◌, ◌≤◌, ◌+◌, ◌-◌, ◌/◌, ◌%◌, ◌⊎◌, inl, inr, sym, ◌∙◌, ap, subst}
use Rattle.std.proofs.Common.{arith}
use Rattle.std.proofs.lemmas.List.Elements.{All-contains}
use Rattle.ideal_tri.specs.Triangulations.{IsLabel, IsTriangulation, previous}
use Rattle.ideal_tri.specs.Vectors.{IsMulticurve, IsEven, HasNoLongSide, weight, corner_count}
use Rattle.ideal_tri.proofs.Triangles.{Triangle, HasTriangle, triangle_at, turned, previous-is}

-- ---- corners

-- a side is the sum of its two corners, where the three sides have an even sum and none is too long
halves : (a b c : ℕ) → (a + b + c) % 2 ≡ 0 → a ≤ b + c → b ≤ a + c → c ≤ a + b → a ≡ (a + b - c) / 2 + (c + a - b) / 2
halves a b c even x y z = omega arith

-- three numbers of a multicurve at a triangle
record IsGood (a b c : ℕ) : Type 0 where
  even : (a + b + c) % 2 ≡ 0
  short_a : a ≤ b + c
  short_b : b ≤ a + c
  short_c : c ≤ a + b

IsGood-turned : (a b c : ℕ) → IsGood a b c → IsGood b c a
IsGood-turned a b c h = record {
  even = ap (λ (n : ℕ). n % 2) (omega arith) ∙ h.even;
  short_a = omega (arith, h.short_b);
  short_b = omega (arith, h.short_c);
  short_c = omega (arith, h.short_a);
}

good_sides : (triples : List (List ℤ)) (w : List ℕ) (x y z : ℤ) (n : ℕ) → IsMulticurve triples w
    → Triangle triples x y z n
    → IsGood (weight w x) (weight w y) (weight w z)
good_sides triples w x y z n m g = go g.is
  where
    even : IsEven w g.triple
    even = All-contains (IsEven w) triples g.triple m.even g.stands

    short : HasNoLongSide w g.triple
    short = All-contains (HasNoLongSide w) triples g.triple m.no_long_side g.stands

    of_triple : (a b c : ℤ) → IsEven w (a ∷ (b ∷ (c ∷ []))) → HasNoLongSide w (a ∷ (b ∷ (c ∷ [])))
        → IsGood (weight w a) (weight w b) (weight w c)
    of_triple a b c e s = record { even = e; short_a = s.0; short_b = s.1; short_c = s.2 }

    go : (g.triple ≡ x ∷ (y ∷ (z ∷ []))) ⊎ ((g.triple ≡ y ∷ (z ∷ (x ∷ []))) ⊎ (g.triple ≡ z ∷ (x ∷ (y ∷ []))))
        → IsGood (weight w x) (weight w y) (weight w z)
    go (inl e) = of_triple x y z (subst (IsEven w) e even) (subst (HasNoLongSide w) e short)
    go (inr (inl e)) =
        IsGood-turned _ _ _
        (IsGood-turned _ _ _ (of_triple y z x (subst (IsEven w) e even) (subst (HasNoLongSide w) e short)))
    go (inr (inr e)) = IsGood-turned _ _ _ (of_triple z x y (subst (IsEven w) e even) (subst (HasNoLongSide w) e short))

corner-is : (triples : List (List ℤ)) (w : List ℕ) (x y z : ℤ) (n : ℕ) → Triangle triples x y z n
    → corner_count triples w x ≡ (weight w x + weight w y - weight w z) / 2
corner-is triples w x y z n g =
    ap (λ (u : ℤ). (weight w x + weight w u - weight w (previous triples x)) / 2) g.first.after
    ∙ ap (λ (u : ℤ). (weight w x + weight w y - weight w u) / 2) (previous-is triples x y z n g)

-- the strands of a side are those of the corners at its two ends
pub corner_sum : (triples : List (List ℤ)) → IsTriangulation triples → (w : List ℕ) (x : ℤ) → IsMulticurve triples w
    → IsLabel triples x
    → weight w x ≡ corner_count triples w x + corner_count triples w (previous triples x)
corner_sum triples h w x m l = sum (triangle_at triples h x l)
  where
    sum : HasTriangle triples x → weight w x ≡ corner_count triples w x + corner_count triples w (previous triples x)
    sum g =
        let y = g.second in
        let z = g.third in
        let good = good_sides triples w x y z g.number m g.sides in
        halves (weight w x) (weight w y) (weight w z) good.even good.short_a good.short_b good.short_c
        ∙ ap (λ (k : ℕ). k + (weight w z + weight w x - weight w y) / 2)
        (sym (corner-is triples w x y z g.number g.sides))
        ∙ ap (λ (k : ℕ). corner_count triples w x + k)
        (sym (corner-is triples w z x y g.number
        (turned triples y z x g.number (turned triples x y z g.number g.sides))))
        ∙ ap (λ (u : ℤ). corner_count triples w x + corner_count triples w u)
        (sym (previous-is triples x y z g.number g.sides))
