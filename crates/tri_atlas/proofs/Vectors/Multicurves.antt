-- The vector after a flip is a multicurve's.
--
-- With the numbers E, A, B, C, D of the edge and of the sides of (e,a,b) and (f,c,d), which are sums of corners, and
-- F for max (A + C) (B + D) - E, the numbers F, D, A have an even sum, and none is greater than the sum of the other
-- two; so have F, B, C. So in (e,d,a) and (f,b,c) each side is the sum of the corners at its ends. The other
-- triangles and numbers are the same. The mirror image of this serves the backward flip.
use Rattle.std.proofs.Common.{ℕ, ℤ, List, ◌≡◌, ◌≢◌, ◌≤◌, ◌<◌, ◌+◌, ◌-◌, ◌/◌, max, sym, ◌∙◌, ap, subst, arith}
use Rattle.ideal_tri.specs.Labels.{edge_of}
use Rattle.ideal_tri.specs.SurfaceLaws.{TriangleLaws}
use Rattle.ideal_tri.specs.Triangulations.{IsLabel, edge_count, next, previous}
use Rattle.ideal_tri.specs.Vectors.{weight, corner_count}
use Rattle.tri_atlas.proofs.LowerLaws.{LowerLaws}
use Rattle.tri_atlas.proofs.Vectors.Turns.{HasCornerSums, same_number}
use Rattle.tri_atlas.proofs.Vectors.Quadrilaterals.{Quadrilateral, turned, Sums, sums_of, IsApartFrom, next_apart}
use Rattle.tri_atlas.proofs.Vectors.Quadrilaterals.{apart_off}
use Rattle.tri_atlas.proofs.Vectors.Quadrilaterals.{Place, at_e, at_a, at_b, at_f, at_c, at_d, apart, place_of}
use Rattle.tri_atlas.proofs.Vectors.Apart.{apart_previous, apart_corner}

-- ---- numbers

-- the numbers of (e,a,b) and (f,c,d) are sums of corners
pub record IsSummed (E A B C D ke ka kb kf kc kd : ℕ) : Type 0 where
  pub e_first : E ≡ ke + kb
  pub a_first : A ≡ ka + ke
  pub b_first : B ≡ kb + ka
  pub e_second : E ≡ kf + kd
  pub c_second : C ≡ kc + kf
  pub d_second : D ≡ kd + kc

-- each of three numbers is the sum of the counts at its two corners
pub record IsHalved (x y z : ℕ) : Type 0 where
  pub first : x ≡ (x + y - z) / 2 + (z + x - y) / 2
  pub second : y ≡ (y + z - x) / 2 + (x + y - z) / 2
  pub third : z ≡ (z + x - y) / 2 + (y + z - x) / 2

module _ (E F A B C D ke ka kb kf kc kd : ℕ) (h : IsSummed E A B C D ke ka kb kf kc kd) where
  pub edge_below : E ≤ max (A + C) (B + D)
  edge_below = omega arith

  pub first_halved : E + F ≡ max (A + C) (B + D) → IsHalved F D A
  first_halved sum = record { first = omega arith; second = omega arith; third = omega arith }

  pub second_halved : E + F ≡ max (A + C) (B + D) → IsHalved F B C
  second_halved sum = record { first = omega arith; second = omega arith; third = omega arith }

pub IsHalved-same : (x y z x' y' z' : ℕ) → x ≡ x' → y ≡ y' → z ≡ z' → IsHalved x y z → IsHalved x' y' z'
IsHalved-same x y z x' y' z' is_x is_y is_z h =
    subst (IsHalved x' y') is_z (subst (λ (n : ℕ). IsHalved x' n z) is_y (subst (λ (n : ℕ). IsHalved n y z) is_x h))

pub summed : LowerLaws → (triples : List (List ℤ)) (w : List ℕ) (e f a b c d : ℤ) → HasCornerSums triples w
    → Quadrilateral triples e f a b c d
    → IsSummed (weight w e) (weight w a) (weight w b) (weight w c) (weight w d) (corner_count triples w e)
    (corner_count triples w a) (corner_count triples w b) (corner_count triples w f) (corner_count triples w c)
    (corner_count triples w d)
summed laws triples w e f a b c d h s =
    let first : Sums triples w e a b = sums_of triples e f a b c d s w h in
    let second : Sums triples w f c d = sums_of triples f e c d a b (turned triples e f a b c d s) w h in
    record {
      e_first = first.side_e;
      a_first = first.side_a;
      b_first = first.side_b;
      e_second = sym (same_number laws w e f s.f_is) ∙ second.side_e;
      c_second = second.side_a;
      d_second = second.side_b;
    }

-- ---- triangles

-- a side is the sum of its corners
abbrev pub IsSum : List (List ℤ) → List ℕ → ℤ → Type 0
IsSum triples v x = weight v x ≡ corner_count triples v x + corner_count triples v (previous triples x)

module _ (triples : List (List ℤ)) (v : List ℕ) where
  corner_is : (x y z : ℤ) → next triples x ≡ y → next triples y ≡ z
      → corner_count triples v x ≡ (weight v x + weight v y - weight v z) / 2
  corner_is x y z xy yz =
      ap (λ (u : ℤ). (weight v x + weight v u - weight v (next triples u)) / 2) xy
      ∙ ap (λ (u : ℤ). (weight v x + weight v y - weight v u) / 2) yz

  -- the first side of a triangle of which one number is the sum of two halves
  is_sum : (x y z : ℤ) → next triples x ≡ y → next triples y ≡ z → next triples z ≡ x
      → weight v x ≡ (weight v x + weight v y - weight v z) / 2 + (weight v z + weight v x - weight v y) / 2
      → IsSum triples v x
  is_sum x y z xy yz zx h =
      h
      ∙ ap (λ (n : ℕ). n + (weight v z + weight v x - weight v y) / 2) (sym (corner_is x y z xy yz))
      ∙ ap (λ (n : ℕ). corner_count triples v x + n) (sym (corner_is z x y zx xy))
      ∙ ap (λ (u : ℤ). corner_count triples v x + corner_count triples v u) (sym (ap (next triples) xy ∙ yz))

-- ---- all triangles

-- `here` has such a vector, and `there` has the same triangles and numbers apart from two triangles that are halved
pub sums_moved : LowerLaws → (here there : List (List ℤ)) (w v : List ℕ) (e f a b c d a' b' c' d' : ℤ)
    → TriangleLaws here → Quadrilateral here e f a b c d → Quadrilateral there e f a' b' c' d'
    → ((x : ℤ) → IsApartFrom e f a' b' c' d' x → IsApartFrom e f a b c d x) → edge_count there ≡ edge_count here
    → ((x : ℤ) → IsLabel here x → IsApartFrom e f a b c d x → next there x ≡ next here x)
    → ((x : ℤ) → edge_of x ≢ edge_of e → weight v x ≡ weight w x) → HasCornerSums here w
    → IsHalved (weight v e) (weight v a') (weight v b') → IsHalved (weight v f) (weight v c') (weight v d')
    → HasCornerSums there v
sums_moved laws here there w v e f a b c d a' b' c' d' triangles s t turn edges others numbers h first second =
    record { sums = λ x l. go x l (place_of laws e f a' b' c' d' x) }
  where
    at : (x y : ℤ) → y ≡ x → IsSum there v x → IsSum there v y
    at x y k = subst (IsSum there v) (sym k)

    apart_sum : (x : ℤ) → IsLabel here x → IsApartFrom e f a b c d x → IsSum there v x
    apart_sum x l q =
        numbers x (apart_off laws here e f a b c d triangles s x q)
        ∙ h.sums x l
        ∙ sym (ap (λ (n : ℕ). n + corner_count there v (previous there x)) (corner x l q)
        ∙ ap (λ (u : ℤ). corner_count here w x + corner_count there v u)
        (apart_previous laws here there w v e f a b c d triangles s others numbers x l q)
        ∙ ap (λ (n : ℕ). corner_count here w x + n) (corner (previous here x) lz z_away))
      where
        corner : (y : ℤ) → IsLabel here y → IsApartFrom e f a b c d y → corner_count there v y ≡ corner_count here w y
        corner = apart_corner laws here there w v e f a b c d triangles s others numbers

        ly : IsLabel here (next here x)
        ly = triangles.label x l

        lz : IsLabel here (previous here x)
        lz = triangles.label (next here x) ly

        z_away : IsApartFrom e f a b c d (previous here x)
        z_away =
            next_apart laws here e f a b c d triangles s (next here x) ly
            (next_apart laws here e f a b c d triangles s x l q)

    go : (x : ℤ) → IsLabel there x → Place e f a' b' c' d' x → IsSum there v x
    go x l (at_e k) = at e x k (is_sum there v e a' b' t.after_e t.after_a t.after_b first.first)
    go x l (at_a k) = at a' x k (is_sum there v a' b' e t.after_a t.after_b t.after_e first.second)
    go x l (at_b k) = at b' x k (is_sum there v b' e a' t.after_b t.after_e t.after_a first.third)
    go x l (at_f k) = at f x k (is_sum there v f c' d' t.after_f t.after_c t.after_d second.first)
    go x l (at_c k) = at c' x k (is_sum there v c' d' f t.after_c t.after_d t.after_f second.second)
    go x l (at_d k) = at d' x k (is_sum there v d' f c' t.after_d t.after_f t.after_c second.third)
    go x l (apart q) = apart_sum x (subst (λ (n : ℕ). edge_of x < n) edges l) (turn x q)
