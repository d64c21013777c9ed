-- The triples of a triangulation, read from any of their sides.
--
-- A list of three has three rotations. A triangle is a rotation of one of the triples, so it can be read from any of
-- its labels: as labels stand once, the triple at a place gives the triangle of its three labels, and the label after
-- each. Conversely each label stands in a triple, and with the two labels that follow it it is a rotation of that
-- triple.
use Rattle.std.proofs.Common.{ℕ, zero, suc, ℤ, List, [], ◌∷◌, ◌++◌, ◌≡◌, ◌<◌, ◌⊎◌, inl, inr, refl, sym, ◌∙◌, ap, subst}
use Rattle.std.proofs.Common.{arith, length, get_or}
use Rattle.std.proofs.lemmas.List.{append-nil, get_or_default}
use Rattle.ideal_tri.specs.Words.{IsRotation}
use Rattle.ideal_tri.specs.Triangulations.{IsLabel, IsTriangulation, next, previous}
use Rattle.ideal_tri.specs.Relabellings.{IsTriangleOf}
use Rattle.ideal_tri.specs.TripleLaws.{TripleLaws}
use Rattle.ideal_tri.proofs.Rotations.{Rotation-refl, Rotation-trans}
use Rattle.ideal_tri.proofs.Triangles.{Triangle, HasTriangle, turned, IsOnce, IsOnce-tail, first_triangle}
use Rattle.ideal_tri.proofs.Triangles.{later_triangle, IsOnce-triangulation, label_of_counted, triangle_at, previous-is}

-- ---- the triangle at a place

pub three_listed : (t : List ℤ) → length t ≡ 3 → (x : ℤ) × (y : ℤ) × (z : ℤ) × (t ≡ x ∷ (y ∷ (z ∷ [])))
three_listed [] h = absurd (omega arith)
three_listed (x ∷ []) h = absurd (omega arith)
three_listed (x ∷ (y ∷ [])) h = absurd (omega arith)
three_listed (x ∷ (y ∷ (z ∷ []))) h = (x, y, z, refl)
three_listed (x ∷ (y ∷ (z ∷ (u ∷ t)))) h = absurd (omega arith)

pub triangle_at_place : (triples : List (List ℤ)) (k : ℕ) (a b c : ℤ) → IsOnce triples → k < length triples
    → get_or triples k [] ≡ a ∷ (b ∷ (c ∷ [])) → Triangle triples a b c k
triangle_at_place [] k a b c once below e = absurd (omega arith)
triangle_at_place (t ∷ rest) zero a b c once below e =
    subst (λ (s : List ℤ). Triangle (s ∷ rest) a b c 0) (sym e)
    (first_triangle a b c rest (subst (λ (s : List ℤ). IsOnce (s ∷ rest)) e once))
triangle_at_place (t ∷ rest) (suc k) a b c once below e =
    later_triangle t rest a b c k once (triangle_at_place rest k a b c (IsOnce-tail t rest once) (omega arith) e)

-- the three sides of triangle t, in their order
pub record HasTriple (triples : List (List ℤ)) (t : ℕ) : Type 0 where
  pub first : ℤ
  pub second : ℤ
  pub third : ℤ
  pub is : get_or triples t [] ≡ first ∷ (second ∷ (third ∷ []))
  pub sides : Triangle triples first second third t

pub triple_at : (triples : List (List ℤ)) → IsTriangulation triples → (t : ℕ) → t < length triples → HasTriple triples t
triple_at triples h t below =
    let (a, b, c, is) = three_listed (get_or triples t []) (h.three_sides t [] below) in
    record {
      first = a;
      second = b;
      third = c;
      is = is;
      sides = triangle_at_place triples t a b c (IsOnce-triangulation triples h) below is;
    }

-- the rotations of three letters
three_rotations : (x y z : ℤ) (t : List ℤ) → IsRotation (x ∷ (y ∷ (z ∷ []))) t
    → (t ≡ x ∷ (y ∷ (z ∷ []))) ⊎ ((t ≡ y ∷ (z ∷ (x ∷ []))) ⊎ (t ≡ z ∷ (x ∷ (y ∷ []))))
three_rotations x y z t ([], q, whole, is) = inl (is ∙ append-nil q ∙ sym whole)
three_rotations x y z t ((a ∷ []), q, whole, is) =
    let rest : y ∷ (z ∷ []) ≡ q = cc in
    let first : x ≡ a = cc in
    inr (inl (is ∙ ap (λ (s : List ℤ). s ++ (a ∷ [])) (sym rest) ∙ ap (λ (s : ℤ). y ∷ (z ∷ (s ∷ []))) (sym first)))
three_rotations x y z t ((a ∷ (b ∷ [])), q, whole, is) =
    let rest : z ∷ [] ≡ q = cc in
    inr (inr (is ∙ ap (λ (s : List ℤ). s ++ (a ∷ (b ∷ []))) (sym rest) ∙ cc))
three_rotations x y z t ((a ∷ (b ∷ (c ∷ []))), q, whole, is) =
    let rest : [] ≡ q = cc in
    inl (is ∙ ap (λ (s : List ℤ). s ++ (a ∷ (b ∷ (c ∷ [])))) (sym rest) ∙ cc)
three_rotations x y z t ((a ∷ (b ∷ (c ∷ (d ∷ p)))), q, whole, is) = cc

-- a triangle of a triangulation, read from its first letter
read_triangle : (triples : List (List ℤ)) → IsOnce triples → (x y z : ℤ) → IsTriangleOf triples (x ∷ (y ∷ (z ∷ [])))
    → (k : ℕ) × Triangle triples x y z k
read_triangle triples once x y z (k, u, below, at, turn) =
    let here : get_or triples k [] ≡ u = get_or_default triples k [] u below ∙ at in
    elim (three_rotations x y z u turn) [
      | inl e ↦ (k, triangle_at_place triples k x y z once below (here ∙ e))
      | inr (inl e) ↦
          (k, turned triples z x y k (turned triples y z x k (triangle_at_place triples k y z x once below (here ∙ e))))
      | inr (inr e) ↦ (k, turned triples z x y k (triangle_at_place triples k z x y once below (here ∙ e)))
    ]

-- ---- the laws

rotation_of_is : (x y z : ℤ) (u : List ℤ)
    → (u ≡ x ∷ (y ∷ (z ∷ []))) ⊎ ((u ≡ y ∷ (z ∷ (x ∷ []))) ⊎ (u ≡ z ∷ (x ∷ (y ∷ []))))
    → IsRotation (x ∷ (y ∷ (z ∷ []))) u
rotation_of_is x y z u (inl e) = ([], x ∷ (y ∷ (z ∷ [])), refl, e)
rotation_of_is x y z u (inr (inl e)) = (x ∷ [], y ∷ (z ∷ []), refl, e)
rotation_of_is x y z u (inr (inr e)) = (x ∷ (y ∷ []), z ∷ [], refl, e)

stands_as_triangle : (triples : List (List ℤ)) (x y z : ℤ) (n : ℕ) → Triangle triples x y z n
    → IsTriangleOf triples (x ∷ (y ∷ (z ∷ [])))
stands_as_triangle triples x y z n g =
    let (k, below, at) = g.stands in
    (k, g.triple, below, at, rotation_of_is x y z g.triple g.is)

pub stands_in : (triples : List (List ℤ)) (k : ℕ) → k < length triples → IsTriangleOf triples (get_or triples k [])
stands_in triples k below = (
  k,
  get_or triples k [],
  below,
  get_or_default triples k (get_or triples k []) [] below,
  Rotation-refl (get_or triples k []),
)

-- a label and the two that follow it are a triangle
pub at_label : (triples : List (List ℤ)) (x : ℤ) → IsTriangulation triples → IsLabel triples x
    → IsTriangleOf triples (x ∷ (next triples x ∷ (previous triples x ∷ [])))
at_label triples x h l =
    let g : HasTriangle triples x = triangle_at triples h x l in
    subst (λ (v : ℤ). IsTriangleOf triples (x ∷ (next triples x ∷ (v ∷ []))))
    (sym (previous-is triples x g.second g.third g.number g.sides))
    (subst (λ (v : ℤ). IsTriangleOf triples (x ∷ (v ∷ (g.third ∷ [])))) (sym g.sides.first.after)
    (stands_as_triangle triples x g.second g.third g.number g.sides))

-- in a triangle the labels follow each other
pub sides : (triples : List (List ℤ)) (x y z : ℤ) → IsTriangulation triples → IsTriangleOf triples (x ∷ (y ∷ (z ∷ [])))
    → IsLabel triples x × (next triples x ≡ y) × (next triples y ≡ z)
sides triples x y z h t =
    let (k, g) = read_triangle triples (IsOnce-triangulation triples h) x y z t in
    (label_of_counted triples h x g.first.counted, g.first.after, g.second.after)

pub IsTriangleOf-turned : (triples : List (List ℤ)) (s t : List ℤ) → IsRotation s t → IsTriangleOf triples t
    → IsTriangleOf triples s
IsTriangleOf-turned triples s t r (k, u, below, at, turn) = (k, u, below, at, Rotation-trans s t u r turn)

pub triple_laws : TripleLaws
triple_laws = record {
  listed = three_listed;
  rotations = three_rotations;
  stands = stands_in;
  turned = IsTriangleOf-turned;
  at_label = at_label;
  sides = sides;
}
