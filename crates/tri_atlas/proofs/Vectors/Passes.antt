-- Off the flipped edge a strand goes from state to state as before, and the letters of the edge that it crosses
-- between two such states change as the map of the flip says.
--
-- A strand that leaves its edge into one of the two triangles does so by one of the sides a, b, c, d, and the rows
-- say where it comes out: for a and b as they stand, for c and d seen from the other label of the edge. A strand that
-- goes into another triangle takes the same step, and crosses no letter of the edge.
use Rattle.std.proofs.Common.{ℕ, ℤ, false, List, [], ◌≡◌, ◌≢◌, ◌-◌, refl, sym, ◌∙◌, ap, subst, ne_eqb}
use Rattle.ideal_tri.specs.Labels.{inverse, edge_of}
use Rattle.ideal_tri.specs.Triangulations.{IsLabel, next}
use Rattle.ideal_tri.specs.Vectors.{weight, corner_count}
use Rattle.ideal_tri.specs.Strands.{State, IsStrand, strand_step}
use Rattle.tri_atlas.proofs.LowerLaws.{LowerLaws}
use Rattle.tri_atlas.proofs.Vectors.Turns.{one_edge, same_number, beside, far_place}
use Rattle.tri_atlas.proofs.Vectors.Quadrilaterals.{Quadrilateral, turned, IsApartFrom, next_apart, apart_off}
use Rattle.tri_atlas.proofs.Vectors.Quadrilaterals.{Place, at_e, at_a, at_b, at_f, at_c, at_d, apart, place_of}
use Rattle.tri_atlas.proofs.Vectors.Apart.{step_apart}
use Rattle.tri_atlas.proofs.Vectors.Exits.{FirstExit, exits_first, exits_second}
use Rattle.tri_atlas.proofs.Vectors.Exits.{is_on, past, crossed, past-off, crossed-off}
use Rattle.tri_atlas.proofs.Vectors.Rows.{Prefixes, Prefixes-turned, Agrees, agrees, from_a, from_b}
use Rattle.tri_atlas.proofs.Vectors.Pairs.{IsFlippedPair, pair_turned, numbers_of, balanced}

-- from q the states off edge n before and after it agree, and so do the letters of the edge between, where q goes
-- into the triangle of x
abbrev pub Passes : List (List ℤ) → List (List ℤ) → List ℕ → List ℕ → ℕ → (ℤ → List ℤ) → State → ℤ → Type 0
Passes here there w v n pre q x =
    Agrees pre x (past here w n (strand_step here w q)) (crossed n (strand_step here w q))
    (past there v n (strand_step there v q)) (crossed n (strand_step there v q))

module _ (laws : LowerLaws) (here there : List (List ℤ)) (w v : List ℕ) (e f a b c d : ℤ)
    (h : IsFlippedPair here there w v e f a b c d)
    (pre : ℤ → List ℤ) (p : Prefixes pre e f a b c d) (q : State) (s : IsStrand here w q) where
  abbrev n : ℕ
  n = edge_of e

  -- the place of q on the other side of its edge, with the number of that side
  far : ℕ
  far = weight w q.label - 1 - q.place

  number : (x : ℤ) → inverse q.label ≡ x → weight w q.label ≡ weight w x
  number x at = sym (same_number laws w q.label (inverse q.label) refl) ∙ ap (weight w) at

  passes_at_a : inverse q.label ≡ a → Passes here there w v (edge_of e) pre q a
  unfolding far
  passes_at_a at =
      from_a laws pre e f a b c d (numbers_of here there w v e f a b c d)
      (balanced laws here there w v e f a b c d h) h.sides_here.f_is p far
      (past here w n (strand_step here w q)) (past there v n (strand_step there v q))
      (crossed n (strand_step here w q)) (crossed n (strand_step there v q))
      (exits_first laws here w e f a b c d h.corners_here h.sides_here q far at (far_place here w q s ∙ number a at))
      (exits_second laws there v e f d a b c h.corners_there h.sides_there q far at
      (far_place here w q s ∙ number a at ∙ sym (h.numbers a h.sides_here.off_a)))

  passes_at_b : inverse q.label ≡ b → Passes here there w v (edge_of e) pre q b
  unfolding far
  passes_at_b at =
      from_b laws pre e f a b c d (numbers_of here there w v e f a b c d)
      (balanced laws here there w v e f a b c d h) h.sides_here.f_is p far
      (past here w n (strand_step here w q)) (past there v n (strand_step there v q))
      (crossed n (strand_step here w q)) (crossed n (strand_step there v q))
      (exits_second laws here w e f a b c d h.corners_here h.sides_here q far at (far_place here w q s ∙ number b at))
      (subst (λ (m : ℕ).
      FirstExit (corner_count there v f) (corner_count there v a) (weight v b) (weight v f) (weight v a) far f c d a
      (past there v m (strand_step there v q)) (crossed m (strand_step there v q)))
      (one_edge laws e f h.sides_here.f_is)
      (exits_first laws there v f e b c d a h.corners_there (turned there e f d a b c h.sides_there) q far at
      (far_place here w q s ∙ number b at ∙ sym (h.numbers b h.sides_here.off_b))))

  passes_apart : ((x : ℤ) → x ≢ b → x ≢ d → pre x ≡ []) → edge_of q.label ≢ edge_of e
      → IsApartFrom e f a b c d (inverse q.label)
      → Passes here there w v (edge_of e) pre q (inverse q.label)
  passes_apart plain off away =
      agrees pre x r.label (past here w n r) (past there v n r') (crossed n r) (crossed n r') [] [] [] []
      (ap (λ (t : State). t.label) (past-off here w n r r_off))
      (ap (λ (t : State). t.label) gone)
      (ap (λ (t : State). t.place) (past-off here w n r r_off ∙ sym gone))
      (plain x away.from_b away.from_d)
      (crossed-off n r r_off)
      (plain r.label r_away.from_b r_away.from_d)
      (ap (crossed n) same ∙ crossed-off n r r_off)
      refl
    where
      r : State
      r = strand_step here w q

      r' : State
      r' = strand_step there v q

      x : ℤ
      x = inverse q.label

      t : Quadrilateral here e f a b c d
      t = h.sides_here

      lx : IsLabel here (inverse q.label)
      lx = laws.labels.label here q.label s.is_label

      same : strand_step there v q ≡ strand_step here w q
      same = step_apart laws here there w v e f a b c d h.triangles t h.others h.numbers q s.is_label off away

      y_away : IsApartFrom e f a b c d (next here (inverse q.label))
      y_away = next_apart laws here e f a b c d h.triangles t x lx away

      r_away : IsApartFrom e f a b c d (strand_step here w q).label
      r_away =
          beside laws here w (IsApartFrom e f a b c d) q y_away
          (next_apart laws here e f a b c d h.triangles t (next here x) (h.triangles.label x lx) y_away)

      r_off : is_on (edge_of e) (strand_step here w q) ≡ false
      r_off = ne_eqb (edge_of r.label) n (apart_off laws here e f a b c d h.triangles t r.label r_away)

      gone : past there v (edge_of e) (strand_step there v q) ≡ strand_step here w q
      gone = ap (past there v n) same ∙ past-off there v n r r_off

-- from every state off the edge
pub passes : LowerLaws → (here there : List (List ℤ)) (w v : List ℕ) (e f a b c d : ℤ)
    → IsFlippedPair here there w v e f a b c d
    → (pre : ℤ → List ℤ) → Prefixes pre e f a b c d → ((x : ℤ) → x ≢ b → x ≢ d → pre x ≡ []) → (q : State)
    → IsStrand here w q → edge_of q.label ≢ edge_of e → Passes here there w v (edge_of e) pre q (inverse q.label)
passes laws here there w v e f a b c d h pre p plain q s off = go (place_of laws e f a b c d (inverse q.label))
  where
    turned_pair : IsFlippedPair here there w v f e c d a b
    turned_pair = pair_turned laws here there w v e f a b c d h

    turned_prefixes : Prefixes pre f e c d a b
    turned_prefixes = Prefixes-turned pre e f a b c d p

    same_edge : edge_of f ≡ edge_of e
    same_edge = one_edge laws e f h.sides_here.f_is

    moved : (x : ℤ) → inverse q.label ≡ x → Passes here there w v (edge_of e) pre q x
        → Passes here there w v (edge_of e) pre q (inverse q.label)
    moved x at = subst (Passes here there w v (edge_of e) pre q) (sym at)

    back : (x : ℤ) → Passes here there w v (edge_of f) pre q x → Passes here there w v (edge_of e) pre q x
    back x = subst (λ (m : ℕ). Passes here there w v m pre q x) same_edge

    elsewhere : (x : ℤ) → inverse q.label ≡ x → edge_of x ≢ edge_of e
    elsewhere x at on_x = off (sym (laws.labels.edge q.label) ∙ ap edge_of at ∙ on_x)

    go : Place e f a b c d (inverse q.label) → Passes here there w v (edge_of e) pre q (inverse q.label)
    go (at_e k) = absurd (elsewhere e k refl)
    go (at_f k) = absurd (elsewhere f k same_edge)
    go (at_a k) = moved a k (passes_at_a laws here there w v e f a b c d h pre p q s k)
    go (at_b k) = moved b k (passes_at_b laws here there w v e f a b c d h pre p q s k)
    go (at_c k) = moved c k (back c (passes_at_a laws here there w v f e c d a b turned_pair pre turned_prefixes q s k))
    go (at_d k) = moved d k (back d (passes_at_b laws here there w v f e c d a b turned_pair pre turned_prefixes q s k))
    go (apart away) = passes_apart laws here there w v e f a b c d h pre p q s plain off away
