-- A vector that isn't all zero, where each vertex has a corner without strands, has a total of at least 2.
--
-- Else one edge has the number 1 and all others 0. The one strand there runs round the corner at one of its two ends,
-- and so crosses the next side of this triangle too, which must be the other label of the same edge. So this corner is
-- the only one at its vertex, and not free.
use Rattle.std.proofs.Common.{ℕ, zero, suc, ℤ, pos, List, [], ◌∷◌, ◌≡◌, ◌≢◌, ◌≤◌, ◌<◌, ◌+◌, inl, inr, refl, sym, ◌∙◌}
use Rattle.std.proofs.Common.{ap, arith, length}
use Rattle.std.specs.List.{All, sum}
use Rattle.std.specs.Prelude.{slice_index}
use Rattle.std.proofs.lemmas.Bool.{cases_eq, cases_lt}
use Rattle.std.proofs.lemmas.List.{get_or_default}
use Rattle.std.proofs.lemmas.List.Sums.{sum_by-cons}
use Rattle.ideal_tri.specs.Labels.{inverse, edge_of}
use Rattle.ideal_tri.specs.PeripheralParts.{HasFreeCorners}
use Rattle.ideal_tri.specs.SurfaceLaws.{TriangleLaws}
use Rattle.ideal_tri.specs.Triangulations.{IsTriangulation, IsLabel, next, previous}
use Rattle.ideal_tri.specs.Vectors.{IsMulticurve, weight, corner_count}
use Rattle.ideal_tri.specs.Vertices.{corner_step}
use Rattle.curve_shorten.proofs.FlippedSides.{Given}
use Rattle.curve_shorten.proofs.FreeCorners.{MeetsFree, meets_of}

-- ---- sums

-- the entry at this place is 1, and all others are 0
record HasOne (w : List ℕ) (i : ℕ) : Type 0 where
  below : i < length w
  one : slice_index w i ≡ 1
  others : (k : ℕ) → k ≢ i → slice_index w k ≡ 0

none_of_sum : (w : List ℕ) → sum w ≡ 0 → (k : ℕ) → slice_index w k ≡ 0
none_of_sum [] is k = refl
none_of_sum (n ∷ w) is zero = omega (arith, sum_by-cons (λ m. m) n w)
none_of_sum (n ∷ w) is (suc k) = none_of_sum w (omega (arith, sum_by-cons (λ m. m) n w)) k

one_of_sum : (w : List ℕ) → sum w ≡ 1 → (i : ℕ) × HasOne w i
one_of_sum [] is = absurd (omega arith)
one_of_sum (zero ∷ w) is = go (one_of_sum w (omega (arith, sum_by-cons (λ m. m) 0 w)))
  where
    go : (i : ℕ) × HasOne w i → (i : ℕ) × HasOne (zero ∷ w) i
    go (i, h) = (suc i, record { below = omega arith; one = h.one; others = others })
      where
        others : (k : ℕ) → k ≢ suc i → slice_index (zero ∷ w) k ≡ 0
        others zero ne = refl
        others (suc k) ne = h.others k (λ same. ne (ap suc same))
one_of_sum (suc n ∷ w) is = (zero, record { below = omega arith; one = one; others = others })
  where
    one : suc n ≡ 1
    one = omega (arith, sum_by-cons (λ m. m) (suc n) w)

    others : (k : ℕ) → k ≢ zero → slice_index (suc n ∷ w) k ≡ 0
    others zero ne = absurd (ne refl)
    others (suc k) ne = none_of_sum w (omega (arith, sum_by-cons (λ m. m) (suc n) w)) k

-- all entries are 0
none_crossed : (w : List ℕ) → ((k : ℕ) → slice_index w k ≡ 0) → All (λ n. n ≡ 0) w
none_crossed w none k d below = get_or_default w k d 0 below ∙ none k

-- ---- a corner that is alone at its vertex

module _ (g : Given) (triples : List (List ℤ)) (p : IsTriangulation triples) (w : List ℕ) (m : IsMulticurve triples w)
    (free : HasFreeCorners triples w) where
  t : TriangleLaws triples
  t = g.surfaces.triangles triples p

  abbrev count : ℤ → ℕ
  count x = corner_count triples w x

  -- it has no strand
  alone_free : (x : ℤ) → IsLabel triples x → corner_step triples x ≡ x → corner_count triples w x ≡ 0
  alone_free x l is =
      let k : MeetsFree triples w x = meets_of triples w free x l in
      sym (ap (corner_count triples w) (t.alone k.steps x is)) ∙ k.free

  -- ---- one strand

  -- not all of the vector is one strand
  not_one : (i : ℕ) → HasOne w i → ⊥
  not_one i h =
      elim (cases_eq (count (pos i)) 0) [
        | inl none ↦ tail none
        | inr some ↦ head some
      ]
    where
      lx : IsLabel triples (pos i)
      lx = omega (arith, h.below, m.one_per_edge)

      ly : IsLabel triples (next triples (pos i))
      ly = t.label (pos i) lx

      lz : IsLabel triples (previous triples (pos i))
      lz = t.label (next triples (pos i)) ly

      -- only the other label of the edge is crossed too
      other : (u : ℤ) → u ≢ pos i → weight w u ≢ 0 → u ≡ inverse (pos i)
      other u ne some =
          elim (cases_eq (edge_of u) i) [
            | inl same ↦
                elim (g.labels.of_edge u (pos i) same) [ inl is ↦ absurd (ne is) | inr is ↦ is ]
            | inr off ↦ absurd (some (h.others (edge_of u) off))
          ]

      at_x : weight w (pos i) ≡ count (pos i) + count (previous triples (pos i))
      at_x = (g.drawings triples p).corners w (pos i) m lx

      at_y : weight w (next triples (pos i)) ≡ count (next triples (pos i)) + count (pos i)
      at_y =
          (g.drawings triples p).corners w (next triples (pos i)) m ly
          ∙ ap (λ (u : ℤ). count (next triples (pos i)) + count u) (t.round (pos i) lx)

      at_z : weight w (previous triples (pos i))
          ≡ count (previous triples (pos i)) + count (previous triples (previous triples (pos i)))
      at_z = (g.drawings triples p).corners w (previous triples (pos i)) m lz

      -- at the head of the edge
      head : count (pos i) ≢ 0 → ⊥
      head some =
          let is : next triples (pos i) ≡ inverse (pos i) =
          other (next triples (pos i)) (t.moves (pos i) lx).0 (omega (arith, at_y)) in
          some (alone_free (pos i) lx (ap inverse is ∙ g.labels.twice (pos i)))

      -- at its tail
      tail : count (pos i) ≡ 0 → ⊥
      tail none =
          let some : count (previous triples (pos i)) ≡ 1 = omega (arith, at_x, h.one) in
          let is : previous triples (pos i) ≡ inverse (pos i) =
          other (previous triples (pos i)) (t.moves (pos i) lx).1 (omega (arith, at_z)) in
          let lone : count (previous triples (pos i)) ≡ 0 =
          alone_free (previous triples (pos i)) lz (ap inverse (t.round (pos i) lx) ∙ sym is) in
          omega arith

  pub two_at_least : ¬ All (λ n. n ≡ 0) w → 2 ≤ sum w
  two_at_least some =
      elim (cases_lt (sum w) 2) [
        | inl few ↦ elim (cases_eq (sum w) 0) [
          | inl none ↦ absurd (some (none_crossed w (none_of_sum w none)))
          | inr ne ↦ absurd (let (i, h) = one_of_sum w (omega arith) in not_one i h)
        ]
        | inr enough ↦ omega arith
      ]
