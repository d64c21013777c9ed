-- A flip keeps that each vertex has a corner without strands.
--
-- From a corner x other than e and f the walk round the vertex before the flip meets a free corner after n steps. Then
-- the walk after it meets one too, by induction on n: where two corners are joined, at b and d, the new count is the
-- smaller one, and where one is split, at a and c, one of the two new counts is the old one. From e and f the new walk
-- goes on to the inverses of d and b, which are other corners.
use Rattle.std.proofs.Common.{ℕ, zero, suc, ℤ, List, ◌≡◌, ◌≢◌, ◌<◌, inl, inr, refl, sym, ◌∙◌, ap, subst, arith}
use Rattle.std.proofs.lemmas.Bool.{cases_eq}
use Rattle.ideal_tri.specs.LabelLaws.{LabelLaws}
use Rattle.ideal_tri.specs.Labels.{inverse, edge_of}
use Rattle.ideal_tri.specs.PeripheralParts.{HasFreeCorners}
use Rattle.ideal_tri.specs.SurfaceLaws.{TriangleLaws}
use Rattle.ideal_tri.specs.Triangulations.{IsTriangulation, IsLabel, next}
use Rattle.ideal_tri.specs.Vectors.{IsMulticurve, corner_count}
use Rattle.ideal_tri.specs.Vertices.{corner_step, corner_after}
use Rattle.tri_atlas.specs.Moves.{flip, IsFlip}
use Rattle.tri_atlas.specs.MovedVectors.{vector_after}
use Rattle.curve_shorten.proofs.CornerSteps.{CornerSteps, corner_steps, inverse_not, step_not_e, step_not_f}
use Rattle.curve_shorten.proofs.FlippedSides.{Given, FlippedSides, turned, IsApartFrom, Place, place_of}
use Rattle.curve_shorten.proofs.FlippedSides.{at_e, at_f, at_a, at_b, at_c, at_d, apart}
use Rattle.curve_shorten.proofs.FlippedSides.{flipped_sides, next_stays, edges_after}
use Rattle.curve_shorten.proofs.NewCorners.{AreJoined, NewCorners, new_corners}

-- so many steps from x on is a corner without strands
pub record MeetsFree (triples : List (List ℤ)) (w : List ℕ) (x : ℤ) : Type 0 where
  pub steps : ℕ
  pub free : corner_count triples w (corner_after triples steps x) ≡ 0

module _ (triples : List (List ℤ)) (w : List ℕ) where
  pub meets_here : (x : ℤ) → corner_count triples w x ≡ 0 → MeetsFree triples w x
  meets_here x k = record { steps = 0; free = k }

  pub meets_later : (x y : ℤ) → corner_step triples x ≡ y → MeetsFree triples w y → MeetsFree triples w x
  meets_later x y step k = record {
    steps = suc k.steps;
    free = subst (λ (z : ℤ). corner_count triples w (corner_after triples k.steps z) ≡ 0) (sym step) k.free;
  }

  pub meets_of : HasFreeCorners triples w → (x : ℤ) → IsLabel triples x → MeetsFree triples w x
  meets_of h x l =
      let (y, on, none) = h x l in
      record { steps = on.steps; free = ap (corner_count triples w) on.reached ∙ none }

-- a walk of n steps that ends at a free corner
abbrev pub IsFreeAfter : List (List ℤ) → List ℕ → ℕ → ℤ → Type 0
IsFreeAfter triples w n x = corner_count triples w (corner_after triples n x) ≡ 0

free_from : (triples : List (List ℤ)) (w : List ℕ) (n : ℕ) (x y : ℤ) → corner_step triples x ≡ y
    → IsFreeAfter triples w (suc n) x → IsFreeAfter triples w n y
free_from triples w n x y step k = subst (IsFreeAfter triples w n) step k

-- ---- the two triangles of a flip

-- from each corner but e and f: where the walk before the flip ends at a free corner after fewer than n steps, the
-- walk after it meets one
abbrev pub IsKeptBelow : List (List ℤ) → List (List ℤ) → List ℕ → List ℕ → ℤ → ℤ → ℕ → Type 0
IsKeptBelow before after w v e f n = (i : ℕ) (x : ℤ) → i < n → IsLabel before x → x ≢ e → x ≢ f
    → IsFreeAfter before w i x → MeetsFree after v x

module _ (labels : LabelLaws) (before after : List (List ℤ)) (w v : List ℕ) (e f a b c d : ℤ)
    (s : FlippedSides before after e f a b c d)
    (j : AreJoined (corner_count before w e) (corner_count before w f) (corner_count before w a)
    (corner_count before w b) (corner_count before w c) (corner_count before w d) (corner_count after v e)
    (corner_count after v f) (corner_count after v a) (corner_count after v b) (corner_count after v c)
    (corner_count after v d)) where
  turn : CornerSteps before after e f a b c d
  turn = corner_steps before after e f a b c d s

  -- a goes on to f and the inverse of b, which came next before
  pub kept_at_a : (n : ℕ) → IsKeptBelow before after w v e f n → (i : ℕ) → i < suc n → IsFreeAfter before w i a
      → MeetsFree after v a
  kept_at_a n kept zero bound k =
      elim (cases_eq (corner_count after v a) 0) [
        | inl none ↦ meets_here after v a none
        | inr some ↦ meets_later after v a f turn.new_step_a (meets_here after v f (omega (arith, j.from_a)))
      ]
  kept_at_a n kept (suc i) bound k =
      meets_later after v a f turn.new_step_a
      (meets_later after v f (inverse b) turn.new_step_f
      (kept i (inverse b) (omega arith) (labels.label before b s.label_b)
      (inverse_not labels b e f s.inverse_e s.b_not_f) (inverse_not labels b f e s.inverse_f s.b_not_e)
      (free_from before w i a (inverse b) turn.step_a k)))

  -- b went on to f and the inverse of c, which comes next now
  pub kept_at_b : (n : ℕ) → IsKeptBelow before after w v e f n → (i : ℕ) → i < suc n → IsFreeAfter before w i b
      → MeetsFree after v b
  kept_at_b n kept zero bound k = meets_here after v b (omega (arith, j.at_b))
  kept_at_b n kept (suc zero) bound k =
      let none : corner_count before w f ≡ 0 = free_from before w 0 b f turn.step_b k in
      meets_here after v b (omega (arith, j.at_b))
  kept_at_b n kept (suc (suc i)) bound k =
      meets_later after v b (inverse c) turn.new_step_b
      (kept i (inverse c) (omega arith) (labels.label before c s.label_c)
      (inverse_not labels c e f s.inverse_e s.c_not_f) (inverse_not labels c f e s.inverse_f s.c_not_e)
      (free_from before w i f (inverse c) turn.step_f (free_from before w (suc i) b f turn.step_b k)))

-- ---- all corners

module _ (g : Given) (before after : List (List ℤ)) (e a b c d : ℤ) (w : List ℕ) (p : IsTriangulation before)
    (h : IsFlip before after e a b c d) (m : IsMulticurve before w) where
  abbrev f : ℤ
  f = inverse e

  abbrev v : List ℕ
  v = vector_after (flip e a b c d) w

  t : TriangleLaws before
  t = g.surfaces.triangles before p

  s : FlippedSides before after e (inverse e) a b c d
  s = flipped_sides g before after e a b c d p h

  new : NewCorners before after w (vector_after (flip e a b c d) w) e (inverse e) a b c d
  new = new_corners g before after e a b c d w p h m

  -- said of x, and so of what is x
  at : (x y : ℤ) → y ≡ x → MeetsFree after v x → MeetsFree after v y
  at x y k = subst (MeetsFree after v) (sym k)

  -- apart from the two triangles the next corner is the same, and is not e or f
  kept_apart : (n : ℕ) → IsKeptBelow before after w v e f n → (i : ℕ) (x : ℤ) → i < suc n → IsLabel before x
      → IsApartFrom e f a b c d x → IsFreeAfter before w i x → MeetsFree after v x
  kept_apart n kept zero x bound l r k = meets_here after v x (new.others x l r ∙ k)
  kept_apart n kept (suc i) x bound l r k =
      meets_later after v x (corner_step before x) (ap inverse (next_stays g before after e a b c d p h x l r))
      (kept i (corner_step before x) (omega arith) (g.labels.label before (next before x) (t.label x l))
      (step_not_e g.labels before after e f a b c d t s x l r.from_d)
      (step_not_f g.labels before after e f a b c d t s x l r.from_b) k)

  -- the same two triangles, seen from f
  from_f : FlippedSides before after (inverse e) e c d a b
  from_f = turned before after e f a b c d s

  joins_from_f : AreJoined (corner_count before w f) (corner_count before w e) (corner_count before w c)
      (corner_count before w d) (corner_count before w a) (corner_count before w b) (corner_count after v f)
      (corner_count after v e) (corner_count after v c) (corner_count after v d) (corner_count after v a)
      (corner_count after v b)
  joins_from_f = record {
    at_d = new.joins.at_b;
    at_b = new.joins.at_d;
    from_a = new.joins.from_c;
    from_c = new.joins.from_a;
  }

  kept_from_f : (n : ℕ) → IsKeptBelow before after w v e f n → IsKeptBelow before after w v f e n
  kept_from_f n kept i x bound l nf ne k = kept i x bound l ne nf k

  -- walks of one step more
  kept_next : (n : ℕ) → IsKeptBelow before after w v e f n → (i : ℕ) (x : ℤ) → i < suc n → IsLabel before x → x ≢ e
      → x ≢ f → IsFreeAfter before w i x → Place e f a b c d x → MeetsFree after v x
  kept_next n kept i x bound l ne nf k (at_e is) = absurd (ne is)
  kept_next n kept i x bound l ne nf k (at_f is) = absurd (nf is)
  kept_next n kept i x bound l ne nf k (at_a is) =
      at a x is (kept_at_a g.labels before after w v e f a b c d s new.joins n kept i bound
      (subst (IsFreeAfter before w i) is k))
  kept_next n kept i x bound l ne nf k (at_b is) =
      at b x is (kept_at_b g.labels before after w v e f a b c d s new.joins n kept i bound
      (subst (IsFreeAfter before w i) is k))
  kept_next n kept i x bound l ne nf k (at_c is) =
      at c x is (kept_at_a g.labels before after w v f e c d a b from_f joins_from_f n (kept_from_f n kept) i bound
      (subst (IsFreeAfter before w i) is k))
  kept_next n kept i x bound l ne nf k (at_d is) =
      at d x is (kept_at_b g.labels before after w v f e c d a b from_f joins_from_f n (kept_from_f n kept) i bound
      (subst (IsFreeAfter before w i) is k))
  kept_next n kept i x bound l ne nf k (apart r) = kept_apart n kept i x bound l r k

  kept_below : (n : ℕ) → IsKeptBelow before after w v e f n
  kept_below zero i x bound l ne nf k = absurd (omega arith)
  kept_below (suc n) i x bound l ne nf k =
      kept_next n (kept_below n) i x bound l ne nf k (place_of g.labels e f a b c d x)

  meets : (x : ℤ) → IsLabel before x → x ≢ e → x ≢ f → MeetsFree before w x → MeetsFree after v x
  meets x l ne nf k = kept_below (suc k.steps) k.steps x (omega arith) l ne nf k.free

  -- from another corner than e and f
  meets_from : HasFreeCorners before w → (x y : ℤ) → y ≡ x → IsLabel before x → x ≢ e → x ≢ f → MeetsFree after v y
  meets_from free x y is l ne nf = at x y is (meets x l ne nf (meets_of before w free x l))

  -- from e and f the new walk goes on to the inverses of d and b
  meets_beyond : HasFreeCorners before w → (x y z : ℤ) → y ≡ x → corner_step after x ≡ inverse z → IsLabel before z
      → z ≢ e → z ≢ f → MeetsFree after v y
  meets_beyond free x y z is step l ne nf =
      at x y is (meets_later after v x (inverse z) step
      (meets_from free (inverse z) (inverse z) refl (g.labels.label before z l)
      (inverse_not g.labels z e f s.inverse_e nf) (inverse_not g.labels z f e s.inverse_f ne)))

  meets_at : HasFreeCorners before w → (x : ℤ) → IsLabel before x → Place e f a b c d x → MeetsFree after v x
  meets_at free x l (at_e is) =
      meets_beyond free e x d is (ap inverse s.first_after.after_x) s.label_d s.d_not_e s.d_not_f
  meets_at free x l (at_f is) =
      meets_beyond free f x b is (ap inverse s.second_after.after_x) s.label_b s.b_not_e s.b_not_f
  meets_at free x l (at_a is) = meets_from free a x is s.label_a s.a_not_e s.a_not_f
  meets_at free x l (at_b is) = meets_from free b x is s.label_b s.b_not_e s.b_not_f
  meets_at free x l (at_c is) = meets_from free c x is s.label_c s.c_not_e s.c_not_f
  meets_at free x l (at_d is) = meets_from free d x is s.label_d s.d_not_e s.d_not_f
  meets_at free x l (apart r) = meets x l r.from_e r.from_f (meets_of before w free x l)

  -- each vertex has a corner without strands after the flip too
  pub free_after : HasFreeCorners before w → HasFreeCorners after (vector_after (flip e a b c d) w)
  free_after free x l =
      let k : MeetsFree after v x = meets_at free x
      (subst (λ (n : ℕ). edge_of x < n) (edges_after g before after e a b c d p h) l)
      (place_of g.labels e f a b c d x) in
      (corner_after after k.steps x, record { steps = k.steps; reached = refl }, k.free)
