-- A new tree begins at a triangle that no walk reaches from the marked ones.
use Rattle.std.proofs.Common.{ℕ, ℤ, Bool, true, false, List, ◌≡◌, ◌≤◌, ◌<◌, ◌+◌, inl, inr, sym, ◌∙◌, ap, subst, arith}
use Rattle.std.proofs.Common.{length, get_or, set}
use Rattle.std.proofs.lemmas.List.{length-set}
use Rattle.ideal_tri.specs.Labels.{edge_of}
use Rattle.ideal_tri.specs.Triangulations.{IsLabel, IsReached, triangle_of, next, previous}
use Rattle.ideal_tri.specs.SurfaceLaws.{TriangleLaws}
use Rattle.ideal_tri.proofs.Walks.{reached_here, reached_back}
use Rattle.ideal_tri.proofs.Reaching.{IsClosed, reached_marked, still_marked, was_marked}
use Rattle.ideal_tri.proofs.Naming.{IsVertexwise, IsJoined, three_corners, mark_one}
use Rattle.ideal_tri.proofs.Trees.{IsMarked, IsFree, AreJoined, Grown, marked_or_free, not_both}

-- ---- one more tree

pub more_trees : (ts : List (List ℤ)) (trees more : ℕ) (reached tree : List Bool) → trees ≤ more
    → Grown ts trees reached tree → Grown ts more reached tree
more_trees ts trees more reached tree b g = record {
  room = g.room;
  sides = g.sides;
  few = omega (arith, g.few);
  inside = g.inside;
  joins = g.joins;
}

-- a triangle that no side leads to from the marked ones
pub plant : (ts : List (List ℤ)) → TriangleLaws ts → (trees : ℕ) (reached tree : List Bool) (r : ℕ)
    → Grown ts trees reached tree → IsClosed ts reached
    → r < length ts → IsFree reached r → Grown ts (trees + 1) (set reached r true) tree
plant ts h trees reached tree r g closed below free = record {
  room = length-set reached r true ∙ g.room;
  sides = g.sides;
  few = omega (arith, g.few, mark_one reached r within free);
  inside = λ x l m. still_marked reached r (triangle_of ts x) within (g.inside x l m);
  joins = joins;
}
  where
    within : r < length reached
    within = omega (arith, g.room)

    -- no walk leads from a marked triangle to it
    apart : (s : ℕ) → IsMarked reached s → IsReached ts s r → ⊥
    apart s m p = not_both reached r (reached_marked ts reached s r closed p m) free

    joins : (f : ℤ → ℤ) → IsVertexwise ts f → AreJoined ts (set reached r true) tree f
        → (y z : ℤ) → IsLabel ts y → IsLabel ts z → IsMarked (set reached r true) (triangle_of ts y)
        → IsMarked (set reached r true) (triangle_of ts z) → IsReached ts (triangle_of ts y) (triangle_of ts z)
        → f y ≡ f z
    joins f v joined y z l k m n p =
        elim (was_marked reached r (triangle_of ts y) m) [
          | inl old_y ↦
              elim (was_marked reached r (triangle_of ts z) n) [
                | inl old_z ↦
                    g.joins f v (λ u q at e. joined u q (still_marked reached r (triangle_of ts u) within at) e) y z l k
                    old_y old_z p
                | inr new ↦ absurd (apart (triangle_of ts y) old_y (subst (IsReached ts (triangle_of ts y)) new p))
              ]
          | inr new_y ↦
              elim (was_marked reached r (triangle_of ts z) n) [
                | inl old_z ↦
                    absurd
                    (apart (triangle_of ts z) old_z
                    (subst (IsReached ts (triangle_of ts z)) new_y
                    (reached_back ts (triangle_of ts y) (triangle_of ts z) p)))
                | inr new_z ↦ sym (corners new_y z k (new_z ∙ sym new_y))
              ]
        ]
      where
        side : triangle_of ts y ≡ r → (u : ℤ) → IsLabel ts u → triangle_of ts u ≡ triangle_of ts y → IsJoined ts f u
        side new u q e =
            joined u q (ap (λ (i : ℕ). get_or (set reached r true) i false) e ∙ m)
            (elim (marked_or_free tree (edge_of u)) [
              | inr a ↦ a
              | inl a ↦
                  absurd (apart (triangle_of ts u) (g.inside u q a) (reached_here ts (triangle_of ts u) r (e ∙ new)))
            ])

        corners : triangle_of ts y ≡ r → (u : ℤ) → IsLabel ts u → triangle_of ts u ≡ triangle_of ts y → f u ≡ f y
        corners new u q e =
            let after : IsLabel ts (next ts y) = h.label y l in
            let before : IsLabel ts (previous ts y) = h.label (next ts y) after in
            three_corners ts h f y l (side new (next ts y) after (h.stays y l))
            (side new (previous ts y) before (h.stays (next ts y) after ∙ h.stays y l)) u q e
