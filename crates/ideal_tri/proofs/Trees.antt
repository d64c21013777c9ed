-- Trees of triangles: how one begins, and how it grows across a side.
--
-- A naming of the corners is meant to be the same all round each vertex. If it is also the same at the two ends of
-- each edge of the marked triangles that no tree crosses, then it is the same on all corners of the marked part of a
-- component. This is kept when a triangle is added across a side: its three corners are joined by its two other sides,
-- which no tree crosses yet, and the crossed side has two corners of the new triangle at its ends. A new tree begins
-- at a triangle that no walk reaches from the marked ones, so that no two trees share a component. A step marks one
-- triangle and one edge, and a new tree marks one triangle: the trees cross as many edges as they have triangles
-- beside the first.
use Rattle.std.proofs.Common.{ℕ, ℤ, Bool, true, false, List, ◌≡◌, ◌≢◌, ◌≤◌, ◌<◌, ◌+◌, ◌⊎◌, inl, inr, sym, ◌∙◌, ap}
use Rattle.std.proofs.Common.{subst, arith, length, get_or, set}
use Rattle.std.proofs.lemmas.Bool.{cases_Bool, cases_eq, false≢true}
use Rattle.std.proofs.lemmas.List.{length-set, get_or-set_other}
use Rattle.ideal_tri.specs.Labels.{inverse, edge_of}
use Rattle.ideal_tri.specs.Triangulations.{IsLabel, IsReached, edge_count, triangle_of, next, previous}
use Rattle.ideal_tri.specs.SurfaceLaws.{TriangleLaws}
use Rattle.ideal_tri.proofs.Labels.{two_labels, inverse_label, edge_of-inverse}
use Rattle.ideal_tri.proofs.Walks.{reached_step, reached_along, reached_back}
use Rattle.ideal_tri.proofs.Reaching.{marked, still_marked, was_marked, unmarked}
use Rattle.ideal_tri.proofs.Naming.{IsVertexwise, IsJoined, tail_name, head_name, three_corners, mark_one}

-- ---- a tree that grows

abbrev pub IsMarked : List Bool → ℕ → Type 0
IsMarked marks k = get_or marks k false ≡ true

abbrev pub IsFree : List Bool → ℕ → Type 0
IsFree marks k = get_or marks k false ≡ false

-- the sides of marked triangles are joined, but for those that the tree crosses
abbrev pub AreJoined : List (List ℤ) → List Bool → List Bool → (ℤ → ℤ) → Type 0
AreJoined ts reached tree f =
    (x : ℤ) → IsLabel ts x → IsMarked reached (triangle_of ts x) → IsFree tree (edge_of x) → IsJoined ts f x

-- the marked triangles, and the marked edges of a forest of so many trees between them: the other edges join all
-- corners of each component as far as it is marked
pub record Grown (ts : List (List ℤ)) (trees : ℕ) (reached tree : List Bool) : Type 0 where
  pub room : length reached ≡ length ts
  pub sides : length tree ≡ edge_count ts
  pub few : unmarked tree + length ts ≤ unmarked reached + edge_count ts + trees
  pub inside : (x : ℤ) → IsLabel ts x → IsMarked tree (edge_of x) → IsMarked reached (triangle_of ts x)
  pub joins : (f : ℤ → ℤ) → IsVertexwise ts f → AreJoined ts reached tree f
      → (x y : ℤ) → IsLabel ts x → IsLabel ts y → IsMarked reached (triangle_of ts x)
      → IsMarked reached (triangle_of ts y)
      → IsReached ts (triangle_of ts x) (triangle_of ts y) → f x ≡ f y

-- a side of a marked triangle whose other triangle isn't marked
pub record IsCrossing (ts : List (List ℤ)) (reached : List Bool) (x : ℤ) : Type 0 where
  pub label : IsLabel ts x
  pub from : IsMarked reached (triangle_of ts x)
  pub to : IsFree reached (triangle_of ts (inverse x))

pub marked_or_free : (marks : List Bool) (k : ℕ) → IsMarked marks k ⊎ IsFree marks k
marked_or_free marks k = cases_Bool (get_or marks k false)

pub not_both : (marks : List Bool) (k : ℕ) → IsMarked marks k → IsFree marks k → ⊥
not_both marks k m n = false≢true (sym n ∙ m)

-- the edge isn't in the tree yet
crossing_free : (ts : List (List ℤ)) (trees : ℕ) (reached tree : List Bool) (x : ℤ) → Grown ts trees reached tree
    → IsCrossing ts reached x → IsFree tree (edge_of x)
crossing_free ts trees reached tree x g c =
    elim (marked_or_free tree (edge_of x)) [
      | inl m ↦
          absurd
          (not_both reached (triangle_of ts (inverse x))
          (g.inside (inverse x) (inverse_label ts x c.label)
          (ap (λ (k : ℕ). get_or tree k false) (edge_of-inverse x) ∙ m)) c.to)
      | inr m ↦ m
    ]

-- an edge of the larger tree has both triangles marked
inside_more : (ts : List (List ℤ)) → TriangleLaws ts → (trees : ℕ) (reached tree : List Bool) (x : ℤ)
    → Grown ts trees reached tree → IsCrossing ts reached x
    → (y : ℤ) → IsLabel ts y → IsMarked (set tree (edge_of x) true) (edge_of y)
    → IsMarked (set reached (triangle_of ts (inverse x)) true) (triangle_of ts y)
inside_more ts h trees reached tree x g c y l m =
    elim (was_marked tree (edge_of x) (edge_of y) m) [
      | inl old ↦ still_marked reached (triangle_of ts (inverse x)) (triangle_of ts y) below (g.inside y l old)
      | inr e ↦
          elim (two_labels y x e) [
            | inl d ↦
                still_marked reached (triangle_of ts (inverse x)) (triangle_of ts y) below
                (ap (λ (z : ℤ). get_or reached (triangle_of ts z) false) d ∙ c.from)
            | inr d ↦
                ap (λ (z : ℤ). get_or (set reached (triangle_of ts (inverse x)) true) (triangle_of ts z) false) d
                ∙ marked reached (triangle_of ts (inverse x)) below
          ]
    ]
  where
    below : triangle_of ts (inverse x) < length reached
    below = omega (arith, h.triangle (inverse x) (inverse_label ts x c.label), g.room)

-- the other two sides of the new triangle are no edges of the larger tree
side_free : (ts : List (List ℤ)) (trees : ℕ) (reached tree : List Bool) (x : ℤ) → Grown ts trees reached tree
    → IsCrossing ts reached x
    → (y : ℤ) → IsLabel ts y → triangle_of ts y ≡ triangle_of ts (inverse x) → y ≢ inverse x
    → IsFree (set tree (edge_of x) true) (edge_of y)
side_free ts trees reached tree x g c y l e ne =
    elim (marked_or_free (set tree (edge_of x) true) (edge_of y)) [
      | inr m ↦ m
      | inl m ↦
          elim (was_marked tree (edge_of x) (edge_of y) m) [
            | inl old ↦
                absurd (not_both reached (triangle_of ts (inverse x))
                (ap (λ (k : ℕ). get_or reached k false) (sym e) ∙ g.inside y l old) c.to)
            | inr same ↦
                elim (two_labels y x same) [
                  | inl d ↦
                      absurd
                      (not_both reached (triangle_of ts (inverse x))
                      (ap (λ (k : ℕ). get_or reached k false) (sym e ∙ ap (triangle_of ts) d) ∙ c.from) c.to)
                  | inr d ↦ absurd (ne d)
                ]
          ]
    ]

-- the new triangle's corners have the name of the crossed side's ends
new_corners : (ts : List (List ℤ)) → TriangleLaws ts → (trees : ℕ) (reached tree : List Bool) (x : ℤ)
    → Grown ts trees reached tree → IsCrossing ts reached x
    → (f : ℤ → ℤ) → AreJoined ts (set reached (triangle_of ts (inverse x)) true) (set tree (edge_of x) true) f
    → (u : ℤ) → IsLabel ts u → triangle_of ts u ≡ triangle_of ts (inverse x) → f u ≡ f (inverse x)
new_corners ts h trees reached tree x g c f joined u m e =
    let l : IsLabel ts (inverse x) = inverse_label ts x c.label in
    let m1 : IsLabel ts (next ts (inverse x)) = h.label (inverse x) l in
    let m2 : IsLabel ts (previous ts (inverse x)) = h.label (next ts (inverse x)) m1 in
    let in1 : triangle_of ts (next ts (inverse x)) ≡ triangle_of ts (inverse x) = h.stays (inverse x) l in
    let in2 : triangle_of ts (previous ts (inverse x)) ≡ triangle_of ts (inverse x) =
    h.stays (next ts (inverse x)) m1 ∙ in1 in
    three_corners ts h f (inverse x) l
    (side (next ts (inverse x)) m1 in1 (h.moves (inverse x) l).0)
    (side (previous ts (inverse x)) m2 in2 (h.moves (inverse x) l).1) u m e
  where
    below : triangle_of ts (inverse x) < length reached
    below = omega (arith, h.triangle (inverse x) (inverse_label ts x c.label), g.room)

    side : (y : ℤ) → IsLabel ts y → triangle_of ts y ≡ triangle_of ts (inverse x) → y ≢ inverse x → IsJoined ts f y
    side y l e ne =
        joined y l
        (ap (λ (k : ℕ). get_or (set reached (triangle_of ts (inverse x)) true) k false) e ∙ marked reached
        (triangle_of ts (inverse x)) below)
        (side_free ts trees reached tree x g c y l e ne)

-- the crossed side has one name too
crossed_name : (ts : List (List ℤ)) → TriangleLaws ts → (trees : ℕ) (reached tree : List Bool) (x : ℤ)
    → Grown ts trees reached tree → IsCrossing ts reached x
    → (f : ℤ → ℤ) → IsVertexwise ts f
    → AreJoined ts (set reached (triangle_of ts (inverse x)) true) (set tree (edge_of x) true) f
    → f x ≡ f (inverse x)
crossed_name ts h trees reached tree x g c f v joined =
    let l : IsLabel ts (inverse x) = inverse_label ts x c.label in
    let after : IsLabel ts (next ts (inverse x)) = h.label (inverse x) l in
    sym (head_name ts h f v x c.label)
    ∙ new_corners ts h trees reached tree x g c f joined (previous ts (inverse x)) (h.label (next ts (inverse x)) after)
    (h.stays (next ts (inverse x)) after ∙ h.stays (inverse x) l)

-- what is joined now was joined before, and the crossed side is joined
joined_before : (ts : List (List ℤ)) → TriangleLaws ts → (trees : ℕ) (reached tree : List Bool) (x : ℤ)
    → Grown ts trees reached tree → IsCrossing ts reached x
    → (f : ℤ → ℤ) → IsVertexwise ts f
    → AreJoined ts (set reached (triangle_of ts (inverse x)) true) (set tree (edge_of x) true) f
    → AreJoined ts reached tree f
joined_before ts h trees reached tree x g c f v joined u k at free =
    elim (cases_eq (edge_of u) (edge_of x)) [
      | inr ne ↦
          joined u k (still_marked reached (triangle_of ts (inverse x)) (triangle_of ts u) below at)
          (get_or-set_other tree (edge_of x) (edge_of u) true false ne ∙ free)
      | inl e ↦
          elim (two_labels u x e) [
            | inl d ↦
                subst (IsJoined ts f) (sym d)
                (crossed_name ts h trees reached tree x g c f v joined ∙ tail_name ts h f v x c.label)
            | inr d ↦
                absurd (not_both reached (triangle_of ts (inverse x))
                (ap (λ (z : ℤ). get_or reached (triangle_of ts z) false) (sym d) ∙ at) c.to)
          ]
    ]
  where
    below : triangle_of ts (inverse x) < length reached
    below = omega (arith, h.triangle (inverse x) (inverse_label ts x c.label), g.room)

-- a marked triangle of the component has the name of the crossed side
joins_more : (ts : List (List ℤ)) → TriangleLaws ts → (trees : ℕ) (reached tree : List Bool) (x : ℤ)
    → Grown ts trees reached tree → IsCrossing ts reached x
    → (f : ℤ → ℤ) → IsVertexwise ts f
    → AreJoined ts (set reached (triangle_of ts (inverse x)) true) (set tree (edge_of x) true) f
    → (y : ℤ) → IsLabel ts y → IsMarked (set reached (triangle_of ts (inverse x)) true) (triangle_of ts y)
    → IsReached ts (triangle_of ts y) (triangle_of ts x) → f y ≡ f x
joins_more ts h trees reached tree x g c f v joined y l m r =
    elim (was_marked reached (triangle_of ts (inverse x)) (triangle_of ts y) m) [
      | inl old ↦ g.joins f v (joined_before ts h trees reached tree x g c f v joined) y x l c.label old c.from r
      | inr e ↦
          new_corners ts h trees reached tree x g c f joined y l e
          ∙ sym (crossed_name ts h trees reached tree x g c f v joined)
    ]

pub grow : (ts : List (List ℤ)) → TriangleLaws ts → (trees : ℕ) (reached tree : List Bool) (x : ℤ)
    → Grown ts trees reached tree → IsCrossing ts reached x
    → Grown ts trees (set reached (triangle_of ts (inverse x)) true) (set tree (edge_of x) true)
grow ts h trees reached tree x g c = record {
  room = length-set reached (triangle_of ts (inverse x)) true ∙ g.room;
  sides = length-set tree (edge_of x) true ∙ g.sides;
  few =
      omega (
        arith,
        g.few,
        mark_one reached (triangle_of ts (inverse x)) below c.to,
        mark_one tree (edge_of x) within
            (crossing_free ts trees reached tree x g c),
      );
  inside = inside_more ts h trees reached tree x g c;
  joins = joins;
}
  where
    below : triangle_of ts (inverse x) < length reached
    below = omega (arith, h.triangle (inverse x) (inverse_label ts x c.label), g.room)

    within : edge_of x < length tree
    within = subst (λ (n : ℕ). edge_of x < n) (sym g.sides) c.label

    -- from the new triangle back across the crossed side
    to_crossed : (t : ℕ) → t ≡ triangle_of ts (inverse x) → IsReached ts t (triangle_of ts x)
    to_crossed t e =
        subst (λ (k : ℕ). IsReached ts k (triangle_of ts x)) (sym e)
        (reached_back ts (triangle_of ts x) (triangle_of ts (inverse x)) (reached_step ts x c.label))

    joins : (f : ℤ → ℤ) → IsVertexwise ts f
        → AreJoined ts (set reached (triangle_of ts (inverse x)) true) (set tree (edge_of x) true) f
        → (y z : ℤ) → IsLabel ts y → IsLabel ts z
        → IsMarked (set reached (triangle_of ts (inverse x)) true) (triangle_of ts y)
        → IsMarked (set reached (triangle_of ts (inverse x)) true) (triangle_of ts z)
        → IsReached ts (triangle_of ts y) (triangle_of ts z) → f y ≡ f z
    joins f v joined y z l k m n r =
        elim (was_marked reached (triangle_of ts (inverse x)) (triangle_of ts z) n) [
          | inr new ↦
              both (reached_along ts (triangle_of ts y) (triangle_of ts z) (triangle_of ts x) r
              (to_crossed (triangle_of ts z) new)) (to_crossed (triangle_of ts z) new)
          | inl old_z ↦
              elim (was_marked reached (triangle_of ts (inverse x)) (triangle_of ts y) m) [
                | inr new ↦
                    both (to_crossed (triangle_of ts y) new)
                    (reached_along ts (triangle_of ts z) (triangle_of ts y) (triangle_of ts x)
                    (reached_back ts (triangle_of ts y) (triangle_of ts z) r)
                    (to_crossed (triangle_of ts y) new))
                | inl old_y ↦ g.joins f v (joined_before ts h trees reached tree x g c f v joined) y z l k old_y old_z r
              ]
        ]
      where
        both : IsReached ts (triangle_of ts y) (triangle_of ts x) → IsReached ts (triangle_of ts z) (triangle_of ts x)
            → f y ≡ f z
        both p q =
            joins_more ts h trees reached tree x g c f v joined y l m p
            ∙ sym (joins_more ts h trees reached tree x g c f v joined z k n q)
