-- A forest of triangles, one tree for each component, and the edges that it does not cross.
--
-- Trees grow from the least triangle of each component, in the order of the triangles, each until no side leads out of
-- it: then all that a walk reaches from it is marked. The next triangle that isn't marked is the least of its
-- component, since a walk from a lesser one would have marked it.
--
-- With T triangles, ζ edges and C components the trees cross T - C edges, and the other ζ - T + C edges join the
-- vertices of each component. So there are at most C more vertices than such edges: V ≤ ζ - T + 2 C.
use Rattle.std.proofs.Common.{ℕ, zero, suc, ℤ, Bool, true, false, not, ◌&&◌, cond, List, ◌≡◌, ◌≤◌, ◌<◌, ◌+◌, ◌*◌, ◌⊎◌}
use Rattle.std.proofs.Common.{inl, inr, sym, ◌∙◌, ap, subst, arith, length, get_or, set, replicate}
use Rattle.std.proofs.lemmas.Bool.{cases_lt, and_parts, and_cases, not-true, not-false}
use Rattle.std.proofs.lemmas.List.{length-replicate}
use Rattle.std.proofs.lemmas.List.Folds.{sum_by-replicate}
use Rattle.ideal_tri.specs.Labels.{inverse, edge_of}
use Rattle.ideal_tri.specs.Triangulations.{IsLabel, IsReached, IsTriangulation, edge_count, triangle_of}
use Rattle.ideal_tri.specs.Components.{first_triangles, component_count}
use Rattle.ideal_tri.specs.SurfaceLaws.{TriangleLaws}
use Rattle.ideal_tri.specs.Vertices.{rank, label_of_rank}
use Rattle.ideal_tri.proofs.Labels.{inverse_label}
use Rattle.ideal_tri.proofs.Triangles.{triangle_laws}
use Rattle.ideal_tri.proofs.Reaching.{IsClosed, reached_marked, marked, still_marked, unmarked, none_marked}
use Rattle.ideal_tri.proofs.Numbering.{passing-le, passing-yes, one_or_none}
use Rattle.ideal_tri.proofs.Components.{is_first_triangle, first_if_none}
use Rattle.ideal_tri.proofs.Order.{label_of_rank-rank, rank_below, label_below}
use Rattle.ideal_tri.proofs.Naming.{IsVertexwise, IsJoined, mark_one, none_unmarked}
use Rattle.ideal_tri.proofs.Trees.{IsMarked, Grown, IsCrossing, marked_or_free, not_both, grow}
use Rattle.ideal_tri.proofs.Planting.{more_trees, plant}

-- ---- a tree grows to its whole component

-- a side that leads out of the marked triangles, or none
crossing_or_closed : (ts : List (List ℤ)) (reached : List Bool)
    → ((x : ℤ) × IsCrossing ts reached x) ⊎ IsClosed ts reached
crossing_or_closed ts reached =
    elim (one_or_none (λ k. leads_out (label_of_rank k)) (2 * edge_count ts)) [
      | inl (k, below, e) ↦
          (let (from, to) =
          and_parts (get_or reached (triangle_of ts (label_of_rank k)) false)
          (not (get_or reached (triangle_of ts (inverse (label_of_rank k))) false)) e in
          inl (
            label_of_rank k,
            record {
              label = label_below k (edge_count ts) below;
              from = from;
              to = not-true (get_or reached (triangle_of ts (inverse (label_of_rank k))) false) to;
            },
          ))
      | inr none ↦
          inr (record {
            crossed = λ x l m. kept x m
                (ap leads_out (sym (label_of_rank-rank x)) ∙ none (rank x) (rank_below x (edge_count ts) l));
          })
    ]
  where
    leads_out : ℤ → Bool
    leads_out x = get_or reached (triangle_of ts x) false && not (get_or reached (triangle_of ts (inverse x)) false)

    kept : (x : ℤ) → IsMarked reached (triangle_of ts x) → leads_out x ≡ false
        → IsMarked reached (triangle_of ts (inverse x))
    kept x m none =
        elim (and_cases (get_or reached (triangle_of ts x) false)
        (not (get_or reached (triangle_of ts (inverse x)) false)) none) [
          | inl e ↦ absurd (not_both reached (triangle_of ts x) m e)
          | inr e ↦ not-false (get_or reached (triangle_of ts (inverse x)) false) e
        ]

-- marks that no side leads out of, with those of a forest within them, and the marks that they began with
record Whole (ts : List (List ℤ)) (trees : ℕ) (before : List Bool) : Type 0 where
  reached : List Bool
  tree : List Bool
  grown : Grown ts trees reached tree
  closed : IsClosed ts reached
  kept : (t : ℕ) → IsMarked before t → IsMarked reached t

grow_on : (ts : List (List ℤ)) → TriangleLaws ts → (trees n : ℕ) (reached tree : List Bool) → unmarked reached ≤ n
    → Grown ts trees reached tree
    → Whole ts trees reached
grow_on ts h trees zero reached tree few g =
    elim (crossing_or_closed ts reached) [
      | inr closed ↦ record { reached = reached; tree = tree; grown = g; closed = closed; kept = λ t m. m }
      | inl (x, c) ↦
          (let below : triangle_of ts (inverse x) < length reached =
          omega (arith, h.triangle (inverse x) (inverse_label ts x c.label), g.room) in
          absurd (omega (arith, mark_one reached (triangle_of ts (inverse x)) below c.to)))
    ]
grow_on ts h trees (suc n) reached tree few g =
    elim (crossing_or_closed ts reached) [
      | inr closed ↦ record { reached = reached; tree = tree; grown = g; closed = closed; kept = λ t m. m }
      | inl (x, c) ↦
          (let below : triangle_of ts (inverse x) < length reached =
          omega (arith, h.triangle (inverse x) (inverse_label ts x c.label), g.room) in
          let w : Whole ts trees (set reached (triangle_of ts (inverse x)) true) =
          grow_on ts h trees n (set reached (triangle_of ts (inverse x)) true) (set tree (edge_of x) true)
          (omega (arith, mark_one reached (triangle_of ts (inverse x)) below c.to))
          (grow ts h trees reached tree x g c) in
          record {
            reached = w.reached;
            tree = w.tree;
            grown = w.grown;
            closed = w.closed;
            kept = λ t m. w.kept t (still_marked reached (triangle_of ts (inverse x)) t below m);
          })
    ]

-- ---- a tree for each component

all_free : (n : ℕ) → unmarked (replicate n false) ≡ n
all_free n = sum_by-replicate (λ v. cond (not v) 1 0) n false ∙ one n
  where
    one : (m : ℕ) → m * 1 ≡ m
    one m = omega arith

-- no triangle is marked yet
begin : (ts : List (List ℤ)) → Grown ts 0 (replicate (length ts) false) (replicate (edge_count ts) false)
begin ts = record {
  room = length-replicate (length ts) false;
  sides = length-replicate (edge_count ts) false;
  few = omega (arith, all_free (length ts), all_free (edge_count ts));
  inside =
      λ x l m. absurd
      (not_both (replicate (edge_count ts) false) (edge_of x) m (none_marked (edge_count ts) (edge_of x)));
  joins =
      λ f v joined x y l k m n r. absurd
      (not_both (replicate (length ts) false) (triangle_of ts x) m (none_marked (length ts) (triangle_of ts x)));
}

-- the forest of the components that have a triangle below t
record Covered (ts : List (List ℤ)) (t : ℕ) : Type 0 where
  reached : List Bool
  tree : List Bool
  grown : Grown ts (first_triangles ts t) reached tree
  closed : IsClosed ts reached
  below : (s : ℕ) → s < t → IsMarked reached s

-- the next triangle is marked, or the least of its component
cover_next : (ts : List (List ℤ)) → IsTriangulation ts → (t : ℕ) → t < length ts → Covered ts t → Covered ts (suc t)
cover_next ts sound t within c =
    elim (marked_or_free c.reached t) [
      | inl m ↦
          record {
            reached = c.reached;
            tree = c.tree;
            grown =
                more_trees ts (first_triangles ts t) (first_triangles ts (suc t)) c.reached c.tree
                (passing-le (is_first_triangle ts) t (suc t) (omega arith)) c.grown;
            closed = c.closed;
            below = up_to c.reached c.below m;
          }
      | inr free ↦
          (let first : is_first_triangle ts t ≡ true =
          first_if_none ts sound t within
          (λ s order r. not_both c.reached t (reached_marked ts c.reached s t c.closed r (c.below s order)) free) in
          let h : TriangleLaws ts = triangle_laws ts sound in
          let room : t < length c.reached = omega (arith, c.grown.room) in
          let w : Whole ts (first_triangles ts t + 1) (set c.reached t true) =
          grow_on ts h (first_triangles ts t + 1) (unmarked (set c.reached t true)) (set c.reached t true) c.tree
          (omega arith)
          (plant ts h (first_triangles ts t) c.reached c.tree t c.grown c.closed within free) in
          record {
            reached = w.reached;
            tree = w.tree;
            grown =
                subst (λ (n : ℕ). Grown ts n w.reached w.tree) (sym (passing-yes (is_first_triangle ts) t first))
                w.grown;
            closed = w.closed;
            below =
                up_to w.reached (λ s order. w.kept s (still_marked c.reached t s room (c.below s order)))
                (w.kept t (marked c.reached t room));
          })
    ]
  where
    up_to : (marks : List Bool) → ((s : ℕ) → s < t → IsMarked marks s) → IsMarked marks t → (s : ℕ) → s < suc t
        → IsMarked marks s
    up_to marks before here s order =
        elim (cases_lt s t) [
          | inl b ↦ before s b
          | inr b ↦ (let e : t ≡ s = omega arith in subst (IsMarked marks) e here)
        ]

cover : (ts : List (List ℤ)) → IsTriangulation ts → (t : ℕ) → t ≤ length ts → Covered ts t
cover ts sound zero b = record {
  reached = replicate (length ts) false;
  tree = replicate (edge_count ts) false;
  grown = begin ts;
  closed =
      record {
        crossed = λ x l m. absurd
            (not_both (replicate (length ts) false) (triangle_of ts x) m (none_marked (length ts) (triangle_of ts x)));
      };
  below = λ s order. absurd (omega arith);
}
cover ts sound (suc t) b = cover_next ts sound t (omega arith) (cover ts sound t (omega arith))

-- ---- the whole forest

-- marks of edges, those that the trees cross; the others join the corners of each component
pub record Forest (ts : List (List ℤ)) : Type 0 where
  pub tree : List Bool
  pub sides : length tree ≡ edge_count ts
  pub few : unmarked tree + length ts ≤ edge_count ts + component_count ts
  pub joins : (f : ℤ → ℤ) → IsVertexwise ts f
      → ((x : ℤ) → IsLabel ts x → get_or tree (edge_of x) false ≡ false → IsJoined ts f x)
      → (x y : ℤ) → IsLabel ts x → IsLabel ts y → IsReached ts (triangle_of ts x) (triangle_of ts y) → f x ≡ f y

pub forest : (ts : List (List ℤ)) → IsTriangulation ts → Forest ts
forest ts sound = of_cover (cover ts sound (length ts) (omega arith))
  where
    of_cover : Covered ts (length ts) → Forest ts
    of_cover c = record {
      tree = c.tree;
      sides = c.grown.sides;
      few = omega (arith, c.grown.few, none_unmarked c.reached (λ k b. c.below k (omega (arith, c.grown.room))));
      joins = λ f v joined x y l k r. c.grown.joins f v (λ u m at free. joined u m free) x y l k (at x l) (at y k) r;
    }
      where
        at : (x : ℤ) → IsLabel ts x → IsMarked c.reached (triangle_of ts x)
        at x l = c.below (triangle_of ts x) ((triangle_laws ts sound).triangle x l)
