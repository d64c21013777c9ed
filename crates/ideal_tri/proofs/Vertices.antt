-- The numbers of the vertices, and the bound on how many there are.
--
-- The first corners, those that are the least of their vertices, are listed in the order of labels. The number of a
-- vertex is how many first corners come before its least one. It grows with the least corner, so it tells vertices
-- apart.
--
-- Let the vertices be named by their least corners, and let names be merged along all edges that no tree of a forest
-- of triangles crosses. In the end all corners of a component have one name, that of a side of its least triangle. So
-- there are at most C more vertices than such edges, and of these there are ζ - T + C: in all V + T ≤ ζ + 2 C.
use Rattle.std.proofs.Common.{ℕ, zero, suc, ℤ, pos, negsuc, Bool, true, false, not, cond, ltb, List, [], ◌∷◌, ◌++◌, ◌≡◌}
use Rattle.std.proofs.Common.{◌≤◌, ◌<◌, ◌+◌, ◌-◌, ◌*◌, ◌↔◌, inl, inr, refl, sym, ◌∙◌, ap, subst, arith, Some, None}
use Rattle.std.proofs.Common.{length, get_or, map, append_assoc, length-append}
use Rattle.std.specs.List.{All, count_by, position_or_len, range_with_len}
use Rattle.std.specs.Option.{unwrap_or}
use Rattle.std.specs.Ordering.{int_eq}
use Rattle.std.proofs.Math.Seq.{get_or-append_seam}
use Rattle.std.proofs.lemmas.Bool.{true≢false, cases_lt, lt-ltb}
use Rattle.std.proofs.lemmas.List.{get_or_append_left, append-nil}
use Rattle.std.proofs.lemmas.List.Elements.{All-from_get_or, All-filter}
use Rattle.std.proofs.lemmas.List.FromFn.{length-map-range_with_len, get_or-map-range_with_len}
use Rattle.std.proofs.lemmas.List.FromFn.{filter_of_map_range_with_len_more}
use Rattle.std.proofs.lemmas.List.Sums.{sum_by-cons, length-filter, count_by-le-length, position_or_len_is}
use Rattle.ideal_tri.specs.Labels.{edge_of}
use Rattle.ideal_tri.specs.Triangulations.{IsLabel, IsReached, IsTriangulation, edge_count, triangle_of, previous}
use Rattle.ideal_tri.specs.Components.{least_triangle, component_count}
use Rattle.ideal_tri.specs.Refusals.{IsDistinct}
use Rattle.ideal_tri.specs.SurfaceLaws.{TriangleLaws}
use Rattle.ideal_tri.specs.Vertices.{rank, label_of_rank, ordered_labels, corner_step, IsSameVertex, least_corner}
use Rattle.ideal_tri.specs.Vertices.{first_corners, first_corners_below, vertex_of, vertex_count}
use Rattle.ideal_tri.specs.VertexLaws.{PunctureLaws, VertexLaws}
use Rattle.ideal_tri.proofs.Labels.{int_eq-same, int_eq-other}
use Rattle.ideal_tri.proofs.Counting.{at_most_once}
use Rattle.ideal_tri.proofs.Triangles.{times, label_of_counted, triangle_laws}
use Rattle.ideal_tri.proofs.Triples.{HasTriple, triple_at}
use Rattle.ideal_tri.proofs.Reaching.{unmarked}
use Rattle.ideal_tri.proofs.Order.{rank-label_of_rank, label_of_rank-rank, rank-injective, rank_below, label_below}
use Rattle.ideal_tri.proofs.Turning.{least_corner_there, least_corner_least, least_corner_label, least_corner_same}
use Rattle.ideal_tri.proofs.Turning.{same_vertex_of_least, least_corner_own}
use Rattle.ideal_tri.proofs.Merging.{merged, merged_keeps, merged_joins, IsNamed, names_of_parts}
use Rattle.ideal_tri.proofs.Components.{is_first_triangle, least_triangle_below, least_triangle_there, least_is_first}
use Rattle.ideal_tri.proofs.Naming.{IsVertexwise, IsJoined, joined_inverse}
use Rattle.ideal_tri.proofs.Forest.{Forest, forest}

-- ---- the first corners in their order

-- x is the least of its vertex
abbrev pub is_first : List (List ℤ) → ℤ → Bool
is_first ts x = int_eq (least_corner ts x) x

-- how many first corners have a rank below k
abbrev pub firsts : List (List ℤ) → ℕ → ℕ
firsts ts k = length (first_corners_below ts k)

pub first_corners_below-more : (ts : List (List ℤ)) (k : ℕ)
    → first_corners_below ts (k + 1)
    ≡ first_corners_below ts k ++ cond (is_first ts (label_of_rank k)) (label_of_rank k ∷ []) []
first_corners_below-more ts k = filter_of_map_range_with_len_more (is_first ts) label_of_rank 0 k k (omega arith)

-- up to a larger rank some are added
record IsBegun (ts : List (List ℤ)) (k n : ℕ) : Type 0 where
  more : List ℤ
  is : first_corners_below ts n ≡ first_corners_below ts k ++ more

begun : (ts : List (List ℤ)) (k d n : ℕ) → n ≡ k + d → IsBegun ts k n
begun ts k zero n e =
    let same : n ≡ k = omega arith in
    record { more = []; is = ap (first_corners_below ts) same ∙ sym (append-nil (first_corners_below ts k)) }
begun ts k (suc d) n e =
    let before : IsBegun ts k (k + d) = begun ts k d (k + d) refl in
    let last : n ≡ k + d + 1 = omega arith in
    record {
      more = before.more ++ cond (is_first ts (label_of_rank (k + d))) (label_of_rank (k + d) ∷ []) [];
      is =
          ap (first_corners_below ts) last
          ∙ first_corners_below-more ts (k + d)
          ∙ ap (λ (xs : List ℤ). xs ++ cond (is_first ts (label_of_rank (k + d))) (label_of_rank (k + d) ∷ []) [])
          before.is
          ∙ append_assoc (first_corners_below ts k) before.more
          (cond (is_first ts (label_of_rank (k + d))) (label_of_rank (k + d) ∷ []) []);
    }

firsts-le : (ts : List (List ℤ)) (k n : ℕ) → k ≤ n → firsts ts k ≤ firsts ts n
firsts-le ts k n b =
    let h : IsBegun ts k n = begun ts k (n - k) n (omega arith) in
    omega (arith, ap length h.is, length-append (first_corners_below ts k) h.more)

-- a first corner comes next
first_comes : (ts : List (List ℤ)) (x : ℤ) → least_corner ts x ≡ x
    → first_corners_below ts (rank x + 1) ≡ first_corners_below ts (rank x) ++ (x ∷ [])
first_comes ts x e =
    first_corners_below-more ts (rank x)
    ∙ ap (λ (y : ℤ). first_corners_below ts (rank x) ++ cond (is_first ts y) (y ∷ []) []) (label_of_rank-rank x)
    ∙ ap (λ (b : Bool). first_corners_below ts (rank x) ++ cond b (x ∷ []) []) (int_eq-same (least_corner ts x) x e)

firsts-grow : (ts : List (List ℤ)) (x : ℤ) (n : ℕ) → least_corner ts x ≡ x → rank x < n
    → firsts ts (rank x) < firsts ts n
firsts-grow ts x n e b =
    omega (
      arith,
      firsts-le ts (rank x + 1) n (omega arith),
      ap length (first_comes ts x e),
      length-append
          (first_corners_below ts (rank x)) (x ∷ []),
    )

-- those below a rank are below it
below_all : (ts : List (List ℤ)) (n : ℕ) → All (λ y. rank y < n) (first_corners_below ts n)
below_all ts n =
    All-filter (is_first ts) (λ y. rank y < n) (map label_of_rank (range_with_len 0 n))
    (All-from_get_or (λ y. rank y < n) (map label_of_rank (range_with_len 0 n)) (pos 0) (λ k b.
    let below : k < n = omega (arith, length-map-range_with_len label_of_rank 0 n) in
    let at : get_or (map label_of_rank (range_with_len 0 n)) k (pos 0) ≡ label_of_rank k =
    get_or-map-range_with_len label_of_rank 0 n k k (pos 0) below (omega arith) in
    omega (arith, ap rank at, rank-label_of_rank k)))

-- where a first corner stands among all
first_position : (ts : List (List ℤ)) (x : ℤ) (n : ℕ) → least_corner ts x ≡ x → rank x < n
    → position_or_len (λ y. int_eq y x) (first_corners_below ts n) ≡ firsts ts (rank x)
first_position ts x n e b = go (begun ts (rank x + 1) (n - (rank x + 1)) n (omega arith))
  where
    go : IsBegun ts (rank x + 1) n → position_or_len (λ y. int_eq y x) (first_corners_below ts n) ≡ firsts ts (rank x)
    go h =
        let whole : first_corners_below ts n ≡ first_corners_below ts (rank x) ++ (x ∷ h.more) =
        h.is
        ∙ ap (λ (xs : List ℤ). xs ++ h.more) (first_comes ts x e)
        ∙ append_assoc (first_corners_below ts (rank x)) (x ∷ []) h.more in
        position_or_len_is (λ y. int_eq y x) (first_corners_below ts n) (firsts ts (rank x)) (pos 0)
        (omega (arith, firsts-le ts (rank x) n (omega arith)))
        (λ k c.
        let at : get_or (first_corners_below ts n) k (pos 0) ≡ get_or (first_corners_below ts (rank x)) k (pos 0) =
        ap (λ (xs : List ℤ). get_or xs k (pos 0)) whole
        ∙ get_or_append_left (first_corners_below ts (rank x)) (x ∷ h.more) (pos 0) k c in
        let less : rank (get_or (first_corners_below ts (rank x)) k (pos 0)) < rank x =
        below_all ts (rank x) k (pos 0) c in
        int_eq-other (get_or (first_corners_below ts n) k (pos 0)) x
        (λ same. omega (arith, less, ap rank (sym at ∙ same))))
        (λ c.
        int_eq-same (get_or (first_corners_below ts n) (firsts ts (rank x)) (pos 0)) x
        (ap (λ (xs : List ℤ). get_or xs (firsts ts (rank x)) (pos 0)) whole
        ∙ get_or-append_seam (first_corners_below ts (rank x)) x h.more (pos 0)))

-- ---- counting them

firsts_few : (ts : List (List ℤ)) (k : ℕ) → firsts ts k ≤ k
firsts_few ts k =
    omega (
      arith,
      length-filter (is_first ts) (map label_of_rank (range_with_len 0 k)),
      count_by-le-length (is_first ts)
          (map label_of_rank (range_with_len 0 k)),
      length-map-range_with_len label_of_rank 0 k,
    )

-- the count fits any type that holds 96
pub firsts_fit : (ts : List (List ℤ)) (k n : ℕ) → n ≡ firsts ts k → n ≤ k
firsts_fit ts k n e = omega (arith, e, firsts_few ts k)

-- the label at the next place is told to be a first corner, or not
pub record IsTold (ts : List (List ℤ)) (k : ℕ) (b : Bool) : Type 0 where
  pub is : is_first ts (label_of_rank k) ≡ b

pub told : (ts : List (List ℤ)) (k : ℕ) (x least : ℤ) (b : Bool) → x ≡ label_of_rank k → least ≡ least_corner ts x
    → b ≡ int_eq least x → IsTold ts k b
told ts k x least b e d test = record { is = ap (is_first ts) (sym e) ∙ ap (λ (y : ℤ). int_eq y x) (sym d) ∙ sym test }

told_more : (ts : List (List ℤ)) (k : ℕ) (b : Bool) → IsTold ts k b
    → first_corners_below ts (k + 1) ≡ first_corners_below ts k ++ cond b (label_of_rank k ∷ []) []
told_more ts k b t =
    first_corners_below-more ts k ∙ ap (λ (c : Bool). first_corners_below ts k ++ cond c (label_of_rank k ∷ []) []) t.is

pub firsts_more_yes : (ts : List (List ℤ)) (k n : ℕ) (b : Bool) → IsTold ts k b → b ≡ true → n ≡ firsts ts k
    → n + 1 ≡ firsts ts (k + 1)
firsts_more_yes ts k n b t is e =
    let more : first_corners_below ts (k + 1) ≡ first_corners_below ts k ++ (label_of_rank k ∷ []) =
    told_more ts k true (subst (IsTold ts k) is t) in
    omega (arith, e, ap length more, length-append (first_corners_below ts k) (label_of_rank k ∷ []))

pub firsts_more_no : (ts : List (List ℤ)) (k n : ℕ) (b : Bool) → IsTold ts k b → b ≡ false → n ≡ firsts ts k
    → n ≡ firsts ts (k + 1)
firsts_more_no ts k n b t is e =
    let more : first_corners_below ts (k + 1) ≡ first_corners_below ts k ++ [] =
    told_more ts k false (subst (IsTold ts k) is t) in
    omega (arith, e, ap length more, length-append (first_corners_below ts k) [])

-- ---- the number of a vertex

-- how many first corners come before its least corner
pub vertex_of-is : (ts : List (List ℤ)) → TriangleLaws ts → (x : ℤ) → IsLabel ts x
    → vertex_of ts x ≡ firsts ts (rank (least_corner ts x))
vertex_of-is ts h x l =
    let own : least_corner ts (least_corner ts x) ≡ least_corner ts x = least_corner_own ts h x l in
    let below : rank (least_corner ts x) < 2 * edge_count ts =
    rank_below (least_corner ts x) (edge_count ts) (least_corner_label ts h x l) in
    let place : position_or_len (λ y. int_eq y (least_corner ts x)) (first_corners ts)
    ≡ firsts ts (rank (least_corner ts x)) =
    first_position ts (least_corner ts x) (2 * edge_count ts) own below in
    ap (λ (n : ℕ). unwrap_or (cond (ltb n (length (first_corners ts))) (Some n) None) 0) place
    ∙ ap (λ (b : Bool). unwrap_or (cond b (Some (firsts ts (rank (least_corner ts x)))) None) 0)
    (lt-ltb (firsts ts (rank (least_corner ts x))) (length (first_corners ts))
    (firsts-grow ts (least_corner ts x) (2 * edge_count ts) own below))

vertex_within : (ts : List (List ℤ)) → TriangleLaws ts → (x : ℤ) → IsLabel ts x → vertex_of ts x < vertex_count ts
vertex_within ts h x l =
    subst (λ (n : ℕ). n < vertex_count ts) (sym (vertex_of-is ts h x l))
    (firsts-grow ts (least_corner ts x) (2 * edge_count ts) (least_corner_own ts h x l)
    (rank_below (least_corner ts x) (edge_count ts) (least_corner_label ts h x l)))

vertex_ordered : (ts : List (List ℤ)) → TriangleLaws ts → (x y : ℤ) → IsLabel ts x → IsLabel ts y
    → rank (least_corner ts x) < rank (least_corner ts y) → vertex_of ts x < vertex_of ts y
vertex_ordered ts h x y l m b =
    subst (λ (n : ℕ). vertex_of ts x < n) (sym (vertex_of-is ts h y m))
    (subst (λ (n : ℕ). n < firsts ts (rank (least_corner ts y))) (sym (vertex_of-is ts h x l))
    (firsts-grow ts (least_corner ts x) (rank (least_corner ts y)) (least_corner_own ts h x l) b))

vertex_same : (ts : List (List ℤ)) → TriangleLaws ts → (x y : ℤ) → IsLabel ts x → IsLabel ts y
    → (vertex_of ts x ≡ vertex_of ts y) ↔ IsSameVertex ts x y
vertex_same ts h x y l m = (
  λ e. same_vertex_of_least ts h x y l m (rank-injective (least_corner ts x) (least_corner ts y) (same_rank e)),
  λ a. ap (λ (z : ℤ). unwrap_or
      (cond (ltb (position_or_len (λ u. int_eq u z) (first_corners ts)) (length (first_corners ts)))
      (Some (position_or_len (λ u. int_eq u z) (first_corners ts))) None) 0) (least_corner_same ts h x y l a),
)
  where
    same_rank : vertex_of ts x ≡ vertex_of ts y → rank (least_corner ts x) ≡ rank (least_corner ts y)
    same_rank e =
        elim (cases_lt (rank (least_corner ts x)) (rank (least_corner ts y))) [
          | inl b ↦ absurd (omega (arith, vertex_ordered ts h x y l m b))
          | inr b ↦
              elim (cases_lt (rank (least_corner ts y)) (rank (least_corner ts x))) [
                | inl c ↦ absurd (omega (arith, vertex_ordered ts h y x m l c))
                | inr c ↦ omega arith
              ]
        ]

-- ---- the bound

-- a side of each edge that isn't marked, from edge e on
abbrev open_sides : List Bool → ℕ → List ℤ
open_sides [] e = []
open_sides (m ∷ marks) e = cond m (open_sides marks (suc e)) (pos e ∷ open_sides marks (suc e))

open_sides-length : (marks : List Bool) (e : ℕ) → length (open_sides marks e) ≡ unmarked marks
open_sides-length [] e = refl
open_sides-length (true ∷ marks) e =
    open_sides-length marks (suc e) ∙ sym (sum_by-cons (λ v. cond (not v) 1 0) true marks ∙ none (unmarked marks))
  where
    none : (n : ℕ) → 0 + n ≡ n
    none n = omega arith
open_sides-length (false ∷ marks) e =
    omega (arith, open_sides-length marks (suc e), sum_by-cons (λ v. cond (not v) 1 0) false marks)

-- each edge that isn't marked has its side there
open_sides_has : (marks : List Bool) (e k n : ℕ) → k < length marks → get_or marks k false ≡ false → e + k ≡ n
    → (i : ℕ) × (i < length (open_sides marks e)) × (get_or (open_sides marks e) i (pos 0) ≡ pos n)
open_sides_has [] e k n b free is = absurd (omega arith)
open_sides_has (true ∷ marks) e zero n b free is = absurd (true≢false free)
open_sides_has (true ∷ marks) e (suc k) n b free is = open_sides_has marks (suc e) k n (omega arith) free (omega arith)
open_sides_has (false ∷ marks) e zero n b free is = (0, omega arith, ap pos (omega arith))
open_sides_has (false ∷ marks) e (suc k) n b free is =
    let (i, c, at) = open_sides_has marks (suc e) k n (omega arith) free (omega arith) in
    (suc i, omega arith, at)

-- the names of the corners, joined along the edges that no tree of triangles crosses
abbrev names : (ts : List (List ℤ)) → Forest ts → ℤ → ℤ
names ts s = merged (previous ts) (least_corner ts) (open_sides s.tree 0)

names_turn : (ts : List (List ℤ)) → TriangleLaws ts → (s : Forest ts) → IsVertexwise ts (names ts s)
names_turn ts h s = record {
  turns = λ x l.
      sym
      (merged_keeps (previous ts) (least_corner ts) (open_sides s.tree 0) x (corner_step ts x)
      (least_corner_same ts h x (corner_step ts x) l (record { steps = 1; reached = refl })));
}

edge_joined : (ts : List (List ℤ)) → (s : Forest ts) → (n : ℕ) → n < edge_count ts → get_or s.tree n false ≡ false
    → IsJoined ts (names ts s) (pos n)
edge_joined ts s n below free = there (open_sides_has s.tree 0 n n (omega (arith, s.sides)) free (omega arith))
  where
    there : (i : ℕ) × (i < length (open_sides s.tree 0)) × (get_or (open_sides s.tree 0) i (pos 0) ≡ pos n)
        → IsJoined ts (names ts s) (pos n)
    there (i, b, at) =
        subst (IsJoined ts (names ts s)) at
        (merged_joins (previous ts) (least_corner ts) (open_sides s.tree 0) i (pos 0) b)

names_joined : (ts : List (List ℤ)) → TriangleLaws ts → (s : Forest ts) → (x : ℤ) → IsLabel ts x
    → get_or s.tree (edge_of x) false ≡ false
    → IsJoined ts (names ts s) x
names_joined ts h s (pos n) l free = edge_joined ts s n l free
names_joined ts h s (negsuc n) l free =
    joined_inverse ts h (names ts s) (names_turn ts h s) (pos n) l (edge_joined ts s n l free)

-- no label stands twice in their order
ordered_once : (ts : List (List ℤ)) (c : ℤ) → times c (ordered_labels ts) ≤ 1
ordered_once ts c = at_most_once (ordered_labels ts) c apart
  where
    at : (k : ℕ) → k < 2 * edge_count ts → get_or (ordered_labels ts) k (pos 0) ≡ label_of_rank k
    at k b = get_or-map-range_with_len label_of_rank 0 (2 * edge_count ts) k k (pos 0) b (omega arith)

    apart : IsDistinct (ordered_labels ts)
    apart i j order below e =
        let long : length (ordered_labels ts) ≡ 2 * edge_count ts =
        length-map-range_with_len label_of_rank 0 (2 * edge_count ts) in
        let same : label_of_rank i ≡ label_of_rank j = sym (at i (omega arith)) ∙ e ∙ at j (omega arith) in
        omega (arith, rank-label_of_rank i, rank-label_of_rank j, ap rank same)

-- a side of triangle t
abbrev side_at : List (List ℤ) → ℕ → ℤ
side_at ts t = get_or (get_or ts t []) 0 (pos 0)

record IsSideAt (ts : List (List ℤ)) (t : ℕ) : Type 0 where
  label : IsLabel ts (side_at ts t)
  triangle : triangle_of ts (side_at ts t) ≡ t

side_there : (ts : List (List ℤ)) → IsTriangulation ts → (t : ℕ) → t < length ts → IsSideAt ts t
side_there ts sound t b =
    let g : HasTriple ts t = triple_at ts sound t b in
    let is : side_at ts t ≡ g.first = ap (λ (u : List ℤ). get_or u 0 (pos 0)) g.is in
    record {
      label = subst (IsLabel ts) (sym is) (label_of_counted ts sound g.first g.sides.first.counted);
      triangle = ap (triangle_of ts) is ∙ g.sides.first.triangle;
    }

-- each corner has the name of a side of the least triangle of its component
names_of_component : (ts : List (List ℤ)) → TriangleLaws ts → IsTriangulation ts → (s : Forest ts)
    → All (IsNamed (names ts s) (is_first_triangle ts) (λ t. names ts s (side_at ts t)) (length ts)
    (λ x. least_triangle ts (triangle_of ts x)))
    (ordered_labels ts)
names_of_component ts h sound s =
    All-from_get_or
    (IsNamed (names ts s) (is_first_triangle ts) (λ t. names ts s (side_at ts t)) (length ts)
    (λ x. least_triangle ts (triangle_of ts x)))
    (ordered_labels ts) (pos 0) (λ k b.
    let below : k < 2 * edge_count ts = omega (arith, length-map-range_with_len label_of_rank 0 (2 * edge_count ts)) in
    let at : get_or (ordered_labels ts) k (pos 0) ≡ label_of_rank k =
    get_or-map-range_with_len label_of_rank 0 (2 * edge_count ts) k k (pos 0) below (omega arith) in
    subst
    (IsNamed (names ts s) (is_first_triangle ts) (λ t. names ts s (side_at ts t)) (length ts)
    (λ x. least_triangle ts (triangle_of ts x)))
    (sym at) (named (label_of_rank k) (label_below k (edge_count ts) below)))
  where
    named : (x : ℤ) → IsLabel ts x
        → IsNamed (names ts s) (is_first_triangle ts) (λ t. names ts s (side_at ts t)) (length ts)
        (λ y. least_triangle ts (triangle_of ts y)) x
    named x l =
        let t : ℕ = triangle_of ts x in
        let within : triangle_of ts x < length ts = h.triangle x l in
        let first : least_triangle ts t < length ts = least_triangle_below ts sound t within in
        let side : IsSideAt ts (least_triangle ts t) = side_there ts sound (least_triangle ts t) first in
        record {
          below = first;
          numbered = least_is_first ts sound t within;
          name =
              s.joins (names ts s) (names_turn ts h s) (names_joined ts h s) x (side_at ts (least_triangle ts t)) l
              side.label
              (subst (IsReached ts t) (sym side.triangle) (least_triangle_there ts sound t within));
        }

vertex_bound : (ts : List (List ℤ)) → TriangleLaws ts → IsTriangulation ts
    → vertex_count ts + length ts ≤ edge_count ts + 2 * component_count ts
vertex_bound ts h sound = go (forest ts sound)
  where
    go : Forest ts → vertex_count ts + length ts ≤ edge_count ts + 2 * component_count ts
    go s =
        let few : count_by (is_first ts) (ordered_labels ts) ≤ length (open_sides s.tree 0) + component_count ts =
        names_of_parts (previous ts) (least_corner ts) (open_sides s.tree 0) (ordered_labels ts) (is_first_triangle ts)
        (λ t. names ts s (side_at ts t)) (length ts) (λ x. least_triangle ts (triangle_of ts x)) (ordered_once ts)
        (names_of_component ts h sound s) in
        omega (arith, few, s.few, open_sides-length s.tree 0, length-filter (is_first ts) (ordered_labels ts))

-- ---- the laws

puncture_laws : (ts : List (List ℤ)) → TriangleLaws ts → IsTriangulation ts → PunctureLaws ts
puncture_laws ts h t = record {
  same = vertex_same ts h;
  within = vertex_within ts h;
  there = λ x l. least_corner_there ts x;
  least = least_corner_least ts h;
  ordered = vertex_ordered ts h;
  bound = vertex_bound ts h t;
}

pub vertex_laws : VertexLaws
vertex_laws = record { vertices = λ ts t. puncture_laws ts (triangle_laws ts t) t }
