-- Turning round a vertex: the corner step comes back, and the least corner found is the least of the whole turn.
--
-- The step from x to the inverse of next x is injective on the labels, so iterates of it are. As long as it does not
-- come back to x, the corners passed are different labels. There are no more labels than 2 ζ, so it is back at x after
-- at most 2 ζ steps, and each corner of the vertex is met within these. So to lie at one vertex is symmetric, and the
-- least of the 2 ζ corners from x on is the least corner of the vertex: it is the same for all corners there, and it
-- is its own.
use Rattle.std.proofs.Common.{ℕ, zero, suc, ℤ, pos, Bool, cond, List, [], ◌∷◌, ◌≡◌, ◌≢◌, ◌≤◌, ◌<◌, ◌+◌}
use Rattle.std.proofs.Common.{◌-◌, ◌*◌, ◌⊎◌, inl, inr, refl, sym, ◌∙◌, ap, subst, arith, length, get_or}
use Rattle.std.specs.List.{All}
use Rattle.std.proofs.lemmas.Bool.{cases_lt, lt-ltb, le-ltb}
use Rattle.std.proofs.lemmas.List.Elements.{All-from_get_or}
use Rattle.ideal_tri.specs.Labels.{inverse, edge_of}
use Rattle.ideal_tri.specs.Triangulations.{IsLabel, edge_count, next}
use Rattle.ideal_tri.specs.Refusals.{IsDistinct}
use Rattle.ideal_tri.specs.SurfaceLaws.{TriangleLaws}
use Rattle.ideal_tri.specs.Vertices.{rank, corner_step, corner_after, IsSameVertex, least_label}
use Rattle.ideal_tri.specs.Vertices.{least_within, least_corner}
use Rattle.ideal_tri.proofs.Labels.{inverse-inverse, inverse_label, same_or_not}
use Rattle.ideal_tri.proofs.Counting.{no_more_than_labels}
use Rattle.ideal_tri.proofs.Order.{rank-injective}

-- ---- the corner step

pub corner_step_label : (ts : List (List ℤ)) → TriangleLaws ts → (x : ℤ) → IsLabel ts x → IsLabel ts (corner_step ts x)
corner_step_label ts h x l = inverse_label ts (next ts x) (h.label x l)

pub corner_step-injective : (ts : List (List ℤ)) → TriangleLaws ts → (x y : ℤ) → IsLabel ts x → IsLabel ts y
    → corner_step ts x ≡ corner_step ts y → x ≡ y
corner_step-injective ts h x y l m e =
    let same : next ts x ≡ next ts y = sym (inverse-inverse (next ts x)) ∙ ap inverse e ∙ inverse-inverse (next ts y) in
    sym (h.round x l) ∙ ap (λ (z : ℤ). next ts (next ts z)) same ∙ h.round y m

pub corner_after_label : (ts : List (List ℤ)) → TriangleLaws ts → (n : ℕ) (x : ℤ) → IsLabel ts x
    → IsLabel ts (corner_after ts n x)
corner_after_label ts h zero x l = l
corner_after_label ts h (suc n) x l = corner_after_label ts h n (corner_step ts x) (corner_step_label ts h x l)

pub corner_after-suc : (ts : List (List ℤ)) (n : ℕ) (x : ℤ)
    → corner_after ts (suc n) x ≡ corner_step ts (corner_after ts n x)
corner_after-suc ts zero x = refl
corner_after-suc ts (suc n) x = corner_after-suc ts n (corner_step ts x)

pub corner_after-add : (ts : List (List ℤ)) (m n : ℕ) (x : ℤ)
    → corner_after ts (m + n) x ≡ corner_after ts n (corner_after ts m x)
corner_after-add ts zero n x =
    let none : zero + n ≡ n = omega arith in
    ap (λ (k : ℕ). corner_after ts k x) none
corner_after-add ts (suc m) n x =
    let more : suc m + n ≡ suc (m + n) = omega arith in
    ap (λ (k : ℕ). corner_after ts k x) more ∙ corner_after-add ts m n (corner_step ts x)

corner_after-injective : (ts : List (List ℤ)) → TriangleLaws ts → (n : ℕ) (x y : ℤ) → IsLabel ts x → IsLabel ts y
    → corner_after ts n x ≡ corner_after ts n y → x ≡ y
corner_after-injective ts h zero x y l m e = e
corner_after-injective ts h (suc n) x y l m e =
    corner_step-injective ts h x y l m
    (corner_after-injective ts h n (corner_step ts x) (corner_step ts y) (corner_step_label ts h x l)
    (corner_step_label ts h y m) e)

-- ---- it comes back within as many steps as there are labels

-- the corners from x on, so many
abbrev corners : List (List ℤ) → ℕ → ℤ → List ℤ
corners ts zero x = []
corners ts (suc n) x = x ∷ corners ts n (corner_step ts x)

corners-length : (ts : List (List ℤ)) (n : ℕ) (x : ℤ) → length (corners ts n x) ≡ n
corners-length ts zero x = refl
corners-length ts (suc n) x = ap suc (corners-length ts n (corner_step ts x))

corners-at : (ts : List (List ℤ)) (n k : ℕ) (x : ℤ) → k < n → get_or (corners ts n x) k (pos 0) ≡ corner_after ts k x
corners-at ts zero k x b = absurd (omega arith)
corners-at ts (suc n) zero x b = refl
corners-at ts (suc n) (suc k) x b = corners-at ts n k (corner_step ts x) (omega arith)

-- the turn from x comes back to x after `last` steps and one more
pub record Turn (ts : List (List ℤ)) (x : ℤ) : Type 0 where
  pub last : ℕ
  pub short : last < 2 * edge_count ts
  pub closes : corner_after ts (suc last) x ≡ x

-- back within so many steps, or not
back_or_not : (ts : List (List ℤ)) (x : ℤ) (n : ℕ)
    → ((k : ℕ) × (k < n) × (corner_after ts (suc k) x ≡ x)) ⊎ ((k : ℕ) → k < n → corner_after ts (suc k) x ≢ x)
back_or_not ts x zero = inr (λ k b e. omega arith)
back_or_not ts x (suc n) =
    elim (back_or_not ts x n) [
      | inl h ↦ inl (h.0, omega (arith, h.1), h.2)
      | inr h ↦
          elim (same_or_not (corner_after ts (suc n) x) x) [
            | inl e ↦ inl (n, omega arith, e)
            | inr ne ↦
                inr (λ k b. elim (below_or_last k n b)
                [ inl c ↦ h k c | inr e ↦ subst (λ (i : ℕ). corner_after ts (suc i) x ≢ x) (sym e) ne ])
          ]
    ]
  where
    below_or_last : (k n : ℕ) → k < suc n → (k < n) ⊎ (k ≡ n)
    below_or_last k n b = grind arith

-- different corners as long as x doesn't come back
corners_apart : (ts : List (List ℤ)) → TriangleLaws ts → (x : ℤ) → IsLabel ts x → (n : ℕ)
    → ((k : ℕ) → k < n → corner_after ts (suc k) x ≢ x) → IsDistinct (corners ts (suc n) x)
corners_apart ts h x l n none i j order below same =
    let long : length (corners ts (suc n) x) ≡ suc n = corners-length ts (suc n) x in
    let within : j < suc n = omega arith in
    let first : get_or (corners ts (suc n) x) i (pos 0) ≡ corner_after ts i x =
    corners-at ts (suc n) i x (omega arith) in
    let second : get_or (corners ts (suc n) x) j (pos 0) ≡ corner_after ts j x = corners-at ts (suc n) j x within in
    let whole : j ≡ suc (j - suc i) + i = omega arith in
    let split : corner_after ts j x ≡ corner_after ts i (corner_after ts (suc (j - suc i)) x) =
    ap (λ (k : ℕ). corner_after ts k x) whole ∙ corner_after-add ts (suc (j - suc i)) i x in
    none (j - suc i) (omega arith)
    (sym
    (corner_after-injective ts h i x (corner_after ts (suc (j - suc i)) x) l
    (corner_after_label ts h (suc (j - suc i)) x l)
    (sym first ∙ same ∙ second ∙ split)))

corners_are_labels : (ts : List (List ℤ)) → TriangleLaws ts → (x : ℤ) → IsLabel ts x → (n : ℕ)
    → All (λ y. edge_of y < edge_count ts) (corners ts n x)
corners_are_labels ts h x l n =
    All-from_get_or (λ y. edge_of y < edge_count ts) (corners ts n x) (pos 0) (λ k b.
    let long : length (corners ts n x) ≡ n = corners-length ts n x in
    subst (λ (y : ℤ). edge_of y < edge_count ts) (sym (corners-at ts n k x (omega arith)))
    (corner_after_label ts h k x l))

pub turn : (ts : List (List ℤ)) → TriangleLaws ts → (x : ℤ) → IsLabel ts x → Turn ts x
turn ts h x l =
    elim (back_or_not ts x (2 * edge_count ts)) [
      | inl b ↦ record { last = b.0; short = b.1; closes = b.2 }
      | inr none ↦
          (let long : length (corners ts (suc (2 * edge_count ts)) x) ≡ suc (2 * edge_count ts) =
          corners-length ts (suc (2 * edge_count ts)) x in
          let few : length (corners ts (suc (2 * edge_count ts)) x) ≤ 2 * edge_count ts =
          no_more_than_labels (corners ts (suc (2 * edge_count ts)) x) (edge_count ts)
          (corners_are_labels ts h x l (suc (2 * edge_count ts))) (corners_apart ts h x l (2 * edge_count ts) none) in
          absurd (omega arith))
    ]

-- each corner of the turn comes within its length
pub in_turn : (ts : List (List ℤ)) (x : ℤ) (t : Turn ts x) (n : ℕ)
    → (m : ℕ) × (m ≤ t.last) × (corner_after ts m x ≡ corner_after ts n x)
in_turn ts x t zero = (0, omega arith, refl)
in_turn ts x t (suc n) = more (in_turn ts x t n)
  where
    lt_or_last : (m : ℕ) → m ≤ t.last → (m < t.last) ⊎ (m ≡ t.last)
    lt_or_last m b = grind arith

    more : (m : ℕ) × (m ≤ t.last) × (corner_after ts m x ≡ corner_after ts n x)
        → (m : ℕ) × (m ≤ t.last) × (corner_after ts m x ≡ corner_after ts (suc n) x)
    more (m, b, e) =
        let step : corner_after ts (suc m) x ≡ corner_after ts (suc n) x =
        corner_after-suc ts m x ∙ ap (corner_step ts) e ∙ sym (corner_after-suc ts n x) in
        elim (lt_or_last m b) [
          | inl c ↦ (suc m, omega arith, step)
          | inr c ↦ (0, omega arith, sym t.closes ∙ ap (λ (k : ℕ). corner_after ts (suc k) x) (sym c) ∙ step)
        ]

-- ---- corners at one vertex

pub SameVertex-refl : (ts : List (List ℤ)) (x : ℤ) → IsSameVertex ts x x
SameVertex-refl ts x = record { steps = 0; reached = refl }

pub SameVertex-trans : (ts : List (List ℤ)) (x y z : ℤ) → IsSameVertex ts x y → IsSameVertex ts y z
    → IsSameVertex ts x z
SameVertex-trans ts x y z a b = record {
  steps = a.steps + b.steps;
  reached = corner_after-add ts a.steps b.steps x ∙ ap (corner_after ts b.steps) a.reached ∙ b.reached;
}

pub SameVertex-sym : (ts : List (List ℤ)) → TriangleLaws ts → (x y : ℤ) → IsLabel ts x → IsSameVertex ts x y
    → IsSameVertex ts y x
SameVertex-sym ts h x y l a = go (turn ts h x l)
  where
    back : (t : Turn ts x) → (m : ℕ) × (m ≤ t.last) × (corner_after ts m x ≡ corner_after ts a.steps x)
        → IsSameVertex ts y x
    back t (m, b, e) =
        let whole : m + (suc t.last - m) ≡ suc t.last = omega arith in
        record {
          steps = suc t.last - m;
          reached =
              ap (corner_after ts (suc t.last - m)) (sym (e ∙ a.reached))
              ∙ sym (corner_after-add ts m (suc t.last - m) x)
              ∙ ap (λ (k : ℕ). corner_after ts k x) whole
              ∙ t.closes;
        }

    go : Turn ts x → IsSameVertex ts y x
    go t = back t (in_turn ts x t a.steps)

pub SameVertex_label : (ts : List (List ℤ)) → TriangleLaws ts → (x y : ℤ) → IsLabel ts x → IsSameVertex ts x y
    → IsLabel ts y
SameVertex_label ts h x y l a = subst (IsLabel ts) a.reached (corner_after_label ts h a.steps x l)

-- ---- the least corner

-- either the second is less and is taken, or the first stays
least_label_cases : (x y : ℤ)
    → ((rank y < rank x) × (least_label x y ≡ y)) ⊎ ((rank x ≤ rank y) × (least_label x y ≡ x))
least_label_cases x y =
    elim (cases_lt (rank y) (rank x)) [
      | inl b ↦ inl (b, ap (λ (t : Bool). cond t y x) (lt-ltb (rank y) (rank x) b))
      | inr b ↦ inr (b, ap (λ (t : Bool). cond t y x) (le-ltb (rank y) (rank x) b))
    ]

least_label-assoc : (x y z : ℤ) → least_label x (least_label y z) ≡ least_label (least_label x y) z
least_label-assoc x y z =
    elim (least_label_cases y z) [
      | inl a ↦
          elim (least_label_cases x y) [
            | inl b ↦
                ap (least_label x) a.1
                ∙ taken x z (omega (arith, a.0, b.0))
                ∙ sym (ap (λ (v : ℤ). least_label v z) b.1 ∙ a.1)
            | inr b ↦ ap (least_label x) a.1 ∙ sym (ap (λ (v : ℤ). least_label v z) b.1)
          ]
      | inr a ↦
          elim (least_label_cases x y) [
            | inl b ↦ ap (least_label x) a.1 ∙ b.1 ∙ sym (ap (λ (v : ℤ). least_label v z) b.1 ∙ a.1)
            | inr b ↦
                ap (least_label x) a.1
                ∙ b.1
                ∙ sym (ap (λ (v : ℤ). least_label v z) b.1 ∙ stays x z (omega (arith, a.0, b.0)))
          ]
    ]
  where
    taken : (x z : ℤ) → rank z < rank x → least_label x z ≡ z
    taken x z b = ap (λ (t : Bool). cond t z x) (lt-ltb (rank z) (rank x) b)

    stays : (x z : ℤ) → rank x ≤ rank z → least_label x z ≡ x
    stays x z b = ap (λ (t : Bool). cond t z x) (le-ltb (rank z) (rank x) b)

-- one step more, taken at the end
pub least_within-suc : (ts : List (List ℤ)) (n : ℕ) (x : ℤ)
    → least_within ts (suc n) x ≡ least_label (least_within ts n x) (corner_after ts (suc n) x)
least_within-suc ts zero x = refl
least_within-suc ts (suc n) x =
    ap (least_label x) (least_within-suc ts n (corner_step ts x))
    ∙ least_label-assoc x (least_within ts n (corner_step ts x)) (corner_after ts (suc n) (corner_step ts x))

least_within_there : (ts : List (List ℤ)) (n : ℕ) (x : ℤ) → IsSameVertex ts x (least_within ts n x)
least_within_there ts zero x = SameVertex-refl ts x
least_within_there ts (suc n) x =
    elim (least_label_cases x (least_within ts n (corner_step ts x))) [
      | inl h ↦ subst (IsSameVertex ts x) (sym h.1) (later (least_within_there ts n (corner_step ts x)))
      | inr h ↦ subst (IsSameVertex ts x) (sym h.1) (SameVertex-refl ts x)
    ]
  where
    later : {y : ℤ} → IsSameVertex ts (corner_step ts x) y → IsSameVertex ts x y
    later a = record { steps = suc a.steps; reached = a.reached }

least_within_least : (ts : List (List ℤ)) (n k : ℕ) (x : ℤ) → k ≤ n
    → rank (least_within ts n x) ≤ rank (corner_after ts k x)
least_within_least ts zero zero x b = omega arith
least_within_least ts zero (suc k) x b = absurd (omega arith)
least_within_least ts (suc n) zero x b =
    elim (least_label_cases x (least_within ts n (corner_step ts x))) [
      | inl h ↦ omega (arith, h.0, ap rank h.1)
      | inr h ↦ omega (arith, ap rank h.1)
    ]
least_within_least ts (suc n) (suc k) x b =
    let later : rank (least_within ts n (corner_step ts x)) ≤ rank (corner_after ts k (corner_step ts x)) =
    least_within_least ts n k (corner_step ts x) (omega arith) in
    elim (least_label_cases x (least_within ts n (corner_step ts x))) [
      | inl h ↦ omega (arith, h.0, ap rank h.1)
      | inr h ↦ omega (arith, h.0, ap rank h.1)
    ]

pub least_corner_there : (ts : List (List ℤ)) (x : ℤ) → IsSameVertex ts x (least_corner ts x)
least_corner_there ts x = least_within_there ts (2 * edge_count ts) x

pub least_corner_least : (ts : List (List ℤ)) → TriangleLaws ts → (x y : ℤ) → IsLabel ts x → IsSameVertex ts x y
    → rank (least_corner ts x) ≤ rank y
least_corner_least ts h x y l a = go (turn ts h x l)
  where
    there : (t : Turn ts x) → (m : ℕ) × (m ≤ t.last) × (corner_after ts m x ≡ corner_after ts a.steps x)
        → rank (least_corner ts x) ≤ rank y
    there t (m, b, e) =
        subst (λ (z : ℤ). rank (least_corner ts x) ≤ rank z) (e ∙ a.reached)
        (least_within_least ts (2 * edge_count ts) m x (omega (arith, t.short)))

    go : Turn ts x → rank (least_corner ts x) ≤ rank y
    go t = there t (in_turn ts x t a.steps)

pub least_corner_label : (ts : List (List ℤ)) → TriangleLaws ts → (x : ℤ) → IsLabel ts x
    → IsLabel ts (least_corner ts x)
least_corner_label ts h x l = SameVertex_label ts h x (least_corner ts x) l (least_corner_there ts x)

-- all corners of a vertex have the same least corner
pub least_corner_same : (ts : List (List ℤ)) → TriangleLaws ts → (x y : ℤ) → IsLabel ts x → IsSameVertex ts x y
    → least_corner ts x ≡ least_corner ts y
least_corner_same ts h x y l a =
    let m : IsLabel ts y = SameVertex_label ts h x y l a in
    let one : rank (least_corner ts x) ≤ rank (least_corner ts y) =
    least_corner_least ts h x (least_corner ts y) l
    (SameVertex-trans ts x y (least_corner ts y) a (least_corner_there ts y)) in
    let other : rank (least_corner ts y) ≤ rank (least_corner ts x) =
    least_corner_least ts h y (least_corner ts x) m
    (SameVertex-trans ts y x (least_corner ts x) (SameVertex-sym ts h x y l a) (least_corner_there ts x)) in
    rank-injective (least_corner ts x) (least_corner ts y) (omega arith)

pub same_vertex_of_least : (ts : List (List ℤ)) → TriangleLaws ts → (x y : ℤ) → IsLabel ts x → IsLabel ts y
    → least_corner ts x ≡ least_corner ts y → IsSameVertex ts x y
same_vertex_of_least ts h x y l m e =
    SameVertex-trans ts x (least_corner ts x) y (least_corner_there ts x)
    (subst (λ (z : ℤ). IsSameVertex ts z y) (sym e)
    (SameVertex-sym ts h y (least_corner ts y) m (least_corner_there ts y)))

-- the least corner is its own
pub least_corner_own : (ts : List (List ℤ)) → TriangleLaws ts → (x : ℤ) → IsLabel ts x
    → least_corner ts (least_corner ts x) ≡ least_corner ts x
least_corner_own ts h x l = sym (least_corner_same ts h x (least_corner ts x) l (least_corner_there ts x))

-- ---- one more step, as a loop makes it

pub turned_more : (ts : List (List ℤ)) (n : ℕ) (x corner turned : ℤ) → corner ≡ corner_after ts n x
    → turned ≡ corner_step ts corner
    → turned ≡ corner_after ts (n + 1) x
turned_more ts n x corner turned e d =
    let more : suc n ≡ n + 1 = omega arith in
    d ∙ ap (corner_step ts) e ∙ sym (corner_after-suc ts n x) ∙ ap (λ (k : ℕ). corner_after ts k x) more

pub least_more : (ts : List (List ℤ)) (n : ℕ) (x least turned lesser : ℤ) → least ≡ least_within ts n x
    → turned ≡ corner_after ts (n + 1) x
    → lesser ≡ least_label least turned → lesser ≡ least_within ts (n + 1) x
least_more ts n x least turned lesser e t d =
    let more : suc n ≡ n + 1 = omega arith in
    d
    ∙ ap (λ (y : ℤ). least_label y turned) e
    ∙ ap (least_label (least_within ts n x)) (t ∙ ap (λ (k : ℕ). corner_after ts k x) (sym more))
    ∙ sym (least_within-suc ts n x)
    ∙ ap (λ (k : ℕ). least_within ts k x) more

pub least_label_label : (ts : List (List ℤ)) (x y lesser : ℤ) → lesser ≡ least_label x y → IsLabel ts x → IsLabel ts y
    → IsLabel ts lesser
least_label_label ts x y lesser e l m =
    elim (least_label_cases x y) [
      | inl h ↦ subst (IsLabel ts) (sym (e ∙ h.1)) m
      | inr h ↦ subst (IsLabel ts) (sym (e ∙ h.1)) l
    ]
