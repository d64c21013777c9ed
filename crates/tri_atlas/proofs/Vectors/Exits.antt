-- Where a strand leaves the quadrilateral at an edge, and the letter of the edge that it crosses on the way.
--
-- From place i of the side a of (e,a,b) and (f,c,d) a strand goes to b where it does not turn round the corner of e,
-- or else through the edge at the same place i of f, and from there to c or d. From place i of b it goes back to a,
-- or else through the edge at the place j of f that is as far from the end of f as i from the end of b. The other two
-- sides are these, seen from the other label of the edge.
use Rattle.std.proofs.Common.{ℕ, ℤ, Bool, true, false, cond, List, [], ◌∷◌, ◌≡◌, ◌≢◌, ◌≤◌, ◌<◌, ◌+◌, ◌-◌, refl, sym}
use Rattle.std.proofs.Common.{◌∙◌, ap, subst, arith, nat_eq, eq-eqb, ne_eqb}
use Rattle.ideal_tri.specs.Labels.{inverse, edge_of}
use Rattle.ideal_tri.specs.Vectors.{weight, corner_count}
use Rattle.ideal_tri.specs.Strands.{State, strand_step}
use Rattle.tri_atlas.proofs.LowerLaws.{LowerLaws}
use Rattle.tri_atlas.proofs.Vectors.Turns.{HasCornerSums, Turns, on, back, turns_at, same_number}
use Rattle.tri_atlas.proofs.Vectors.Quadrilaterals.{Quadrilateral, turned, before_e, before_a, before_b, sums_of}

-- ---- states on one edge

-- the state lies on edge n
abbrev pub is_on : ℕ → State → Bool
is_on n q = nat_eq (edge_of q.label) n

pub not_on : (n : ℕ) (q : State) → is_on n q ≡ false → edge_of q.label ≢ n
not_on n q off e = let there : is_on n q ≡ true = eq-eqb (edge_of q.label) n e in cc

-- the state itself, or the next one where it lies on edge n
abbrev pub past : List (List ℤ) → List ℕ → ℕ → State → State
past triples w n q = cond (is_on n q) (strand_step triples w q) q

-- the letter of edge n that is crossed there, or none
abbrev pub crossed : ℕ → State → List ℤ
crossed n q = cond (is_on n q) (q.label ∷ []) []

pub past-on : (triples : List (List ℤ)) (w : List ℕ) (n : ℕ) (q : State) → is_on n q ≡ true
    → past triples w n q ≡ strand_step triples w q
past-on triples w n q e = ap (λ (b : Bool). cond b (strand_step triples w q) q) e

pub past-off : (triples : List (List ℤ)) (w : List ℕ) (n : ℕ) (q : State) → is_on n q ≡ false → past triples w n q ≡ q
past-off triples w n q e = ap (λ (b : Bool). cond b (strand_step triples w q) q) e

pub crossed-on : (n : ℕ) (q : State) → is_on n q ≡ true → crossed n q ≡ q.label ∷ []
crossed-on n q e = ap (λ (b : Bool). cond b (q.label ∷ []) []) e

pub crossed-off : (n : ℕ) (q : State) → is_on n q ≡ false → crossed n q ≡ []
crossed-off n q e = ap (λ (b : Bool). cond b (q.label ∷ []) []) e

on_edge : (n : ℕ) (r : State) (e : ℤ) → r.label ≡ e → edge_of e ≡ n → is_on n r ≡ true
on_edge n r e is same = eq-eqb (edge_of r.label) n (ap edge_of is ∙ same)

off_edge : (n : ℕ) (r : State) (x : ℤ) → r.label ≡ x → edge_of x ≢ n → is_on n r ≡ false
off_edge n r x is other = ne_eqb (edge_of r.label) n (λ e. other (sym (ap edge_of is) ∙ e))

-- ---- from place i of a, or of b

-- X is the state where the strand leaves the quadrilateral, and the letters are those of the edge that it crosses
-- before. The numbers of the sides a, b, d and of the edge are A, B, D, E; from a, k and l are the strands at the
-- corners of e and d
pub data FirstExit (k l A E D i : ℕ) (e b c d : ℤ) (X : State) (letters : List ℤ) : Type 0 where
  near : k ≤ i → X.label ≡ b → i + X.place + 1 ≡ A → letters ≡ [] → FirstExit k l A E D i e b c d X letters
  across_c : i < k → l ≤ i → X.label ≡ c → i + X.place + 1 ≡ E → letters ≡ e ∷ []
      → FirstExit k l A E D i e b c d X letters
  across_d : i < k → i < l → X.label ≡ d → i + X.place + 1 ≡ D → letters ≡ e ∷ []
      → FirstExit k l A E D i e b c d X letters

-- from b, k and l are those at the corners of a and d, and j is the place at which the strand comes into the other
-- triangle
pub data SecondExit (k l A B E D i : ℕ) (a c d e : ℤ) (X : State) (letters : List ℤ) : Type 0 where
  near : i < k → X.label ≡ a → i + X.place + 1 ≡ A → letters ≡ [] → SecondExit k l A B E D i a c d e X letters
  across_c : k ≤ i → (j : ℕ) → j + B ≡ i + E → l ≤ j → X.label ≡ c → j + X.place + 1 ≡ E → letters ≡ e ∷ []
      → SecondExit k l A B E D i a c d e X letters
  across_d : k ≤ i → (j : ℕ) → j + B ≡ i + E → j < l → X.label ≡ d → j + X.place + 1 ≡ D → letters ≡ e ∷ []
      → SecondExit k l A B E D i a c d e X letters

module _ (laws : LowerLaws) (triples : List (List ℤ)) (w : List ℕ) (e f a b c d : ℤ) (h : HasCornerSums triples w)
    (s : Quadrilateral triples e f a b c d) (q : State) (i : ℕ) where
  abbrev k : ℤ → ℕ
  k x = corner_count triples w x

  -- the step out of the side, the state where the strand leaves and the letters
  abbrev r : State
  r = strand_step triples w q

  abbrev X : State
  X = past triples w (edge_of e) r

  abbrev letters : List ℤ
  letters = crossed (edge_of e) r

  -- the strand leaves at once
  at_once : (P : State → List ℤ → Type 0) (x : ℤ) → r.label ≡ x → edge_of x ≢ edge_of e → P r [] → P X letters
  at_once P x label off p =
      let away : is_on (edge_of e) r ≡ false = off_edge (edge_of e) r x label off in
      subst (λ (u : State). P u letters) (sym (past-off triples w (edge_of e) r away))
      (subst (P r) (sym (crossed-off (edge_of e) r away)) p)

  -- or it comes to the edge, and is in the other triangle at place j
  over_edge : (P : State → List ℤ → Type 0) (j : ℕ) → r.label ≡ e → r.place + j + 1 ≡ weight w e
      → (Turns (k d) c d (weight w e) (weight w d) j (strand_step triples w r) → P (strand_step triples w r) (e ∷ []))
      → P X letters
  over_edge P j label there p =
      let here : is_on (edge_of e) r ≡ true = on_edge (edge_of e) r e label refl in
      subst (λ (u : State). P u letters) (sym (past-on triples w (edge_of e) r here))
      (subst (P (strand_step triples w r)) (sym (crossed-on (edge_of e) r here ∙ ap (λ (x : ℤ). x ∷ []) label))
      (p (turns_at laws triples w r j (weight w e) f c d h s.label_d (ap inverse label ∙ sym s.f_is) s.after_f
      (before_e triples f e c d a b (turned triples e f a b c d s)) (ap (weight w) label) there)))

  -- the weight of a side is that of its label beyond the edge
  beyond : (x : ℤ) → inverse q.label ≡ x → weight w q.label ≡ weight w x
  beyond x at = sym (same_number laws w q.label (inverse q.label) refl) ∙ ap (weight w) at

  -- the exits from place i of a, and of b
  abbrev First : State → List ℤ → Type 0
  First = FirstExit (k e) (k d) (weight w a) (weight w e) (weight w d) i e b c d

  abbrev Second : State → List ℤ → Type 0
  Second = SecondExit (k a) (k d) (weight w a) (weight w b) (weight w e) (weight w d) i a c d e

  -- into the other triangle, at place j
  abbrev Onwards : ℕ → Type 0
  Onwards j = Turns (k d) c d (weight w e) (weight w d) j (strand_step triples w r)

  first_through : i < k e → Onwards i → First (strand_step triples w r) (e ∷ [])
  first_through below (on above label place) = FirstExit.across_c below above label place refl
  first_through below (back less label place) = FirstExit.across_d below less label place refl

  second_through : k a ≤ i → (j : ℕ) → j + weight w b ≡ i + weight w e → Onwards j
      → Second (strand_step triples w r) (e ∷ [])
  second_through above j there (on more label place) = SecondExit.across_c above j there more label place refl
  second_through above j there (back less label place) = SecondExit.across_d above j there less label place refl

  pub exits_first : inverse q.label ≡ a → q.place + i + 1 ≡ weight w a → First X letters
  exits_first at there =
      elim (turns_at laws triples w q i (weight w a) a b e h s.label_e at s.after_a (before_a triples e f a b c d s)
      (beyond a at) there) [
        | on above label place ↦ at_once First b label s.off_b (FirstExit.near above label place refl)
        | back below label place ↦ over_edge First i label (omega arith) (first_through below)
      ]

  pub exits_second : inverse q.label ≡ b → q.place + i + 1 ≡ weight w b → Second X letters
  exits_second at there =
      elim (turns_at laws triples w q i (weight w b) b e a h s.label_a at s.after_b (before_b triples e f a b c d s)
      (beyond b at) there) [
        | back below label place ↦ at_once Second a label s.off_a (SecondExit.near below label place refl)
        | on above label place ↦
            (let sums = sums_of triples e f a b c d s w h in
            over_edge Second (weight w e - 1 - r.place) label (omega (arith, sums.side_e, sums.side_b))
            (second_through above (weight w e - 1 - r.place) (omega (arith, sums.side_e, sums.side_b))))
      ]
