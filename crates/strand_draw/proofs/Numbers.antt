-- Numbers of strands, and what a mark at a number says.
--
-- The numbers of an edge's strands begin at the sum of the entries before it. So a number fixes the edge and the place
-- on it, seen from the label that is not negative, and two states of one number are equal or opposite. A run that is
-- longer by one state therefore passes exactly the strands of that number besides those that it passed before.
use Rattle.std.proofs.Common.{ℕ, ℤ, pos, negsuc, Bool, true, false, List, [], ◌∷◌, ◌++◌, ◌≡◌, ◌≢◌, ◌≤◌, ◌<◌}
use Rattle.std.proofs.Common.{◌+◌, ◌⊎◌, inl, inr, sym, ◌∙◌, ap, arith, take, length, eqb, cond}
use Rattle.std.specs.List.{sum, count_by}
use Rattle.std.specs.Bool.{Decides}
use Rattle.std.specs.Ordering.{int_eq}
use Rattle.std.specs.Prelude.{slice_index}
use Rattle.std.proofs.lemmas.Bool.{cases_eq, cases_lt, cases_Bool}
use Rattle.std.proofs.lemmas.Bool.Decides.{Decides-int_eq, Decides-eqb, Decides-and}
use Rattle.std.proofs.lemmas.List.Sums.{sum_by-cons, sum_by-append, sum_by_more, sum_by_more_le}
use Rattle.std.proofs.lemmas.List.{length-take-le, get_or-take, take-take}
use Rattle.ideal_tri.specs.Labels.{edge_of}
use Rattle.ideal_tri.specs.Vectors.{weight}
use Rattle.ideal_tri.specs.Strands.{State, state_at, same_state, opposite, uses}
use Rattle.ideal_tri.specs.Drawings.{strand_number, place_on_edge}
use Rattle.strand_draw.specs.inside.Marks.{HasStrand}

-- ---- sums of the first entries

pub sum_take_more : (w : List ℕ) (e : ℕ) → e < length w → sum (take (e + 1) w) ≡ sum (take e w) + slice_index w e
sum_take_more w e b = sum_by_more (λ n. n) w e 0 b

-- the entries before an edge, with its own, are no more than those before a later edge
pub sums_rise : (w : List ℕ) (e f : ℕ) → e < f → f ≤ length w → sum (take e w) + slice_index w e ≤ sum (take f w)
sums_rise w e f b c =
    let room : length (take f w) ≡ f = length-take-le f w c in
    let front : take e (take f w) ≡ take e w = take-take e f w (omega arith) in
    omega (
      arith,
      sum_by_more_le (λ n. n) (take f w) e 0 (omega arith),
      ap sum front,
      get_or-take f w e 0 b,
    )

pub sum_within : (w : List ℕ) (e : ℕ) → e < length w → sum (take e w) + slice_index w e ≤ sum w
sum_within w e b = sum_by_more_le (λ n. n) w e 0 b

-- ---- numbers

place_within : (w : List ℕ) (x : ℤ) (i : ℕ) → i < weight w x → place_on_edge w x i < weight w x
place_within w (pos e) i b = b
place_within w (negsuc e) i b = omega arith

pub number_within : (w : List ℕ) (q : State) → HasStrand w q → strand_number w q < sum w
number_within w q h =
    omega (arith, place_within w q.label q.place h.within, sum_within w (edge_of q.label) h.edge)

-- a number fixes the edge
same_edge : (w : List ℕ) (p q : State) → HasStrand w p → HasStrand w q → strand_number w p ≡ strand_number w q
    → edge_of p.label ≡ edge_of q.label
same_edge w p q h k e =
    elim (cases_eq (edge_of p.label) (edge_of q.label)) [
      | inl same ↦ same
      | inr other ↦
          absurd (elim (cases_lt (edge_of p.label) (edge_of q.label)) [
            | inl b ↦
                omega (
                  arith,
                  place_within w p.label p.place h.within,
                  sums_rise w (edge_of p.label) (edge_of q.label) b (omega (arith, k.edge)),
                )
            | inr b ↦
                omega (
                  arith,
                  place_within w q.label q.place k.within,
                  sums_rise w (edge_of q.label) (edge_of p.label) (omega arith) (omega (arith, h.edge)),
                )
          ])
    ]

-- two places on an edge with one number are the same strand, seen from the same side or from the other
seen : (w : List ℕ) (x y : ℤ) (i j : ℕ) → edge_of x ≡ edge_of y → i < weight w x → j < weight w y
    → place_on_edge w x i ≡ place_on_edge w y j
    → (state_at x i ≡ state_at y j) ⊎ (state_at x i ≡ opposite w (state_at y j))
seen w (pos e) (pos f) i j s b c h = inl (ap (λ (k : ℕ). state_at (pos k) i) s ∙ ap (state_at (pos f)) h)
seen w (pos e) (negsuc f) i j s b c h = inr (ap (λ (k : ℕ). state_at (pos k) i) s ∙ ap (state_at (pos f)) h)
seen w (negsuc e) (pos f) i j s b c h =
    let same : weight w (negsuc e) ≡ weight w (pos f) = ap (slice_index w) s in
    inr (ap (λ (k : ℕ). state_at (negsuc k) i) s ∙ ap (state_at (negsuc f)) (omega arith))
seen w (negsuc e) (negsuc f) i j s b c h =
    let same : weight w (negsuc e) ≡ weight w (negsuc f) = ap (slice_index w) s in
    inl (ap (λ (k : ℕ). state_at (negsuc k) i) s ∙ ap (state_at (negsuc f)) (omega arith))

-- a number fixes the strand
one_strand : (w : List ℕ) (p q : State) → HasStrand w p → HasStrand w q → strand_number w p ≡ strand_number w q
    → (p ≡ q) ⊎ (p ≡ opposite w q)
one_strand w p q h k e =
    let s : edge_of p.label ≡ edge_of q.label = same_edge w p q h k e in
    seen w p.label q.label p.place q.place s h.within k.within
    (omega (arith, ap (λ (f : ℕ). sum (take f w)) s))

-- a strand of another number is not the same one from the other side
apart : (w : List ℕ) (p : State) (x : ℤ) (i : ℕ) → i < weight w x → strand_number w p ≢ strand_number w (state_at x i)
    → opposite w (state_at x i) ≢ p
apart w p (pos e) i b ne is = ne (ap (strand_number w) (sym is) ∙ omega arith)
apart w p (negsuc e) i b ne is = ne (ap (strand_number w) (sym is) ∙ omega arith)

-- ---- passes of one state more

same : (p q : State) → Decides (same_state p q) ((p.label ≡ q.label) × (p.place ≡ q.place))
same p q = Decides-and (int_eq p.label q.label) (eqb p.place q.place) (Decides-int_eq p.label q.label)
    (Decides-eqb p.place q.place)

pub equal_states : (p q : State) → same_state p q ≡ true → p ≡ q
equal_states p q t =
    let (e, f) = (same p q).0 t in ap (λ (x : ℤ). state_at x p.place) e ∙ ap (state_at q.label) f

pub test_states : (p q : State) → p ≡ q → same_state p q ≡ true
test_states p q e = (same p q).1 (ap (λ (r : State). r.label) e, ap (λ (r : State). r.place) e)

one : (p q : State) → count_by (same_state q) (p ∷ []) ≡ cond (same_state q p) 1 0
one p q = omega (arith, sum_by-cons (λ r. cond (same_state q r) 1 0) p [])

-- what a test counts
abbrev tell : Bool → ℕ
tell b = cond b 1 0

pub uses-more : (w : List ℕ) (q : State) (run others : List State)
    → uses w q (run ++ others) ≡ uses w q run + uses w q others
uses-more w q run others =
    omega (
      arith,
      sum_by-append (λ r. cond (same_state q r) 1 0) run others,
      sum_by-append (λ r. cond (same_state (opposite w q) r) 1 0) run others,
    )

pub passed_at_number : (w : List ℕ) (p q : State) → HasStrand w p → HasStrand w q
    → strand_number w p ≡ strand_number w q → uses w q (p ∷ []) ≢ 0
passed_at_number w p q h k e none =
    elim (one_strand w p q h k e) [
      | inl s ↦ omega (arith, one p q, ap tell (test_states q p (sym s)), none)
      | inr s ↦
          omega (
            arith,
            one p (opposite w q),
            ap tell (test_states (opposite w q) p (sym s)),
            none,
          )
    ]

pub unpassed_elsewhere : (w : List ℕ) (p q : State) → HasStrand w q → strand_number w p ≢ strand_number w q
    → uses w q (p ∷ []) ≡ 0
unpassed_elsewhere w p q k ne =
    let no : same_state q p ≡ false =
    elim (cases_Bool (same_state q p)) [
      | inl t ↦ absurd (ne (ap (strand_number w) (sym (equal_states q p t))))
      | inr f ↦ f
    ] in
    let not_back : same_state (opposite w q) p ≡ false =
    elim (cases_Bool (same_state (opposite w q) p)) [
      | inl t ↦ absurd (apart w p q.label q.place k.within ne (equal_states (opposite w q) p t))
      | inr f ↦ f
    ] in
    omega (
      arith,
      one p q,
      one p (opposite w q),
      ap tell no,
      ap tell not_back,
    )
