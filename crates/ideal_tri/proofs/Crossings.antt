-- The words of a drawing cross each edge as often as the vector says.
--
-- A drawing uses each strand once, counting both directions. A state at the label x and the place j passes one strand
-- of the edge of x: the one with number j, seen from the side that isn't negative, or the one with number w - 1 - j,
-- where w is the weight of the edge. So for each state on an edge the passes of all strands of the edge add up to one,
-- and for a state elsewhere to none. Summed over all states, the number of states on an edge is the sum of the uses of
-- its strands. Each is one, and there are as many strands as the weight. The letters of the words are the labels of
-- the states.
use Rattle.std.proofs.Common.{ℕ, ℤ, pos, negsuc, zero, suc, Bool, true, false, cond, eqb, List, [], ◌∷◌, ◌++◌, ◌≡◌, ◌≢◌}
use Rattle.std.proofs.Common.{◌<◌, ◌+◌, ◌-◌, inl, inr, refl, sym, ◌∙◌, ap, subst, arith}
use Rattle.std.specs.List.{All, count_by, flat_map}
use Rattle.std.specs.Ordering.{int_eq}
use Rattle.std.specs.Prelude.{slice_index}
use Rattle.std.proofs.lemmas.Bool.{cases_eq, and_left, and_right, and_from, eq-eqb, ne_eqb}
use Rattle.std.proofs.lemmas.List.{map-append}
use Rattle.std.proofs.lemmas.List.Elements.{All-nil, All-head, All-tail, All-append, All-weaker}
use Rattle.std.proofs.lemmas.List.Sums.{sum_by-cons}
use Rattle.ideal_tri.specs.Labels.{edge_of}
use Rattle.ideal_tri.specs.Curves.{crossings}
use Rattle.ideal_tri.specs.Triangulations.{edge_count}
use Rattle.ideal_tri.specs.Vectors.{weight}
use Rattle.ideal_tri.specs.Strands.{State, state_at, IsStrand, same_state, opposite, IsClosedRun, uses, IsDrawing}
use Rattle.ideal_tri.specs.Strands.{word_of, words_of}
use Rattle.ideal_tri.proofs.Labels.{int_eq-same, int_eq-other}

-- ---- sums over the numbers below n

pub total : (ℕ → ℕ) → ℕ → ℕ
total f zero = 0
total f (suc n) = total f n + f n

total-zeros : (f : ℕ → ℕ) (n : ℕ) → ((i : ℕ) → i < n → f i ≡ 0) → total f n ≡ 0
unfolding total
total-zeros f zero h = refl
total-zeros f (suc n) h = omega (arith, total-zeros f n (λ i b. h i (omega arith)), h n (omega arith))

pub total-ones : (f : ℕ → ℕ) (n : ℕ) → ((i : ℕ) → i < n → f i ≡ 1) → total f n ≡ n
unfolding total
total-ones f zero h = refl
total-ones f (suc n) h = omega (arith, total-ones f n (λ i b. h i (omega arith)), h n (omega arith))

-- one of the terms is 1 and all others are 0
total-single : (f : ℕ → ℕ) (n j : ℕ) → j < n → f j ≡ 1 → ((i : ℕ) → i < n → i ≢ j → f i ≡ 0) → total f n ≡ 1
unfolding total
total-single f zero j b one others = absurd (omega arith)
total-single f (suc n) j b one others =
    elim (cases_eq n j) [
      | inl e ↦
          (let before : total f n ≡ 0 = total-zeros f n (λ i c. others i (omega arith) (omega arith)) in
          let last : f n ≡ 1 = ap f e ∙ one in
          omega arith)
      | inr ne ↦
          (let before : total f n ≡ 1 = total-single f n j (omega arith) one (λ i c. others i (omega arith)) in
          let last : f n ≡ 0 = others n (omega arith) ne in
          omega arith)
    ]

total-add : (f g h : ℕ → ℕ) (n : ℕ) → ((i : ℕ) → h i ≡ f i + g i) → total h n ≡ total f n + total g n
unfolding total
total-add f g h zero e = omega arith
total-add f g h (suc n) e = omega (arith, total-add f g h n e, e n)

-- ---- how often one state passes a strand

passes : List ℕ → State → State → ℕ
passes w s q = cond (same_state s q) 1 0 + cond (same_state (opposite w s) q) 1 0

uses-cons : (w : List ℕ) (s q : State) (run : List State) → uses w s (q ∷ run) ≡ passes w s q + uses w s run
unfolding passes
uses-cons w s q run =
    omega (
      arith,
      sum_by-cons (λ r. cond (same_state s r) 1 0) q run,
      sum_by-cons
          (λ r. cond (same_state (opposite w s) r) 1 0) q run,
    )

same_state-yes : (s q : State) → s.label ≡ q.label → s.place ≡ q.place → same_state s q ≡ true
same_state-yes s q l p =
    and_from (int_eq s.label q.label) (eqb s.place q.place) (int_eq-same s.label q.label l) (eq-eqb s.place q.place p)

same_state-other_label : (s q : State) → s.label ≢ q.label → same_state s q ≡ false
same_state-other_label s q ne =
    and_left (int_eq s.label q.label) (eqb s.place q.place) (int_eq-other s.label q.label ne)

same_state-other_place : (s q : State) → s.place ≢ q.place → same_state s q ≡ false
same_state-other_place s q ne = and_right (int_eq s.label q.label) (eqb s.place q.place) (ne_eqb s.place q.place ne)

passes-is : (w : List ℕ) (s q : State) (b c : Bool) → same_state s q ≡ b → same_state (opposite w s) q ≡ c
    → passes w s q ≡ cond b 1 0 + cond c 1 0
unfolding passes
passes-is w s q b c e f =
    ap (λ (t : Bool). cond t 1 0 + cond (same_state (opposite w s) q) 1 0) e
    ∙ ap (λ (t : Bool). cond b 1 0 + cond t 1 0) f

pos_not_negsuc : (m n : ℕ) → pos m ≢ negsuc n
pos_not_negsuc m n e = cc

within_edge : (w : List ℕ) (e : ℕ) (x : ℤ) (j : ℕ) → j < weight w x → edge_of x ≡ e → j < weight w (pos e)
within_edge w e x j within en = subst (λ (k : ℕ). j < slice_index w k) en within

-- a state on the edge passes one of its strands
passes-same_edge : (w : List ℕ) (e : ℕ) (x : ℤ) (j : ℕ) → j < weight w x → edge_of x ≡ e
    → total (λ i. passes w (state_at (pos e) i) (state_at x j)) (weight w (pos e)) ≡ 1
passes-same_edge w e (pos n) j within en =
    total-single (λ i. passes w (state_at (pos e) i) (state_at (pos n) j)) (weight w (pos e)) j
    (within_edge w e (pos n) j within en)
    (passes-is w (state_at (pos e) j) (state_at (pos n) j) true false
    (same_state-yes (state_at (pos e) j) (state_at (pos n) j) (ap pos (sym en)) refl)
    (same_state-other_label (opposite w (state_at (pos e) j)) (state_at (pos n) j) (λ f. pos_not_negsuc n e (sym f))))
    (λ i b ne. passes-is w (state_at (pos e) i) (state_at (pos n) j) false false
    (same_state-other_place (state_at (pos e) i) (state_at (pos n) j) ne)
    (same_state-other_label (opposite w (state_at (pos e) i)) (state_at (pos n) j) (λ f. pos_not_negsuc n e (sym f))))
passes-same_edge w e (negsuc n) j within en =
    total-single (λ i. passes w (state_at (pos e) i) (state_at (negsuc n) j)) (weight w (pos e))
    (weight w (pos e) - 1 - j)
    (omega (arith, within_edge w e (negsuc n) j within en))
    (passes-is w (state_at (pos e) (weight w (pos e) - 1 - j)) (state_at (negsuc n) j) false true
    (same_state-other_label (state_at (pos e) (weight w (pos e) - 1 - j)) (state_at (negsuc n) j) (pos_not_negsuc e n))
    (same_state-yes (opposite w (state_at (pos e) (weight w (pos e) - 1 - j))) (state_at (negsuc n) j)
    (ap negsuc (sym en)) (omega (arith, within_edge w e (negsuc n) j within en))))
    (λ i b ne. passes-is w (state_at (pos e) i) (state_at (negsuc n) j) false false
    (same_state-other_label (state_at (pos e) i) (state_at (negsuc n) j) (pos_not_negsuc e n))
    (same_state-other_place (opposite w (state_at (pos e) i)) (state_at (negsuc n) j)
    (λ f. ne (omega (arith, within_edge w e (negsuc n) j within en)))))

-- a state on another edge passes none
passes-other_edge : (w : List ℕ) (e : ℕ) (q : State) (n : ℕ) → edge_of q.label ≢ e
    → total (λ i. passes w (state_at (pos e) i) q) n ≡ 0
passes-other_edge w e q n ne =
    total-zeros (λ i. passes w (state_at (pos e) i) q) n
    (λ i b. passes-is w (state_at (pos e) i) q false false
    (same_state-other_label (state_at (pos e) i) q (λ f. ne (sym (ap edge_of f))))
    (same_state-other_label (opposite w (state_at (pos e) i)) q (λ f. ne (sym (ap edge_of f)))))

-- ---- counts

one_state : (w : List ℕ) (e : ℕ) (q : State) → q.place < weight w q.label
    → cond (eqb (edge_of q.label) e) 1 0 ≡ total (λ i. passes w (state_at (pos e) i) q) (weight w (pos e))
one_state w e q within =
    elim (cases_eq (edge_of q.label) e) [
      | inl en ↦
          (ap (λ (b : Bool). cond b 1 0) (eq-eqb (edge_of q.label) e en)
          ∙ sym (passes-same_edge w e q.label q.place within en))
      | inr ne ↦
          (ap (λ (b : Bool). cond b 1 0) (ne_eqb (edge_of q.label) e ne)
          ∙ sym (passes-other_edge w e q (weight w (pos e)) ne))
    ]

abbrev IsWithin : List ℕ → State → Type 0
IsWithin w q = q.place < weight w q.label

-- the states on an edge are the passes of its strands
pub edge_uses : (w : List ℕ) (e : ℕ) (run : List State) → All (IsWithin w) run
    → count_by (λ q. eqb (edge_of q.label) e) run ≡ total (λ i. uses w (state_at (pos e) i) run) (weight w (pos e))
edge_uses w e [] h = sym (total-zeros (λ i. uses w (state_at (pos e) i) []) (weight w (pos e)) (λ i b. refl))
edge_uses w e (q ∷ run) h =
    let more : total (λ i. uses w (state_at (pos e) i) (q ∷ run)) (weight w (pos e))
    ≡ total (λ i. passes w (state_at (pos e) i) q) (weight w (pos e)) + total (λ i. uses w (state_at (pos e) i) run)
    (weight w (pos e)) =
    total-add (λ i. passes w (state_at (pos e) i) q) (λ i. uses w (state_at (pos e) i) run)
    (λ i. uses w (state_at (pos e) i) (q ∷ run))
    (weight w (pos e)) (λ i. uses-cons w (state_at (pos e) i) q run) in
    let here : cond (eqb (edge_of q.label) e) 1 0 ≡ total (λ i. passes w (state_at (pos e) i) q) (weight w (pos e)) =
    one_state w e q (All-head (IsWithin w) q run h) in
    let rest : count_by (λ p. eqb (edge_of p.label) e) run
    ≡ total (λ i. uses w (state_at (pos e) i) run) (weight w (pos e)) =
    edge_uses w e run (All-tail (IsWithin w) q run h) in
    sum_by-cons (λ p. cond (eqb (edge_of p.label) e) 1 0) q run
    ∙ ap (λ (k : ℕ). k + count_by (λ p. eqb (edge_of p.label) e) run) here
    ∙ ap (λ (k : ℕ). total (λ i. passes w (state_at (pos e) i) q) (weight w (pos e)) + k) rest
    ∙ sym more

count_by-word_of : (p : ℤ → Bool) (run : List State) → count_by p (word_of run) ≡ count_by (λ q. p q.label) run
count_by-word_of p [] = refl
count_by-word_of p (q ∷ run) =
    sum_by-cons (λ x. cond (p x) 1 0) q.label (word_of run)
    ∙ ap (λ (k : ℕ). cond (p q.label) 1 0 + k) (count_by-word_of p run)
    ∙ sym (sum_by-cons (λ r. cond (p r.label) 1 0) q run)

-- the letters of the words are those of all runs in a row
letters : (runs : List (List State)) → flat_map (λ w. w) (words_of runs) ≡ word_of (flat_map (λ run. run) runs)
letters [] = refl
letters (run ∷ runs) =
    ap (λ (z : List ℤ). word_of run ++ z) (letters runs)
    ∙ sym (map-append (λ (q : State). q.label) run (flat_map (λ r. r) runs))

all_within : (triples : List (List ℤ)) (w : List ℕ) (runs : List (List State)) → All (IsClosedRun triples w) runs
    → All (IsWithin w) (flat_map (λ run. run) runs)
all_within triples w [] h = All-nil (IsWithin w)
all_within triples w (run ∷ runs) h =
    All-append (IsWithin w) run (flat_map (λ r. r) runs)
    (All-weaker (IsStrand triples w) (IsWithin w) (λ p s. s.within) run
    (All-head (IsClosedRun triples w) run runs h).strands)
    (all_within triples w runs (All-tail (IsClosedRun triples w) run runs h))

-- a drawing crosses each edge as often as the vector says
pub drawing_counts : (triples : List (List ℤ)) (w : List ℕ) (runs : List (List State)) → IsDrawing triples w runs
    → (e : ℕ) → e < edge_count triples → crossings e (words_of runs) ≡ slice_index w e
drawing_counts triples w runs d e b =
    let all : List State = flat_map (λ run. run) runs in
    ap (count_by (λ x. eqb (edge_of x) e)) (letters runs)
    ∙ count_by-word_of (λ x. eqb (edge_of x) e) all
    ∙ edge_uses w e all (all_within triples w runs d.closed)
    ∙ total-ones (λ i. uses w (state_at (pos e) i) all) (weight w (pos e)) (λ i within. d.once e i b within)
