-- Before and after a flip a strand leaves the quadrilateral at one state, and the letters crossed on the way differ
-- as the homotopy of the quadrilateral says.
--
-- With k and l for the strands at corners before and after the flip, a strand that enters through place i of the side
-- a of (e,a,b) and (f,c,d) goes
--
--     before: i >= k e to b; else through e, and i >= k d to c, else to d
--     after, in (e,d,a) and (f,b,c): i < l d to d; else through e to the place j with j + A = i + F,
--     and j >= l c to b, else to c
--
-- Each pair of lines that can hold together ends at one side and place, by the corner sums and the greater sum:
-- E + F = max (A + C) (B + D). The side b has a table like this, and the other two sides are those of the other label
-- of the edge.
use Rattle.std.proofs.Common.{ℕ, ℤ, Bool, List, [], ◌∷◌, ◌++◌, ◌≡◌, ◌+◌, max, refl, sym, ◌∙◌, ap, arith, cond}
use Rattle.ideal_tri.specs.Labels.{inverse}
use Rattle.ideal_tri.specs.Words.{inverse_word, push, reduce}
use Rattle.ideal_tri.specs.Strands.{State, state_at}
use Rattle.tri_atlas.proofs.LowerLaws.{LowerLaws}
use Rattle.tri_atlas.proofs.Vectors.Exits.{FirstExit, SecondExit}

-- ---- numbers

-- the numbers of the sides before, the same after with F and F' at the edge, and the corners k before and l after
pub record Numbers : Type 0 where
  pub E : ℕ
  pub F : ℕ
  pub F' : ℕ
  pub A : ℕ
  pub B : ℕ
  pub C : ℕ
  pub D : ℕ
  pub A' : ℕ
  pub B' : ℕ
  pub C' : ℕ
  pub D' : ℕ
  pub ke : ℕ
  pub ka : ℕ
  pub kb : ℕ
  pub kf : ℕ
  pub kc : ℕ
  pub kd : ℕ
  pub le : ℕ
  pub la : ℕ
  pub lb : ℕ
  pub lf : ℕ
  pub lc : ℕ
  pub ld : ℕ

-- the sides of (e,a,b) and (f,c,d) are sums of corners, and so are those of (e,d,a) and (f,b,c)
pub record IsBalanced (n : Numbers) : Type 0 where
  pub e_before : n.E ≡ n.ke + n.kb
  pub a_before : n.A ≡ n.ka + n.ke
  pub b_before : n.B ≡ n.kb + n.ka
  pub f_before : n.E ≡ n.kf + n.kd
  pub c_before : n.C ≡ n.kc + n.kf
  pub d_before : n.D ≡ n.kd + n.kc
  pub e_after : n.F ≡ n.le + n.la
  pub d_after : n.D' ≡ n.ld + n.le
  pub a_after : n.A' ≡ n.la + n.ld
  pub f_after : n.F' ≡ n.lf + n.lc
  pub b_after : n.B' ≡ n.lb + n.lf
  pub c_after : n.C' ≡ n.lc + n.lb
  pub a_stays : n.A' ≡ n.A
  pub b_stays : n.B' ≡ n.B
  pub c_stays : n.C' ≡ n.C
  pub d_stays : n.D' ≡ n.D
  pub one_edge : n.F' ≡ n.F
  pub sum : n.E + n.F ≡ max (n.A + n.C) (n.B + n.D)

-- ---- what is put before letters

pub record Prefixes (pre : ℤ → List ℤ) (e f a b c d : ℤ) : Type 0 where
  pub at_a : pre a ≡ []
  pub at_b : pre b ≡ e ∷ []
  pub at_c : pre c ≡ []
  pub at_d : pre d ≡ f ∷ []

-- seen from the other label of the edge
pub Prefixes-turned : (pre : ℤ → List ℤ) (e f a b c d : ℤ) → Prefixes pre e f a b c d → Prefixes pre f e c d a b
Prefixes-turned pre e f a b c d h = record { at_a = h.at_c; at_b = h.at_d; at_c = h.at_a; at_d = h.at_b }

-- a strand from the side x leaves at one state before and after, with letters of the edge that differ by what is put
-- before the letters of these two sides
pub record Agrees (pre : ℤ → List ℤ) (x : ℤ) (X : State) (letters : List ℤ) (Y : State) (others : List ℤ) : Type 0 where
  pub same : X ≡ Y
  pub word : reduce (inverse_word (pre x) ++ (letters ++ pre X.label)) ≡ others

pub agrees : (pre : ℤ → List ℤ) (x z : ℤ) (X Y : State) (letters others u v s t : List ℤ) → X.label ≡ z → Y.label ≡ z
    → X.place ≡ Y.place
    → pre x ≡ u → letters ≡ v → pre z ≡ s → others ≡ t → reduce (inverse_word u ++ (v ++ s)) ≡ t
    → Agrees pre x X letters Y others
agrees pre x z X Y letters others u v s t at_X at_Y places is_u is_v is_s is_t word = record {
  same = ap (λ (l : ℤ). state_at l X.place) (at_X ∙ sym at_Y) ∙ ap (state_at Y.label) places;
  word =
      ap (λ (p : List ℤ). reduce (inverse_word p ++ (letters ++ pre X.label))) is_u
      ∙ ap (λ (p : List ℤ). reduce (inverse_word u ++ (p ++ pre X.label))) is_v
      ∙ ap (λ (p : List ℤ). reduce (inverse_word u ++ (v ++ p))) (ap pre at_X ∙ is_s)
      ∙ word
      ∙ sym is_t;
}

cancel_pair : LowerLaws → (x y : ℤ) → y ≡ inverse x → reduce (x ∷ (y ∷ [])) ≡ []
cancel_pair laws x y h = ap (λ (b : Bool). cond b [] (x ∷ (y ∷ []))) (laws.labels.test_same y (inverse x) h)

-- ---- from a and from b

module _ (laws : LowerLaws) (pre : ℤ → List ℤ) (e f a b c d : ℤ) (n : Numbers) (h : IsBalanced n)
    (f_is : f ≡ inverse e) (p : Prefixes pre e f a b c d)
    (i : ℕ) (X Y : State) (letters others : List ℤ) where
  pub from_a : FirstExit n.ke n.kd n.A n.E n.D i e b c d X letters
      → SecondExit n.ld n.lc n.D' n.A' n.F n.C' i d b c e Y others
      → Agrees pre a X letters Y others
  from_a (FirstExit.near k at place is) (SecondExit.near l at' place' is') = absurd (omega arith)
  from_a (FirstExit.near k at place is) (SecondExit.across_c l j there m at' place' is') =
      agrees pre a b X Y letters others [] [] (e ∷ []) (e ∷ []) at at' (omega arith) p.at_a is p.at_b is' refl
  from_a (FirstExit.near k at place is) (SecondExit.across_d l j there m at' place' is') = absurd (omega arith)
  from_a (FirstExit.across_c k k' at place is) (SecondExit.near l at' place' is') = absurd (omega arith)
  from_a (FirstExit.across_c k k' at place is) (SecondExit.across_c l j there m at' place' is') = absurd (omega arith)
  from_a (FirstExit.across_c k k' at place is) (SecondExit.across_d l j there m at' place' is') =
      agrees pre a c X Y letters others [] (e ∷ []) [] (e ∷ []) at at' (omega arith) p.at_a is p.at_c is' refl
  from_a (FirstExit.across_d k k' at place is) (SecondExit.near l at' place' is') =
      agrees pre a d X Y letters others [] (e ∷ []) (f ∷ []) [] at at' (omega arith) p.at_a is p.at_d is'
      (cancel_pair laws e f f_is)
  from_a (FirstExit.across_d k k' at place is) (SecondExit.across_c l j there m at' place' is') = absurd (omega arith)
  from_a (FirstExit.across_d k k' at place is) (SecondExit.across_d l j there m at' place' is') = absurd (omega arith)

  pub from_b : SecondExit n.ka n.kd n.A n.B n.E n.D i a c d e X letters
      → FirstExit n.lf n.la n.B' n.F' n.A' i f c d a Y others
      → Agrees pre b X letters Y others
  from_b (SecondExit.near k at place is) (FirstExit.near l at' place' is') = absurd (omega arith)
  from_b (SecondExit.near k at place is) (FirstExit.across_c l l' at' place' is') = absurd (omega arith)
  from_b (SecondExit.near k at place is) (FirstExit.across_d l l' at' place' is') =
      agrees pre b a X Y letters others (e ∷ []) [] [] (f ∷ []) at at' (omega arith) p.at_b is p.at_a is'
      (ap (λ (x : ℤ). x ∷ []) (sym f_is))
  from_b (SecondExit.across_c k j there m at place is) (FirstExit.near l at' place' is') =
      agrees pre b c X Y letters others (e ∷ []) (e ∷ []) [] [] at at' (omega arith) p.at_b is p.at_c is'
      (cancel_pair laws (inverse e) e (sym (laws.labels.twice e)))
  from_b (SecondExit.across_c k j there m at place is) (FirstExit.across_c l l' at' place' is') = absurd (omega arith)
  from_b (SecondExit.across_c k j there m at place is) (FirstExit.across_d l l' at' place' is') = absurd (omega arith)
  from_b (SecondExit.across_d k j there m at place is) (FirstExit.near l at' place' is') = absurd (omega arith)
  from_b (SecondExit.across_d k j there m at place is) (FirstExit.across_c l l' at' place' is') =
      agrees pre b d X Y letters others (e ∷ []) (e ∷ []) (f ∷ []) (f ∷ []) at at' (omega arith) p.at_b is p.at_d is'
      (ap (push (inverse e)) (cancel_pair laws e f f_is) ∙ ap (λ (x : ℤ). x ∷ []) (sym f_is))
  from_b (SecondExit.across_d k j there m at place is) (FirstExit.across_d l l' at' place' is') = absurd (omega arith)
