-- The free reduction of a word: it is reduced, unchanged by deletions, and goes with `++` and inverses.
--
-- A letter acts on reduced words: it is put in front, or takes away the inverse that stands there. A letter and its
-- inverse undo each other, so words act as a group would, and the reduction of u is what u makes of the empty word. A
-- word acts as its reduction does. From this follow all equations: the reduction of u v is that of the two reductions,
-- u and its way back cancel, and what two words share at their start or end may be taken off.
--
-- A deletion takes out a pair that acts as nothing, so it leaves the reduction alone. Deletions lead from w to its
-- reduction, pair by pair as the letters are put in front. A reduced word is its own reduction, so no other is
-- reached.
use Rattle.std.proofs.Common.{ℤ, Bool, cond, List, [], ◌∷◌, ◌++◌, ◌≡◌, ◌≢◌, ◌≤◌, inl, inr, refl, sym, ◌∙◌, ap, subst}
use Rattle.std.proofs.Common.{append_assoc, arith, length, length-append}
use Rattle.std.specs.List.{All}
use Rattle.std.proofs.lemmas.List.{append-nil}
use Rattle.std.proofs.lemmas.List.Elements.{All-nil, All-cons, All-head, All-tail, All-append}
use Rattle.ideal_tri.specs.Labels.{inverse}
use Rattle.ideal_tri.specs.Triangulations.{IsLabel}
use Rattle.ideal_tri.specs.Words.{inverse_word, IsReduced, push, act, reduce, Deletes, DeletesAll, pair, done, more}
use Rattle.ideal_tri.proofs.Labels.{inverse-inverse, inverse_label, same_or_not, int_eq-same, int_eq-other}

-- ---- parts of reduced words

pub IsReduced-tail : (x : ℤ) (w : List ℤ) → IsReduced (x ∷ w) → IsReduced w
IsReduced-tail x [] h = tt
IsReduced-tail x (y ∷ w) h = h.1

pub IsReduced-front : (u v : List ℤ) → IsReduced (u ++ v) → IsReduced u
IsReduced-front [] v h = tt
IsReduced-front (x ∷ []) v h = tt
IsReduced-front (x ∷ (y ∷ u)) v h = (h.0, IsReduced-front (y ∷ u) v h.1)

pub IsReduced-back : (u v : List ℤ) → IsReduced (u ++ v) → IsReduced v
IsReduced-back [] v h = h
IsReduced-back (x ∷ u) v h = IsReduced-back u v (IsReduced-tail x (u ++ v) h)

-- two reduced words joined at a letter x, the last of the first and the first of the second
pub IsReduced-glue : (u : List ℤ) (x : ℤ) (v : List ℤ) → IsReduced (u ++ (x ∷ [])) → IsReduced (x ∷ v)
    → IsReduced (u ++ (x ∷ v))
IsReduced-glue [] x v h k = k
IsReduced-glue (y ∷ []) x v h k = (h.0, k)
IsReduced-glue (y ∷ (z ∷ u)) x v h k = (h.0, IsReduced-glue (z ∷ u) x v h.1 k)

-- a letter may follow a reduced word whose last letter is not its inverse
pub IsReduced-append_letter : (u : List ℤ) (y z : ℤ) → IsReduced (u ++ (y ∷ [])) → z ≢ inverse y
    → IsReduced (u ++ (y ∷ (z ∷ [])))
IsReduced-append_letter u y z h n = IsReduced-glue u y (z ∷ []) h (n, tt)

-- ---- a letter in front

pub push-cancels : (x y : ℤ) (w : List ℤ) → y ≡ inverse x → push x (y ∷ w) ≡ w
push-cancels x y w e = ap (λ (b : Bool). cond b w (x ∷ (y ∷ w))) (int_eq-same y (inverse x) e)

pub push-goes_on : (x y : ℤ) (w : List ℤ) → y ≢ inverse x → push x (y ∷ w) ≡ x ∷ (y ∷ w)
push-goes_on x y w n = ap (λ (b : Bool). cond b w (x ∷ (y ∷ w))) (int_eq-other y (inverse x) n)

pub push-reduced : (x : ℤ) (w : List ℤ) → IsReduced (x ∷ w) → push x w ≡ x ∷ w
push-reduced x [] h = refl
push-reduced x (y ∷ w) h = push-goes_on x y w h.0

pub IsReduced-push : (x : ℤ) (w : List ℤ) → IsReduced w → IsReduced (push x w)
IsReduced-push x [] h = tt
IsReduced-push x (y ∷ w) h =
    elim (same_or_not y (inverse x)) [
      | inl e ↦ subst IsReduced (sym (push-cancels x y w e)) (IsReduced-tail y w h)
      | inr n ↦ subst IsReduced (sym (push-goes_on x y w n)) (n, h)
    ]

-- a letter takes away what its inverse put in front
pub push-push_inverse : (x : ℤ) (w : List ℤ) → IsReduced w → push x (push (inverse x) w) ≡ w
push-push_inverse x [] h = push-cancels x (inverse x) [] refl
push-push_inverse x (y ∷ w) h =
    elim (same_or_not y (inverse (inverse x))) [
      | inl e ↦
          (let same : y ≡ x = e ∙ inverse-inverse x in
          ap (push x) (push-cancels (inverse x) y w e)
          ∙ push-reduced x w (subst (λ (z : ℤ). IsReduced (z ∷ w)) same h)
          ∙ ap (λ (z : ℤ). z ∷ w) (sym same))
      | inr n ↦ ap (push x) (push-goes_on (inverse x) y w n) ∙ push-cancels x (inverse x) (y ∷ w) refl
    ]

pub push_inverse-push : (x : ℤ) (w : List ℤ) → IsReduced w → push (inverse x) (push x w) ≡ w
push_inverse-push x w h =
    ap (λ (z : ℤ). push (inverse x) (push z w)) (sym (inverse-inverse x))
    ∙ push-push_inverse (inverse x) w h

-- it takes at most its own place
length-push : (x : ℤ) (w : List ℤ) → length (push x w) ≤ length (x ∷ w)
length-push x [] = omega arith
length-push x (y ∷ w) =
    elim (same_or_not y (inverse x)) [
      | inl e ↦ omega (arith, ap length (push-cancels x y w e))
      | inr n ↦ omega (arith, ap length (push-goes_on x y w n))
    ]

-- ---- a word in front

pub IsReduced-act : (u w : List ℤ) → IsReduced w → IsReduced (act u w)
IsReduced-act [] w h = h
IsReduced-act (x ∷ u) w h = IsReduced-push x (act u w) (IsReduced-act u w h)

-- the reduction of a word is reduced
pub IsReduced-reduce : (w : List ℤ) → IsReduced (reduce w)
IsReduced-reduce w = IsReduced-act w [] tt

-- and no longer
pub length-reduce : (w : List ℤ) → length (reduce w) ≤ length w
length-reduce [] = omega arith
length-reduce (x ∷ w) = omega (arith, length-push x (reduce w), length-reduce w)

-- a reduced word is its own reduction
pub reduce-fixed : (w : List ℤ) → IsReduced w → reduce w ≡ w
reduce-fixed [] h = refl
reduce-fixed (x ∷ w) h = ap (push x) (reduce-fixed w (IsReduced-tail x w h)) ∙ push-reduced x w h

pub act-append : (u v w : List ℤ) → act (u ++ v) w ≡ act u (act v w)
act-append [] v w = refl
act-append (x ∷ u) v w = ap (push x) (act-append u v w)

act-push : (x : ℤ) (u w : List ℤ) → IsReduced w → act (push x u) w ≡ push x (act u w)
act-push x [] w h = refl
act-push x (y ∷ u) w h =
    elim (same_or_not y (inverse x)) [
      | inl e ↦
          (ap (λ (z : List ℤ). act z w) (push-cancels x y u e)
          ∙ sym (push-push_inverse x (act u w) (IsReduced-act u w h))
          ∙ ap (λ (z : ℤ). push x (push z (act u w))) (sym e))
      | inr n ↦ ap (λ (z : List ℤ). act z w) (push-goes_on x y u n)
    ]

pub act-reduce : (u w : List ℤ) → IsReduced w → act (reduce u) w ≡ act u w
act-reduce [] w h = refl
act-reduce (x ∷ u) w h = act-push x (reduce u) w h ∙ ap (push x) (act-reduce u w h)

-- words with the same reduction act alike
pub act-respects : (u v w : List ℤ) → reduce u ≡ reduce v → IsReduced w → act u w ≡ act v w
act-respects u v w e h = sym (act-reduce u w h) ∙ ap (λ (z : List ℤ). act z w) e ∙ act-reduce v w h

pub reduce-reduce : (w : List ℤ) → reduce (reduce w) ≡ reduce w
reduce-reduce w = reduce-fixed (reduce w) (IsReduced-reduce w)

-- ---- reductions of words that are put together

-- what stands inside a word may be replaced by any word with the same reduction
pub reduce-inside : (a u v b : List ℤ) → reduce u ≡ reduce v → reduce (a ++ (u ++ b)) ≡ reduce (a ++ (v ++ b))
reduce-inside a u v b e =
    act-append a (u ++ b) []
    ∙ ap (act a) (act-append u b [] ∙ act-respects u v (reduce b) e (IsReduced-reduce b) ∙ sym (act-append v b []))
    ∙ sym (act-append a (v ++ b) [])

pub reduce-left : (u v b : List ℤ) → reduce u ≡ reduce v → reduce (u ++ b) ≡ reduce (v ++ b)
reduce-left u v b e = reduce-inside [] u v b e

pub reduce-right : (a u v : List ℤ) → reduce u ≡ reduce v → reduce (a ++ u) ≡ reduce (a ++ v)
reduce-right a u v e = act-append a u [] ∙ ap (act a) e ∙ sym (act-append a v [])

-- the reduction of two words, one after the other, is that of their reductions
pub reduce-append : (u v : List ℤ) → reduce (u ++ v) ≡ reduce (reduce u ++ reduce v)
reduce-append u v =
    reduce-left u (reduce u) v (sym (reduce-reduce u))
    ∙ reduce-right (reduce u) v (reduce v) (sym (reduce-reduce v))

-- ---- the way back

pub inverse_word-append : (u v : List ℤ) → inverse_word (u ++ v) ≡ inverse_word v ++ inverse_word u
inverse_word-append [] v = sym (append-nil (inverse_word v))
inverse_word-append (x ∷ u) v =
    ap (λ (z : List ℤ). z ++ (inverse x ∷ [])) (inverse_word-append u v)
    ∙ append_assoc (inverse_word v) (inverse_word u) (inverse x ∷ [])

pub inverse_word-inverse_word : (w : List ℤ) → inverse_word (inverse_word w) ≡ w
inverse_word-inverse_word [] = refl
inverse_word-inverse_word (x ∷ w) =
    inverse_word-append (inverse_word w) (inverse x ∷ [])
    ∙ ap (λ (z : ℤ). z ∷ inverse_word (inverse_word w)) (inverse-inverse x)
    ∙ ap (λ (z : List ℤ). x ∷ z) (inverse_word-inverse_word w)

pub length-inverse_word : (w : List ℤ) → length (inverse_word w) ≡ length w
length-inverse_word [] = refl
length-inverse_word (x ∷ w) = omega (arith, length-append (inverse_word w) (inverse x ∷ []), length-inverse_word w)

-- the letters of the way back are labels
pub All-inverse_word : (triples : List (List ℤ)) (w : List ℤ) → All (IsLabel triples) w
    → All (IsLabel triples) (inverse_word w)
All-inverse_word triples [] h = h
All-inverse_word triples (x ∷ w) h =
    All-append (IsLabel triples) (inverse_word w) (inverse x ∷ [])
    (All-inverse_word triples w (All-tail (IsLabel triples) x w h))
    (All-cons (IsLabel triples) (inverse x) [] (inverse_label triples x (All-head (IsLabel triples) x w h))
    (All-nil (IsLabel triples)))

pub IsReduced-inverse_word : (w : List ℤ) → IsReduced w → IsReduced (inverse_word w)
IsReduced-inverse_word [] h = tt
IsReduced-inverse_word (x ∷ []) h = tt
IsReduced-inverse_word (x ∷ (y ∷ w)) h =
    subst IsReduced (sym (append_assoc (inverse_word w) (inverse y ∷ []) (inverse x ∷ [])))
    (IsReduced-append_letter (inverse_word w) (inverse y) (inverse x) (IsReduced-inverse_word (y ∷ w) h.1)
    (λ e. h.0 (sym (inverse-inverse y) ∙ sym e)))

-- a word takes away what its way back put in front
pub act-inverse_word : (u w : List ℤ) → IsReduced w → act (inverse_word u) (act u w) ≡ w
act-inverse_word [] w h = refl
act-inverse_word (x ∷ u) w h =
    act-append (inverse_word u) (inverse x ∷ []) (push x (act u w))
    ∙ ap (act (inverse_word u)) (push_inverse-push x (act u w) (IsReduced-act u w h))
    ∙ act-inverse_word u w h

pub act-act_inverse_word : (u w : List ℤ) → IsReduced w → act u (act (inverse_word u) w) ≡ w
act-act_inverse_word u w h =
    ap (λ (z : List ℤ). act z (act (inverse_word u) w)) (sym (inverse_word-inverse_word u))
    ∙ act-inverse_word (inverse_word u) w h

pub reduce-cancel : (a u b : List ℤ) → reduce (a ++ (u ++ (inverse_word u ++ b))) ≡ reduce (a ++ b)
reduce-cancel a u b =
    act-append a (u ++ (inverse_word u ++ b)) []
    ∙ ap (act a)
    (act-append u (inverse_word u ++ b) []
    ∙ ap (act u) (act-append (inverse_word u) b [])
    ∙ act-act_inverse_word u (reduce b) (IsReduced-reduce b))
    ∙ sym (act-append a b [])

pub reduce-cancel_back : (a u b : List ℤ) → reduce (a ++ (inverse_word u ++ (u ++ b))) ≡ reduce (a ++ b)
reduce-cancel_back a u b =
    ap (λ (z : List ℤ). reduce (a ++ (inverse_word u ++ (z ++ b)))) (sym (inverse_word-inverse_word u))
    ∙ reduce-cancel a (inverse_word u) b

-- what two words share at their start, or at their end, may be taken off
pub reduce-cancel_front : (p u v : List ℤ) → reduce (p ++ u) ≡ reduce (p ++ v) → reduce u ≡ reduce v
reduce-cancel_front p u v e =
    sym (reduce-cancel_back [] p u) ∙ reduce-right (inverse_word p) (p ++ u) (p ++ v) e ∙ reduce-cancel_back [] p v

-- what is put at the end and taken off again leaves the reduction alone
pub reduce-take_off : (u p : List ℤ) → reduce ((u ++ p) ++ inverse_word p) ≡ reduce u
reduce-take_off u p =
    ap reduce (append_assoc u p (inverse_word p))
    ∙ ap (λ (z : List ℤ). reduce (u ++ (p ++ z))) (sym (append-nil (inverse_word p)))
    ∙ reduce-cancel u p []
    ∙ ap reduce (append-nil u)

pub reduce-cancel_end : (u v p : List ℤ) → reduce (u ++ p) ≡ reduce (v ++ p) → reduce u ≡ reduce v
reduce-cancel_end u v p e =
    sym (reduce-take_off u p) ∙ reduce-left (u ++ p) (v ++ p) (inverse_word p) e ∙ reduce-take_off v p

-- w acts on the way back of its reduction, and nothing is left
act-inverse_reduction : (w : List ℤ) → act w (inverse_word (reduce w)) ≡ []
act-inverse_reduction w =
    let back : IsReduced (inverse_word (reduce w)) = IsReduced-inverse_word (reduce w) (IsReduced-reduce w) in
    sym (act-reduce w (inverse_word (reduce w)) back)
    ∙ ap (act (reduce w)) (sym (reduce-fixed (inverse_word (reduce w)) back))
    ∙ act-act_inverse_word (reduce w) [] tt

-- the reduction of the way back is the way back of the reduction
pub reduce-inverse_word : (w : List ℤ) → reduce (inverse_word w) ≡ inverse_word (reduce w)
reduce-inverse_word w =
    ap (act (inverse_word w)) (sym (act-inverse_reduction w))
    ∙ act-inverse_word w (inverse_word (reduce w)) (IsReduced-inverse_word (reduce w) (IsReduced-reduce w))

-- a letter at the end of a word takes away its inverse there
pub reduce-drop_pair : (u : List ℤ) (x : ℤ) → IsReduced (u ++ (x ∷ [])) → reduce (u ++ (x ∷ (inverse x ∷ []))) ≡ u
reduce-drop_pair u x h =
    reduce-cancel u (x ∷ []) [] ∙ ap reduce (append-nil u) ∙ reduce-fixed u (IsReduced-front u (x ∷ []) h)

-- ---- deletions

pub reduce-pair : (u : List ℤ) (x : ℤ) (v : List ℤ) → reduce (u ++ (x ∷ (inverse x ∷ v))) ≡ reduce (u ++ v)
reduce-pair u x v = reduce-cancel u (x ∷ []) v

pub reduce-deletion : (v w : List ℤ) → Deletes v w → reduce v ≡ reduce w
reduce-deletion v w (pair u x t) = reduce-pair u x t

pub reduce-deletions : (v w : List ℤ) → DeletesAll v w → reduce v ≡ reduce w
reduce-deletions v w (done t) = refl
reduce-deletions v w (more {u = a} {v = b} {w = c} d rest) = reduce-deletion a b d ∙ reduce-deletions b c rest

-- the reduction is the one reduced word that deletions lead to
pub reduce-only : (v w : List ℤ) → DeletesAll v w → IsReduced w → w ≡ reduce v
reduce-only v w d h = sym (reduce-fixed w h) ∙ sym (reduce-deletions v w d)

DeletesAll-trans : (u v w : List ℤ) → DeletesAll u v → DeletesAll v w → DeletesAll u w
DeletesAll-trans u v w (done t) e = e
DeletesAll-trans u v w (more {u = a} {v = b} {w = c} d rest) e = more d (DeletesAll-trans b c w rest e)

Deletes-cons : (x : ℤ) (v w : List ℤ) → Deletes v w → Deletes (x ∷ v) (x ∷ w)
Deletes-cons x v w (pair u y t) = pair (x ∷ u) y t

DeletesAll-cons : (x : ℤ) (v w : List ℤ) → DeletesAll v w → DeletesAll (x ∷ v) (x ∷ w)
DeletesAll-cons x v w (done t) = done (x ∷ t)
DeletesAll-cons x v w (more {u = a} {v = b} {w = c} d rest) = more (Deletes-cons x a b d) (DeletesAll-cons x b c rest)

DeletesAll-push : (x : ℤ) (w : List ℤ) → DeletesAll (x ∷ w) (push x w)
DeletesAll-push x [] = done (x ∷ [])
DeletesAll-push x (y ∷ w) =
    elim (same_or_not y (inverse x)) [
      | inl e ↦
          subst (DeletesAll (x ∷ (y ∷ w))) (sym (push-cancels x y w e))
          (subst (λ (z : ℤ). DeletesAll (x ∷ (z ∷ w)) w) (sym e) (more (pair [] x w) (done w)))
      | inr n ↦ subst (DeletesAll (x ∷ (y ∷ w))) (sym (push-goes_on x y w n)) (done (x ∷ (y ∷ w)))
    ]

-- deletions reach the reduction
pub reduce-reached : (w : List ℤ) → DeletesAll w (reduce w)
reduce-reached [] = done []
reduce-reached (x ∷ w) =
    DeletesAll-trans (x ∷ w) (x ∷ reduce w) (reduce (x ∷ w))
    (DeletesAll-cons x w (reduce w) (reduce-reached w))
    (DeletesAll-push x (reduce w))

-- ---- letters

-- what holds of each letter of a word, and of x, holds of each letter of the word with x in front
pub push-keeps : (P : ℤ → Type 0) (x : ℤ) (w : List ℤ) → P x → All P w → All P (push x w)
push-keeps P x [] p h = All-cons P x [] p h
push-keeps P x (y ∷ w) p h =
    elim (same_or_not y (inverse x)) [
      | inl e ↦ subst (All P) (sym (push-cancels x y w e)) (All-tail P y w h)
      | inr n ↦ subst (All P) (sym (push-goes_on x y w n)) (All-cons P x (y ∷ w) p h)
    ]

pub reduce-keeps : (P : ℤ → Type 0) (w : List ℤ) → All P w → All P (reduce w)
reduce-keeps P [] h = h
reduce-keeps P (x ∷ w) h = push-keeps P x (reduce w) (All-head P x w h) (reduce-keeps P w (All-tail P x w h))
