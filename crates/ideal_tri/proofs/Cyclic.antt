-- The cyclic reduction of closed words: its shape, and that conjugate words have it up to rotation.
--
-- The reduction of w is p c p⁻¹, with c cyclically reduced: as long as the two ends are inverse to each other, they
-- are taken off together. The word is short, so that this ends, and more steps than the word has letters change
-- nothing.
--
-- Let core be what is left of a reduced word. A letter x in front of a reduced word w, or at its end, gives the same
-- core up to rotation. If x cancels at neither end, the two words are rotations of each other, and so are their cores:
-- both are cyclically reduced, or the ends of both match. If it cancels at one end alone, x w and w x are w without
-- its last letter and x w, or the other way round. If it cancels at both, w begins and ends with the inverse of x. By
-- this, letter by letter, rotations and conjugates of a word have the same cyclic reduction up to rotation.
-- Conversely, where u = p (a b) p⁻¹ and v = r (b a) r⁻¹, the word p a r⁻¹ conjugates u to v.
use Rattle.std.proofs.Common.{ℕ, ℤ, zero, suc, Bool, cond, List, [], ◌∷◌, ◌++◌, ◌≡◌, ◌≢◌, ◌≤◌, inl, inr, refl, sym, ◌∙◌}
use Rattle.std.proofs.Common.{ap, subst, append_assoc, arith, length, length-append, get_or}
use Rattle.std.specs.List.{All}
use Rattle.std.proofs.lemmas.List.{append-nil}
use Rattle.std.proofs.lemmas.List.Elements.{All-nil, All-cons, All-head, All-tail}
use Rattle.ideal_tri.specs.Labels.{inverse}
use Rattle.ideal_tri.specs.Words.{inverse_word, IsReduced, push, act, reduce, IsRotation, IsCyclicallyReduced, last_of}
use Rattle.ideal_tri.specs.Words.{but_last, strip, cyclic_reduce}
use Rattle.ideal_tri.specs.Curves.{IsSameCurve}
use Rattle.ideal_tri.proofs.Labels.{not_own_inverse, inverse_turns, same_or_not, int_eq-same, int_eq-other}
use Rattle.ideal_tri.proofs.Reduction.{IsReduced-tail, IsReduced-front, IsReduced-glue, push-cancels, push-goes_on}
use Rattle.ideal_tri.proofs.Reduction.{IsReduced-reduce, reduce-fixed, reduce-reduce, reduce-left, reduce-right}
use Rattle.ideal_tri.proofs.Reduction.{reduce-take_off, reduce-cancel_back, IsReduced-act, act-append, act-reduce}
use Rattle.ideal_tri.proofs.Reduction.{act-inverse_word, reduce-drop_pair, reduce-inverse_word, reduce-keeps}
use Rattle.ideal_tri.proofs.Reduction.{inverse_word-append, IsReduced-inverse_word, length-reduce}
use Rattle.ideal_tri.proofs.Rotations.{Rotation-refl, Rotation-same, Rotation-sym, Rotation-trans, Rotation-steps}

-- ---- the two ends of a word

-- a word with a first letter has a last one
pub ends_in_last : (x : ℤ) (w : List ℤ) → x ∷ w ≡ but_last (x ∷ w) ++ (last_of x w ∷ [])
ends_in_last x [] = refl
ends_in_last x (y ∷ w) = ap (λ (z : List ℤ). x ∷ z) (ends_in_last y w)

pub last_of-append : (x : ℤ) (w : List ℤ) (z : ℤ) → last_of x (w ++ (z ∷ [])) ≡ z
last_of-append x [] z = refl
last_of-append x (y ∷ w) z = last_of-append y w z

pub last_of-read : (x : ℤ) (w : List ℤ) (d : ℤ) → last_of x w ≡ get_or (x ∷ w) (length w) d
last_of-read x [] d = refl
last_of-read x (y ∷ w) d = last_of-read y w d

pub but_last-append : (w : List ℤ) (z : ℤ) → but_last (w ++ (z ∷ [])) ≡ w
but_last-append [] z = refl
but_last-append (x ∷ []) z = refl
but_last-append (x ∷ (y ∷ w)) z = ap (λ (v : List ℤ). x ∷ v) (but_last-append (y ∷ w) z)

length-but_last : (w : List ℤ) → length (but_last w) ≤ length w
length-but_last [] = omega arith
length-but_last (x ∷ []) = omega arith
length-but_last (x ∷ (y ∷ w)) = omega (arith, length-but_last (y ∷ w))

IsReduced-but_last : (w : List ℤ) → IsReduced w → IsReduced (but_last w)
IsReduced-but_last [] h = tt
IsReduced-but_last (x ∷ w) h =
    IsReduced-front (but_last (x ∷ w)) (last_of x w ∷ []) (subst IsReduced (ends_in_last x w) h)

All-but_last : (P : ℤ → Type 0) (w : List ℤ) → All P w → All P (but_last w)
All-but_last P [] h = h
All-but_last P (x ∷ []) h = All-nil P
All-but_last P (x ∷ (y ∷ w)) h =
    All-cons P x (but_last (y ∷ w)) (All-head P x (y ∷ w) h) (All-but_last P (y ∷ w) (All-tail P x (y ∷ w) h))

-- a letter may follow a reduced word whose last letter is not its inverse
IsReduced-follow : (x : ℤ) (w : List ℤ) (z : ℤ) → IsReduced (x ∷ w) → z ≢ inverse (last_of x w)
    → IsReduced (x ∷ (w ++ (z ∷ [])))
IsReduced-follow x [] z h n = (n, tt)
IsReduced-follow x (y ∷ w) z h n = (h.0, IsReduced-follow y w z h.1 n)

-- the last letter of a reduced word is not the inverse of the one before it
IsReduced-last : (x : ℤ) (w : List ℤ) (z : ℤ) → IsReduced (x ∷ (w ++ (z ∷ []))) → z ≢ inverse (last_of x w)
IsReduced-last x [] z h = h.0
IsReduced-last x (y ∷ w) z h = IsReduced-last y w z h.1

-- ---- cyclically reduced words

-- the two ends of a cyclically reduced word are not inverse to each other
pub ends_apart : (x : ℤ) (w : List ℤ) → IsCyclicallyReduced (x ∷ w) → last_of x w ≢ inverse x
ends_apart x w h e = IsReduced-last x w x h (inverse_turns x (last_of x w) e)

pub cyclic-ends_apart : (x : ℤ) (w : List ℤ) → IsReduced (x ∷ w) → last_of x w ≢ inverse x → IsCyclicallyReduced (x ∷ w)
cyclic-ends_apart x w h n = IsReduced-follow x w x h (λ e. n (inverse_turns (last_of x w) x e))

pub cyclic-reduced : (w : List ℤ) → IsCyclicallyReduced w → IsReduced w
cyclic-reduced [] h = tt
cyclic-reduced (x ∷ w) h = IsReduced-front (x ∷ w) (x ∷ []) h

cyclic-step : (x : ℤ) (w : List ℤ) → IsCyclicallyReduced (x ∷ w) → IsCyclicallyReduced (w ++ (x ∷ []))
cyclic-step x [] h = h
cyclic-step x (y ∷ w) h =
    subst (λ (z : List ℤ). IsReduced (y ∷ z)) (sym (append_assoc w (x ∷ []) (y ∷ [])))
    (IsReduced-glue (y ∷ w) x (y ∷ []) h.1 (h.0, tt))

pub cyclic-rotate : (u v : List ℤ) → IsRotation u v → IsCyclicallyReduced u → IsCyclicallyReduced v
cyclic-rotate u v r h = Rotation-steps IsCyclicallyReduced cyclic-step u v r h

pub cyclic-inverse_word : (w : List ℤ) → IsCyclicallyReduced w → IsCyclicallyReduced (inverse_word w)
cyclic-inverse_word [] h = tt
cyclic-inverse_word (x ∷ w) h =
    cyclic-step (inverse x) (inverse_word w)
    (subst (λ (z : List ℤ). IsReduced (z ++ (inverse x ∷ []))) (inverse_word-append w (x ∷ []))
    (IsReduced-inverse_word (x ∷ (w ++ (x ∷ []))) h))

-- ---- stripping

strip-peels : (n : ℕ) (x : ℤ) (w : List ℤ) → last_of x w ≡ inverse x → strip (suc n) (x ∷ w) ≡ strip n (but_last w)
unfolding strip
strip-peels n x w e = ap (λ (b : Bool). cond b (strip n (but_last w)) (x ∷ w)) (int_eq-same (last_of x w) (inverse x) e)

strip-stays : (n : ℕ) (x : ℤ) (w : List ℤ) → last_of x w ≢ inverse x → strip n (x ∷ w) ≡ x ∷ w
unfolding strip
strip-stays zero x w ne = refl
strip-stays (suc n) x w ne =
    ap (λ (b : Bool). cond b (strip n (but_last w)) (x ∷ w)) (int_eq-other (last_of x w) (inverse x) ne)

strip-zero : (w : List ℤ) → strip zero w ≡ w
unfolding strip
strip-zero w = refl

strip-nil : (n : ℕ) → strip n [] ≡ []
unfolding strip
strip-nil zero = refl
strip-nil (suc n) = refl

-- any number that is not below the word's length strips all that can be stripped
strip-enough : (m n : ℕ) (w : List ℤ) → length w ≤ m → length w ≤ n → strip m w ≡ strip n w
strip-enough m n [] h k = strip-nil m ∙ sym (strip-nil n)
strip-enough zero n (x ∷ w) h k = absurd (omega arith)
strip-enough (suc m) zero (x ∷ w) h k = absurd (omega arith)
strip-enough (suc m) (suc n) (x ∷ w) h k =
    elim (same_or_not (last_of x w) (inverse x)) [
      | inl e ↦
          (strip-peels m x w e
          ∙ strip-enough m n (but_last w) (omega (arith, length-but_last w)) (omega (arith, length-but_last w))
          ∙ sym (strip-peels n x w e))
      | inr ne ↦ strip-stays (suc m) x w ne ∙ sym (strip-stays (suc n) x w ne)
    ]

-- a word whose ends match is its middle between them
ends_match : (x : ℤ) (w : List ℤ) → last_of x w ≡ inverse x → x ∷ w ≡ x ∷ (but_last w ++ (inverse x ∷ []))
ends_match x [] e = absurd (not_own_inverse x e)
ends_match x (y ∷ w) e =
    ap (λ (z : List ℤ). x ∷ z) (ends_in_last y w ∙ ap (λ (z : ℤ). but_last (y ∷ w) ++ (z ∷ [])) e)

strip-shape : (n : ℕ) (w : List ℤ) → (p : List ℤ) × (w ≡ p ++ (strip n w ++ inverse_word p))
strip-shape n [] = ([], sym (append-nil (strip n []) ∙ strip-nil n))
strip-shape zero (x ∷ w) = ([], sym (append-nil (strip zero (x ∷ w)) ∙ strip-zero (x ∷ w)))
strip-shape (suc n) (x ∷ w) =
    elim (same_or_not (last_of x w) (inverse x)) [
      | inl e ↦
          (let (p, shape) = strip-shape n (but_last w) in (
            x ∷ p,
            ends_match x w e
                ∙ ap (λ (z : List ℤ). x ∷ (z ++ (inverse x ∷ []))) shape
                ∙ ap (λ (z : List ℤ). x ∷ z) (append_assoc p (strip n (but_last w) ++ inverse_word p) (inverse x ∷ []))
                ∙ ap (λ (z : List ℤ). x ∷ (p ++ z))
                (append_assoc (strip n (but_last w)) (inverse_word p) (inverse x ∷ []))
                ∙ ap (λ (z : List ℤ). x ∷ (p ++ (z ++ inverse_word (x ∷ p)))) (sym (strip-peels n x w e)),
          ))
      | inr ne ↦ ([], sym (append-nil (strip (suc n) (x ∷ w)) ∙ strip-stays (suc n) x w ne))
    ]

strip-cyclic : (n : ℕ) (w : List ℤ) → IsReduced w → length w ≤ n → IsCyclicallyReduced (strip n w)
strip-cyclic n [] h k = subst IsCyclicallyReduced (sym (strip-nil n)) tt
strip-cyclic zero (x ∷ w) h k = absurd (omega arith)
strip-cyclic (suc n) (x ∷ w) h k =
    elim (same_or_not (last_of x w) (inverse x)) [
      | inl e ↦
          subst IsCyclicallyReduced (sym (strip-peels n x w e))
          (strip-cyclic n (but_last w) (IsReduced-but_last w (IsReduced-tail x w h)) (omega (arith, length-but_last w)))
      | inr ne ↦ subst IsCyclicallyReduced (sym (strip-stays (suc n) x w ne)) (cyclic-ends_apart x w h ne)
    ]

strip-fixed : (n : ℕ) (w : List ℤ) → IsCyclicallyReduced w → strip n w ≡ w
strip-fixed n [] h = strip-nil n
strip-fixed n (x ∷ w) h = strip-stays n x w (ends_apart x w h)

strip-keeps : (P : ℤ → Type 0) (n : ℕ) (w : List ℤ) → All P w → All P (strip n w)
strip-keeps P n [] h = subst (All P) (sym (strip-nil n)) h
strip-keeps P zero (x ∷ w) h = subst (All P) (sym (strip-zero (x ∷ w))) h
strip-keeps P (suc n) (x ∷ w) h =
    elim (same_or_not (last_of x w) (inverse x)) [
      | inl e ↦
          subst (All P) (sym (strip-peels n x w e)) (strip-keeps P n (but_last w) (All-but_last P w (All-tail P x w h)))
      | inr ne ↦ subst (All P) (sym (strip-stays (suc n) x w ne)) h
    ]

-- ---- the cyclic reduction

pub cyclic_reduce-cyclic : (w : List ℤ) → IsCyclicallyReduced (cyclic_reduce w)
unfolding cyclic_reduce
cyclic_reduce-cyclic w = strip-cyclic (length (reduce w)) (reduce w) (IsReduced-reduce w) (omega arith)

-- a cyclically reduced word is its own cyclic reduction
pub cyclic_reduce-fixed : (w : List ℤ) → IsCyclicallyReduced w → cyclic_reduce w ≡ w
unfolding cyclic_reduce
cyclic_reduce-fixed w h =
    ap (λ (z : List ℤ). strip (length z) z) (reduce-fixed w (cyclic-reduced w h)) ∙ strip-fixed (length w) w h

-- the reduction is the cyclic reduction between a word and its way back
pub cyclic_reduce-shape : (w : List ℤ) → (p : List ℤ) × (reduce w ≡ p ++ (cyclic_reduce w ++ inverse_word p))
unfolding cyclic_reduce
cyclic_reduce-shape w = strip-shape (length (reduce w)) (reduce w)

-- and no longer than the word
pub length-cyclic_reduce : (w : List ℤ) → length (cyclic_reduce w) ≤ length w
length-cyclic_reduce w =
    let (p, shape) = cyclic_reduce-shape w in
    omega (
      arith,
      length-reduce w,
      ap length shape,
      length-append p (cyclic_reduce w ++ inverse_word p),
      length-append (cyclic_reduce w) (inverse_word p),
    )

-- the cyclic reduction is seen from the reduction alone
pub cyclic_reduce-respects : (u v : List ℤ) → reduce u ≡ reduce v → cyclic_reduce u ≡ cyclic_reduce v
unfolding cyclic_reduce
cyclic_reduce-respects u v e = ap (λ (z : List ℤ). strip (length z) z) e

pub cyclic_reduce-keeps : (P : ℤ → Type 0) (w : List ℤ) → All P w → All P (cyclic_reduce w)
unfolding cyclic_reduce
cyclic_reduce-keeps P w h = strip-keeps P (length (reduce w)) (reduce w) (reduce-keeps P w h)

-- ---- the first letter goes to the end

-- the word without its ends, as often as these are inverse to each other
core : List ℤ → List ℤ
core w = strip (length w) w

core-stays : (x : ℤ) (w : List ℤ) → last_of x w ≢ inverse x → core (x ∷ w) ≡ x ∷ w
unfolding core
core-stays x w ne = strip-stays (length (x ∷ w)) x w ne

core-stays_between : (x : ℤ) (m : List ℤ) (z : ℤ) → z ≢ inverse x → core (x ∷ (m ++ (z ∷ []))) ≡ x ∷ (m ++ (z ∷ []))
core-stays_between x m z ne = core-stays x (m ++ (z ∷ [])) (λ e. ne (sym (last_of-append x m z) ∙ e))

core-peels : (x : ℤ) (m : List ℤ) (z : ℤ) → z ≡ inverse x → core (x ∷ (m ++ (z ∷ []))) ≡ core m
unfolding core
core-peels x m z e =
    strip-peels (length (m ++ (z ∷ []))) x (m ++ (z ∷ [])) (last_of-append x m z ∙ e)
    ∙ ap (strip (length (m ++ (z ∷ [])))) (but_last-append m z)
    ∙ strip-enough (length (m ++ (z ∷ []))) (length m) m (omega (arith, length-append m (z ∷ []))) (omega arith)

-- the last letter takes x away
popped : (y : ℤ) (w : List ℤ) (x : ℤ) → IsReduced (y ∷ w) → last_of y w ≡ inverse x
    → reduce ((y ∷ w) ++ (x ∷ [])) ≡ but_last (y ∷ w)
popped y w x h e =
    ap (λ (v : List ℤ). reduce (v ++ (x ∷ []))) (ends_in_last y w)
    ∙ ap reduce (append_assoc (but_last (y ∷ w)) (last_of y w ∷ []) (x ∷ []))
    ∙ ap (λ (z : ℤ). reduce (but_last (y ∷ w) ++ (last_of y w ∷ (z ∷ [])))) (inverse_turns x (last_of y w) e)
    ∙ reduce-drop_pair (but_last (y ∷ w)) (last_of y w) (subst IsReduced (ends_in_last y w) h)

followed : (y : ℤ) (w : List ℤ) (x : ℤ) → IsReduced (y ∷ w) → last_of y w ≢ inverse x
    → reduce ((y ∷ w) ++ (x ∷ [])) ≡ y ∷ (w ++ (x ∷ []))
followed y w x h ne =
    reduce-fixed (y ∷ (w ++ (x ∷ []))) (IsReduced-follow y w x h (λ e. ne (inverse_turns (last_of y w) x e)))

-- x in front of a reduced word w or at its end: the same closed word
record Turns (x : ℤ) (w : List ℤ) : Type 0 where
  same : IsRotation (core (push x w)) (core (reduce (w ++ (x ∷ []))))

turns_by : (x : ℤ) (w u v : List ℤ) → push x w ≡ u → reduce (w ++ (x ∷ [])) ≡ v → IsRotation (core u) (core v)
    → Turns x w
turns_by x w u v e f r = record {
  same =
      subst (λ (z : List ℤ). IsRotation (core z) (core (reduce (w ++ (x ∷ []))))) (sym e)
      (subst (λ (z : List ℤ). IsRotation (core u) (core z)) (sym f) r);
}

-- x cancels at neither end
neither_cancels : (x y : ℤ) (w : List ℤ) → y ≢ inverse x → last_of y w ≢ inverse x
    → IsRotation (core (x ∷ (y ∷ w))) (core (y ∷ (w ++ (x ∷ []))))
neither_cancels x y w front back =
    Rotation-trans (core (x ∷ (y ∷ w))) (x ∷ (y ∷ w)) (core (y ∷ (w ++ (x ∷ []))))
    (Rotation-same (core (x ∷ (y ∷ w))) (x ∷ (y ∷ w)) (core-stays x (y ∷ w) back))
    (Rotation-trans (x ∷ (y ∷ w)) (y ∷ (w ++ (x ∷ []))) (core (y ∷ (w ++ (x ∷ []))))
    (x ∷ [], y ∷ w, refl, refl)
    (Rotation-same (y ∷ (w ++ (x ∷ []))) (core (y ∷ (w ++ (x ∷ []))))
    (sym (core-stays_between y w x (λ e. front (inverse_turns y x e))))))

-- a word that ends as it begins: without its first or its last letter it is the same closed word
one_end_off : (y : ℤ) (m : List ℤ) (z : ℤ) → z ≡ y → IsReduced (y ∷ (m ++ (z ∷ [])))
    → IsRotation (core (m ++ (z ∷ []))) (core (y ∷ m))
one_end_off y m z same h =
    Rotation-trans (core (m ++ (z ∷ []))) (m ++ (z ∷ [])) (core (y ∷ m))
    (Rotation-same (core (m ++ (z ∷ []))) (m ++ (z ∷ [])) (front_stays m h))
    (Rotation-trans (m ++ (z ∷ [])) (z ∷ m) (core (y ∷ m))
    (m, z ∷ [], refl, refl)
    (Rotation-same (z ∷ m) (core (y ∷ m)) (ap (λ (a : ℤ). a ∷ m) same ∙ sym (core-stays y m back_apart))))
  where
    front_stays : (w : List ℤ) → IsReduced (y ∷ (w ++ (z ∷ []))) → core (w ++ (z ∷ [])) ≡ w ++ (z ∷ [])
    front_stays [] k = core-stays z [] (not_own_inverse z)
    front_stays (b ∷ w) k = core-stays_between b w z (λ e. k.0 (inverse_turns b z e ∙ ap inverse same))

    back_apart : last_of y m ≢ inverse y
    back_apart e = IsReduced-last y m z h (same ∙ inverse_turns y (last_of y m) e)

-- x cancels at both ends
both_cancel : (x y : ℤ) (w : List ℤ) → IsReduced (y ∷ w) → y ≡ inverse x → last_of y w ≡ inverse x
    → IsRotation (core w) (core (but_last (y ∷ w)))
both_cancel x y [] h front back = Rotation-refl (core [])
both_cancel x y (b ∷ w) h front back =
    subst (λ (z : List ℤ). IsRotation (core z) (core (y ∷ but_last (b ∷ w)))) (sym (ends_in_last b w))
    (one_end_off y (but_last (b ∷ w)) (last_of b w) (back ∙ sym front)
    (subst (λ (z : List ℤ). IsReduced (y ∷ z)) (ends_in_last b w) h))

turns : (x : ℤ) (w : List ℤ) → IsReduced w → Turns x w
turns x [] h = record { same = Rotation-refl (core (x ∷ [])) }
turns x (y ∷ w) h =
    elim (same_or_not y (inverse x)) [
      | inl front ↦
          elim (same_or_not (last_of y w) (inverse x)) [
            | inl back ↦
                turns_by x (y ∷ w) w (but_last (y ∷ w)) (push-cancels x y w front) (popped y w x h back)
                (both_cancel x y w h front back)
            | inr back ↦
                turns_by x (y ∷ w) w (y ∷ (w ++ (x ∷ []))) (push-cancels x y w front) (followed y w x h back)
                (Rotation-same (core w) (core (y ∷ (w ++ (x ∷ [])))) (sym (core-peels y w x (inverse_turns x y front))))
          ]
      | inr front ↦
          elim (same_or_not (last_of y w) (inverse x)) [
            | inl back ↦
                turns_by x (y ∷ w) (x ∷ (y ∷ w)) (but_last (y ∷ w)) (push-goes_on x y w front) (popped y w x h back)
                (Rotation-same (core (x ∷ (y ∷ w))) (core (but_last (y ∷ w)))
                (ap (λ (z : List ℤ). core (x ∷ z)) (ends_in_last y w) ∙ core-peels x (but_last (y ∷ w)) (last_of y w)
                back))
            | inr back ↦
                turns_by x (y ∷ w) (x ∷ (y ∷ w)) (y ∷ (w ++ (x ∷ []))) (push-goes_on x y w front)
                (followed y w x h back)
                (neither_cancels x y w front back)
          ]
    ]

-- ---- rotated, conjugate and inverse words

cyclic_reduce-step : (x : ℤ) (w : List ℤ) → IsRotation (cyclic_reduce (x ∷ w)) (cyclic_reduce (w ++ (x ∷ [])))
unfolding core cyclic_reduce
cyclic_reduce-step x w =
    subst (λ (z : List ℤ). IsRotation (cyclic_reduce (x ∷ w)) (core z))
    (reduce-left (reduce w) w (x ∷ []) (reduce-reduce w))
    (turns x (reduce w) (IsReduced-reduce w)).same

-- rotations of one word have cyclic reductions that are rotations of each other
pub cyclic_reduce-rotation : (u v : List ℤ) → IsRotation u v → IsRotation (cyclic_reduce u) (cyclic_reduce v)
cyclic_reduce-rotation u v r =
    Rotation-steps (λ (z : List ℤ). IsRotation (cyclic_reduce u) (cyclic_reduce z))
    (λ x w h. Rotation-trans (cyclic_reduce u) (cyclic_reduce (x ∷ w)) (cyclic_reduce (w ++ (x ∷ []))) h
    (cyclic_reduce-step x w))
    u v r (Rotation-refl (cyclic_reduce u))

-- and so have conjugate words
pub cyclic_reduce-conjugate : (q u v : List ℤ) → reduce (inverse_word q ++ (u ++ q)) ≡ reduce v
    → IsRotation (cyclic_reduce u) (cyclic_reduce v)
cyclic_reduce-conjugate q u v e =
    Rotation-trans (cyclic_reduce u) (cyclic_reduce ((u ++ q) ++ inverse_word q)) (cyclic_reduce v)
    (Rotation-same (cyclic_reduce u) (cyclic_reduce ((u ++ q) ++ inverse_word q))
    (sym (cyclic_reduce-respects ((u ++ q) ++ inverse_word q) u (reduce-take_off u q))))
    (subst (IsRotation (cyclic_reduce ((u ++ q) ++ inverse_word q)))
    (cyclic_reduce-respects (inverse_word q ++ (u ++ q)) v e)
    (cyclic_reduce-rotation ((u ++ q) ++ inverse_word q) (inverse_word q ++ (u ++ q))
    (u ++ q, inverse_word q, refl, refl)))

-- the way back along p c p⁻¹
inverse_word-between : (p c : List ℤ)
    → inverse_word (p ++ (c ++ inverse_word p)) ≡ inverse_word (inverse_word p) ++ (inverse_word c ++ inverse_word p)
inverse_word-between p c =
    inverse_word-append p (c ++ inverse_word p)
    ∙ ap (λ (z : List ℤ). z ++ inverse_word p) (inverse_word-append c (inverse_word p))
    ∙ append_assoc (inverse_word (inverse_word p)) (inverse_word c) (inverse_word p)

pub cyclic_reduce-inverse_word : (w : List ℤ)
    → IsRotation (cyclic_reduce (inverse_word w)) (inverse_word (cyclic_reduce w))
cyclic_reduce-inverse_word w =
    let (p, shape) = cyclic_reduce-shape w in
    let back : reduce (inverse_word w)
    ≡ inverse_word (inverse_word p) ++ (inverse_word (cyclic_reduce w) ++ inverse_word p) =
    reduce-inverse_word w ∙ ap inverse_word shape ∙ inverse_word-between p (cyclic_reduce w) in
    Rotation-sym (inverse_word (cyclic_reduce w)) (cyclic_reduce (inverse_word w))
    (subst (λ (z : List ℤ). IsRotation z (cyclic_reduce (inverse_word w)))
    (cyclic_reduce-fixed (inverse_word (cyclic_reduce w))
    (cyclic-inverse_word (cyclic_reduce w) (cyclic_reduce-cyclic w)))
    (cyclic_reduce-conjugate (inverse_word p) (inverse_word (cyclic_reduce w)) (inverse_word w)
    (ap reduce (sym back) ∙ reduce-reduce (inverse_word w))))

-- words of one curve have cyclic reductions of one curve
pub cyclic_reduce-same_curve : (u v : List ℤ) → IsSameCurve u v → IsSameCurve (cyclic_reduce u) (cyclic_reduce v)
cyclic_reduce-same_curve u v (inl r) = inl (cyclic_reduce-rotation u v r)
cyclic_reduce-same_curve u v (inr r) =
    inr (Rotation-trans (inverse_word (cyclic_reduce u)) (cyclic_reduce (inverse_word u)) (cyclic_reduce v)
    (Rotation-sym (cyclic_reduce (inverse_word u)) (inverse_word (cyclic_reduce u)) (cyclic_reduce-inverse_word u))
    (cyclic_reduce-rotation (inverse_word u) v r))

-- ---- a conjugator

act-between : (p c w : List ℤ) → act (p ++ (c ++ inverse_word p)) w ≡ act p (act c (act (inverse_word p) w))
act-between p c w = act-append p (c ++ inverse_word p) w ∙ ap (act p) (act-append c (inverse_word p) w)

act-along : (u p c w : List ℤ) → reduce u ≡ p ++ (c ++ inverse_word p) → IsReduced w
    → act u w ≡ act p (act c (act (inverse_word p) w))
act-along u p c w e h = sym (act-reduce u w h) ∙ ap (λ (z : List ℤ). act z w) e ∙ act-between p c w

-- what the word p a r⁻¹ is for the words p a b p⁻¹ and r b a r⁻¹
carries_over : (u v p a b r : List ℤ) → reduce u ≡ p ++ ((a ++ b) ++ inverse_word p)
    → reduce v ≡ r ++ ((b ++ a) ++ inverse_word r)
    → reduce (u ++ (p ++ (a ++ inverse_word r))) ≡ reduce ((p ++ (a ++ inverse_word r)) ++ v)
carries_over u v p a b r e f = first ∙ sym second
  where
    end : List ℤ
    end = act (inverse_word r) []

    end_reduced : IsReduced end
    end_reduced = IsReduced-act (inverse_word r) [] tt

    first : reduce (u ++ (p ++ (a ++ inverse_word r))) ≡ act p (act a (act b (act a end)))
    first =
        act-append u (p ++ (a ++ inverse_word r)) []
        ∙ ap (act u) (act-append p (a ++ inverse_word r) [] ∙ ap (act p) (act-append a (inverse_word r) []))
        ∙ act-along u p (a ++ b) (act p (act a end)) e (IsReduced-act p (act a end) (IsReduced-act a end end_reduced))
        ∙ ap (λ (z : List ℤ). act p (act (a ++ b) z)) (act-inverse_word p (act a end) (IsReduced-act a end end_reduced))
        ∙ ap (act p) (act-append a b (act a end))

    second : reduce ((p ++ (a ++ inverse_word r)) ++ v) ≡ act p (act a (act b (act a end)))
    second =
        act-append (p ++ (a ++ inverse_word r)) v []
        ∙ ap (act (p ++ (a ++ inverse_word r))) (act-along v r (b ++ a) [] f tt)
        ∙ act-append p (a ++ inverse_word r) (act r (act (b ++ a) end))
        ∙ ap (act p) (act-append a (inverse_word r) (act r (act (b ++ a) end)))
        ∙ ap (λ (z : List ℤ). act p (act a z))
        (act-inverse_word r (act (b ++ a) end) (IsReduced-act (b ++ a) end end_reduced))
        ∙ ap (λ (z : List ℤ). act p (act a z)) (act-append b a end)

-- words whose cyclic reductions are rotations of each other are conjugate
pub conjugate_of_rotation : (u v : List ℤ) → IsRotation (cyclic_reduce u) (cyclic_reduce v)
    → (q : List ℤ) × (reduce (inverse_word q ++ (u ++ q)) ≡ reduce v)
conjugate_of_rotation u v (a, b, e, f) =
    let (p, of_u) = cyclic_reduce-shape u in
    let (r, of_v) = cyclic_reduce-shape v in
    let q : List ℤ = p ++ (a ++ inverse_word r) in (
      q,
      reduce-right (inverse_word q) (u ++ q) (q ++ v)
          (carries_over u v p a b r
          (of_u ∙ ap (λ (z : List ℤ). p ++ (z ++ inverse_word p)) e)
          (of_v ∙ ap (λ (z : List ℤ). r ++ (z ++ inverse_word r)) f))
          ∙ reduce-cancel_back [] q v,
    )
