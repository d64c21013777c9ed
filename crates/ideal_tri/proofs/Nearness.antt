-- The test of walks: one goes from s to t exactly where one does with no more letters than there are triangles.
--
-- Let near n hold of the triangles from which a walk of at most n letters goes to t. It grows with n. As soon as near
-- n and near (n + 1) are the same, crossing a side never leads into near n from outside, so that near n holds of all
-- triangles from which any walk goes to t. Until then each step adds a triangle, and there are no more than T of them:
-- after n steps at most T - n triangles are far from t, or near n is complete. After T steps it is complete.
use Rattle.std.proofs.Common.{ℕ, zero, suc, ℤ, Bool, true, not, ◌&&◌, List, [], ◌∷◌, ◌≡◌, ◌≤◌, ◌<◌, ◌+◌, ◌⊎◌, inl, inr}
use Rattle.std.proofs.Common.{sym, ◌∙◌, ap, subst, ◌↔◌, arith, eqb, cond, length, get_or}
use Rattle.std.specs.List.{Any, list_any}
use Rattle.std.specs.Ordering.{int_eq}
use Rattle.std.proofs.lemmas.Bool.{cases_Bool, eqb-true, eq-eqb, or_cases, or_left, or_right, and_cases, and_parts}
use Rattle.std.proofs.lemmas.Bool.{not-true, not-false, not_from_true, not_from_false, false≢true}
use Rattle.std.proofs.lemmas.Bool.Decides.{Decides-int_eq}
use Rattle.std.proofs.lemmas.List.Folds.{Any-from_list_any, list_any-from_Any}
use Rattle.ideal_tri.specs.Labels.{inverse}
use Rattle.ideal_tri.specs.Triangulations.{labels_of, IsLabel, IsWalk, IsReached, IsTriangulation, has_side}
use Rattle.ideal_tri.specs.Triangulations.{triangle_of}
use Rattle.ideal_tri.specs.Components.{is_near, is_reached}
use Rattle.ideal_tri.proofs.Labels.{inverse_label}
use Rattle.ideal_tri.proofs.Triangles.{times, times-append, times_of_no_side, counted_once, triangle_laws}
use Rattle.ideal_tri.proofs.Walks.{reached_here, reached_step, reached_along}
use Rattle.ideal_tri.proofs.Numbering.{passing, passing-few, passing-fewer, passing-grows, one_or_none}

-- the triple at the number of the triangle of a label has that side
has_side_there : (ts : List (List ℤ)) (x : ℤ) → 0 < times x (labels_of ts)
    → has_side x (get_or ts (triangle_of ts x) []) ≡ true
has_side_there [] x counted = absurd (omega arith)
has_side_there (t ∷ rest) x counted =
    elim (cases_Bool (has_side x t)) [
      | inl h ↦
          ap (λ (n : ℕ). has_side x (get_or (t ∷ rest) n [])) (ap (λ (b : Bool). cond b 0 (suc (triangle_of rest x))) h)
          ∙ h
      | inr h ↦
          ap (λ (n : ℕ). has_side x (get_or (t ∷ rest) n [])) (ap (λ (b : Bool). cond b 0 (suc (triangle_of rest x))) h)
          ∙ has_side_there rest x (omega (arith, times-append x t (labels_of rest), times_of_no_side x t h))
    ]

-- ---- short walks

near_here : (ts : List (List ℤ)) (n s t : ℕ) → s ≡ t → is_near ts n s t ≡ true
near_here ts zero s t e = eq-eqb s t e
near_here ts (suc n) s t e =
    or_left (eqb s t) (list_any (λ x. is_near ts n (triangle_of ts (inverse x)) t) (get_or ts s [])) (eq-eqb s t e)

near_across : (ts : List (List ℤ)) (n s t : ℕ)
    → Any (λ x. is_near ts n (triangle_of ts (inverse x)) t ≡ true) (get_or ts s []) → is_near ts (suc n) s t ≡ true
near_across ts n s t h =
    or_right (eqb s t) (list_any (λ x. is_near ts n (triangle_of ts (inverse x)) t) (get_or ts s []))
    (list_any-from_Any (λ x. is_near ts n (triangle_of ts (inverse x)) t) (get_or ts s []) h)

near_cases : (ts : List (List ℤ)) (n s t : ℕ) → is_near ts (suc n) s t ≡ true
    → (s ≡ t) ⊎ Any (λ x. is_near ts n (triangle_of ts (inverse x)) t ≡ true) (get_or ts s [])
near_cases ts n s t m =
    elim (or_cases (eqb s t) (list_any (λ x. is_near ts n (triangle_of ts (inverse x)) t) (get_or ts s [])) m) [
      | inl e ↦ inl (eqb-true s t e)
      | inr a ↦ inr (Any-from_list_any (λ x. is_near ts n (triangle_of ts (inverse x)) t) (get_or ts s []) a)
    ]

near_more : (ts : List (List ℤ)) (n s t : ℕ) → is_near ts n s t ≡ true → is_near ts (suc n) s t ≡ true
near_more ts zero s t m = near_here ts 1 s t (eqb-true s t m)
near_more ts (suc n) s t m =
    elim (near_cases ts n s t m) [
      | inl e ↦ near_here ts (suc (suc n)) s t e
      | inr (k, x, below, at, near) ↦
          near_across ts (suc n) s t (k, x, below, at, near_more ts n (triangle_of ts (inverse x)) t near)
    ]

near_reached : (ts : List (List ℤ)) → IsTriangulation ts → (n s t : ℕ) → s < length ts → is_near ts n s t ≡ true
    → IsReached ts s t
near_reached ts h zero s t below m = reached_here ts s t (eqb-true s t m)
near_reached ts h (suc n) s t below m =
    elim (near_cases ts n s t m) [
      | inl e ↦ reached_here ts s t e
      | inr (k, x, b, at, near) ↦
          (let (label, is_s) = (triangle_laws ts h).listed s x below (k, b, at) in
          reached_along ts s (triangle_of ts (inverse x)) t
          (subst (λ (i : ℕ). IsReached ts i (triangle_of ts (inverse x))) is_s (reached_step ts x label))
          (near_reached ts h n (triangle_of ts (inverse x)) t
          ((triangle_laws ts h).triangle (inverse x) (inverse_label ts x label)) near))
    ]

near_step : (ts : List (List ℤ)) → IsTriangulation ts → (n t : ℕ) (x : ℤ) → IsLabel ts x
    → is_near ts n (triangle_of ts (inverse x)) t ≡ true
    → is_near ts (suc n) (triangle_of ts x) t ≡ true
near_step ts h n t x l near =
    let (k, y, below, at, same) =
    Any-from_list_any (λ y. int_eq y x) (get_or ts (triangle_of ts x) [])
    (has_side_there ts x (omega (arith, counted_once ts h x l))) in
    near_across ts n (triangle_of ts x) t
    (k, y, below, at, ap (λ (z : ℤ). is_near ts n (triangle_of ts (inverse z)) t) ((Decides-int_eq y x).0 same) ∙ near)

-- ---- all walks

-- the test knows all walks to t
record IsComplete (ts : List (List ℤ)) (n t : ℕ) : Type 0 where
  near : (s : ℕ) → s < length ts → IsReached ts s t → is_near ts n s t ≡ true

complete_more : (ts : List (List ℤ)) (n t : ℕ) → IsComplete ts n t → IsComplete ts (suc n) t
complete_more ts n t c = record { near = λ s b r. near_more ts n s t (c.near s b r) }

-- where one letter more adds nothing
complete_if_closed : (ts : List (List ℤ)) → IsTriangulation ts → (n t : ℕ)
    → ((s : ℕ) → s < length ts → is_near ts (suc n) s t ≡ true → is_near ts n s t ≡ true) → IsComplete ts n t
complete_if_closed ts h n t closed = record { near = λ s b r. along s r.letters r.walk }
  where
    along : (s : ℕ) (w : List ℤ) → IsWalk ts s w t → is_near ts n s t ≡ true
    along s [] walk = near_here ts n s t walk
    along s (x ∷ w) walk =
        subst (λ (i : ℕ). is_near ts n i t ≡ true) walk.1
        (closed (triangle_of ts x) ((triangle_laws ts h).triangle x walk.0)
        (near_step ts h n t x walk.0 (along (triangle_of ts (inverse x)) w walk.2)))

-- how many triangles are further from t than n letters
abbrev far : List (List ℤ) → ℕ → ℕ → ℕ
far ts n t = passing (λ s. not (is_near ts n s t)) (length ts)

-- a triangle that the next letter adds, or none
nearer : (ts : List (List ℤ)) (n t : ℕ)
    → (far ts (suc n) t < far ts n t)
    ⊎ ((s : ℕ) → s < length ts → is_near ts (suc n) s t ≡ true → is_near ts n s t ≡ true)
nearer ts n t =
    elim (one_or_none (λ s. is_near ts (suc n) s t && not (is_near ts n s t)) (length ts)) [
      | inl (s, b, e) ↦
          (let (now, before) = and_parts (is_near ts (suc n) s t) (not (is_near ts n s t)) e in
          inl
          (passing-fewer (λ i. not (is_near ts (suc n) i t)) (λ i. not (is_near ts n i t)) fewer s (length ts) b
          (not_from_true (is_near ts (suc n) s t) now) before))
      | inr none ↦
          inr (λ s b near. elim (and_cases (is_near ts (suc n) s t) (not (is_near ts n s t)) (none s b)) [
            | inl e ↦ absurd (false≢true (sym e ∙ near))
            | inr e ↦ not-false (is_near ts n s t) e
          ])
    ]
  where
    fewer : (i : ℕ) → not (is_near ts (suc n) i t) ≡ true → not (is_near ts n i t) ≡ true
    fewer i e =
        elim (cases_Bool (is_near ts n i t)) [
          | inl m ↦ absurd (false≢true (sym (not-true (is_near ts (suc n) i t) e) ∙ near_more ts n i t m))
          | inr m ↦ not_from_false (is_near ts n i t) m
        ]

progress : (ts : List (List ℤ)) → IsTriangulation ts → (t n : ℕ) → IsComplete ts n t ⊎ (far ts n t + n ≤ length ts)
progress ts h t zero = inr (omega (arith, passing-few (λ s. not (is_near ts zero s t)) (length ts)))
progress ts h t (suc n) =
    elim (progress ts h t n) [
      | inl c ↦ inl (complete_more ts n t c)
      | inr few ↦
          elim (nearer ts n t) [
            | inl less ↦ inr (omega arith)
            | inr closed ↦ inl (complete_more ts n t (complete_if_closed ts h n t closed))
          ]
    ]

complete : (ts : List (List ℤ)) → IsTriangulation ts → (t : ℕ) → IsComplete ts (length ts) t
complete ts h t =
    elim (progress ts h t (length ts)) [
      | inl c ↦ c
      | inr none ↦
          record {
            near = λ s b r.
                elim (cases_Bool (is_near ts (length ts) s t)) [
                  | inl m ↦ m
                  | inr m ↦
                      absurd (omega (
                        arith,
                        passing-grows (λ i. not (is_near ts (length ts) i t)) s (length ts)
                            (not_from_false (is_near ts (length ts) s t) m) b,
                      ))
                ];
          }
    ]

pub reached_test : (ts : List (List ℤ)) → IsTriangulation ts → (s t : ℕ) → s < length ts
    → (is_reached ts s t ≡ true) ↔ IsReached ts s t
reached_test ts h s t b = (near_reached ts h (length ts) s t b, (complete ts h t).near s b)
