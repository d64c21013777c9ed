-- Which triangles can be reached: marks that crossing a side keeps hold all that is reached from a marked one.
--
-- If the marks are kept by crossing any side, they are kept along a walk, letter by letter. So where they hold one
-- triangle of a component, they hold all of it. On the other hand nothing is marked but what is reached: at the start
-- the one triangle, and then the triangles across the sides of a marked one. Each turn makes one more triangle done,
-- so there are no more turns than triangles. The three sides of a triangle are read off its triple.
use Rattle.std.proofs.Common.{ℕ, ℤ, Bool, true, false, not, List, [], ◌∷◌, ◌≡◌, ◌<◌, ◌+◌, suc, zero, ◌⊎◌, inl, inr}
use Rattle.std.proofs.Common.{refl, sym, ◌∙◌, ap, subst, cond, arith, length, get_or, slice_get, Some, set, replicate}
use Rattle.std.specs.List.{count_by}
use Rattle.std.proofs.lemmas.Bool.{cases_eq, false≢true}
use Rattle.std.proofs.lemmas.List.{get_or-set_same, get_or-set_other, length-set}
use Rattle.std.proofs.lemmas.List.Sums.{sum_by-set}
use Rattle.std.proofs.lemmas.Option.{get_or_from_slice_get}
use Rattle.ideal_tri.specs.declared.tri.TheConstants.{TRIANGLES}
use Rattle.ideal_tri.specs.Labels.{inverse}
use Rattle.ideal_tri.specs.Triangulations.{labels_of, IsLabel, IsWalk, IsReached, IsTriangulation, triangle_of}
use Rattle.ideal_tri.proofs.Triangles.{times, Triangle, label_of_counted, counted_once}
use Rattle.ideal_tri.proofs.Triples.{HasTriple, triple_at}
use Rattle.ideal_tri.proofs.Walks.{reached_here, reached_step}

-- ---- walks

-- the marks are kept by crossing any side
pub record IsClosed (ts : List (List ℤ)) (marks : List Bool) : Type 0 where
  pub crossed : (x : ℤ) → IsLabel ts x → get_or marks (triangle_of ts x) false ≡ true
      → get_or marks (triangle_of ts (inverse x)) false ≡ true

walk_marked : (ts : List (List ℤ)) (marks : List Bool) → IsClosed ts marks → (s t : ℕ) (w : List ℤ) → IsWalk ts s w t
    → get_or marks s false ≡ true → get_or marks t false ≡ true
walk_marked ts marks closed s t [] walk m = ap (λ (k : ℕ). get_or marks k false) (sym walk) ∙ m
walk_marked ts marks closed s t (x ∷ w) walk m =
    walk_marked ts marks closed (triangle_of ts (inverse x)) t w walk.2
    (closed.crossed x walk.0 (ap (λ (k : ℕ). get_or marks k false) walk.1 ∙ m))

pub reached_marked : (ts : List (List ℤ)) (marks : List Bool) (s t : ℕ) → IsClosed ts marks → IsReached ts s t
    → get_or marks s false ≡ true → get_or marks t false ≡ true
reached_marked ts marks s t closed r m = walk_marked ts marks closed s t r.letters r.walk m

-- ---- marks

pub marked : (marks : List Bool) (u : ℕ) → u < length marks → get_or (set marks u true) u false ≡ true
marked marks u b = get_or-set_same marks u true false b

pub still_marked : (marks : List Bool) (u t : ℕ) → u < length marks → get_or marks t false ≡ true
    → get_or (set marks u true) t false ≡ true
still_marked marks u t b m =
    elim (cases_eq t u) [
      | inl e ↦ ap (λ (k : ℕ). get_or (set marks u true) k false) e ∙ marked marks u b
      | inr ne ↦ get_or-set_other marks u t true false ne ∙ m
    ]

pub was_marked : (marks : List Bool) (u t : ℕ) → get_or (set marks u true) t false ≡ true
    → (get_or marks t false ≡ true) ⊎ (t ≡ u)
was_marked marks u t m =
    elim (cases_eq t u) [
      | inl e ↦ inr e
      | inr ne ↦ inl (sym (get_or-set_other marks u t true false ne) ∙ m)
    ]

-- how many aren't marked
abbrev pub unmarked : List Bool → ℕ
unmarked marks = count_by (λ b. not b) marks

pub fewer_unmarked : (marks : List Bool) (t : ℕ) → t < length marks → get_or marks t false ≡ false
    → unmarked (set marks t true) < unmarked marks
fewer_unmarked marks t b m =
    let moved : unmarked (set marks t true) + cond (not (get_or marks t false)) 1 0
    ≡ unmarked marks + cond (not true) 1 0 =
    sum_by-set (λ v. cond (not v) 1 0) marks t true false b in
    let one : ◌≡◌ {A = ℕ} (cond (not (get_or marks t false)) 1 0) 1 = ap (λ (v : Bool). cond (not v) 1 0) m in
    omega arith

pub none_marked : (n t : ℕ) → get_or (replicate n false) t false ≡ false
none_marked zero t = refl
none_marked (suc n) zero = refl
none_marked (suc n) (suc t) = none_marked n t

-- at the start one triangle is marked
pub marked_first : (ts : List (List ℤ)) (start t : ℕ)
    → get_or (set (replicate TRIANGLES false) start true) t false ≡ true → IsReached ts start t
marked_first ts start t m =
    elim (was_marked (replicate TRIANGLES false) start t m) [
      | inl old ↦ absurd (false≢true (sym (none_marked TRIANGLES t) ∙ old))
      | inr e ↦ reached_here ts start t (sym e)
    ]

pub none_done : (t : ℕ) {P : Type 0} → get_or (replicate TRIANGLES false) t false ≡ true → P
none_done t m = absurd (false≢true (sym (none_marked TRIANGLES t) ∙ m))

-- ---- the neighbours of a triangle

-- i, j and k are the triangles across its three sides
pub record AreAcross (ts : List (List ℤ)) (t i j k : ℕ) : Type 0 where
  pub first : ℤ
  pub second : ℤ
  pub third : ℤ
  pub sides : Triangle ts first second third t
  pub is_first : i ≡ triangle_of ts (inverse first)
  pub is_second : j ≡ triangle_of ts (inverse second)
  pub is_third : k ≡ triangle_of ts (inverse third)

-- marks after these are marked
abbrev pub three_marked : List Bool → ℕ → ℕ → ℕ → List Bool
three_marked marks i j k = set (set (set marks i true) j true) k true

pub neighbour_marked : (ts : List (List ℤ)) (marks : List Bool) (t i j k : ℕ) → IsTriangulation ts
    → AreAcross ts t i j k
    → i < length marks → j < length marks → k < length marks → (x : ℤ) → IsLabel ts x → triangle_of ts x ≡ t
    → get_or (three_marked marks i j k) (triangle_of ts (inverse x)) false ≡ true
neighbour_marked ts marks t i j k h at a b c x l e =
    elim (at.sides.only x (omega (arith, counted_once ts h x l)) e) [
      | inl d ↦ here i (at.is_first ∙ ap (λ (z : ℤ). triangle_of ts (inverse z)) (sym d))
          (still_marked (set (set marks i true) j true) k i c'
          (still_marked (set marks i true) j i b' (marked marks i a)))
      | inr (inl d) ↦ here j (at.is_second ∙ ap (λ (z : ℤ). triangle_of ts (inverse z)) (sym d))
          (still_marked (set (set marks i true) j true) k j c' (marked (set marks i true) j b'))
      | inr (inr d) ↦
          here k (at.is_third ∙ ap (λ (z : ℤ). triangle_of ts (inverse z)) (sym d))
          (marked (set (set marks i true) j true) k c')
    ]
  where
    b' : j < length (set marks i true)
    b' = omega (arith, length-set marks i true)

    c' : k < length (set (set marks i true) j true)
    c' = omega (arith, length-set marks i true, length-set (set marks i true) j true)

    here : (u : ℕ) → u ≡ triangle_of ts (inverse x) → get_or (three_marked marks i j k) u false ≡ true
        → get_or (three_marked marks i j k) (triangle_of ts (inverse x)) false ≡ true
    here u d m = ap (λ (n : ℕ). get_or (three_marked marks i j k) n false) (sym d) ∙ m

pub neighbour_reached : (ts : List (List ℤ)) (marks : List Bool) (t i j k : ℕ) → IsTriangulation ts
    → AreAcross ts t i j k
    → (u : ℕ) → get_or (three_marked marks i j k) u false ≡ true → (get_or marks u false ≡ true) ⊎ IsReached ts t u
neighbour_reached ts marks t i j k h at u m =
    elim (was_marked (set (set marks i true) j true) k u m) [
      | inr e ↦ inr (stepped at.third at.sides.third.counted at.sides.third.triangle (e ∙ at.is_third))
      | inl older ↦
          elim (was_marked (set marks i true) j u older) [
            | inr e ↦ inr (stepped at.second at.sides.second.counted at.sides.second.triangle (e ∙ at.is_second))
            | inl oldest ↦
                elim (was_marked marks i u oldest) [
                  | inr e ↦ inr (stepped at.first at.sides.first.counted at.sides.first.triangle (e ∙ at.is_first))
                  | inl old ↦ inl old
                ]
          ]
    ]
  where
    stepped : (x : ℤ) → 0 < times x (labels_of ts) → triangle_of ts x ≡ t → u ≡ triangle_of ts (inverse x)
        → IsReached ts t u
    stepped x counted at e =
        subst (λ (n : ℕ). IsReached ts n u) at
        (subst (IsReached ts (triangle_of ts x)) (sym e) (reached_step ts x (label_of_counted ts h x counted)))

-- read off the triple of the triangle
pub are_across : (ts : List (List ℤ)) → IsTriangulation ts → (t i j k : ℕ) (triple : List ℤ) (a b c : ℤ) → t < length ts
    → slice_get ts t ≡ Some triple → i ≡ triangle_of ts (inverse (get_or triple 0 a))
    → j ≡ triangle_of ts (inverse (get_or triple 1 b))
    → k ≡ triangle_of ts (inverse (get_or triple 2 c)) → AreAcross ts t i j k
are_across ts h t i j k triple a b c below is p q r =
    let g : HasTriple ts t = triple_at ts h t below in
    let at : triple ≡ g.first ∷ (g.second ∷ (g.third ∷ [])) = sym (get_or_from_slice_get ts t triple [] is) ∙ g.is in
    record {
      first = g.first;
      second = g.second;
      third = g.third;
      sides = g.sides;
      is_first = p ∙ ap (λ (u : List ℤ). triangle_of ts (inverse (get_or u 0 a))) at;
      is_second = q ∙ ap (λ (u : List ℤ). triangle_of ts (inverse (get_or u 1 b))) at;
      is_third = r ∙ ap (λ (u : List ℤ). triangle_of ts (inverse (get_or u 2 c))) at;
    }
