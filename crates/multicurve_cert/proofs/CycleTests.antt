-- The tests of a cycle: neighbours that follow each other, and triangles that are visited.
use Rattle.std.proofs.Common.{ℕ, ℤ, pos, List, [], ◌∷◌, ◌++◌, ◌≡◌, ◌≢◌, inl, inr, ◌+◌, ◌-◌, ◌<◌, ◌≤◌, refl, sym, ◌∙◌}
use Rattle.std.proofs.Common.{subst, ap, arith, length, get_or, take, drop, below_more}
use Rattle.std.proofs.lemmas.Bool.{cases_lt}
use Rattle.std.proofs.lemmas.List.{drop_more, drop_all, get_or_default, get_or-take, length-take-le}
use Rattle.std.specs.List.{All}
use Rattle.std.proofs.lemmas.List.Elements.{All-head, All-tail}
use Rattle.ideal_tri.specs.Labels.{inverse}
use Rattle.ideal_tri.specs.Triangulations.{IsLabel, IsWalk, triangle_of}
use Rattle.ideal_tri.specs.WordLaws.{LetterLaws}
use Rattle.ideal_tri.specs.Words.{IsReduced, last_of}
use Rattle.free_groupoid.specs.InnerLaws.{IsReducedLoop}
use Rattle.multicurve_cert.specs.inside.CycleParts.{Follows, Visits, VisitsOnce}

-- ---- loops: each letter follows the one before, and the first follows the last

-- from the letter z on, each letter of the word follows the one before
abbrev pub FollowFrom : List (List ℤ) → ℤ → List ℤ → Type 0
FollowFrom triples z [] = Unit {0}
FollowFrom triples z (x ∷ w) = Follows triples z x × FollowFrom triples x w

walk_from : (triples : List (List ℤ)) (x : ℤ) (w : List ℤ) → All (IsLabel triples) (x ∷ w) → FollowFrom triples x w
    → IsWalk triples (triangle_of triples x) (x ∷ w) (triangle_of triples (inverse (last_of x w)))
walk_from triples x [] labels h = (All-head (IsLabel triples) x [] labels, refl, refl)
walk_from triples x (y ∷ w) labels h =
    let rest = walk_from triples y w (All-tail (IsLabel triples) x (y ∷ w) labels) h.1 in (
      All-head (IsLabel triples) x (y ∷ w) labels,
      refl,
      subst (λ (s : ℕ). IsWalk triples s (y ∷ w) (triangle_of triples (inverse (last_of y w)))) (sym h.0.0) rest,
    )

reduced_from : (triples : List (List ℤ)) (x : ℤ) (w : List ℤ) (y : ℤ) → FollowFrom triples x w → y ≢ inverse (last_of x w)
    → IsReduced (x ∷ (w ++ (y ∷ [])))
reduced_from triples x [] y h apart = (apart, tt)
reduced_from triples x (z ∷ w) y h apart = (h.0.1, reduced_from triples z w y h.1 apart)

pub loop_from : (triples : List (List ℤ)) (x : ℤ) (w : List ℤ) → All (IsLabel triples) (x ∷ w)
    → FollowFrom triples (last_of x w) (x ∷ w) → IsReducedLoop triples (x ∷ w)
loop_from triples x w labels h = (
  subst (λ (t : ℕ). IsWalk triples (triangle_of triples x) (x ∷ w) t) h.0.0 (walk_from triples x w labels h.1),
  reduced_from triples x w x h.1 h.0.1,
)

follow_from : (triples : List (List ℤ)) (x : ℤ) (w : List ℤ) (y : ℤ) (s t : ℕ) → IsWalk triples s (x ∷ w) t
    → IsReduced (x ∷ (w ++ (y ∷ [])))
    → FollowFrom triples x w × (triangle_of triples (inverse (last_of x w)) ≡ t) × (y ≢ inverse (last_of x w))
follow_from triples x [] y s t walk reduced = (tt, walk.2, reduced.0)
follow_from triples x (z ∷ w) y s t walk reduced =
    let rest = follow_from triples z w y _ t walk.2 reduced.1 in
    (((sym walk.2.1, reduced.0), rest.0), rest.1, rest.2)

pub from_loop : (triples : List (List ℤ)) (x : ℤ) (w : List ℤ) → IsReducedLoop triples (x ∷ w)
    → FollowFrom triples (last_of x w) (x ∷ w)
from_loop triples x w (walk, reduced) =
    let h = follow_from triples x w x _ _ walk reduced in ((h.1, h.2), h.0)

-- what is left to test, from the letter `last` on, when i letters were read
pub record FollowsUpTo (triples : List (List ℤ)) (z : ℤ) (w : List ℤ) (last : ℤ) (i : ℕ) : Type 0 where
  pub label : IsLabel triples last
  pub to : FollowFrom triples z w → FollowFrom triples last (drop i w)
  pub back : FollowFrom triples last (drop i w) → FollowFrom triples z w

pub follows_none : (triples : List (List ℤ)) (z : ℤ) (w : List ℤ) → IsLabel triples z → FollowsUpTo triples z w z 0
follows_none triples z w label = record { label = label; to = λ h. h; back = λ h. h }

at_next : (triples : List (List ℤ)) (w : List ℤ) (last x : ℤ) (i : ℕ) → i < length w → x ≡ get_or w i x
    → FollowFrom triples last (drop i w) ≡ FollowFrom triples last (x ∷ drop (i + 1) w)
at_next triples w last x i inside is_x =
    ap (FollowFrom triples last)
    (drop_more w i x inside ∙ ap (λ (z : ℤ). z ∷ drop (i + 1) w) (sym is_x))

pub follows_more : (triples : List (List ℤ)) (z : ℤ) (w : List ℤ) (last x : ℤ) (i : ℕ) → FollowsUpTo triples z w last i
    → i < length w → x ≡ get_or w i x → IsLabel triples x → Follows triples last x → FollowsUpTo triples z w x (i + 1)
follows_more triples z w last x i h inside is_x label follows =
    let next = at_next triples w last x i inside is_x in
    record {
      label = label;
      to = λ k. (subst (λ (T : Type 0). T) next (h.to k)).1;
      back = λ k. h.back (subst (λ (T : Type 0). T) (sym next) (follows, k));
    }

pub follows_here : (triples : List (List ℤ)) (z : ℤ) (w : List ℤ) (last x : ℤ) (i : ℕ) → FollowsUpTo triples z w last i
    → i < length w → x ≡ get_or w i x → FollowFrom triples z w → Follows triples last x
follows_here triples z w last x i h inside is_x k =
    (subst (λ (T : Type 0). T) (at_next triples w last x i inside is_x) (h.to k)).0

pub follows_all : (triples : List (List ℤ)) (z : ℤ) (w : List ℤ) (last : ℤ) (i : ℕ) → FollowsUpTo triples z w last i
    → length w ≤ i → FollowFrom triples z w
follows_all triples z w last i h all =
    h.back (subst (FollowFrom triples last) (sym (drop_all i w all)) tt)

-- ---- both ways, for a word that is not empty and its last letter z

pub loop_from_last : LetterLaws → (triples : List (List ℤ)) (w : List ℤ) (z : ℤ) → All (IsLabel triples) w
    → 0 < length w
    → z ≡ get_or w (length w - 1) z → FollowFrom triples z w → IsReducedLoop triples w
loop_from_last letters triples [] z labels some is_z h = absurd (omega arith)
loop_from_last letters triples (x ∷ w) z labels some is_z h =
    loop_from triples x w labels (subst (λ (y : ℤ). FollowFrom triples y (x ∷ w)) (letters.last x w z is_z) h)

pub last_from_loop : LetterLaws → (triples : List (List ℤ)) (w : List ℤ) (z : ℤ)
    → z ≡ get_or w (length w - 1) z → IsReducedLoop triples w → FollowFrom triples z w
last_from_loop letters triples [] z is_z h = absurd h
last_from_loop letters triples (x ∷ w) z is_z h =
    subst (λ (y : ℤ). FollowFrom triples y (x ∷ w)) (sym (letters.last x w z is_z)) (from_loop triples x w h)

-- ---- triangles that are visited

-- none of the first i letters starts at the triangle
abbrev pub VisitsNot : List (List ℤ) → List ℤ → ℕ → ℕ → Type 0
VisitsNot triples w t i = (j : ℕ) → j < i → triangle_of triples (get_or w j (pos 0)) ≢ t

pub at_read : (w : List ℤ) (i : ℕ) (x : ℤ) → i < length w → x ≡ get_or w i x → get_or w i (pos 0) ≡ x
at_read w i x inside is_x = get_or_default w i (pos 0) x inside ∙ sym is_x

-- it starts at the triangle t
pub visits_here : (triples : List (List ℤ)) (w : List ℤ) (t i : ℕ) (x : ℤ) → i < length w → x ≡ get_or w i x
    → triangle_of triples x ≡ t → Visits triples w t
visits_here triples w t i x inside is_x e = (i, inside, ap (triangle_of triples) (at_read w i x inside is_x) ∙ e)

pub visits_not_more : (triples : List (List ℤ)) (w : List ℤ) (t i : ℕ) (x : ℤ) → VisitsNot triples w t i → i < length w
    → x ≡ get_or w i x → triangle_of triples x ≢ t → VisitsNot triples w t (i + 1)
visits_not_more triples w t i x h inside is_x other =
    below_more _ _ h (λ e. other (ap (triangle_of triples) (sym (at_read w i x inside is_x)) ∙ e))

-- the first i letters start at different triangles
abbrev pub OnceUpTo : List (List ℤ) → List ℤ → ℕ → Type 0
OnceUpTo triples w i =
    (a b : ℕ) → a < b → b < i
    → triangle_of triples (get_or w a (pos 0)) ≢ triangle_of triples (get_or w b (pos 0))

-- the letter at place i starts where one of those before it does
pub not_once : (triples : List (List ℤ)) (w front : List ℤ) (i t : ℕ) (x : ℤ) → i < length w → x ≡ get_or w i x
    → front ≡ take i w → t ≡ triangle_of triples x → Visits triples front t → VisitsOnce triples w → ⊥
not_once triples w front i t x inside is_x is_front is_t (j, before, e) once =
    let short : length front ≡ i = ap length is_front ∙ length-take-le i w (omega arith) in
    once j i (omega arith) inside
    (ap (triangle_of triples) (sym (get_or-take i w j (pos 0) (omega arith))
    ∙ ap (λ (u : List ℤ). get_or u j (pos 0)) (sym is_front))
    ∙ e ∙ is_t ∙ ap (triangle_of triples) (sym (at_read w i x inside is_x)))

pub once_more : (triples : List (List ℤ)) (w front : List ℤ) (i t : ℕ) (x : ℤ) → OnceUpTo triples w i → i < length w
    → x ≡ get_or w i x → front ≡ take i w → t ≡ triangle_of triples x → ¬ Visits triples front t
    → OnceUpTo triples w (i + 1)
once_more triples w front i t x h inside is_x is_front is_t never a b less below =
    elim (cases_lt b i) as (λ _. triangle_of triples (get_or w a (pos 0)) ≢ triangle_of triples (get_or w b (pos 0))) [
      | inl before ↦ h a b less before
      | inr after ↦
          (let here : b ≡ i = omega arith in
          let short : length front ≡ i = ap length is_front ∙ length-take-le i w (omega arith) in
          λ e. never (
            a,
            omega arith,
            ap (triangle_of triples) (ap (λ (u : List ℤ). get_or u a (pos 0)) is_front
                ∙ get_or-take i w a (pos 0) (omega arith))
                ∙ e ∙ ap (λ (k : ℕ). triangle_of triples (get_or w k (pos 0))) here
                ∙ ap (triangle_of triples) (at_read w i x inside is_x) ∙ sym is_t,
          ))
    ]
