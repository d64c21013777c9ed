-- The numbers of the components: they are counted by their least triangles, and none is a single triangle.
--
-- That a walk joins two triangles is an equivalence, and decided by a test. So the first triangle that the test finds
-- joined to t is the least of the component of t: it is joined to t, and it is the same for all triangles of the
-- component. It is its own least triangle. The number of a component is the number of such least triangles before its
-- own. It grows with the least triangle, so that it tells components apart, and each number below their count is
-- taken. A triangulation has one component exactly where all triangles have the number of triangle 0.
--
-- Each triangle has a side whose other side lies in another triangle: if the inverses of all three sides a, b, c were
-- again among a, b, c, they would come in pairs, since no label is its own inverse; but three is odd.
use Rattle.std.proofs.Common.{ℕ, suc, ℤ, Bool, true, false, List, ◌≡◌, ◌≢◌, ◌≤◌, ◌<◌, ◌+◌, ◌⊎◌, ◌↔◌, inl, inr, refl}
use Rattle.std.proofs.Common.{sym, ◌∙◌, ap, subst, arith, eqb, length, get_or}
use Rattle.std.specs.List.{range_with_len}
use Rattle.std.proofs.lemmas.Bool.{cases_Bool, cases_eq, cases_lt, eqb-true, eq-eqb, ne_eqb, false≢true}
use Rattle.std.proofs.lemmas.List.FromFn.{length-range_with_len, get_or-range_with_len}
use Rattle.std.proofs.lemmas.List.Sums.{fails_before_first, passes_at_first, position_or_len_is}
use Rattle.ideal_tri.specs.Labels.{inverse}
use Rattle.ideal_tri.specs.Triangulations.{labels_of, IsLabel, IsReached, IsTriangulation, IsConnected, triangle_of}
use Rattle.ideal_tri.specs.Components.{is_reached, least_triangle, first_triangles, component_of, component_count}
use Rattle.ideal_tri.specs.ComponentLaws.{ConnectionLaws, ComponentLaws}
use Rattle.ideal_tri.proofs.Labels.{inverse-inverse, inverse_label, not_own_inverse}
use Rattle.ideal_tri.proofs.Triangles.{times, Triangle, label_of_counted, counted_once}
use Rattle.ideal_tri.proofs.Triples.{HasTriple, triple_at}
use Rattle.ideal_tri.proofs.Walks.{reached_here, reached_along, reached_back}
use Rattle.ideal_tri.proofs.Numbering.{passing-yes, passing-no, passing-few, passing-grows, numbered}
use Rattle.ideal_tri.proofs.Nearness.{reached_test}

-- t is the least of its component
abbrev pub is_first_triangle : List (List ℤ) → ℕ → Bool
is_first_triangle ts t = eqb (least_triangle ts t) t

-- ---- least triangles

at_place : (n k : ℕ) → k < n → get_or (range_with_len 0 n) k 0 ≡ k
at_place n k b = omega (arith, get_or-range_with_len 0 n k 0 b)

-- the least is the first that the test finds
least_triangle-is : (ts : List (List ℤ)) (t s : ℕ) → s < length ts → is_reached ts t s ≡ true
    → ((k : ℕ) → k < s → is_reached ts t k ≡ false)
    → least_triangle ts t ≡ s
least_triangle-is ts t s below there none =
    position_or_len_is (is_reached ts t) (range_with_len 0 (length ts)) s 0
    (omega (arith, length-range_with_len 0 (length ts)))
    (λ k b. ap (is_reached ts t) (at_place (length ts) k (omega arith)) ∙ none k b)
    (λ b. ap (is_reached ts t) (at_place (length ts) s below) ∙ there)

pub least_triangle_least : (ts : List (List ℤ)) → IsTriangulation ts → (t s : ℕ) → t < length ts → s < length ts
    → IsReached ts t s
    → least_triangle ts t ≤ s
least_triangle_least ts h t s b c r =
    elim (cases_lt s (least_triangle ts t)) [
      | inr d ↦ d
      | inl d ↦
          absurd
          (false≢true
          (sym (fails_before_first (is_reached ts t) (range_with_len 0 (length ts)) s 0 d)
          ∙ ap (is_reached ts t) (at_place (length ts) s c)
          ∙ (reached_test ts h t s b).1 r))
    ]

pub least_triangle_below : (ts : List (List ℤ)) → IsTriangulation ts → (t : ℕ) → t < length ts
    → least_triangle ts t < length ts
least_triangle_below ts h t b = omega (arith, least_triangle_least ts h t t b b (reached_here ts t t refl))

pub least_triangle_there : (ts : List (List ℤ)) → IsTriangulation ts → (t : ℕ) → t < length ts
    → IsReached ts t (least_triangle ts t)
least_triangle_there ts h t b =
    let below : least_triangle ts t < length ts = least_triangle_below ts h t b in
    (reached_test ts h t (least_triangle ts t) b).0
    (sym (ap (is_reached ts t) (at_place (length ts) (least_triangle ts t) below))
    ∙ passes_at_first (is_reached ts t) (range_with_len 0 (length ts)) 0
    (omega (arith, length-range_with_len 0 (length ts))))

pub least_triangle_same : (ts : List (List ℤ)) → IsTriangulation ts → (s t : ℕ) → s < length ts → t < length ts
    → IsReached ts s t
    → least_triangle ts s ≡ least_triangle ts t
least_triangle_same ts h s t b c r =
    omega (
      arith,
      least_triangle_least ts h s (least_triangle ts t) b (least_triangle_below ts h t c)
          (reached_along ts s t (least_triangle ts t) r (least_triangle_there ts h t c)),
      least_triangle_least ts h t
          (least_triangle ts s) c (least_triangle_below ts h s b)
          (reached_along ts t s (least_triangle ts s) (reached_back ts s t r) (least_triangle_there ts h s b)),
    )

-- as a search finds it
pub least_found : (ts : List (List ℤ)) → IsTriangulation ts → (t s : ℕ) → t < length ts → s < length ts
    → IsReached ts t s
    → ((k : ℕ) → k < s → IsReached ts t k → ⊥) → s ≡ least_triangle ts t
least_found ts h t s b c r none =
    sym
    (least_triangle-is ts t s c ((reached_test ts h t s b).1 r) (λ k d.
    elim (cases_Bool (is_reached ts t k)) [
      | inl m ↦ absurd (none k d ((reached_test ts h t k b).0 m))
      | inr m ↦ m
    ]))

reached_of_least : (ts : List (List ℤ)) → IsTriangulation ts → (s t : ℕ) → s < length ts → t < length ts
    → least_triangle ts s ≡ least_triangle ts t
    → IsReached ts s t
reached_of_least ts h s t b c e =
    reached_along ts s (least_triangle ts s) t (least_triangle_there ts h s b)
    (reached_back ts t (least_triangle ts s) (subst (IsReached ts t) (sym e) (least_triangle_there ts h t c)))

-- the least triangle is its own
pub least_is_first : (ts : List (List ℤ)) → IsTriangulation ts → (t : ℕ) → t < length ts
    → is_first_triangle ts (least_triangle ts t) ≡ true
least_is_first ts h t b =
    eq-eqb (least_triangle ts (least_triangle ts t)) (least_triangle ts t)
    (sym (least_triangle_same ts h t (least_triangle ts t) b (least_triangle_below ts h t b)
    (least_triangle_there ts h t b)))

-- a triangle that none before it reaches is the least
pub first_if_none : (ts : List (List ℤ)) → IsTriangulation ts → (t : ℕ) → t < length ts
    → ((s : ℕ) → s < t → IsReached ts s t → ⊥)
    → is_first_triangle ts t ≡ true
first_if_none ts h t b none =
    elim (cases_lt (least_triangle ts t) t) [
      | inl c ↦
          absurd (none (least_triangle ts t) c
          (reached_back ts t (least_triangle ts t) (least_triangle_there ts h t b)))
      | inr c ↦
          eq-eqb (least_triangle ts t) t (omega (arith, least_triangle_least ts h t t b b (reached_here ts t t refl)))
    ]

-- ---- the numbers

component_ordered : (ts : List (List ℤ)) → IsTriangulation ts → (s t : ℕ) → s < length ts → t < length ts
    → least_triangle ts s < least_triangle ts t → component_of ts s < component_of ts t
component_ordered ts h s t b c order =
    passing-grows (is_first_triangle ts) (least_triangle ts s) (least_triangle ts t) (least_is_first ts h s b) order

component_same : (ts : List (List ℤ)) → IsTriangulation ts → (s t : ℕ) → s < length ts → t < length ts
    → (component_of ts s ≡ component_of ts t) ↔ IsReached ts s t
component_same ts h s t b c = (
  λ e. reached_of_least ts h s t b c (same_least e),
  λ r. ap (first_triangles ts)
      (least_triangle_same ts h s t b c r),
)
  where
    same_least : component_of ts s ≡ component_of ts t → least_triangle ts s ≡ least_triangle ts t
    same_least e =
        elim (cases_lt (least_triangle ts s) (least_triangle ts t)) [
          | inl d ↦ absurd (omega (arith, component_ordered ts h s t b c d))
          | inr d ↦
              elim (cases_lt (least_triangle ts t) (least_triangle ts s)) [
                | inl f ↦ absurd (omega (arith, component_ordered ts h t s c b f))
                | inr f ↦ omega arith
              ]
        ]

component_within : (ts : List (List ℤ)) → IsTriangulation ts → (t : ℕ) → t < length ts
    → component_of ts t < component_count ts
component_within ts h t b =
    passing-grows (is_first_triangle ts) (least_triangle ts t) (length ts) (least_is_first ts h t b)
    (least_triangle_below ts h t b)

component_used : (ts : List (List ℤ)) (k : ℕ) → k < component_count ts
    → (t : ℕ) × (t < length ts) × (component_of ts t ≡ k)
component_used ts k b =
    let (t, below, first, is) = numbered (is_first_triangle ts) (length ts) k b in
    (t, below, ap (first_triangles ts) (eqb-true (least_triangle ts t) t first) ∙ is)

one_if_connected : (ts : List (List ℤ)) → IsTriangulation ts → IsConnected ts → component_count ts ≡ 1
one_if_connected ts h connected =
    elim (cases_lt 1 (component_count ts)) [
      | inr few ↦ omega (arith, component_within ts h 0 h.some)
      | inl many ↦
          (let (t, below, is) = component_used ts 1 many in
          let (u, within, none) = component_used ts 0 (omega arith) in
          let same : component_of ts 0 ≡ component_of ts t =
          (component_same ts h 0 t h.some below).1 (connected.reached t below) in
          let other : component_of ts 0 ≡ component_of ts u =
          (component_same ts h 0 u h.some within).1 (connected.reached u within) in
          absurd (omega arith))
    ]

connected_if_one : (ts : List (List ℤ)) → IsTriangulation ts → component_count ts ≡ 1 → IsConnected ts
connected_if_one ts h one = record {
  reached = λ t b.
      (component_same ts h 0 t h.some b).0 (omega (arith, component_within ts h 0 h.some, component_within ts h t b));
}

-- one triangle more, as a loop counts them
pub first_triangles-more : (ts : List (List ℤ)) (t least : ℕ) → least ≡ least_triangle ts t
    → ((least ≡ t) → first_triangles ts (t + 1) ≡ first_triangles ts t + 1)
    × ((least ≢ t) → first_triangles ts (t + 1) ≡ first_triangles ts t)
first_triangles-more ts t least e =
    let more : t + 1 ≡ suc t = omega arith in (
      λ d. ap (first_triangles ts) more
          ∙ passing-yes (is_first_triangle ts) t (eq-eqb (least_triangle ts t) t (sym e ∙ d)),
      λ ne. ap (first_triangles ts) more
          ∙ passing-no (is_first_triangle ts) t (ne_eqb (least_triangle ts t) t (λ d. ne (e ∙ d))),
    )

pub first_triangles_few : (ts : List (List ℤ)) (t : ℕ) → first_triangles ts t ≤ t
first_triangles_few ts t = passing-few (is_first_triangle ts) t

-- ---- each triangle has another beside it

-- the inverses of three different labels are not these labels: they come in pairs, and three is odd
not_three : (a b c : ℤ) → a ≢ b → b ≢ c → c ≢ a → (inverse a ≡ a) ⊎ ((inverse a ≡ b) ⊎ (inverse a ≡ c))
    → (inverse b ≡ a) ⊎ ((inverse b ≡ b) ⊎ (inverse b ≡ c)) → (inverse c ≡ a) ⊎ ((inverse c ≡ b) ⊎ (inverse c ≡ c)) → ⊥
not_three a b c ab bc ca (inl e) q r = not_own_inverse a (sym e)
not_three a b c ab bc ca (inr (inl e)) q (inl f) = bc (sym (sym (inverse-inverse c) ∙ ap inverse f ∙ e))
not_three a b c ab bc ca (inr (inl e)) q (inr (inl f)) =
    ca (sym (inverse-inverse c) ∙ ap inverse (f ∙ sym e) ∙ inverse-inverse a)
not_three a b c ab bc ca (inr (inl e)) q (inr (inr f)) = not_own_inverse c (sym f)
not_three a b c ab bc ca (inr (inr e)) (inl f) r = bc (sym (inverse-inverse b) ∙ ap inverse f ∙ e)
not_three a b c ab bc ca (inr (inr e)) (inr (inl f)) r = not_own_inverse b (sym f)
not_three a b c ab bc ca (inr (inr e)) (inr (inr f)) r =
    ab (sym (inverse-inverse a) ∙ ap inverse (e ∙ sym f) ∙ inverse-inverse b)

-- a side of triangle t whose other side lies in another triangle
record Beside (ts : List (List ℤ)) (t : ℕ) : Type 0 where
  side : ℤ
  label : IsLabel ts side
  here : triangle_of ts side ≡ t
  apart : triangle_of ts (inverse side) ≢ t

some_beside : (ts : List (List ℤ)) → IsTriangulation ts → (t : ℕ) (a b c : ℤ) → Triangle ts a b c t → Beside ts t
some_beside ts h t a b c g =
    elim (cases_eq (triangle_of ts (inverse a)) t) [
      | inr ne ↦ record { side = a; label = label a g.first.counted; here = g.first.triangle; apart = ne }
      | inl in_a ↦
          elim (cases_eq (triangle_of ts (inverse b)) t) [
            | inr ne ↦ record { side = b; label = label b g.second.counted; here = g.second.triangle; apart = ne }
            | inl in_b ↦
                elim (cases_eq (triangle_of ts (inverse c)) t) [
                  | inr ne ↦ record { side = c; label = label c g.third.counted; here = g.third.triangle; apart = ne }
                  | inl in_c ↦
                      absurd
                      (not_three a b c g.first_second g.second_third g.third_first (among a g.first.counted in_a)
                      (among b g.second.counted in_b)
                      (among c g.third.counted in_c))
                ]
          ]
    ]
  where
    label : (x : ℤ) → 0 < times x (labels_of ts) → IsLabel ts x
    label x counted = label_of_counted ts h x counted

    among : (x : ℤ) → 0 < times x (labels_of ts) → triangle_of ts (inverse x) ≡ t
        → (inverse x ≡ a) ⊎ ((inverse x ≡ b) ⊎ (inverse x ≡ c))
    among x counted at =
        g.only (inverse x) (omega (arith, counted_once ts h (inverse x) (inverse_label ts x (label x counted)))) at

beside : (ts : List (List ℤ)) → IsTriangulation ts → (t : ℕ) → t < length ts
    → (x : ℤ) × IsLabel ts x × (triangle_of ts x ≡ t) × (triangle_of ts (inverse x) ≢ t)
beside ts h t below =
    let g : HasTriple ts t = triple_at ts h t below in
    let s : Beside ts t = some_beside ts h t g.first g.second g.third g.sides in
    (s.side, s.label, s.here, s.apart)

-- ---- the laws

connection_laws : (ts : List (List ℤ)) → IsTriangulation ts → ConnectionLaws ts
connection_laws ts h = record {
  test = reached_test ts h;
  same = component_same ts h;
  within = component_within ts h;
  used = component_used ts;
  there = least_triangle_there ts h;
  least = λ s t b r. least_below s t b r (cases_lt s (length ts));
  ordered = component_ordered ts h;
  connected = (one_if_connected ts h, connected_if_one ts h);
  beside = beside ts h;
}
  where
    least_below : (s t : ℕ) → t < length ts → IsReached ts t s → (s < length ts) ⊎ (length ts ≤ s)
        → least_triangle ts t ≤ s
    least_below s t b r (inl c) = least_triangle_least ts h t s b c r
    least_below s t b r (inr c) = omega (arith, least_triangle_below ts h t b)

pub component_laws : ComponentLaws
component_laws = record { components = connection_laws }
