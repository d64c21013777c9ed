-- Going through the sides in order, a side is first exactly where no cycle from a first side before it uses it.
--
-- A first side is used by no cycle from another first side. A side that is not first is used by the cycle from the
-- first side of its own cycle, which has a lesser number and so comes before it.
use Rattle.std.proofs.Common.{true, List, [], ◌∷◌, ◌++◌, ◌≡◌, ◌≢◌, ◌≤◌, ◌<◌, ◌+◌, ◌↔◌, inl, inr, refl, sym, ◌∙◌, ap}
use Rattle.std.proofs.Common.{subst, arith}
use Rattle.std.specs.List.{filter}
use Rattle.std.proofs.lemmas.Bool.{cases_eq}
use Rattle.std.proofs.lemmas.List.Elements.{filter_passes}
use Rattle.ideal_tri.proofs.Drawings.Tallies.{count_by-cons, count_by-append}
use Rattle.ideal_tri.proofs.Drawings.Rising.{Rising}
use Rattle.ideal_tri.proofs.Drawings.Orbits as O
use Rattle.ideal_tri.proofs.Drawings.Orbits.{Pairings}
use Rattle.ideal_tri.proofs.Drawings.Cycles as C
use Rattle.ideal_tri.proofs.Drawings.Alike as L
use Rattle.ideal_tri.proofs.Drawings.Sides as S
use Rattle.ideal_tri.proofs.Drawings.Sides.{Numbering}
use Rattle.ideal_tri.proofs.Drawings.Firsts as F
use Rattle.ideal_tri.proofs.Drawings.FirstCycles as FC

module _ {A : Type 0} (s : Pairings A) (n : Numbering s) where
  before_it : (x y : A) (front rest : List A) → Rising n.number (front ++ (x ∷ rest)) → O.count s y front ≢ 0
      → n.number y < n.number x
  before_it x y [] rest r some = absurd (some refl)
  before_it x y (z ∷ front) rest r some =
      elim (O.count-cases s y z front some) [
        | inl e ↦
            (let there : O.count s x (front ++ (x ∷ rest)) ≢ 0 =
            λ none. omega (arith, count_by-append (s.same x) front (x ∷ rest), O.count-same s x x rest refl) in
            omega (arith, S.above s n z x (front ++ (x ∷ rest)) r there, ap n.number e))
        | inr later ↦ before_it x y front rest r.1 later
      ]

  after_it : (x y : A) (front rest : List A) → Rising n.number (front ++ (x ∷ rest))
      → O.count s y (front ++ (x ∷ rest)) ≢ 0
      → n.number y < n.number x → O.count s y front ≢ 0
  after_it x y [] rest r some less none =
      elim (O.count-cases s y x rest some) [
        | inl e ↦ absurd (omega (arith, ap n.number e))
        | inr later ↦ absurd (omega (arith, S.above s n x y rest r later))
      ]
  after_it x y (z ∷ front) rest r some less none =
      elim (O.count-cases s y z (front ++ (x ∷ rest)) some) [
        | inl e ↦ omega (arith, O.count-same s y z front e)
        | inr later ↦ after_it x y front rest r.1 later less (omega (arith, count_by-cons (s.same y) z front))
      ]

  uses-among : (x y : A) (xs : List A) → O.count s y xs ≢ 0 → L.uses s x (C.cycle s y) ≢ 0
      → L.uses s x (L.joined s (FC.cycles s n xs)) ≢ 0
  uses-among x y [] some used none = absurd (some refl)
  uses-among x y (z ∷ zs) some used none =
      let both : L.uses s x (L.joined s (FC.cycles s n (z ∷ zs))) ≡ L.uses s x (C.cycle s z) + L.uses s x
      (L.joined s (FC.cycles s n zs)) =
      L.uses-append s x (C.cycle s z) (L.joined s (FC.cycles s n zs)) in
      elim (O.count-cases s y z zs some) [
        | inl e ↦ used (ap (λ (u : A). L.uses s x (C.cycle s u)) e ∙ omega arith)
        | inr later ↦ uses-among x y zs later used (omega arith)
      ]

  -- the first sides of a part of the list
  abbrev pub firsts_among : List A → List A
  firsts_among xs = filter (λ x. F.is_least s n x (C.cycle s x)) xs

  -- a side is first exactly where no cycle from a first side before it uses it
  module _ (x : A) (front rest : List A) (is : s.sides ≡ front ++ (x ∷ rest)) where
    rises : Rising n.number (front ++ (x ∷ rest))
    rises = subst (Rising n.number) is n.rising

    side : O.count s x s.sides ≢ 0
    side none =
        omega (
          arith,
          ap (O.count s x) is,
          count_by-append (s.same x) front (x ∷ rest),
          O.count-same s x x rest refl,
        )

    unused_if_first : F.is_least s n x (C.cycle s x) ≡ true
        → L.uses s x (L.joined s (FC.cycles s n (firsts_among front))) ≡ 0
    unused_if_first e =
        elim (cases_eq (L.uses s x (L.joined s (FC.cycles s n (firsts_among front)))) 0) [
          | inl none ↦ none
          | inr some ↦ absurd
              (clash some)
        ]
      where
        clash : L.uses s x (L.joined s (FC.cycles s n (firsts_among front))) ≢ 0 → ⊥
        clash some =
            let (y, there, used) = FC.user s n x (firsts_among front) some in
            let passes : F.is_least s n y (C.cycle s y) ≡ true =
            O.All-counted s (λ z. F.is_least s n z (C.cycle s z) ≡ true) y (firsts_among front)
            (filter_passes (λ z. F.is_least s n z (C.cycle s z)) front) there in
            let early : O.count s y front ≢ 0 =
            λ none. there (S.count-filter s (λ z. F.is_least s n z (C.cycle s z)) y front passes ∙ none) in
            let listed : O.count s y s.sides ≢ 0 =
            λ none. early (omega (arith, ap (O.count s y) is, count_by-append (s.same y) front (x ∷ rest))) in
            let same : x ≡ y =
            F.first_unique s n x y (record { side = side; least = e })
            (record { side = listed; least = passes }) used in
            omega (arith, before_it x y front rest rises early, ap n.number same)

    first_if_unused : L.uses s x (L.joined s (FC.cycles s n (firsts_among front))) ≡ 0
        → F.is_least s n x (C.cycle s x) ≡ true
    first_if_unused none = go (F.first_of s n x v)
      where
        v : s.Valid x
        v = F.side_valid s n x side

        go : F.FirstOf s n x → F.is_least s n x (C.cycle s x) ≡ true
        go m =
            elim (O.same_or_other s m.at x) [
              | inl e ↦ subst (λ (y : A). F.is_least s n y (C.cycle s y) ≡ true) e m.first.least
              | inr ne ↦ absurd (clash m ne)
            ]
          where
            clash : (m : F.FirstOf s n x) → m.at ≢ x → ⊥
            clash m ne =
                let u : s.Valid m.at = F.first_valid s n m.at m.first in
                let same : L.uses s x (C.cycle s x) ≡ L.uses s x (C.cycle s m.at) =
                L.uses-cycle s m.at (C.cycle s x) u (L.cycle_simple s x v) m.used x v in
                let used : L.uses s x (C.cycle s m.at) ≢ 0 = λ gone. L.uses_own_cycle s x (same ∙ gone) in
                let lower : n.number m.at ≤ n.number x =
                F.least_number s n m.at x (C.cycle s m.at) m.first.least v used in
                let other : n.number m.at ≢ n.number x =
                λ e. ne (S.rising_injective s n m.at x s.sides n.rising m.first.side side e) in
                let early : O.count s m.at front ≢ 0 =
                after_it x m.at front rest rises (subst (λ (zs : List A). O.count s m.at zs ≢ 0) is m.first.side)
                (omega arith) in
                uses-among x m.at (firsts_among front)
                (λ gone. early
                (sym (S.count-filter s (λ z. F.is_least s n z (C.cycle s z)) m.at front m.first.least) ∙ gone))
                used none

    pub first_unless_used : (F.is_least s n x (C.cycle s x) ≡ true)
        ↔ (L.uses s x (L.joined s (FC.cycles s n (firsts_among front))) ≡ 0)
    first_unless_used = (unused_if_first, first_if_unused)
