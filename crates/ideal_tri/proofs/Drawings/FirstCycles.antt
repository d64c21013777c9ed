-- The cycles of the first sides: a family that uses each pair once, and the only one whose runs begin at their least
-- things and stand in rising order.
--
-- Each thing is used by the cycle of exactly one first side. The runs of any family of this kind are the cycles of
-- sides that are first, and these are all of them, since each first side is used. Going through the sides in order, a
-- side is first exactly where no cycle so far uses it.
use Rattle.std.proofs.Common.{true, cond, List, [], ◌∷◌, ◌≡◌, ◌≢◌, ◌≤◌, inl, inr, refl, sym, ◌∙◌, ap, arith, map}
use Rattle.std.specs.List.{All, sum_by, filter}
use Rattle.std.proofs.lemmas.Bool.{cases_eq}
use Rattle.std.proofs.lemmas.List.Elements.{All-map, All-weaker, All-filter, filter_passes}
use Rattle.std.proofs.lemmas.List.Sums.{sum_by-cons}
use Rattle.ideal_tri.proofs.Drawings.Tallies.{count_by-cons, sum_by-agree, one_if, none_if}
use Rattle.ideal_tri.proofs.Drawings.Rising.{Rising, rising-filter}
use Rattle.ideal_tri.proofs.Drawings.Orbits as O
use Rattle.ideal_tri.proofs.Drawings.Orbits.{Pairings}
use Rattle.ideal_tri.proofs.Drawings.Runs as R
use Rattle.ideal_tri.proofs.Drawings.Cycles as C
use Rattle.ideal_tri.proofs.Drawings.Alike as L
use Rattle.ideal_tri.proofs.Drawings.Sides as S
use Rattle.ideal_tri.proofs.Drawings.Sides.{Numbering}
use Rattle.ideal_tri.proofs.Drawings.Firsts as F

module _ {A : Type 0} (s : Pairings A) (n : Numbering s) where
  abbrev pub firsts : List A
  firsts = filter (λ x. F.is_least s n x (C.cycle s x)) s.sides

  abbrev pub cycles : List A → List (List A)
  cycles xs = map (C.cycle s) xs

  pub in_firsts : (x : A) → F.IsFirst s n x → O.count s x firsts ≢ 0
  in_firsts x f none =
      f.side (sym (S.count-filter s (λ y. F.is_least s n y (C.cycle s y)) x s.sides f.least) ∙ none)

  pub firsts_valid : All s.Valid firsts
  firsts_valid = All-filter (λ x. F.is_least s n x (C.cycle s x)) s.Valid s.sides s.sides_valid

  pub are_firsts : All (F.IsFirst s n) firsts
  are_firsts = S.All-each s (F.IsFirst s n) firsts (λ x some. record { side = side x some; least = least x some })
    where
      side : (x : A) → O.count s x firsts ≢ 0 → O.count s x s.sides ≢ 0
      side x some =
          O.All-counted s (λ y. O.count s y s.sides ≢ 0) x firsts
          (All-filter (λ y. F.is_least s n y (C.cycle s y)) (λ y. O.count s y s.sides ≢ 0) s.sides
          (S.All-each s (λ y. O.count s y s.sides ≢ 0) s.sides (λ y h. h)))
          some

      least : (x : A) → O.count s x firsts ≢ 0 → F.is_least s n x (C.cycle s x) ≡ true
      least x some =
          O.All-counted s (λ y. F.is_least s n y (C.cycle s y) ≡ true) x firsts
          (filter_passes (λ y. F.is_least s n y (C.cycle s y)) s.sides) some

  pub firsts_rising : Rising n.number firsts
  firsts_rising = rising-filter n.number (λ x. F.is_least s n x (C.cycle s x)) s.sides n.rising

  uses-cycles : (x : A) (xs : List A) → L.uses s x (L.joined s (cycles xs)) ≡ sum_by (λ y. L.uses s x (C.cycle s y)) xs
  uses-cycles x [] = refl
  uses-cycles x (y ∷ ys) =
      omega (
        arith,
        L.uses-append s x (C.cycle s y) (L.joined s (cycles ys)),
        uses-cycles x ys,
        sum_by-cons (λ z. L.uses s x (C.cycle s z)) y ys,
      )

  -- each thing is used by the cycle of one first side
  sum_of_uses : (x : A) → s.Valid x → F.FirstOf s n x → sum_by (λ y. L.uses s x (C.cycle s y)) firsts ≡ 1
  sum_of_uses x v m =
      sum_by-agree (λ y. L.uses s x (C.cycle s y)) (λ y. cond (s.same m.at y) 1 0) firsts
      (All-weaker (F.IsFirst s n) (λ y. L.uses s x (C.cycle s y) ≡ cond (s.same m.at y) 1 0) each firsts are_firsts)
      ∙ one
    where
      u : s.Valid m.at
      u = F.first_valid s n m.at m.first

      own : L.uses s x (C.cycle s m.at) ≡ 1
      own =
          let same : L.uses s x (C.cycle s x) ≡ L.uses s x (C.cycle s m.at) =
          L.uses-cycle s m.at (C.cycle s x) u (L.cycle_simple s x v) m.used x v in
          let some : L.uses s x (C.cycle s x) ≢ 0 = L.uses_own_cycle s x in
          let few : L.uses s x (C.cycle s x) ≤ 1 = (L.cycle_simple s x v).once x v in
          omega arith

      each : (y : A) → F.IsFirst s n y → L.uses s x (C.cycle s y) ≡ cond (s.same m.at y) 1 0
      each y f =
          elim (O.same_or_other s m.at y) [
            | inl e ↦
                ap (λ (z : A). L.uses s x (C.cycle s z)) (sym e) ∙ own ∙ sym
                (one_if (s.same m.at y) (O.same-true s m.at y e))
            | inr ne ↦ unused y f ne ∙ sym (none_if (s.same m.at y) (O.same-false s m.at y ne))
          ]
        where
          unused : (y : A) → F.IsFirst s n y → m.at ≢ y → L.uses s x (C.cycle s y) ≡ 0
          unused y f ne =
              elim (cases_eq (L.uses s x (C.cycle s y)) 0) [
                | inl none ↦ none
                | inr some ↦
                    (let same : L.uses s m.at (C.cycle s y) ≡ L.uses s m.at (C.cycle s x) =
                    L.uses-cycle s x (C.cycle s y) v (L.cycle_simple s y (F.first_valid s n y f)) some m.at u in
                    absurd (ne (F.first_unique s n m.at y m.first f (λ none. m.used (sym same ∙ none)))))
              ]

      one : O.count s m.at firsts ≡ 1
      one =
          let some : O.count s m.at firsts ≢ 0 = in_firsts m.at m.first in
          let few : O.count s m.at firsts ≤ 1 = S.rising_once s n m.at firsts firsts_rising in
          omega arith

  pub firsts_family : L.Family s (cycles firsts)
  firsts_family = record {
    closed =
        All-map (R.Closed s) (C.cycle s) firsts
        (All-weaker s.Valid (λ x. R.Closed s (C.cycle s x)) (C.cycle_closed s) firsts firsts_valid);
    once = λ x v. uses-cycles x firsts ∙ sum_of_uses x v (F.first_of s n x v);
  }

  -- ---- no other

  -- one of the cycles uses what they use together
  pub user : (x : A) (xs : List A) → L.uses s x (L.joined s (cycles xs)) ≢ 0
      → (y : A) × (O.count s y xs ≢ 0) × (L.uses s x (C.cycle s y) ≢ 0)
  user x [] some = absurd (some refl)
  user x (y ∷ ys) some =
      elim (cases_eq (L.uses s x (C.cycle s y)) 0) [
        | inl none ↦
            later (user x ys (λ gone. some (omega (arith, L.uses-append s x (C.cycle s y) (L.joined s (cycles ys))))))
        | inr here ↦ (y, λ none. omega (arith, O.count-same s y y ys refl), here)
      ]
    where
      later : (z : A) × (O.count s z ys ≢ 0) × (L.uses s x (C.cycle s z) ≢ 0)
          → (z : A) × (O.count s z (y ∷ ys) ≢ 0) × (L.uses s x (C.cycle s z) ≢ 0)
      later (z, there, used) = (z, λ none. there (omega (arith, count_by-cons (s.same z) y ys)), used)

  -- first sides in rising order whose cycles use everything are all first sides
  pub firsts_only : (xs : List A) → All (F.IsFirst s n) xs → Rising n.number xs
      → ((x : A) → s.Valid x → L.uses s x (L.joined s (cycles xs)) ≢ 0) → xs ≡ firsts
  firsts_only xs f r all =
      S.same_rising s n xs firsts r firsts_rising
      (λ z some. in_firsts z (O.All-counted s (F.IsFirst s n) z xs f some))
      (λ z some. there z (O.All-counted s (F.IsFirst s n) z firsts are_firsts some))
    where
      there : (z : A) → F.IsFirst s n z → O.count s z xs ≢ 0
      there z g =
          let (y, some, used) = user z xs (all z (F.first_valid s n z g)) in
          let same : z ≡ y = F.first_unique s n z y g (O.All-counted s (F.IsFirst s n) y xs f some) used in
          λ none. some (ap (λ (w : A). O.count s w xs) (sym same) ∙ none)
