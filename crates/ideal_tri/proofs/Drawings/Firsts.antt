-- First sides: those whose cycles have no thing of a lesser number.
--
-- Of each pair of opposite things one is a side, and the sides rise by their numbers. The cycle of any thing uses
-- exactly one first side: the least thing in it, or its opposite.
use Rattle.std.proofs.Common.{Bool, true, leb, List, [], ◌∷◌, ◌≡◌, ◌≢◌, ◌≤◌, inl, inr, refl, ◌∙◌, arith}
use Rattle.std.specs.List.{All, AllPass, list_all}
use Rattle.std.proofs.lemmas.Bool.{cases_lt, cases_eq, leb-true, le-leb}
use Rattle.std.proofs.lemmas.List.Elements.{All-nil, All-cons, All-weaker}
use Rattle.std.proofs.lemmas.List.Sums.{AllPass-from_list_all, list_all-from_AllPass}
use Rattle.ideal_tri.proofs.Drawings.Tallies.{count_by-cons}
use Rattle.ideal_tri.proofs.Drawings.Orbits as O
use Rattle.ideal_tri.proofs.Drawings.Orbits.{Pairings}
use Rattle.ideal_tri.proofs.Drawings.Runs as R
use Rattle.ideal_tri.proofs.Drawings.Cycles as C
use Rattle.ideal_tri.proofs.Drawings.Alike as L
use Rattle.ideal_tri.proofs.Drawings.Sides as S
use Rattle.ideal_tri.proofs.Drawings.Sides.{Numbering}

module _ {A : Type 0} (s : Pairings A) (n : Numbering s) where
  -- no thing of the run has a lesser number
  abbrev pub is_least : A → List A → Bool
  is_least x run = list_all (λ y. leb (n.number x) (n.number y)) run

  pub least_number : (x y : A) (run : List A) → is_least x run ≡ true → s.Valid y → L.uses s y run ≢ 0
      → n.number x ≤ n.number y
  least_number x y run e v some =
      let passes : AllPass (λ z. leb (n.number x) (n.number z)) run =
      AllPass-from_list_all (λ z. leb (n.number x) (n.number z)) run e in
      let at : (z : A) → O.count s z run ≢ 0 → n.number x ≤ n.number z =
      λ z here. leb-true (n.number x) (n.number z)
      (O.All-counted s (λ u. leb (n.number x) (n.number u) ≡ true) z run passes here) in
      elim (cases_eq (O.count s y run) 0) [
        | inl none ↦ omega (arith, at (s.opposite y) (λ gone. some (omega arith)), n.opposite_number y v)
        | inr here ↦ at y here
      ]

  pub record IsFirst (x : A) : Type 0 where
    pub side : O.count s x s.sides ≢ 0
    pub least : is_least x (C.cycle s x) ≡ true

  pub side_valid : (x : A) → O.count s x s.sides ≢ 0 → s.Valid x
  side_valid x some = O.All-counted s s.Valid x s.sides s.sides_valid some

  pub first_valid : (x : A) → IsFirst x → s.Valid x
  first_valid x f = side_valid x f.side

  -- a cycle uses one first side
  pub first_unique : (x y : A) → IsFirst x → IsFirst y → L.uses s x (C.cycle s y) ≢ 0 → x ≡ y
  first_unique x y f g some =
      let v : s.Valid x = first_valid x f in
      let u : s.Valid y = first_valid y g in
      let forth : n.number y ≤ n.number x = least_number y x (C.cycle s y) g.least v some in
      let same : L.uses s y (C.cycle s y) ≡ L.uses s y (C.cycle s x) =
      L.uses-cycle s x (C.cycle s y) v (L.cycle_simple s y u) some y u in
      let used : L.uses s y (C.cycle s x) ≢ 0 = λ none. L.uses_own_cycle s y (same ∙ none) in
      let back : n.number x ≤ n.number y = least_number x y (C.cycle s x) f.least u used in
      S.rising_injective s n x y s.sides n.rising f.side g.side (omega arith)

  -- a least thing of a list
  record Least (xs : List A) : Type 0 where
    at : A
    here : O.count s at xs ≢ 0
    least : All (λ z. n.number at ≤ n.number z) xs

  least_in : (x : A) (xs : List A) → Least (x ∷ xs)
  least_in x [] = record {
    at = x;
    here = λ none. omega (arith, O.count-same s x x [] refl);
    least = All-cons (λ z. n.number x ≤ n.number z) x [] (omega arith) (All-nil (λ z. n.number x ≤ n.number z));
  }
  least_in x (y ∷ ys) = go (least_in y ys)
    where
      go : Least (y ∷ ys) → Least (x ∷ (y ∷ ys))
      go l =
          elim (cases_lt (n.number l.at) (n.number x)) [
            | inl b ↦
                record {
                  at = l.at;
                  here = λ none. l.here (omega (arith, count_by-cons (s.same l.at) x (y ∷ ys)));
                  least = All-cons (λ z. n.number l.at ≤ n.number z) x (y ∷ ys) (omega arith) l.least;
                }
            | inr b ↦
                record {
                  at = x;
                  here = λ none. omega (arith, O.count-same s x x (y ∷ ys) refl);
                  least =
                      All-cons (λ z. n.number x ≤ n.number z) x (y ∷ ys) (omega arith)
                      (All-weaker (λ z. n.number l.at ≤ n.number z) (λ z. n.number x ≤ n.number z) (λ z c. omega arith)
                      (y ∷ ys) l.least);
                }
          ]

  -- the first side of the cycle of x
  pub record FirstOf (x : A) : Type 0 where
    pub at : A
    pub first : IsFirst at
    pub used : L.uses s at (C.cycle s x) ≢ 0

  first_of_side : (x m : A) → s.Valid x → O.count s m s.sides ≢ 0 → L.uses s m (C.cycle s x) ≢ 0
      → ((z : A) → O.count s z (C.cycle s x) ≢ 0 → n.number m ≤ n.number z) → FirstOf x
  first_of_side x m v side used least = record { at = m; first = record { side = side; least = is }; used = used }
    where
      u : s.Valid m
      u = side_valid m side

      lower : (z : A) → s.Valid z → L.uses s z (C.cycle s x) ≢ 0 → n.number m ≤ n.number z
      lower z w some =
          elim (cases_eq (O.count s z (C.cycle s x)) 0) [
            | inl none ↦ omega (arith, least (s.opposite z) (λ gone. some (omega arith)), n.opposite_number z w)
            | inr here ↦ least z here
          ]

      passes : (z : A) → O.count s z (C.cycle s m) ≢ 0 → leb (n.number m) (n.number z) ≡ true
      passes z here =
          let w : s.Valid z =
          O.All-counted s s.Valid z (C.cycle s m) (R.closed_valid s (C.cycle s m) (C.cycle_closed s m u)) here in
          let same : L.uses s z (C.cycle s x) ≡ L.uses s z (C.cycle s m) =
          L.uses-cycle s m (C.cycle s x) u (L.cycle_simple s x v) used z w in
          le-leb (n.number m) (n.number z) (lower z w (λ none. here (omega arith)))

      is : is_least m (C.cycle s m) ≡ true
      is = list_all-from_AllPass (λ z. leb (n.number m) (n.number z)) (C.cycle s m)
          (S.All-each s (λ z. leb (n.number m) (n.number z) ≡ true) (C.cycle s m) passes)

  pub first_of : (x : A) → s.Valid x → FirstOf x
  first_of x v = go (least_in x (C.rest_of s x))
    where
      go : Least (C.cycle s x) → FirstOf x
      go l =
          let w : s.Valid l.at =
          O.All-counted s s.Valid l.at (C.cycle s x) (R.closed_valid s (C.cycle s x) (C.cycle_closed s x v)) l.here in
          let lower : (z : A) → O.count s z (C.cycle s x) ≢ 0 → n.number l.at ≤ n.number z =
          λ z here. O.All-counted s (λ u. n.number l.at ≤ n.number u) z (C.cycle s x) l.least here in
          elim (s.covers l.at w) [
            | inl side ↦ first_of_side x l.at v side (λ none. l.here (omega arith)) lower
            | inr side ↦
                first_of_side x (s.opposite l.at) v side
                (λ none. l.here (omega (arith, L.uses-opposite s l.at (C.cycle s x) w)))
                (λ z here. omega (arith, lower z here, n.opposite_number l.at w))
          ]
