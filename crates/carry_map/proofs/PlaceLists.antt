-- The places listed along two words, behind their first letters: what they are, and in which order they stand.
--
-- Onwards along w behind c: a place is listed exactly where its walk is c and a part m of w, and its letter comes next
-- in w. Backwards: exactly where its walk is c, a part m of w and one letter more, and its own letter is the inverse of
-- that one. Both by induction on w, with c growing by the letter passed. Onwards the walk of a later place runs over
-- the letter of an earlier one; backwards the walk of an earlier place runs beyond that of a later one.
-- With the first n letters of w as c and the rest as w, the listed places are those ahead on w, or returning on it,
-- with at least n letters behind them.
use Rattle.std.proofs.Common.{ℕ, suc, ℤ, List, [], ◌∷◌, ◌++◌, ◌≡◌, ◌≤◌, inl, inr, refl, sym, ◌∙◌, ap, subst}
use Rattle.std.proofs.Common.{arith, length, append_assoc, length-append, ◌-◌, ◌+◌}
use Rattle.std.specs.Prelude.{take, drop}
use Rattle.std.specs.List.{All, AllPairs, Contains}
use Rattle.std.proofs.lemmas.List.{append-nil, length-take, length-drop, take-append-drop}
use Rattle.std.proofs.lemmas.List.Elements.{All-nil, All-cons, Contains-append_left, Contains-append_right}
use Rattle.std.proofs.lemmas.List.Elements.{Contains-append_cases}
use Rattle.std.proofs.lemmas.List.Kept.{AllPairs-cons}
use Rattle.ideal_tri.specs.LabelLaws.{LabelLaws}
use Rattle.ideal_tri.specs.Labels.{inverse}
use Rattle.carry_map.specs.Anchors.{Place}
use Rattle.carry_map.specs.inside.Rays.{places_back, places_on}
use Rattle.carry_map.proofs.ElementsAndPairs.{contains_here, contains_later, contains_cases, contains_none}
use Rattle.carry_map.proofs.ElementsAndPairs.{contains_only}
use Rattle.carry_map.proofs.ElementsAndPairs.{pairs_none, pairs_one, pairs_append, all_from_contains}
use Rattle.carry_map.proofs.CommonPrefixes.{Begins, front_of_front}
use Rattle.carry_map.proofs.Lines.{IsAhead, IsReturning}

same_place : (p q : Place) → p.connect ≡ q.connect → p.label ≡ q.label → p ≡ q
same_place p q walks labels =
    ap (λ (w : List ℤ). record { connect = w; label = p.label }) walks
    ∙ ap (λ (y : ℤ). record { connect = q.connect; label = y }) labels

-- ---- onwards

pub on_contains : (c w : List ℤ) (p : Place) → Contains (places_on c w) p
    → (m : List ℤ) × (after : List ℤ) × (p.connect ≡ c ++ m) × (w ≡ m ++ (p.label ∷ after))
on_contains c [] p h = absurd (contains_none p h)
on_contains c (y ∷ w) p h =
    elim (contains_cases (record { connect = c; label = y }) (places_on (c ++ (y ∷ [])) w) p h) [
      | inl e ↦ (
        [],
        w,
        sym (ap (λ (q : Place). q.connect) e) ∙ sym (append-nil c),
        ap (λ (q : Place). q.label ∷ w) e,
      )
      | inr later ↦
          (let (m, after, walk, is) = on_contains (c ++ (y ∷ [])) w p later in
          (y ∷ m, after, walk ∙ append_assoc c (y ∷ []) m, ap (λ (k : List ℤ). y ∷ k) is))
    ]

pub contains_on : (c m after : List ℤ) (p : Place) → p.connect ≡ c ++ m
    → Contains (places_on c (m ++ (p.label ∷ after))) p
contains_on c [] after p walk =
    let here : Place = record { connect = c; label = p.label } in
    let rest : List Place = places_on (c ++ (p.label ∷ [])) after in
    subst (Contains (here ∷ rest)) (same_place here p (sym (walk ∙ append-nil c)) refl) (contains_here here rest)
contains_on c (x ∷ m) after p walk =
    contains_later (record { connect = c; label = x }) (places_on (c ++ (x ∷ [])) (m ++ (p.label ∷ after))) p
    (contains_on (c ++ (x ∷ [])) m after p (walk ∙ sym (append_assoc c (x ∷ []) m)))

-- the walk to the later one runs over the earlier one
abbrev pub IsLater : Place → Place → Type 0
IsLater p q = Begins q.connect (p.connect ++ (p.label ∷ []))

pub on_order : (c w : List ℤ) → AllPairs IsLater (places_on c w)
on_order c [] = pairs_none IsLater
on_order c (y ∷ w) =
    AllPairs-cons IsLater (record { connect = c; label = y }) (places_on (c ++ (y ∷ [])) w)
    (all_from_contains (IsLater (record { connect = c; label = y })) (places_on (c ++ (y ∷ [])) w)
    (λ q has. let (m, after, walk, is) = on_contains (c ++ (y ∷ [])) w q has in (m, walk)))
    (on_order (c ++ (y ∷ [])) w)

-- ---- backwards

-- the walk to the earlier one runs beyond that to the later one
abbrev pub IsEarlier : Place → Place → Type 0
IsEarlier p q = (e : List ℤ) × (p.connect ≡ q.connect ++ (e ++ (inverse p.label ∷ [])))

module _ (labels : LabelLaws) where
  pub back_contains : (c w : List ℤ) (p : Place) → Contains (places_back c w) p
      → (m : List ℤ) × (beyond : List ℤ) × (p.connect ≡ c ++ (m ++ (inverse p.label ∷ [])))
      × (w ≡ m ++ (inverse p.label ∷ beyond))
  back_contains c [] p h = absurd (contains_none p h)
  back_contains c (x ∷ w) p h =
      let last : Place = record { connect = c ++ (x ∷ []); label = inverse x } in
      elim (Contains-append_cases (places_back (c ++ (x ∷ [])) w) (last ∷ []) p h) [
        | inl before ↦
            (let (m, beyond, walk, is) = back_contains (c ++ (x ∷ [])) w p before in (
              x ∷ m,
              beyond,
              walk ∙ append_assoc c (x ∷ []) (m ++ (inverse p.label ∷ [])),
              ap (λ (k : List ℤ). x ∷ k) is,
            ))
        | inr here ↦
            (let e : last ≡ p = contains_only last p here in
            let x_is : x ≡ inverse p.label = sym (labels.twice x) ∙ ap (λ (q : Place). inverse q.label) e in (
              [],
              w,
              sym (ap (λ (q : Place). q.connect) e) ∙ ap (λ (z : ℤ). c ++ (z ∷ [])) x_is,
              ap (λ (z : ℤ). z ∷ w) x_is,
            ))
      ]

  pub contains_back : (c m beyond : List ℤ) (p : Place) → p.connect ≡ c ++ (m ++ (inverse p.label ∷ []))
      → Contains (places_back c (m ++ (inverse p.label ∷ beyond))) p
  contains_back c [] beyond p walk =
      let x : ℤ = inverse p.label in
      let last : Place = record { connect = c ++ (x ∷ []); label = inverse x } in
      Contains-append_right (places_back (c ++ (x ∷ [])) beyond) (last ∷ []) p
      (subst (Contains (last ∷ [])) (same_place last p (sym walk) (labels.twice p.label)) (contains_here last []))
  contains_back c (x ∷ m) beyond p walk =
      Contains-append_left (places_back (c ++ (x ∷ [])) (m ++ (inverse p.label ∷ beyond)))
      (record { connect = c ++ (x ∷ []); label = inverse x } ∷ []) p
      (contains_back (c ++ (x ∷ [])) m beyond p
      (walk ∙ sym (append_assoc c (x ∷ []) (m ++ (inverse p.label ∷ [])))))

  pub back_order : (c w : List ℤ) → AllPairs IsEarlier (places_back c w)
  back_order c [] = pairs_none IsEarlier
  back_order c (x ∷ w) =
      let last : Place = record { connect = c ++ (x ∷ []); label = inverse x } in
      pairs_append IsEarlier (places_back (c ++ (x ∷ [])) w) (last ∷ []) (back_order (c ++ (x ∷ [])) w)
      (pairs_one IsEarlier last)
      (all_from_contains (λ p. All (IsEarlier p) (last ∷ [])) (places_back (c ++ (x ∷ [])) w)
      (λ p has.
      let (m, beyond, walk, is) = back_contains (c ++ (x ∷ [])) w p has in
      All-cons (IsEarlier p) last [] (m, walk) (All-nil (IsEarlier p))))

-- ---- behind the first n letters

far_enough : (n : ℕ) (w m : List ℤ) (y : ℤ) (after : List ℤ) → drop n w ≡ m ++ (y ∷ after) → n ≤ length (take n w)
far_enough n w m y after e =
    let rest : length w - n ≡ length m + suc (length after)
    = sym (length-drop n w) ∙ ap length e ∙ length-append m (y ∷ after) in
    let front = length-take n w in
    omega (arith, front, rest)

short_enough : (n : ℕ) (w : List ℤ) → length (take n w) ≤ n
short_enough n w = let front = length-take n w in omega (arith, front)

pub ahead_listed : (n : ℕ) (w : List ℤ) (p : Place) → IsAhead w n p → Contains (places_on (take n w) (drop n w)) p
ahead_listed n w p k =
    let short : length (take n w) ≤ length p.connect = omega (arith, short_enough n w, k.far) in
    let (m, walk, is) = front_of_front (take n w) (drop n w) p.connect (p.label ∷ k.after)
    (take-append-drop n w ∙ k.letters) short in
    subst (λ (r : List ℤ). Contains (places_on (take n w) r) p) (sym is) (contains_on (take n w) m k.after p walk)

pub listed_ahead : (n : ℕ) (w : List ℤ) (p : Place) → Contains (places_on (take n w) (drop n w)) p → IsAhead w n p
listed_ahead n w p h =
    let (m, after, walk, is) = on_contains (take n w) (drop n w) p h in
    record {
      after = after;
      letters =
          sym (take-append-drop n w) ∙ ap (λ (r : List ℤ). take n w ++ r) is
          ∙ sym (append_assoc (take n w) m (p.label ∷ after))
          ∙ ap (λ (r : List ℤ). r ++ (p.label ∷ after)) (sym walk);
      far =
          (let enough = far_enough n w m p.label after is in
          let long = length-append (take n w) m in
          let same = ap length walk in
          omega (arith, enough, long, same));
    }

module _ (labels : LabelLaws) where
  pub returning_listed : (n : ℕ) (w : List ℤ) (p : Place) → IsReturning w n p
      → Contains (places_back (take n w) (drop n w)) p
  returning_listed n w p k =
      let short : length (take n w) ≤ length k.to = omega (arith, short_enough n w, k.far) in
      let (m, to_is, is) = front_of_front (take n w) (drop n w) k.to (inverse p.label ∷ k.beyond)
      (take-append-drop n w ∙ k.letters ∙ ap (λ (r : List ℤ). r ++ k.beyond) k.walk
      ∙ append_assoc k.to (inverse p.label ∷ []) k.beyond)
      short in
      subst (λ (r : List ℤ). Contains (places_back (take n w) r) p) (sym is)
      (contains_back labels (take n w) m k.beyond p
      (k.walk ∙ ap (λ (r : List ℤ). r ++ (inverse p.label ∷ [])) to_is
      ∙ append_assoc (take n w) m (inverse p.label ∷ [])))

  pub listed_returning : (n : ℕ) (w : List ℤ) (p : Place) → Contains (places_back (take n w) (drop n w)) p
      → IsReturning w n p
  listed_returning n w p h =
      let (m, beyond, walk, is) = back_contains labels (take n w) (drop n w) p h in
      let x : ℤ = inverse p.label in
      record {
        to = take n w ++ m;
        beyond = beyond;
        walk = walk ∙ sym (append_assoc (take n w) m (x ∷ []));
        letters =
            sym (take-append-drop n w) ∙ ap (λ (r : List ℤ). take n w ++ r) is
            ∙ ap (λ (r : List ℤ). take n w ++ r) (sym (append_assoc m (x ∷ []) beyond))
            ∙ sym (append_assoc (take n w) (m ++ (x ∷ [])) beyond)
            ∙ ap (λ (r : List ℤ). r ++ beyond) (sym walk);
        far =
            (let enough = far_enough n w m x beyond is in
            let long = length-append (take n w) m in
            omega (arith, enough, long));
      }
