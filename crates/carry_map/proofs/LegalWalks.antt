-- Legal walks from a letter, as they are listed.
--
-- Two letters may follow u, each where the corner between is kept: the side after the one by which the walk came in,
-- and the side before it. These are the letters with which u makes a legal pair.
-- A walk is legal with one letter more at its end exactly where it is legal and that letter may follow the last. So
-- the words that are made longer three times are the legal walks of three letters more, no other and all of them.
-- A legal pair backwards is legal, so the inverse of a legal walk is legal. Each letter may be followed by one, so
-- there are legal walks of any length.
use Rattle.std.proofs.Common.{ℕ, zero, suc, ℤ, Bool, false, List, [], ◌∷◌, ◌++◌, ◌≡◌}
use Rattle.std.proofs.Common.{inl, inr, refl, sym, ◌∙◌, ap, subst, arith, length, append_assoc}
use Rattle.std.proofs.Common.{length-append}
use Rattle.std.specs.Prelude.{if◌then◌else◌}
use Rattle.std.specs.List.{All, Contains, flat_map}
use Rattle.std.proofs.lemmas.Bool.{cases_Bool}
use Rattle.std.proofs.lemmas.List.{append-nil}
use Rattle.std.proofs.lemmas.List.{nil_from_length}
use Rattle.std.proofs.lemmas.List.Elements.{All-nil, All-cons, All-head, All-tail, All-append}
use Rattle.std.proofs.lemmas.List.Elements.{Contains-append_left, Contains-append_right, Contains-append_cases}
use Rattle.ideal_tri.specs.LabelLaws.{LabelLaws}
use Rattle.ideal_tri.specs.SurfaceLaws.{TriangleLaws}
use Rattle.ideal_tri.specs.Labels.{inverse}
use Rattle.ideal_tri.specs.Words.{inverse_word, last_of}
use Rattle.ideal_tri.specs.Triangulations.{IsLabel, next, previous}
use Rattle.train_track.specs.TrackLaws.{TurnLaws}
use Rattle.train_track.specs.Tracks.{IsLegal, IsLegalPair, is_left_out}
use Rattle.carry_map.specs.inside.Rays.{if_kept, followers, longer, three_longer}
use Rattle.carry_map.proofs.ElementsAndPairs.{contains_here, contains_none, contains_only, contains_map, map_contains}
use Rattle.carry_map.proofs.ElementsAndPairs.{contains_joined, joined_contains}

-- ---- letters that may follow

kept_contains : (left_out : List ℤ) (corner y : ℤ) → is_left_out left_out corner ≡ false
    → Contains (if_kept left_out corner y) y
kept_contains left_out corner y kept =
    subst (λ (b : Bool). Contains (if b then [] else (y ∷ [])) y) (sym kept) (contains_here y [])

contains_kept : (left_out : List ℤ) (corner y v : ℤ) → Contains (if_kept left_out corner y) v
    → (is_left_out left_out corner ≡ false) × (y ≡ v)
contains_kept left_out corner y v h = elim (cases_Bool (is_left_out left_out corner)) [
  | inl out ↦ absurd (contains_none v (subst (λ (b : Bool). Contains (if b then [] else (y ∷ [])) v) out h))
  | inr kept ↦ (
    kept,
    contains_only y v (subst (λ (b : Bool). Contains (if b then [] else (y ∷ [])) v) kept h),
  )
]

module _ (ts : List (List ℤ)) (out : List ℤ) (labels : LabelLaws) (triangles : TriangleLaws ts) where
  pub follower_is_label : (u v : ℤ) → IsLabel ts u → Contains (followers ts out u) v → IsLabel ts v
  follower_is_label u v l h =
      let back : IsLabel ts (inverse u) = labels.label ts u l in
      elim (Contains-append_cases (if_kept out (inverse u) (next ts (inverse u)))
      (if_kept out (previous ts (inverse u)) (previous ts (inverse u))) v h) [
        | inl k ↦ subst (IsLabel ts) (contains_kept out (inverse u) (next ts (inverse u)) v k).1
            (triangles.label (inverse u) back)
        | inr k ↦
            subst (IsLabel ts) (contains_kept out (previous ts (inverse u)) (previous ts (inverse u)) v k).1
            (triangles.label (next ts (inverse u)) (triangles.label (inverse u) back))
      ]

  pub follower_is_legal : (u v : ℤ) → IsLabel ts u → Contains (followers ts out u) v → IsLegalPair ts out u v
  follower_is_legal u v l h =
      let back : IsLabel ts (inverse u) = labels.label ts u l in
      elim (Contains-append_cases (if_kept out (inverse u) (next ts (inverse u)))
      (if_kept out (previous ts (inverse u)) (previous ts (inverse u))) v h) [
        | inl k ↦
            (let (kept, is) = contains_kept out (inverse u) (next ts (inverse u)) v k in
            record { corner = inverse u; used = inl (sym is, refl); kept = kept })
        | inr k ↦
            (let (kept, is) = contains_kept out (previous ts (inverse u)) (previous ts (inverse u)) v k in
            record {
              corner = v;
              used = inr (sym (triangles.round (inverse u) back) ∙ ap (next ts) is, refl);
              kept = subst (λ (z : ℤ). is_left_out out z ≡ false) is kept;
            })
      ]

  pub legal_is_follower : (u v : ℤ) → IsLabel ts v → IsLegalPair ts out u v → Contains (followers ts out u) v
  legal_is_follower u v l h = elim h.used [
    | inl (is, corner) ↦
        Contains-append_left (if_kept out (inverse u) (next ts (inverse u)))
        (if_kept out (previous ts (inverse u)) (previous ts (inverse u))) v
        (subst (Contains (if_kept out (inverse u) (next ts (inverse u)))) (sym is)
        (kept_contains out (inverse u) (next ts (inverse u))
        (subst (λ (z : ℤ). is_left_out out z ≡ false) corner h.kept)))
    | inr (is, corner) ↦
        (let before : previous ts (inverse u) ≡ v = ap (previous ts) is ∙ triangles.round v l in
        Contains-append_right (if_kept out (inverse u) (next ts (inverse u)))
        (if_kept out (previous ts (inverse u)) (previous ts (inverse u))) v
        (subst (Contains (if_kept out (previous ts (inverse u)) (previous ts (inverse u)))) before
        (kept_contains out (previous ts (inverse u)) (previous ts (inverse u))
        (subst (λ (z : ℤ). is_left_out out z ≡ false) (corner ∙ sym before) h.kept))))
  ]

  -- ---- legal walks taken apart

  legal_push : (u : ℤ) (r : List ℤ) (y : ℤ) → IsLegal ts out (u ∷ r) → IsLegalPair ts out (last_of u r) y
      → IsLegal ts out (u ∷ (r ++ (y ∷ [])))
  legal_push u [] y h pair = (pair, tt)
  legal_push u (x ∷ r) y h pair = (h.0, legal_push x r y h.1 pair)

  legal_popped : (u : ℤ) (r : List ℤ) (y : ℤ) → IsLegal ts out (u ∷ (r ++ (y ∷ []))) → IsLegal ts out (u ∷ r)
  legal_popped u [] y h = tt
  legal_popped u (x ∷ r) y h = (h.0, legal_popped x r y h.1)

  legal_last : (u : ℤ) (r : List ℤ) (y : ℤ) → IsLegal ts out (u ∷ (r ++ (y ∷ [])))
      → IsLegalPair ts out (last_of u r) y
  legal_last u [] y h = h.0
  legal_last u (x ∷ r) y h = legal_last x r y h.1

  last_is_label : (u : ℤ) (r : List ℤ) → IsLabel ts u → All (IsLabel ts) r → IsLabel ts (last_of u r)
  last_is_label u [] l are = l
  last_is_label u (x ∷ r) l are =
      last_is_label x r (All-head (IsLabel ts) x r are) (All-tail (IsLabel ts) x r are)

  legal_tail : (x : ℤ) (w : List ℤ) → IsLegal ts out (x ∷ w) → IsLegal ts out w
  legal_tail x [] h = tt
  legal_tail x (y ∷ w) h = h.1

  -- two legal walks joined at a letter that both have, and taken apart there
  pub legal_joined : (u : List ℤ) (x : ℤ) (v : List ℤ) → IsLegal ts out (u ++ (x ∷ [])) → IsLegal ts out (x ∷ v)
      → IsLegal ts out (u ++ (x ∷ v))
  legal_joined [] x v h k = k
  legal_joined (y ∷ []) x v h k = (h.0, k)
  legal_joined (y ∷ (z ∷ u)) x v h k = (h.0, legal_joined (z ∷ u) x v h.1 k)

  pub legal_front : (u : List ℤ) (x : ℤ) (v : List ℤ) → IsLegal ts out (u ++ (x ∷ v)) → IsLegal ts out (u ++ (x ∷ []))
  legal_front [] x v h = tt
  legal_front (y ∷ []) x v h = (h.0, tt)
  legal_front (y ∷ (z ∷ u)) x v h = (h.0, legal_front (z ∷ u) x v h.1)

  pub legal_end : (u : List ℤ) (x : ℤ) (v : List ℤ) → IsLegal ts out (u ++ (x ∷ v)) → IsLegal ts out (x ∷ v)
  legal_end [] x v h = h
  legal_end (y ∷ u) x v h = legal_end u x v (legal_tail y (u ++ (x ∷ v)) h)

-- a word that isn't empty has a last letter
last_letter : (x : ℤ) (r : List ℤ) → (q : List ℤ) × (y : ℤ) × (x ∷ r ≡ q ++ (y ∷ []))
last_letter x [] = ([], x, refl)
last_letter x (z ∷ r) = let (q, y, is) = last_letter z r in (x ∷ q, y, ap (λ (w : List ℤ). x ∷ w) is)

module _ (ts : List (List ℤ)) (out : List ℤ) (turns : TurnLaws ts out) where
  -- the inverse of a legal walk is legal
  pub legal_back : (w : List ℤ) → IsLegal ts out w → IsLegal ts out (inverse_word w)
  legal_back [] h = tt
  legal_back (x ∷ []) h = tt
  legal_back (x ∷ (y ∷ w)) h =
      subst (IsLegal ts out) (sym (append_assoc (inverse_word w) (inverse y ∷ []) (inverse x ∷ [])))
      (joined (inverse_word w) (inverse y) (inverse x) (legal_back (y ∷ w) h.1) (turns.back x y h.0))
    where
      joined : (u : List ℤ) (a b : ℤ) → IsLegal ts out (u ++ (a ∷ [])) → IsLegalPair ts out a b
          → IsLegal ts out (u ++ (a ∷ (b ∷ [])))
      joined [] a b k pair = (pair, tt)
      joined (z ∷ []) a b k pair = (k.0, (pair, tt))
      joined (z ∷ (z' ∷ u)) a b k pair = (k.0, joined (z' ∷ u) a b k.1 pair)

  -- there are legal walks of any length
  pub some_walk : (n : ℕ) (u : ℤ) → IsLabel ts u
      → (r : List ℤ) × (length r ≡ n) × All (IsLabel ts) r × IsLegal ts out (u ∷ r)
  some_walk zero u l = ([], refl, All-nil (IsLabel ts), tt)
  some_walk (suc n) u l =
      let (y, label, pair) = turns.continues u l in
      let (r, count, are, legal) = some_walk n y label in
      (y ∷ r, ap suc count, All-cons (IsLabel ts) y r label are, (pair, legal))

-- ---- the words that are listed

-- the word goes on from u, behind those letters, by n letters, and it is legal
pub record IsOnward (ts : List (List ℤ)) (out : List ℤ) (u : ℤ) (begun : List ℤ) (n : ℕ) (w : List ℤ) : Type 0 where
  pub rest : List ℤ
  pub letters : w ≡ begun ++ rest
  pub count : length rest ≡ n
  pub labels : All (IsLabel ts) rest
  pub legal : IsLegal ts out (u ∷ rest)

module _ (ts : List (List ℤ)) (out : List ℤ) (labels : LabelLaws) (triangles : TriangleLaws ts) (u : ℤ)
    (label : IsLabel ts u) (begun : List ℤ) (goes_on : (r : List ℤ) → last_of u (begun ++ r) ≡ last_of u r) where
  longer_onward : (n : ℕ) (w v : List ℤ) → IsOnward ts out u begun n w → Contains (longer ts out u w) v
      → IsOnward ts out u begun (suc n) v
  longer_onward n w v on has =
      let (y, follows, is) = map_contains (λ y. w ++ (y ∷ [])) (followers ts out (last_of u w)) v has in
      let end : last_of u w ≡ last_of u on.rest = ap (last_of u) on.letters ∙ goes_on on.rest in
      let follower : Contains (followers ts out (last_of u on.rest)) y
      = subst (λ (z : ℤ). Contains (followers ts out z) y) end follows in
      let last : IsLabel ts (last_of u on.rest) = last_is_label ts out labels triangles u on.rest label on.labels in
      record {
        rest = on.rest ++ (y ∷ []);
        letters =
            sym is ∙ ap (λ (k : List ℤ). k ++ (y ∷ [])) on.letters ∙ append_assoc begun on.rest (y ∷ []);
        count = length-append on.rest (y ∷ []) ∙ omega (arith, on.count);
        labels =
            All-append (IsLabel ts) on.rest (y ∷ []) on.labels
            (All-cons (IsLabel ts) y [] (follower_is_label ts out labels triangles (last_of u on.rest) y last follower)
            (All-nil (IsLabel ts)));
        legal =
            legal_push ts out labels triangles u on.rest y on.legal
            (follower_is_legal ts out labels triangles (last_of u on.rest) y last follower);
      }

  onward_longer : (n : ℕ) (v : List ℤ) → IsOnward ts out u begun (suc n) v
      → (w : List ℤ) × IsOnward ts out u begun n w × Contains (longer ts out u w) v
  onward_longer n v on =
      let (q, y, is) = ending on.rest on.count in
      let legal : IsLegal ts out (u ∷ (q ++ (y ∷ []))) = subst (λ (k : List ℤ). IsLegal ts out (u ∷ k)) is on.legal in
      let are : All (IsLabel ts) (q ++ (y ∷ [])) = subst (All (IsLabel ts)) is on.labels in
      let follower : Contains (followers ts out (last_of u (begun ++ q))) y
      = subst (λ (z : ℤ). Contains (followers ts out z) y) (sym (goes_on q))
      (legal_is_follower ts out labels triangles (last_of u q) y (last_label q y are)
      (legal_last ts out labels triangles u q y legal)) in
      let v_is : (begun ++ q) ++ (y ∷ []) ≡ v
      = append_assoc begun q (y ∷ []) ∙ ap (λ (k : List ℤ). begun ++ k) (sym is) ∙ sym on.letters in (
        begun ++ q,
        record {
          rest = q;
          letters = refl;
          count = omega (arith, on.count, ap length is, length-append q (y ∷ []));
          labels = first_labels q (y ∷ []) are;
          legal = legal_popped ts out labels triangles u q y legal;
        },
        subst (Contains (longer ts out u (begun ++ q))) v_is
            (contains_map (λ z. (begun ++ q) ++ (z ∷ [])) (followers ts out (last_of u (begun ++ q))) y follower),
      )
    where
      ending : (r : List ℤ) → length r ≡ suc n → (q : List ℤ) × (y : ℤ) × (r ≡ q ++ (y ∷ []))
      ending [] e = absurd (omega arith)
      ending (x ∷ r) e = last_letter x r

      first_labels : (q s : List ℤ) → All (IsLabel ts) (q ++ s) → All (IsLabel ts) q
      first_labels [] s h = All-nil (IsLabel ts)
      first_labels (x ∷ q) s h =
          All-cons (IsLabel ts) x q (All-head (IsLabel ts) x (q ++ s) h)
          (first_labels q s (All-tail (IsLabel ts) x (q ++ s) h))

      last_label : (q : List ℤ) (y : ℤ) → All (IsLabel ts) (q ++ (y ∷ [])) → IsLabel ts y
      last_label [] y h = All-head (IsLabel ts) y [] h
      last_label (x ∷ q) y h = last_label q y (All-tail (IsLabel ts) x (q ++ (y ∷ [])) h)

  pub listed_onward : (v : List ℤ) → Contains (three_longer ts out u begun) v → IsOnward ts out u begun 3 v
  listed_onward v has =
      let two : List (List ℤ) = flat_map (longer ts out u) (longer ts out u begun) in
      let (w2, has2, at2) = joined_contains (longer ts out u) two v has in
      let (w1, has1, at1) = joined_contains (longer ts out u) (longer ts out u begun) w2 has2 in
      let start : IsOnward ts out u begun 0 begun
      = record {
        rest = [];
        letters = sym (append-nil begun);
        count = refl;
        labels = All-nil (IsLabel ts);
        legal = tt;
      } in
      longer_onward 2 w2 v (longer_onward 1 w1 w2 (longer_onward 0 begun w1 start has1) at1) at2

  pub onward_listed : (v : List ℤ) → IsOnward ts out u begun 3 v → Contains (three_longer ts out u begun) v
  onward_listed v on =
      let (w2, on2, at2) = onward_longer 2 v on in
      let (w1, on1, at1) = onward_longer 1 w2 on2 in
      let (w0, on0, at0) = onward_longer 0 w1 on1 in
      let start : w0 ≡ begun
      = on0.letters ∙ ap (λ (k : List ℤ). begun ++ k) (nil_from_length on0.rest on0.count) ∙ append-nil begun in
      let first : Contains (longer ts out u begun) w1
      = subst (λ (k : List ℤ). Contains (longer ts out u k) w1) start at0 in
      let second : Contains (flat_map (longer ts out u) (longer ts out u begun)) w2
      = contains_joined (longer ts out u) (longer ts out u begun) w1 w2 first at1 in
      contains_joined (longer ts out u) (flat_map (longer ts out u) (longer ts out u begun)) w2 v second at2
