-- Closed legal walks: where they begin, and the branches that they pass round and round.
--
-- Of the first two letters of a closed legal walk one is a switch, so the walk can be turned to begin at one, and then
-- it is cut into passes once round. Turned to another switch, it runs through the second part of the walk and then the
-- first; both parts go from a switch to a switch, so the passes are those of the two parts in the other order.
use Rattle.std.proofs.Common.{ℤ, List, [], ◌∷◌, ◌++◌, ◌≡◌, ◌<◌, inl, inr, true, false, refl, sym, ◌∙◌, subst}
use Rattle.std.proofs.Common.{arith, length}
use Rattle.std.specs.List.{All}
use Rattle.std.proofs.lemmas.Bool.{true≢false, cases_Bool}
use Rattle.std.proofs.lemmas.List.{append-nil}
use Rattle.std.proofs.lemmas.List.Elements.{All-nil, All-cons, All-head, All-tail, All-append}
use Rattle.ideal_tri.specs.Words.{IsRotation, IsReduced, IsCyclicallyReduced, last_of}
use Rattle.ideal_tri.specs.Triangulations.{IsLabel}
use Rattle.train_track.specs.Tracks.{IsLegal, IsLegalPair, is_switch}
use Rattle.train_track.specs.Passes.{Pass, AreGlued, ArePassesOf}
use Rattle.carry_map.specs.Iterates.{IsLegalLoop, ArePassesRound}
use Rattle.carry_map.proofs.TrackKnown.{TrackKnown}
use Rattle.carry_map.proofs.WordParts.{last_of-append, all_left, all_right, neighbours_joined, neighbours_left}
use Rattle.carry_map.proofs.WordParts.{neighbours_right, closed_parts, not_empty}
use Rattle.carry_map.proofs.CutWalks.{pass_between, cut}

module _ (ts : List (List ℤ)) (out : List ℤ) (bs : List (List ℤ)) (k : TrackKnown ts out bs) where
  -- ---- closed legal walks

  -- the part from the first letter of a closed walk to a letter in it, and the part from there
  record IsInParts (x : ℤ) (a : List ℤ) (y : ℤ) (b : List ℤ) : Type 0 where
    labels_on : All (IsLabel ts) (x ∷ (a ++ (y ∷ [])))
    labels_back : All (IsLabel ts) (y ∷ (b ++ (x ∷ [])))
    legal_on : IsLegal ts out (x ∷ (a ++ (y ∷ [])))
    legal_back : IsLegal ts out (y ∷ (b ++ (x ∷ [])))

  in_parts : (x : ℤ) (a : List ℤ) (y : ℤ) (b : List ℤ) → IsLegalLoop ts out ((x ∷ a) ++ (y ∷ b)) → IsInParts x a y b
  in_parts x a y b h =
      let front : All (IsLabel ts) (x ∷ a) = all_left (IsLabel ts) (x ∷ a) (y ∷ b) h.labels in
      let rest : All (IsLabel ts) (y ∷ b) = all_right (IsLabel ts) (x ∷ a) (y ∷ b) h.labels in
      let parts : IsLegal ts out (x ∷ ((a ++ (y ∷ [])) ++ (b ++ (x ∷ [])))) =
      subst (IsLegal ts out) (closed_parts x a y b) h.legal.1 in
      record {
        labels_on = All-append (IsLabel ts) (x ∷ a) (y ∷ []) front (one y (All-head (IsLabel ts) y b rest));
        labels_back = All-append (IsLabel ts) (y ∷ b) (x ∷ []) rest (one x (All-head (IsLabel ts) x a front));
        legal_on = neighbours_left (IsLegalPair ts out) x (a ++ (y ∷ [])) (b ++ (x ∷ [])) parts;
        legal_back =
            subst (λ (z : ℤ). IsLegal ts out (z ∷ (b ++ (x ∷ [])))) (last_of-append x a (y ∷ []))
            (neighbours_right (IsLegalPair ts out) x (a ++ (y ∷ [])) (b ++ (x ∷ [])) parts);
      }
    where
      one : (z : ℤ) → IsLabel ts z → All (IsLabel ts) (z ∷ [])
      one z l = All-cons (IsLabel ts) z [] l (All-nil (IsLabel ts))

  other_way : (a b : List ℤ) → IsLegalLoop ts out (a ++ b) → IsLegalLoop ts out (b ++ a)
  other_way [] b h = subst (IsLegalLoop ts out) (sym (append-nil b)) h
  other_way (x ∷ a) [] h = subst (IsLegalLoop ts out) (append-nil (x ∷ a)) h
  other_way (x ∷ a) (y ∷ b) h =
      let parts : IsInParts x a y b = in_parts x a y b h in
      let on : IsLegal ts out (last_of y (b ++ (x ∷ [])) ∷ (a ++ (y ∷ []))) =
      subst (λ (z : ℤ). IsLegal ts out (z ∷ (a ++ (y ∷ [])))) (sym (last_of-append y b (x ∷ []))) parts.legal_on in
      record {
        labels =
            All-append (IsLabel ts) (y ∷ b) (x ∷ a) (all_right (IsLabel ts) (x ∷ a) (y ∷ b) h.labels)
            (all_left (IsLabel ts) (x ∷ a) (y ∷ b) h.labels);
        legal = (
          not_empty (y ∷ b) x a,
          subst (IsLegal ts out) (sym (closed_parts y b x a))
              (neighbours_joined (IsLegalPair ts out) y (b ++ (x ∷ [])) (a ++ (y ∷ [])) parts.legal_back on),
        );
      }

  pub loop_rotation : (u v : List ℤ) → IsRotation u v → IsLegalLoop ts out u → IsLegalLoop ts out v
  loop_rotation u v (a, b, e, f) h =
      subst (IsLegalLoop ts out) (sym f) (other_way a b (subst (IsLegalLoop ts out) e h))

  legal_reduced : (x : ℤ) (w : List ℤ) → All (IsLabel ts) (x ∷ w) → IsLegal ts out (x ∷ w) → IsReduced (x ∷ w)
  legal_reduced x [] are h = tt
  legal_reduced x (y ∷ w) are h = (
    k.turns.apart x y (All-head (IsLabel ts) x (y ∷ w) are) h.0,
    legal_reduced y w (All-tail (IsLabel ts) x (y ∷ w) are) h.1,
  )

  -- the letters of a closed walk, and the first once more
  labels_round : (x : ℤ) (w : List ℤ) → All (IsLabel ts) (x ∷ w) → All (IsLabel ts) (x ∷ (w ++ (x ∷ [])))
  labels_round x w are =
      All-append (IsLabel ts) (x ∷ w) (x ∷ []) are
      (All-cons (IsLabel ts) x [] (All-head (IsLabel ts) x w are) (All-nil (IsLabel ts)))

  pub loop_reduced : (w : List ℤ) → IsLegalLoop ts out w → IsCyclicallyReduced w
  loop_reduced [] h = absurd (h.legal.0 refl)
  loop_reduced (x ∷ w) h = legal_reduced x (w ++ (x ∷ [])) (labels_round x w h.labels) h.legal.1

  -- ---- passes round and round

  -- the passes of a closed walk that begins at a switch
  passes_round : (x : ℤ) (w : List ℤ) → IsLegalLoop ts out (x ∷ w) → is_switch ts out x ≡ true
      → (passes : List Pass) × ArePassesRound bs passes (x ∷ w)
  passes_round x w h s =
      let ends : is_switch ts out (last_of x (w ++ (x ∷ []))) ≡ true =
      subst (λ (z : ℤ). is_switch ts out z ≡ true) (sym (last_of-append x w (x ∷ []))) s in
      let (passes, glued) = cut ts out bs k x (w ++ (x ∷ [])) (labels_round x w h.labels) h.legal.1 s ends in
      (passes, record { some = omega arith; passed = glued })

  -- the second letter is a switch where the first is none
  next_switch : (x y : ℤ) (w : List ℤ) → All (IsLabel ts) (x ∷ (y ∷ w)) → IsLegal ts out (x ∷ (y ∷ w))
      → is_switch ts out x ≡ false → is_switch ts out y ≡ true
  next_switch x y w are h other =
      elim (k.turns.switch x y (All-head (IsLabel ts) x (y ∷ w) are)
      (All-head (IsLabel ts) y w (All-tail (IsLabel ts) x (y ∷ w) are)) h.0) [
        | inl e ↦ absurd (true≢false (sym e ∙ other))
        | inr e ↦ e
      ]

  begun_next : (x : ℤ) (w : List ℤ) → IsLegalLoop ts out (x ∷ w) → is_switch ts out x ≡ false
      → (u : List ℤ) × IsRotation (x ∷ w) u × (passes : List Pass) × ArePassesRound bs passes u
  begun_next x [] h other =
      absurd (true≢false (sym (next_switch x x [] (labels_round x [] h.labels) h.legal.1 other) ∙ other))
  begun_next x (y ∷ w) h other =
      let turned : IsRotation (x ∷ (y ∷ w)) (y ∷ (w ++ (x ∷ []))) = (x ∷ [], y ∷ w, refl, refl) in
      let s : is_switch ts out y ≡ true =
      next_switch x y (w ++ (x ∷ [])) (labels_round x (y ∷ w) h.labels) h.legal.1 other in
      let (passes, round) =
      passes_round y (w ++ (x ∷ [])) (loop_rotation (x ∷ (y ∷ w)) (y ∷ (w ++ (x ∷ []))) turned h) s in
      (y ∷ (w ++ (x ∷ [])), turned, passes, round)

  pub begun : (w : List ℤ) → IsLegalLoop ts out w
      → (u : List ℤ) × IsRotation w u × (passes : List Pass) × ArePassesRound bs passes u
  begun [] h = absurd (h.legal.0 refl)
  begun (x ∷ w) h = elim (cases_Bool (is_switch ts out x)) [
    | inl e ↦
        (let (passes, round) = passes_round x w h e in
        (x ∷ w, ([], x ∷ w, refl, sym (append-nil (x ∷ w))), passes, round))
    | inr e ↦ begun_next x w h e
  ]

  pub some : (w : List ℤ) (passes : List Pass) → ArePassesRound bs passes w → 0 < length passes
  some [] passes h = absurd (let some : 0 < length {A = ℤ} [] = h.some in omega arith)
  some (x ∷ w) [] h = absurd (not_empty w x [] h.passed)
  some (x ∷ w) (p ∷ passes) h = omega arith

  pub switch : (x : ℤ) (w : List ℤ) (passes : List Pass) → ArePassesRound bs passes (x ∷ w)
      → is_switch ts out x ≡ true
  switch x w [] h = absurd (not_empty w x [] h.passed)
  switch x w (p ∷ passes) h =
      let (u, v, within, is, split, rest) = h.passed in (pass_between ts out bs k p x u within is).begins

  -- ---- the same walk, begun at another switch

  -- passes of the same closed walk
  only_round : (u v : List ℤ) (passes others : List Pass) → u ≡ v → ArePassesRound bs passes u
      → ArePassesRound bs others v → passes ≡ others
  only_round [] v passes others e h g = absurd (let some : 0 < length {A = ℤ} [] = h.some in omega arith)
  only_round (x ∷ u) v passes others e h g =
      k.list_laws.only x passes others (u ++ (x ∷ [])) h.passed
      (subst (ArePassesRound bs others) (sym e) g).passed

  turned_parts : (x : ℤ) (a : List ℤ) (y : ℤ) (b : List ℤ) (passes others : List Pass)
      → IsLegalLoop ts out ((x ∷ a) ++ (y ∷ b)) → ArePassesRound bs passes ((x ∷ a) ++ (y ∷ b))
      → ArePassesRound bs others ((y ∷ b) ++ (x ∷ a)) → IsRotation passes others
  turned_parts x a y b passes others h round turned =
      let parts : IsInParts x a y b = in_parts x a y b h in
      let s : is_switch ts out x ≡ true = switch x (a ++ (y ∷ b)) passes round in
      let t : is_switch ts out y ≡ true = switch y (b ++ (x ∷ a)) others turned in
      let at : last_of x (a ++ (y ∷ [])) ≡ y = last_of-append x a (y ∷ []) in
      let back : last_of y (b ++ (x ∷ [])) ≡ x = last_of-append y b (x ∷ []) in
      let (first, on) =
      cut ts out bs k x (a ++ (y ∷ [])) parts.labels_on parts.legal_on s
      (subst (λ (z : ℤ). is_switch ts out z ≡ true) (sym at) t) in
      let (second, from) =
      cut ts out bs k y (b ++ (x ∷ [])) parts.labels_back parts.legal_back t
      (subst (λ (z : ℤ). is_switch ts out z ≡ true) (sym back) s) in (
        first,
        second,
        k.list_laws.only x passes (first ++ second) ((a ++ (y ∷ [])) ++ (b ++ (x ∷ [])))
            (subst (ArePassesOf bs passes) (closed_parts x a y b) round.passed)
            (k.list_laws.join x first second (a ++ (y ∷ [])) (b ++ (x ∷ [])) on
            (subst (λ (z : ℤ). AreGlued bs z second (b ++ (x ∷ []))) (sym at) from)),
        k.list_laws.only y others (second ++ first) ((b ++ (x ∷ [])) ++ (a ++ (y ∷ [])))
            (subst (ArePassesOf bs others) (closed_parts y b x a) turned.passed)
            (k.list_laws.join y second first (b ++ (x ∷ [])) (a ++ (y ∷ [])) from
            (subst (λ (z : ℤ). AreGlued bs z first (a ++ (y ∷ []))) (sym back) on)),
      )

  same_rotation : (passes others : List Pass) → passes ≡ others → IsRotation passes others
  same_rotation passes others e = ([], passes, refl, sym e ∙ sym (append-nil passes))

  turned_cases : (a b : List ℤ) (passes others : List Pass) → IsLegalLoop ts out (a ++ b)
      → ArePassesRound bs passes (a ++ b) → ArePassesRound bs others (b ++ a) → IsRotation passes others
  turned_cases [] b passes others h round turned =
      same_rotation passes others (only_round b (b ++ []) passes others (sym (append-nil b)) round turned)
  turned_cases (x ∷ a) [] passes others h round turned =
      same_rotation passes others
      (only_round ((x ∷ a) ++ []) (x ∷ a) passes others (append-nil (x ∷ a)) round turned)
  turned_cases (x ∷ a) (y ∷ b) passes others h round turned = turned_parts x a y b passes others h round turned

  pub turned : (u v : List ℤ) (passes others : List Pass) → IsLegalLoop ts out u → IsRotation u v
      → ArePassesRound bs passes u → ArePassesRound bs others v → IsRotation passes others
  turned u v passes others h (a, b, e, f) round other =
      turned_cases a b passes others (subst (IsLegalLoop ts out) e h) (subst (ArePassesRound bs passes) e round)
      (subst (ArePassesRound bs others) f other)
