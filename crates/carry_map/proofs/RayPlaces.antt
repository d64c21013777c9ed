-- The places of a switch are those read off its rays.
--
-- A place is on the line of one window exactly where it lies ahead on the front ray, or returning on the back ray,
-- behind what these two have in common. On the lines of all windows it is of the same kind, since no place is of both
-- kinds. So it lies ahead on all front rays, that is, on what they have in common, or returning on what the back rays
-- have in common; and it lies there behind what any back ray and any front ray have in common, that is, behind the
-- greatest such number of letters. Each pair of a back word and a front word is a window, so each two rays count.
use Rattle.std.proofs.Common.{ℕ, ℤ, List, [], ◌∷◌, ◌++◌, ◌≤◌, ◌⊎◌, inl, inr, sym}
use Rattle.std.proofs.Common.{◌∙◌, ap, subst, arith, length, map, append_assoc, length-append}
use Rattle.std.specs.Prelude.{take, drop}
use Rattle.std.specs.List.{All, AllPairs, Contains}
use Rattle.std.proofs.lemmas.List.Elements.{Contains-append_left, Contains-append_right, Contains-append_cases}
use Rattle.std.proofs.lemmas.List.Kept.{AllPairs-filter}
use Rattle.ideal_tri.specs.LabelLaws.{LabelLaws}
use Rattle.ideal_tri.specs.WordLaws.{WordLaws}
use Rattle.ideal_tri.specs.SurfaceLaws.{TriangleLaws}
use Rattle.ideal_tri.specs.Labels.{inverse}
use Rattle.ideal_tri.specs.Words.{inverse_word}
use Rattle.ideal_tri.specs.Triangulations.{IsLabel}
use Rattle.free_groupoid.specs.GroupoidMaps.{reduced_image}
use Rattle.train_track.specs.TrackLaws.{TurnLaws}
use Rattle.train_track.specs.Tracks.{is_switch}
use Rattle.carry_map.specs.Anchors.{Place, IsWindow, IsOnLine, IsBefore, IsCommonPlace, ArePlaces, back_ray, front_ray}
use Rattle.carry_map.specs.inside.Rays.{common_prefix, common_of, most_shared, back_words, front_words, places_back}
use Rattle.carry_map.specs.inside.Rays.{places_on, places_past, places_of_switch}
use Rattle.carry_map.proofs.ElementsAndPairs.{contains_map, map_contains, contains_filtered, filtered_contains}
use Rattle.carry_map.proofs.ElementsAndPairs.{pairs_append, pairs_imply, all_from_contains}
use Rattle.carry_map.proofs.CommonPrefixes.{common_of_greatest, common_of_each, most_shared_bound}
use Rattle.carry_map.proofs.CommonPrefixes.{most_shared_least}
use Rattle.carry_map.proofs.Lines.{IsAhead, IsReturning, rays, not_both, front_ray_reduced}
use Rattle.carry_map.proofs.Lines.{kind_from_line, line_from_ahead, line_from_returning, before_ahead}
use Rattle.carry_map.proofs.Lines.{before_returning, before_across}
use Rattle.carry_map.proofs.WindowParts.{window_front, window_back, window_of, back_of, front_of, some_back, some_front}
use Rattle.carry_map.proofs.PlaceLists.{IsLater, IsEarlier, on_order, back_order, ahead_listed, listed_ahead}
use Rattle.carry_map.proofs.PlaceLists.{returning_listed, listed_returning}

module _ (ts : List (List ℤ)) (out : List ℤ) (labels : LabelLaws) (words : WordLaws) (triangles : TriangleLaws ts)
    (turns : TurnLaws ts out) (f : ℤ → List ℤ) (s : ℤ) (label : IsLabel ts s) where
  abbrev backs : List (List ℤ)
  backs = map (reduced_image f) (back_words ts out s)

  abbrev fronts : List (List ℤ)
  fronts = map (reduced_image f) (front_words ts out s)

  abbrev apart : ℕ
  apart = most_shared backs fronts

  -- ---- the rays of a window are listed

  window_back_ray : (w : List ℤ) → IsWindow ts out s w → Contains backs (back_ray f w)
  window_back_ray w window =
      contains_map (reduced_image f) (back_words ts out s) (inverse_word (take 3 w))
      (window_back ts out labels words triangles turns s label w window)

  window_front_ray : (w : List ℤ) → IsWindow ts out s w → Contains fronts (front_ray f w)
  window_front_ray w window =
      contains_map (reduced_image f) (front_words ts out s) (drop 3 w)
      (window_front ts out labels words triangles turns s label w window)

  window_apart : (w : List ℤ) → IsWindow ts out s w
      → length (common_prefix (back_ray f w) (front_ray f w)) ≤ apart
  window_apart w window =
      most_shared_bound backs fronts (back_ray f w) (front_ray f w) (window_back_ray w window)
      (window_front_ray w window)

  -- ---- from what all rays have in common to one window

  abbrev IsAheadAt : List ℤ → Place → Type 0
  IsAheadAt w p = IsAhead (front_ray f w) (length (common_prefix (back_ray f w) (front_ray f w))) p

  abbrev IsReturningAt : List ℤ → Place → Type 0
  IsReturningAt w p = IsReturning (back_ray f w) (length (common_prefix (back_ray f w) (front_ray f w))) p

  ahead_each : (p : Place) → IsAhead (common_of fronts) apart p → (w : List ℤ) → IsWindow ts out s w → IsAheadAt w p
  ahead_each p k w window =
      let (rest, is) = common_of_each labels fronts (front_ray f w) (window_front_ray w window) in
      record {
        after = k.after ++ rest;
        letters =
            is ∙ ap (λ (v : List ℤ). v ++ rest) k.letters ∙ append_assoc p.connect (p.label ∷ k.after) rest;
        far = (let bound = window_apart w window in let far = k.far in omega (arith, bound, far));
      }

  returning_each : (p : Place) → IsReturning (common_of backs) apart p → (w : List ℤ) → IsWindow ts out s w
      → IsReturningAt w p
  returning_each p k w window =
      let (rest, is) = common_of_each labels backs (back_ray f w) (window_back_ray w window) in
      record {
        to = k.to;
        beyond = k.beyond ++ rest;
        walk = k.walk;
        letters = is ∙ ap (λ (v : List ℤ). v ++ rest) k.letters ∙ append_assoc p.connect k.beyond rest;
        far = (let bound = window_apart w window in let far = k.far in omega (arith, bound, far));
      }

  -- ---- from all windows to what all rays have in common

  -- what holds of the two rays of each window holds of each two rays
  rays_of_windows : (P : List ℤ → List ℤ → Type 0)
      → ((w : List ℤ) → IsWindow ts out s w → P (back_ray f w) (front_ray f w)) → (a b : List ℤ) → Contains backs a
      → Contains fronts b → P a b
  rays_of_windows P each a b has_a has_b =
      let (v, back, is_a) = map_contains (reduced_image f) (back_words ts out s) a has_a in
      let (u, front, is_b) = map_contains (reduced_image f) (front_words ts out s) b has_b in
      let window = window_of ts out labels words triangles turns s label v u back front in
      subst (λ (k : List ℤ). P k b) is_a
      (subst (P (reduced_image f v)) is_b
      (subst (λ (k : List ℤ). P (reduced_image f k) (reduced_image f u))
      (back_of ts out labels words triangles turns s label v u back)
      (subst (λ (k : List ℤ). P (back_ray f (inverse_word v ++ u)) (reduced_image f k))
      (front_of ts out labels words triangles turns s label v u back)
      (each (inverse_word v ++ u) window))))

  some_back_ray : (a : List ℤ) × Contains backs a
  some_back_ray =
      let (v, back) = some_back ts out labels words triangles turns s label in
      (reduced_image f v, contains_map (reduced_image f) (back_words ts out s) v back)

  some_front_ray : (b : List ℤ) × Contains fronts b
  some_front_ray =
      let (u, front) = some_front ts out labels words triangles turns s label in
      (reduced_image f u, contains_map (reduced_image f) (front_words ts out s) u front)

  at_line : (w : List ℤ) (p : Place) → IsOnLine f w p → IsReturningAt w p ⊎ IsAheadAt w p
  at_line w p on =
      let (b, g, r) = rays labels words f w in
      kind_from_line labels words f w (common_prefix (back_ray f w) (front_ray f w)) b g r p on

  ahead_all : (p : Place) → ((w : List ℤ) → IsWindow ts out s w → IsAheadAt w p) → IsAhead (common_of fronts) apart p
  ahead_all p each =
      let (a0, has_a0) = some_back_ray in
      let (b0, has_b0) = some_front_ray in
      let at : (a b : List ℤ) → Contains backs a → Contains fronts b → IsAhead b (length (common_prefix a b)) p
      = rays_of_windows (λ a b. IsAhead b (length (common_prefix a b)) p) each in
      let (after, is) = common_of_greatest labels fronts (p.connect ++ (p.label ∷ [])) b0 has_b0
      (λ b has.
      let k = at a0 b has_a0 has in
      (k.after, k.letters ∙ sym (append_assoc p.connect (p.label ∷ []) k.after))) in
      record {
        after = after;
        letters = is ∙ append_assoc p.connect (p.label ∷ []) after;
        far = most_shared_least backs fronts (length p.connect) (λ a b has_a has_b. (at a b has_a has_b).far);
      }

  returning_all : (p : Place) → ((w : List ℤ) → IsWindow ts out s w → IsReturningAt w p)
      → IsReturning (common_of backs) apart p
  returning_all p each =
      let (a0, has_a0) = some_back_ray in
      let (b0, has_b0) = some_front_ray in
      let at : (a b : List ℤ) → Contains backs a → Contains fronts b → IsReturning a (length (common_prefix a b)) p
      = rays_of_windows (λ a b. IsReturning a (length (common_prefix a b)) p) each in
      let first = at a0 b0 has_a0 has_b0 in
      let (beyond, is) = common_of_greatest labels backs p.connect a0 has_a0
      (λ a has. let k = at a b0 has has_b0 in (k.beyond, k.letters)) in
      record {
        to = first.to;
        beyond = beyond;
        walk = first.walk;
        letters = is;
        far =
            most_shared_least backs fronts (length first.to)
            (λ a b has_a has_b.
            let k = at a b has_a has_b in
            let far = k.far in
            let long = length-append k.to (inverse p.label ∷ []) in
            let long_first = length-append first.to (inverse p.label ∷ []) in
            let same = ap length (sym k.walk ∙ first.walk) in
            omega (arith, far, long, long_first, same));
      }

  -- ---- the places

  is_common : (p : Place) → Contains (places_of_switch ts out f s) p → IsCommonPlace ts out f s p
  is_common p has =
      let (listed, switch) = filtered_contains (λ q. is_switch ts out q.label)
      (places_past apart (common_of backs) (common_of fronts)) p has in
      record {
        switch = switch;
        on_all = λ w window.
            let (b, g, r) = rays labels words f w in
            let h : List ℤ = common_prefix (back_ray f w) (front_ray f w) in
            elim (Contains-append_cases (places_back (take apart (common_of backs)) (drop apart (common_of backs)))
            (places_on (take apart (common_of fronts)) (drop apart (common_of fronts))) p listed) [
              | inl k ↦
                  line_from_returning labels words f w h b g r p
                  (returning_each p (listed_returning labels apart (common_of backs) p k) w window)
              | inr k ↦
                  line_from_ahead labels words f w h b g r p
                  (ahead_each p (listed_ahead apart (common_of fronts) p k) w window)
            ];
      }

  kinds : (p : Place) → ((w : List ℤ) → IsWindow ts out s w → IsOnLine f w p)
      → IsReturning (common_of backs) apart p ⊎ IsAhead (common_of fronts) apart p
  kinds p on_all =
      let (v, back) = some_back ts out labels words triangles turns s label in
      let (u, front) = some_front ts out labels words triangles turns s label in
      let w0 : List ℤ = inverse_word v ++ u in
      let window0 : IsWindow ts out s w0 = window_of ts out labels words triangles turns s label v u back front in
      elim (at_line w0 p (on_all w0 window0)) [
        | inl k ↦
            inl (returning_all p
            (λ w window.
            elim (at_line w p (on_all w window)) [
              | inl same ↦ same
              | inr other ↦
                  absurd (not_both labels words (back_ray f w0) (front_ray f w)
                  (length (common_prefix (back_ray f w0) (front_ray f w0)))
                  (length (common_prefix (back_ray f w) (front_ray f w))) p (front_ray_reduced words f w) k other)
            ]))
        | inr k ↦
            inr (ahead_all p
            (λ w window.
            elim (at_line w p (on_all w window)) [
              | inl other ↦
                  absurd (not_both labels words (back_ray f w) (front_ray f w0)
                  (length (common_prefix (back_ray f w) (front_ray f w)))
                  (length (common_prefix (back_ray f w0) (front_ray f w0))) p (front_ray_reduced words f w0) other k)
              | inr same ↦ same
            ]))
      ]

  common_listed : (p : Place) → IsCommonPlace ts out f s p → Contains (places_of_switch ts out f s) p
  common_listed p common =
      contains_filtered (λ q. is_switch ts out q.label) (places_past apart (common_of backs) (common_of fronts)) p
      (elim (kinds p common.on_all) [
        | inl k ↦
            Contains-append_left (places_back (take apart (common_of backs)) (drop apart (common_of backs)))
            (places_on (take apart (common_of fronts)) (drop apart (common_of fronts))) p
            (returning_listed labels apart (common_of backs) p k)
        | inr k ↦
            Contains-append_right (places_back (take apart (common_of backs)) (drop apart (common_of backs)))
            (places_on (take apart (common_of fronts)) (drop apart (common_of fronts))) p
            (ahead_listed apart (common_of fronts) p k)
      ])
      common.switch

  in_order : (w : List ℤ) → IsWindow ts out s w → AllPairs (IsBefore f w) (places_of_switch ts out f s)
  in_order w window =
      let (b, g, r) = rays labels words f w in
      let h : List ℤ = common_prefix (back_ray f w) (front_ray f w) in
      let xs : List Place = places_back (take apart (common_of backs)) (drop apart (common_of backs)) in
      let ys : List Place = places_on (take apart (common_of fronts)) (drop apart (common_of fronts)) in
      let xs_at : (p : Place) → Contains xs p → IsReturningAt w p
      = λ p has. returning_each p (listed_returning labels apart (common_of backs) p has) w window in
      let ys_at : (p : Place) → Contains ys p → IsAheadAt w p
      = λ p has. ahead_each p (listed_ahead apart (common_of fronts) p has) w window in
      AllPairs-filter (IsBefore f w) (λ q. is_switch ts out q.label) (xs ++ ys)
      (pairs_append (IsBefore f w) xs ys
      (pairs_imply IsEarlier (IsBefore f w) (IsReturningAt w) xs (before_returning labels words f w h b g r)
      (all_from_contains (IsReturningAt w) xs xs_at)
      (back_order labels (take apart (common_of backs)) (drop apart (common_of backs))))
      (pairs_imply IsLater (IsBefore f w) (IsAheadAt w) ys (before_ahead labels words f w h b g r)
      (all_from_contains (IsAheadAt w) ys ys_at)
      (on_order (take apart (common_of fronts)) (drop apart (common_of fronts))))
      (all_from_contains (λ p. All (IsBefore f w p) ys) xs
      (λ p has.
      all_from_contains (IsBefore f w p) ys
      (λ q has_q. before_across labels words f w h b g r p q (xs_at p has) (ys_at q has_q)))))

  pub are_places : ArePlaces ts out f s (places_of_switch ts out f s)
  are_places = record { all = λ p. (is_common p, common_listed p); order = in_order }
