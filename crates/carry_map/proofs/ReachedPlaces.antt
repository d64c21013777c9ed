-- Places that are read off rays are reached from where the rays begin.
--
-- The ways back from where s starts, and on from there, are walks, since a legal pair meets in a triangle. So the rays
-- are walks, and so is a part of a ray: the walk of a place is a prefix of a ray. Ahead on a ray the letter of the
-- place comes next, so it starts where the walk ends; returning on a ray the walk ends with its inverse.
use Rattle.std.proofs.Common.{ℕ, ℤ, List, [], ◌∷◌, ◌++◌, ◌≡◌, inl, inr, refl, sym, ◌∙◌, ap}
use Rattle.std.proofs.Common.{subst}
use Rattle.std.specs.Prelude.{take, drop}
use Rattle.std.specs.List.{All, Contains, flat_map}
use Rattle.std.proofs.lemmas.List.Elements.{All-head, All-tail, All-contains, Contains-append_cases}
use Rattle.ideal_tri.specs.LabelLaws.{LabelLaws}
use Rattle.ideal_tri.specs.WordLaws.{WordLaws}
use Rattle.ideal_tri.specs.SurfaceLaws.{TriangleLaws}
use Rattle.ideal_tri.specs.Labels.{inverse}
use Rattle.ideal_tri.specs.Words.{IsReduced}
use Rattle.ideal_tri.specs.Triangulations.{IsLabel, IsWalk, triangle_of}
use Rattle.free_groupoid.specs.Walks.{DualWalk, IsWalkOn}
use Rattle.free_groupoid.specs.GroupoidMaps.{reduced_image}
use Rattle.train_track.specs.Tracks.{IsLegal, IsLegalPair, is_switch, switches_of}
use Rattle.train_track.specs.Branches.{words_of}
use Rattle.carry_map.specs.Anchors.{Place}
use Rattle.carry_map.specs.AnchorAnswers.{IsReachedFrom}
use Rattle.carry_map.specs.inside.Rays.{back_words, front_words, places_past, places_back, places_on, common_of}
use Rattle.carry_map.specs.inside.Rays.{at_switches, at_listed}
use Rattle.carry_map.specs.inside.Rays.{AreRaysFrom}
use Rattle.carry_map.proofs.ElementsAndPairs.{filtered_contains, all_from_contains, map_contains, contains_here}
use Rattle.carry_map.proofs.CommonPrefixes.{Begins, common_of_each}
use Rattle.carry_map.proofs.ListedSwitches.{listed_at_switches}
use Rattle.carry_map.proofs.Lines.{IsAhead, IsReturning}
use Rattle.carry_map.proofs.LegalWalks.{listed_onward}
use Rattle.carry_map.proofs.PlaceLists.{listed_ahead, listed_returning}
use Rattle.carry_map.proofs.RaysUnderWay.{walk_from}

-- ---- the words are walks

module _ (ts : List (List ℤ)) (out : List ℤ) (labels : LabelLaws) (triangles : TriangleLaws ts) where
  meets : (u v : ℤ) → IsLabel ts u → IsLabel ts v → IsLegalPair ts out u v
      → triangle_of ts v ≡ triangle_of ts (inverse u)
  meets u v l k pair = elim pair.used [
    | inl (is, corner) ↦ ap (triangle_of ts) is ∙ triangles.stays (inverse u) (labels.label ts u l)
    | inr (is, corner) ↦ sym (triangles.stays v k) ∙ ap (triangle_of ts) (sym is)
  ]

  legal_walk : (u : ℤ) (r : List ℤ) → IsLabel ts u → All (IsLabel ts) r → IsLegal ts out (u ∷ r)
      → (t : ℕ) × IsWalk ts (triangle_of ts (inverse u)) r t
  legal_walk u [] l are legal = (triangle_of ts (inverse u), refl)
  legal_walk u (x ∷ r) l are legal =
      let k : IsLabel ts x = All-head (IsLabel ts) x r are in
      let (t, walk) = legal_walk x r k (All-tail (IsLabel ts) x r are) legal.1 in
      (t, (k, meets u x l k legal.0, walk))

  module _ (s : ℤ) (label : IsLabel ts s) where
    pub back_words_walk : All (λ w. IsWalkOn ts (walk_from (triangle_of ts s) w)) (back_words ts out s)
    back_words_walk =
        all_from_contains (λ w. IsWalkOn ts (walk_from (triangle_of ts s) w)) (back_words ts out s)
        (λ w has.
        let on = listed_onward ts out labels triangles (inverse s) (labels.label ts s label) [] (λ r. refl) w has in
        let (t, walk) = legal_walk (inverse s) on.rest (labels.label ts s label) on.labels on.legal in
        record {
          start_in = triangles.triangle s label;
          end = t;
          leads =
              subst (λ (k : List ℤ). IsWalk ts (triangle_of ts s) k t) (sym on.letters)
              (subst (λ (z : ℤ). IsWalk ts (triangle_of ts z) on.rest t) (labels.twice s) walk);
        })

    pub front_words_walk : All (λ w. IsWalkOn ts (walk_from (triangle_of ts s) w)) (front_words ts out s)
    front_words_walk =
        all_from_contains (λ w. IsWalkOn ts (walk_from (triangle_of ts s) w)) (front_words ts out s)
        (λ w has.
        let on = listed_onward ts out labels triangles s label (s ∷ []) (λ r. refl) w has in
        let (t, walk) = legal_walk s on.rest label on.labels on.legal in
        record {
          start_in = triangles.triangle s label;
          end = t;
          leads = subst (λ (k : List ℤ). IsWalk ts (triangle_of ts s) k t) (sym on.letters) (label, refl, walk);
        })

-- ---- parts of walks

walk_parts : (ts : List (List ℤ)) (s : ℕ) (u v : List ℤ) (t : ℕ) → IsWalk ts s (u ++ v) t
    → (m : ℕ) × IsWalk ts s u m × IsWalk ts m v t
walk_parts ts s [] v t h = (s, refl, h)
walk_parts ts s (x ∷ u) v t h =
    let (m, first, second) = walk_parts ts (triangle_of ts (inverse x)) u v t h.2 in
    (m, (h.0, h.1, first), second)

-- a word that is reduced, and a walk from this triangle
pub record IsRay (ts : List (List ℤ)) (start : ℕ) (w : List ℤ) : Type 0 where
  pub reduced : IsReduced w
  pub end : ℕ
  pub walk : IsWalk ts start w end

module _ (ts : List (List ℤ)) (out : List ℤ) (labels : LabelLaws) (words : WordLaws) (start : ℕ) where
  -- what is claimed of a place, but for its edge
  record IsReached (p : Place) : Type 0 where
    label : IsLabel ts p.label
    walk : IsWalk ts start p.connect (triangle_of ts p.label)
    reduced : IsReduced p.connect

  begun : (w c : List ℤ) → IsRay ts start w → Begins w c → IsRay ts start c
  begun w c ray (rest, is) =
      let (m, first, second) = walk_parts ts start c rest ray.end
      (subst (λ (k : List ℤ). IsWalk ts start k ray.end) is ray.walk) in
      record { reduced = words.reduction.front c rest (subst IsReduced is ray.reduced); end = m; walk = first }

  ahead_reached : (w : List ℤ) (n : ℕ) (p : Place) → IsRay ts start w → IsAhead w n p → IsReached p
  ahead_reached w n p ray k =
      let (m, first, second) = walk_parts ts start p.connect (p.label ∷ k.after) ray.end
      (subst (λ (v : List ℤ). IsWalk ts start v ray.end) k.letters ray.walk) in
      record {
        label = second.0;
        walk = subst (IsWalk ts start p.connect) (sym second.1) first;
        reduced = words.reduction.front p.connect (p.label ∷ k.after) (subst IsReduced k.letters ray.reduced);
      }

  returning_reached : (w : List ℤ) (n : ℕ) (p : Place) → IsRay ts start w → IsReturning w n p → IsReached p
  returning_reached w n p ray k =
      let part = begun w p.connect ray (k.beyond, k.letters) in
      let (m, first, second) = walk_parts ts start k.to (inverse p.label ∷ []) part.end
      (subst (λ (v : List ℤ). IsWalk ts start v part.end) k.walk part.walk) in
      let end : part.end ≡ triangle_of ts p.label
      = sym second.2 ∙ ap (triangle_of ts) (labels.twice p.label) in
      record {
        label = subst (IsLabel ts) (labels.twice p.label) (labels.label ts (inverse p.label) second.0);
        walk = subst (IsWalk ts start p.connect) end part.walk;
        reduced = part.reduced;
      }

  common_ray : (rays : List (List ℤ)) → ((w : List ℤ) → Contains rays w → IsRay ts start w)
      → IsRay ts start (common_of rays)
  common_ray [] h = record { reduced = tt; end = start; walk = refl }
  common_ray (w ∷ rays) h =
      begun w (common_of (w ∷ rays)) (h w (contains_here w rays))
      (common_of_each labels (w ∷ rays) w (contains_here w rays))

  past_reached : (n : ℕ) (back front : List ℤ) → IsRay ts start back → IsRay ts start front → (p : Place)
      → Contains (places_past n back front) p → IsReached p
  past_reached n back front b g p has =
      elim (Contains-append_cases (places_back (take n back) (drop n back)) (places_on (take n front) (drop n front)) p
      has) [
        | inl k ↦ returning_reached back n p b (listed_returning labels n back p k)
        | inr k ↦ ahead_reached front n p g (listed_ahead n front p k)
      ]

  module _ (backs fronts : List (List ℤ)) (all_back : (w : List ℤ) → Contains backs w → IsRay ts start w)
      (all_front : (w : List ℤ) → Contains fronts w → IsRay ts start w) (n : ℕ) where
    all_reached : (p : Place) → Contains (places_past n (common_of backs) (common_of fronts)) p → IsReached p
    all_reached p has =
        past_reached n (common_of backs) (common_of fronts) (common_ray backs all_back) (common_ray fronts all_front) p
        has

    -- the places at the listed switches are those at switches, and they are reached
    pub found_places : at_listed (switches_of ts out) (places_past n (common_of backs) (common_of fronts))
        ≡ at_switches ts out (places_past n (common_of backs) (common_of fronts))
    found_places =
        listed_at_switches ts out labels (places_past n (common_of backs) (common_of fronts))
        (λ p has. (all_reached p has).label)

    pub found_reached : All (IsReachedFrom ts out start)
        (at_switches ts out (places_past n (common_of backs) (common_of fronts)))
    found_reached =
        all_from_contains (IsReachedFrom ts out start)
        (at_switches ts out (places_past n (common_of backs) (common_of fronts)))
        (λ p has.
        let (listed, switch) = filtered_contains (λ q. is_switch ts out q.label)
        (places_past n (common_of backs) (common_of fronts)) p has in
        let r = all_reached p listed in
        record { label = r.label; switch = switch; walk = r.walk; reduced = r.reduced })

  -- the rays that were made
  pub made_rays : (f : ℤ → List ℤ) (ws : List (List ℤ)) (rays : List DualWalk) → AreRaysFrom ts f start ws rays
      → (w : List ℤ) → Contains (words_of rays) w → IsRay ts start w
  made_rays f ws rays made w has =
      let (ray, has_ray, letters) = map_contains (λ (v : DualWalk). v.letters) rays w has in
      let (x, has_x, image) = map_contains (reduced_image f) ws w
      (subst (λ (k : List (List ℤ)). Contains k w) made.value has) in
      let on : IsWalkOn ts ray = All-contains (IsWalkOn ts) rays ray made.walks has_ray in
      let here : ray.start ≡ start = All-contains (λ (v : DualWalk). v.start ≡ start) rays ray made.starts has_ray in
      record {
        reduced = subst IsReduced image (words.reduction.is_reduced (flat_map f x));
        end = on.end;
        walk =
            subst (λ (k : List ℤ). IsWalk ts start k on.end) letters
            (subst (λ (m : ℕ). IsWalk ts m ray.letters on.end) here on.leads);
      }
