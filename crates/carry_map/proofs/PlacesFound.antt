-- The places that are read off the rays of a switch are its places, and reached from where the rays begin.
use Rattle.std.proofs.Common.{ℕ, ℤ, List, ◌≡◌, sym, ◌∙◌, ap, subst, map}
use Rattle.std.specs.List.{All}
use Rattle.ideal_tri.specs.LabelLaws.{LabelLaws}
use Rattle.ideal_tri.specs.WordLaws.{WordLaws}
use Rattle.ideal_tri.specs.SurfaceLaws.{TriangleLaws}
use Rattle.ideal_tri.specs.Triangulations.{IsLabel}
use Rattle.free_groupoid.specs.Walks.{DualWalk, IsWalkOn}
use Rattle.free_groupoid.specs.GroupoidMaps.{reduced_image}
use Rattle.train_track.specs.TrackLaws.{TurnLaws}
use Rattle.train_track.specs.Tracks.{switches_of}
use Rattle.train_track.specs.Branches.{words_of}
use Rattle.carry_map.specs.Anchors.{Place, ArePlaces}
use Rattle.carry_map.specs.AnchorAnswers.{IsReachedFrom}
use Rattle.carry_map.specs.inside.Rays.{AreRaysFrom, back_words, front_words, common_of, most_shared, places_past}
use Rattle.carry_map.specs.inside.Rays.{at_listed, places_of}
use Rattle.carry_map.proofs.RayPlaces.{are_places}
use Rattle.carry_map.proofs.ReachedPlaces.{made_rays, found_places, found_reached}
use Rattle.carry_map.proofs.RaysUnderWay.{walk_from}

-- ---- the same, where what is given is equal to what is meant

pub given_walks : (ts given : List (List ℤ)) (start t : ℕ) (ws vs : List (List ℤ)) → given ≡ ts → start ≡ t → ws ≡ vs
    → All (λ w. IsWalkOn ts (walk_from t w)) vs → All (λ w. IsWalkOn given (walk_from start w)) ws
given_walks ts given start t ws vs e starts words walks =
    subst (λ (k : List (List ℤ)). All (λ w. IsWalkOn k (walk_from start w)) ws) (sym e)
    (subst (λ (m : ℕ). All (λ w. IsWalkOn ts (walk_from m w)) ws) (sym starts)
    (subst (All (λ w. IsWalkOn ts (walk_from t w))) (sym words) walks))

pub given_rays : (ts given : List (List ℤ)) (f : ℤ → List ℤ) (i j : ℕ) (ws vs : List (List ℤ)) (rays : List DualWalk)
    → given ≡ ts → i ≡ j → ws ≡ vs → words_of rays ≡ map (reduced_image f) ws → All (λ w. w.start ≡ i) rays
    → All (IsWalkOn given) rays → AreRaysFrom ts f j vs rays
given_rays ts given f i j ws vs rays e starts words value all_start walks = record {
  value = value ∙ ap (map (reduced_image f)) words;
  starts = subst (λ (m : ℕ). All (λ w. w.start ≡ m) rays) starts all_start;
  walks = subst (λ (k : List (List ℤ)). All (IsWalkOn k) rays) e walks;
}

-- ---- the places

module _ (ts : List (List ℤ)) (out : List ℤ) (labels : LabelLaws) (words : WordLaws) (triangles : TriangleLaws ts)
    (turns : TurnLaws ts out) (f : ℤ → List ℤ) (s : ℤ) (label : IsLabel ts s) (start : ℕ) (backs fronts : List DualWalk)
    (back : AreRaysFrom ts f start (back_words ts out s) backs)
    (front : AreRaysFrom ts f start (front_words ts out s) fronts) (switches : List ℤ) (found : List Place)
    (listed : switches ≡ switches_of ts out)
    (is : found ≡ at_listed switches (places_past (most_shared (words_of backs) (words_of fronts))
    (common_of (words_of backs)) (common_of (words_of fronts)))) where
  found_is : found ≡ places_of ts out (words_of backs) (words_of fronts)
  found_is =
      is
      ∙ ap (λ (k : List ℤ). at_listed k (places_past (most_shared (words_of backs) (words_of fronts))
      (common_of (words_of backs)) (common_of (words_of fronts)))) listed
      ∙ found_places ts out labels words start (words_of backs) (words_of fronts)
      (made_rays ts out labels words start f (back_words ts out s) backs back)
      (made_rays ts out labels words start f (front_words ts out s) fronts front)
      (most_shared (words_of backs) (words_of fronts))

  pub places_found : ArePlaces ts out f s found
  places_found =
      subst (ArePlaces ts out f s)
      (sym (found_is ∙ ap (λ (k : List (List ℤ)). places_of ts out k (words_of fronts)) back.value
      ∙ ap (places_of ts out (map (reduced_image f) (back_words ts out s))) front.value))
      (are_places ts out labels words triangles turns f s label)

  pub places_reached : All (IsReachedFrom ts out start) found
  places_reached =
      subst (All (IsReachedFrom ts out start)) (sym found_is)
      (found_reached ts out labels words start (words_of backs) (words_of fronts)
      (made_rays ts out labels words start f (back_words ts out s) backs back)
      (made_rays ts out labels words start f (front_words ts out s) fronts front)
      (most_shared (words_of backs) (words_of fronts)))
