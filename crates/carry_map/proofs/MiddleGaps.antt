-- How many letters of switches lie between the first place and the last along the image of a branch.
--
-- The walk that is computed is the one between the first place of the branch's first letter and the last place of its
-- last. It leads from where the former starts to the end of the latter, so its letters are labels; and of a label it
-- can be seen in the list of switches whether it is one of a switch.
use Rattle.std.proofs.Common.{◌≡◌, ℕ, ℤ, pos, negsuc, List, length, sym, ◌∙◌, ap}
use Rattle.std.specs.List.{All, filter}
use Rattle.std.proofs.lemmas.List.{length-map}
use Rattle.ideal_tri.specs.Labels.{inverse}
use Rattle.ideal_tri.specs.LabelLaws.{LabelLaws}
use Rattle.ideal_tri.specs.SurfaceLaws.{SurfaceLaws}
use Rattle.ideal_tri.specs.Triangulations.{IsTriangulation, IsLabel, triangle_of}
use Rattle.tri_atlas.specs.MapLaws.{MapLaws}
use Rattle.tri_atlas.specs.Maps.{IsMap}
use Rattle.train_track.specs.Tracks.{is_switch, switches_of}
use Rattle.train_track.specs.Branches.{IsBranch, letter_at}
use Rattle.carry_map.specs.Anchors.{Place}
use Rattle.carry_map.specs.AnchorAnswers.{carrying_by}
use Rattle.carry_map.specs.AnchorLaws.{AreConnected}
use Rattle.carry_map.specs.CarriedMaps.{goes_to, final}
use Rattle.carry_map.specs.MiddleAnchors.{switches_between}
use Rattle.carry_map.specs.inside.Rays.{is_listed}
use Rattle.carry_map.specs.inside.Steps.{AreFirsts, AreLasts, by_sign}
use Rattle.carry_map.specs.inside.Switches.{walk_from_to}
use Rattle.carry_map.proofs.ListedSwitches.{listed_letters}
use Rattle.carry_map.proofs.PickedPlaces.{between_ends}
use Rattle.carry_map.proofs.SwitchNumbers.{switch_first}
use Rattle.carry_map.proofs.SwitchWalks.{walk_leads, first_switch, last_switch}

-- one place for each switch
pub as_many_connected : (ts : List (List ℤ)) (out : List ℤ) (triangles : ℕ → ℕ) (picked : List Place)
    → AreConnected ts out triangles (carrying_by picked) → length picked ≡ length (switches_of ts out)
as_many_connected ts out triangles picked connected =
    sym (length-map picked (λ (p : Place). p.label)) ∙ connected.one_label_each

-- what holds of both lists holds of the one for a label
pub of_sign : (P : List Place → Type 0) (x : ℤ) (on back : List Place) → P on → P back → P (by_sign x on back)
of_sign P (pos n) on back h k = h
of_sign P (negsuc n) on back h k = k

module _ (labels : LabelLaws) (surface : SurfaceLaws) (maps : MapLaws) (ts : List (List ℤ)) (tri : IsTriangulation ts)
    (out : List ℤ) (f : ℤ → List ℤ) (triangles : ℕ → ℕ) (map : IsMap ts ts f triangles) (firsts lasts : List Place)
    (here : AreConnected ts out triangles (carrying_by firsts))
    (there : AreConnected ts out triangles (carrying_by lasts)) (b : List ℤ) (is : IsBranch ts out b) where
  abbrev switches : List ℤ
  switches = switches_of ts out

  abbrev from : List Place
  from = by_sign (letter_at b 0) firsts lasts

  abbrev to : List Place
  to = by_sign (final b) lasts firsts

  abbrev walk : List ℤ
  walk = walk_from_to switches f (carrying_by from) (carrying_by to) b

  walk_labels : All (IsLabel ts) walk
  walk_labels =
      surface.letters ts (triangle_of ts (goes_to switches (carrying_by from) (letter_at b 0)))
      (triangle_of ts (inverse (goes_to switches (carrying_by to) (final b)))) walk
      (walk_leads labels ts (surface.walks ts tri) out f triangles (carrying_by from) (carrying_by to) map
      (of_sign (λ ps. AreConnected ts out triangles (carrying_by ps)) (letter_at b 0) firsts lasts here there)
      (of_sign (λ ps. AreConnected ts out triangles (carrying_by ps)) (final b) lasts firsts there here) maps.walks tri
      b is)

  pub gap_is : (all : List (List Place)) → AreFirsts all firsts → AreLasts all lasts → (xs : List ℤ) → xs ≡ switches
      → (x y : ℤ) → x ≡ letter_at b 0 → y ≡ final b → (begin end : List Place) → begin ≡ by_sign x firsts lasts
      → end ≡ by_sign y lasts firsts → (v w : List ℤ)
      → v ≡ walk_from_to switches f (carrying_by begin) (carrying_by end) b → w ≡ v → (n : ℕ)
      → n ≡ length (filter (is_listed xs) w) → n ≡ switches_between ts out f all b
  gap_is all first last xs exs x y ex ey begin end ebegin eend v w ev ew n en =
      let (i, at) = switch_first labels ts out (letter_at b 0) (first_switch ts out b is) in
      let (j, on) = switch_first labels ts out (final b) (last_switch ts out b is) in
      let start : begin ≡ from = ebegin ∙ ap (λ (z : ℤ). by_sign z firsts lasts) ex in
      let stop : end ≡ to = eend ∙ ap (λ (z : ℤ). by_sign z lasts firsts) ey in
      let word : w ≡ walk =
      ew ∙ ev ∙ ap (λ (ps : List Place). walk_from_to switches f (carrying_by ps) (carrying_by end) b) start
      ∙ ap (λ (ps : List Place). walk_from_to switches f (carrying_by from) (carrying_by ps) b) stop in
      en
      ∙ ap (λ (zs : List ℤ). length (filter (is_listed zs) w)) exs
      ∙ ap (λ (u : List ℤ). length (filter (is_listed switches) u)) word
      ∙ ap (λ (u : List ℤ). length u) (listed_letters ts out labels walk walk_labels)
      ∙ ap (λ (u : List ℤ). length (filter (is_switch ts out) u))
      (between_ends labels switches f all (sym first.one_each ∙ as_many_connected ts out triangles firsts here) firsts
      lasts first last b i j at on)
