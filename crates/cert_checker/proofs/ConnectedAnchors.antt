-- Anchors of the switches connect them.
use Rattle.std.proofs.Common.{ℕ, ℤ, pos, List, [], ◌≡◌, ◌<◌, sym, ◌∙◌, ap, subst, arith, length, map, get_or}
use Rattle.std.proofs.lemmas.List.{get_or-map, length-map}
use Rattle.ideal_tri.specs.Triangulations.{IsLabel, IsWalk, triangle_of}
use Rattle.ideal_tri.specs.Words.{IsReduced}
use Rattle.train_track.specs.Branches.{letter_at}
use Rattle.train_track.specs.Tracks.{is_switch, switches_of}
use Rattle.carry_map.specs.AnchorLaws.{AreConnected}
use Rattle.cert_text.specs.Certificates.{Anchored, CarriedTrack}
use Rattle.cert_text.specs.PseudoAnosov.{carrying_of}
use Rattle.cert_checker.specs.TrackRules.{IsAnchorOf, anchor_at}
use Rattle.cert_checker.specs.inside.TrackParts.{AreAnchors}

pub anchors_connected : (ts : List (List ℤ)) (out : List ℤ) (triangles : ℕ → ℕ) (c : CarriedTrack)
    → AreAnchors ts out triangles c.anchors → AreConnected ts out triangles (carrying_of c)
anchors_connected ts out triangles c are = record {
  one_label_each = length-map c.anchors label ∙ are.one_each;
  one_walk_each = length-map c.anchors walk ∙ are.one_each;
  labels = λ i less. subst (IsLabel ts) (sym (to_at i less)) (each i less).label;
  switches = λ i less. ap (is_switch ts out) (to_at i less) ∙ (each i less).to_switch;
  walks =
      λ i less. subst (λ (y : ℤ). IsWalk ts (start i) (get_or (map walk c.anchors) i []) (triangle_of ts y))
      (sym (to_at i less))
      (subst (λ (w : List ℤ). IsWalk ts (start i) w (triangle_of ts (anchor_at c.anchors i).to))
      (sym (by_at i less)) (each i less).walk);
  reduced = λ i less. subst IsReduced (sym (by_at i less)) (each i less).reduced;
}
  where
    label : Anchored → ℤ
    label a = a.to

    walk : Anchored → List ℤ
    walk a = a.connect

    start : ℕ → ℕ
    start i = triangles (triangle_of ts (letter_at (switches_of ts out) i))

    none : Anchored
    none = record { switch = pos 0; to = pos 0; connect = [] }

    within : (i : ℕ) → i < length (map label c.anchors) → i < length c.anchors
    within i less = omega (arith, length-map c.anchors label)

    each : (i : ℕ) → i < length (map label c.anchors)
        → IsAnchorOf ts out triangles (letter_at (switches_of ts out) i) (anchor_at c.anchors i)
    each i less = are.all i (within i less)

    to_at : (i : ℕ) → i < length (map label c.anchors)
        → get_or (map label c.anchors) i (pos 0) ≡ (anchor_at c.anchors i).to
    to_at i less = get_or-map label c.anchors i none (pos 0) (within i less)

    by_at : (i : ℕ) → i < length (map label c.anchors)
        → get_or (map walk c.anchors) i [] ≡ (anchor_at c.anchors i).connect
    by_at i less = get_or-map walk c.anchors i none [] (within i less)
