-- Switches and anchors read at one place of their lists.
use Rattle.std.proofs.Common.{ℕ, ℤ, pos, List, [], ◌≡◌, ◌<◌, sym, ◌∙◌, ap, subst, arith, length, min, get_or}
use Rattle.std.proofs.lemmas.List.{get_or-map, get_or_default}
use Rattle.ideal_tri.specs.Triangulations.{IsLabel}
use Rattle.train_track.specs.Branches.{letter_at}
use Rattle.train_track.specs.Tracks.{switches_of}
use Rattle.cert_text.specs.Certificates.{anchor_seen, anchors_seen}
use Rattle.cert_text.specs.declared.carried_track.Anchor.{Anchor}
use Rattle.cert_checker.specs.TrackRules.{IsAnchorAt, IsAnchorOf, anchor_at}
use Rattle.cert_checker.proofs.SwitchLabels.{switch_label}

-- how many tests there are
pub as_many : (n a b a' b' : ℕ) → n ≡ min a b → a' ≡ a → b ≡ b' → n ≡ min a' b'
as_many n a b a' b' e ea eb = omega arith

module _ (ts : List (List ℤ)) (out switches : List ℤ) (anchors : List Anchor) (i n : ℕ) (s : ℤ) (a : Anchor)
    (listed : switches ≡ switches_of ts out) (count : n ≡ min (length anchors) (length switches)) (less : i < n)
    (s_is : s ≡ get_or switches i s) where
  switch_is : s ≡ letter_at (switches_of ts out) i
  switch_is =
      s_is ∙ ap (λ (xs : List ℤ). get_or xs i s) listed
      ∙ get_or_default (switches_of ts out) i s (pos 0)
      (subst (λ (xs : List ℤ). i < length xs) listed (let below : i < length switches = omega arith in below))

  pub label_is : IsLabel ts s
  label_is =
      subst (IsLabel ts) (sym switch_is)
      (switch_label ts out i
      (subst (λ (xs : List ℤ). i < length xs) listed (let below : i < length switches = omega arith in below)))

  module _ (triangles : ℕ → ℕ) (a_is : a ≡ get_or anchors i a) where
    anchor_is : anchor_seen a ≡ anchor_at (anchors_seen anchors) i
    anchor_is =
        ap anchor_seen a_is
        ∙ sym (get_or-map anchor_seen anchors i a (record { switch = pos 0; to = pos 0; connect = [] })
        (let below : i < length anchors = omega arith in below))

    pub anchor_passes : IsAnchorOf ts out triangles s (anchor_seen a)
        → IsAnchorAt ts out triangles (anchors_seen anchors) i
    anchor_passes h =
        subst (λ (x : ℤ). IsAnchorOf ts out triangles x (anchor_at (anchors_seen anchors) i)) switch_is
        (subst (IsAnchorOf ts out triangles s) anchor_is h)

    pub anchor_passed : IsAnchorAt ts out triangles (anchors_seen anchors) i
        → IsAnchorOf ts out triangles s (anchor_seen a)
    anchor_passed h =
        subst (IsAnchorOf ts out triangles s) (sym anchor_is)
        (subst (λ (x : ℤ). IsAnchorOf ts out triangles x (anchor_at (anchors_seen anchors) i)) (sym switch_is) h)
