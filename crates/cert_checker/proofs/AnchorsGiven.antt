-- The lists of switches, labels and walks that a list of anchors gives.
use Rattle.std.proofs.Common.{◌≡◌, ◌<◌, ℕ, ℤ, pos, List, [], ◌∙◌, arith, length, map, slice_index_or}
use Rattle.std.proofs.lemmas.List.{ext_get_or, get_or-map, length-map}
use Rattle.train_track.specs.Branches.{letter_at}
use Rattle.train_track.specs.Tracks.{switches_of}
use Rattle.cert_text.specs.Certificates.{Anchored}
use Rattle.cert_checker.specs.TrackRules.{anchor_at}
use Rattle.cert_checker.specs.inside.TrackParts.{AreAnchors}

module _ (anchors : List Anchored) where
  pub one_label_each : length (map (λ a. a.to) anchors) ≡ length anchors
  one_label_each = length-map anchors (λ (a : Anchored). a.to)

  pub one_walk_each : length (map (λ a. a.connect) anchors) ≡ length anchors
  one_walk_each = length-map anchors (λ (a : Anchored). a.connect)

  pub one_switch_each : length (map (λ a. a.switch) anchors) ≡ length anchors
  one_switch_each = length-map anchors (λ (a : Anchored). a.switch)

  module _ (i : ℕ) (within : i < length anchors) where
    pub switch_at : letter_at (map (λ a. a.switch) anchors) i ≡ (anchor_at anchors i).switch
    switch_at =
        get_or-map (λ (a : Anchored). a.switch) anchors i (record { switch = pos 0; to = pos 0; connect = [] }) (pos 0)
        within

    pub label_at : letter_at (map (λ a. a.to) anchors) i ≡ (anchor_at anchors i).to
    label_at =
        get_or-map (λ (a : Anchored). a.to) anchors i (record { switch = pos 0; to = pos 0; connect = [] }) (pos 0)
        within

    pub walk_at : slice_index_or (map (λ a. a.connect) anchors) i [] ≡ (anchor_at anchors i).connect
    walk_at =
        get_or-map (λ (a : Anchored). a.connect) anchors i (record { switch = pos 0; to = pos 0; connect = [] }) []
        within

-- anchors that pass the tests name the switches in their order
pub switches_named : (triples : List (List ℤ)) (left_out : List ℤ) (triangles : ℕ → ℕ) (anchors : List Anchored)
    → AreAnchors triples left_out triangles anchors → map (λ a. a.switch) anchors ≡ switches_of triples left_out
switches_named triples left_out triangles anchors h =
    ext_get_or (pos 0) (map (λ (a : Anchored). a.switch) anchors) (switches_of triples left_out)
    (one_switch_each anchors ∙ h.one_each)
    (λ i within.
    (let inside : i < length anchors = omega (arith, one_switch_each anchors) in
    switch_at anchors i inside ∙ (h.all i inside).named))
