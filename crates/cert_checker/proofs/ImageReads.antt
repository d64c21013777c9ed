-- Branches and images read at one place of their lists.
use Rattle.std.proofs.Common.{ℕ, ℤ, List, [], Vec, ◌≡◌, ◌<◌, sym, ◌∙◌, ap, subst, arith, length, min, get_or}
use Rattle.std.specs.Global.{Global}
use Rattle.std.proofs.lemmas.List.{get_or-map, length-map}
use Rattle.free_groupoid.specs.Walks.{DualWalk}
use Rattle.train_track.specs.Branches.{IsBranch, IsTrackOn, TrainTrack, words_of}
use Rattle.carry_map.specs.CarriedMaps.{IsTrainPath}
use Rattle.cert_text.specs.Certificates.{track_seen, walks_of}
use Rattle.cert_text.specs.PseudoAnosov.{carrying_of}
use Rattle.cert_text.specs.declared.carried_track.Pa.{Pa}
use Rattle.cert_checker.specs.inside.TrackParts.{IsImageOf}
use Rattle.cert_checker.proofs.AnchorReads.{as_many}
use Rattle.cert_checker.proofs.WalkReading.{walk_count}

pub branch_count : (found branches : List DualWalk) → found ≡ branches → length found ≡ length (words_of branches)
branch_count found branches listed =
    ap (λ (ws : List DualWalk). length ws) listed ∙ sym (length-map branches (λ (w : DualWalk). w.letters))

module _ (ts : List (List ℤ)) (track : TrainTrack) (c : Pa) (found : List DualWalk) (n k : ℕ)
    (listed : found ≡ track.branches) (long : k ≡ length c.images.items) (count : n ≡ min k (length found)) where
  -- how many tests there are
  pub tests : n ≡ min (length (walks_of c.images.items)) (length (words_of track.branches))
  tests =
      as_many n k (length found) (length (walks_of c.images.items)) (length (words_of track.branches)) count
      (walk_count c.images.items ∙ sym long) (branch_count found track.branches listed)

  module _ (j : ℕ) (w : DualWalk) (u : Vec ℤ Global) (b v : List ℤ) (less : j < n) (w_is : w ≡ get_or found j w)
      (b_is : b ≡ w.letters) where
    within : j < length track.branches
    within =
        subst (λ (ws : List DualWalk). j < length ws) listed (let below : j < length found = omega arith in below)

    branch_is : b ≡ get_or (words_of track.branches) j []
    branch_is =
        b_is ∙ ap (λ (x : DualWalk). x.letters) (w_is ∙ ap (λ (ws : List DualWalk). get_or ws j w) listed)
        ∙ sym (get_or-map (λ (x : DualWalk). x.letters) track.branches j w [] within)

    pub is_branch : IsTrackOn ts track → IsBranch ts track.left_out b
    is_branch on =
        subst (IsBranch ts track.left_out) (sym branch_is)
        (on.branches.branch j [] (omega (arith, within, length-map track.branches (λ (x : DualWalk). x.letters))))

    module _ (f : ℤ → List ℤ) (u_is : u ≡ get_or c.images.items j u) (v_is : v ≡ u.items) where
      image_is : v ≡ get_or (walks_of c.images.items) j []
      image_is =
          v_is ∙ ap (λ (x : Vec ℤ Global). x.items) u_is
          ∙ sym (get_or-map (λ (x : Vec ℤ Global). x.items) c.images.items j u []
          (let below : j < length c.images.items = omega arith in below))

      pub image_passes : IsTrainPath ts track.left_out f (carrying_of (track_seen c)) b v
          → IsImageOf ts track.left_out f (track_seen c) (words_of track.branches) j
      image_passes h =
          subst (IsTrainPath ts track.left_out f (carrying_of (track_seen c)) (get_or (words_of track.branches) j []))
          image_is
          (subst (λ (x : List ℤ). IsTrainPath ts track.left_out f (carrying_of (track_seen c)) x v) branch_is h)

      pub image_passed : IsImageOf ts track.left_out f (track_seen c) (words_of track.branches) j
          → IsTrainPath ts track.left_out f (carrying_of (track_seen c)) b v
      image_passed h =
          subst (λ (x : List ℤ). IsTrainPath ts track.left_out f (carrying_of (track_seen c)) x v) (sym branch_is)
          (subst (IsTrainPath ts track.left_out f (carrying_of (track_seen c)) (get_or (words_of track.branches) j []))
          (sym image_is) h)
