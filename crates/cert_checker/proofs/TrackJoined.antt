-- What the rules 12 to 18 find, put together, for the track of a certificate and the map of its path in an arena: where
-- all pass, the certificate holds; and where one fails first, it is refused so.
--
-- The track lies on the certificate's triangulation and leaves out its corners, so what holds there holds here. The map
-- in the arena agrees on the labels with the map of the path, so a branch has the same train path for the two.
use Rattle.std.proofs.Common.{◌<◌, ℕ, ℤ, List, [], sym, subst, arith, length, min, slice_index_or}
use Rattle.ideal_tri.specs.Triangulations.{IsTriangulation}
use Rattle.tri_atlas.specs.Arena.{Arena, triangulation}
use Rattle.tri_atlas.specs.Maps.{path_map}
use Rattle.tri_atlas.specs.Moves.{Move}
use Rattle.free_groupoid.specs.GroupoidMaps.{substitution, vertex_image}
use Rattle.train_track.specs.Branches.{IsTrackOn, TrainTrack, words_of}
use Rattle.train_track.specs.TrackLaws.{TrackLaws}
use Rattle.carry_map.specs.AgreementLaws.{AgreeOn, AllAgreementLaws}
use Rattle.carry_map.specs.AnchorLaws.{AreConnected}
use Rattle.cert_text.specs.Certificates.{CarriedTrack}
use Rattle.cert_text.specs.PseudoAnosov.{IsCarriedTrack, IsPseudoAnosovCertificate, carrying_of}
use Rattle.cert_text.specs.PseudoAnosov.{letters_of_words, track_path, track_triangles}
use Rattle.cert_checker.specs.FirstFailing.{AllPass}
use Rattle.cert_checker.specs.TrackRefusals.{IsAnchored, IsGrowthRefusal, IsListRefusal, IsMatrixRefusal}
use Rattle.cert_checker.specs.TrackRefusals.{IsTrackRefusal}
use Rattle.cert_checker.specs.TrackRules.{IsImageAt}
use Rattle.cert_checker.specs.declared.sites.Site.{Site}
use Rattle.cert_checker.specs.inside.Sites.{IsSite}
use Rattle.cert_checker.specs.inside.Stops.{IsRule}
use Rattle.cert_checker.specs.inside.TrackParts.{AreAnchors, AreImages, AreNoAnchors, AreNoImages, IsBounded}
use Rattle.cert_checker.specs.inside.TrackParts.{CanBePassed, IsImageOf, IsMatrix}
use Rattle.cert_checker.proofs.AnchorsGiven.{switches_named}
use Rattle.cert_checker.proofs.ConnectedAnchors.{anchors_connected}
use Rattle.cert_checker.proofs.FirstTests.{first_same}
use Rattle.cert_checker.proofs.RowsJoined.{growing, square, transition}

-- ---- tests that pass where others do

list_same : (P Q : ℕ → Type 0) (given wanted letters place : ℕ) → ((k : ℕ) → k < wanted → P k → Q k)
    → ((k : ℕ) → k < wanted → Q k → P k) → IsListRefusal given wanted letters P place
    → IsListRefusal given wanted letters Q place
list_same P Q given wanted letters place there back (IsListRefusal.by_entry first) =
    IsListRefusal.by_entry
    (first_same (min given wanted) P Q (λ k less. there k (omega arith)) (λ k less. back k (omega arith)) place first)
list_same P Q given wanted letters place there back (IsListRefusal.by_length is before other) =
    IsListRefusal.by_length is (λ k less. there k (omega arith) (before k less)) other
list_same P Q given wanted letters place there back (IsListRefusal.by_letters is before same many) =
    IsListRefusal.by_letters is (λ k less. there k less (before k less)) same many

-- ---- what the rules 15 and 16 leave to the next

pub can_be_passed : (triples : List (List ℤ)) (track : TrainTrack) (c : CarriedTrack) (triangles : ℕ → ℕ)
    (f : ℤ → List ℤ) → IsTriangulation triples → IsTrackOn triples track
    → AreAnchors triples track.left_out triangles c.anchors
    → AreImages triples track.left_out f c (words_of track.branches) → CanBePassed triples track c
can_be_passed triples track c triangles f sound on anchors images = record {
  sound = sound;
  on = on;
  triangles = triangles;
  connected = anchors_connected triples track.left_out triangles c anchors;
  f = f;
  images = images;
}

-- ---- all of them

module _ (tracks : TrackLaws) (agreement : AllAgreementLaws) (arena : Arena) (moves : List Move) (c : CarriedTrack)
    (site : Site) (sound : IsTriangulation (triangulation arena site.track.tri)) (h : IsSite arena moves c site) where
  abbrev triples : List (List ℤ)
  triples = triangulation arena 0

  abbrev target : List (List ℤ)
  target = track_triangles triples c

  abbrev path : List Move
  path = track_path triples moves c

  abbrev branches : List (List ℤ)
  branches = words_of site.track.branches

  abbrev triangles : ℕ → ℕ
  triangles = vertex_image site.map

  -- what holds of the track's triangulation and corners holds of the certificate's
  here : (P : List (List ℤ) → List ℤ → Type 0) → P (triangulation arena site.track.tri) site.track.left_out
      → P target c.left_out
  here P k =
      subst (λ (out : List ℤ). P target out) h.left_out
      (subst (λ (ts : List (List ℤ)). P ts site.track.left_out) h.tri k)

  agrees : AgreeOn target (substitution site.map.images) (path_map path)
  agrees =
      subst (λ (ts : List (List ℤ)). AgreeOn ts (substitution site.map.images) (path_map path)) h.tri h.agrees

  -- ---- 15

  module _ (anchors : AreAnchors (triangulation arena site.track.tri) site.track.left_out triangles c.anchors) where
    anchors_here : AreAnchors target c.left_out triangles c.anchors
    anchors_here = here (λ ts out. AreAnchors ts out triangles c.anchors) anchors

    anchored : IsAnchored triples moves c branches triangles
    anchored = record {
      mapped = h.mapped;
      one_anchor_each = anchors_here.one_each;
      anchors = anchors_here.all;
      few_to_connect = anchors_here.few;
    }

  pub refused_anchors : (rule place : ℕ)
      → IsRule 15
      (AreNoAnchors (triangulation arena site.track.tri) site.track.left_out triangles c.anchors) rule place
      → IsTrackRefusal triples moves c rule place
  refused_anchors rule place (is, refused) =
      IsTrackRefusal.by_anchors branches triangles is h.mapped
      (here (λ ts out. AreNoAnchors ts out triangles c.anchors place) refused)

  -- ---- 16

  image_on : (j : ℕ) → j < length branches
      → IsImageOf target c.left_out (substitution site.map.images) c branches j → IsImageAt target path c branches j
  image_on j within k =
      (agreement target c.left_out (substitution site.map.images) (path_map path) agrees).along (carrying_of c)
      (slice_index_or branches j []) (slice_index_or c.images j []) (h.mapped.listed.branch j [] within) k

  image_back : (j : ℕ) → j < length branches → IsImageAt target path c branches j
      → IsImageOf target c.left_out (substitution site.map.images) c branches j
  image_back j within k =
      (agreement target c.left_out (path_map path) (substitution site.map.images)
      (λ x label. sym (agrees x label))).along (carrying_of c) (slice_index_or branches j [])
      (slice_index_or c.images j []) (h.mapped.listed.branch j [] within) k

  module _ (anchors : AreAnchors (triangulation arena site.track.tri) site.track.left_out triangles c.anchors) where
    pub refused_images : (rule place : ℕ)
        → IsRule 16
        (AreNoImages (triangulation arena site.track.tri) site.track.left_out (substitution site.map.images) c branches)
        rule place
        → IsTrackRefusal triples moves c rule place
    refused_images rule place (is, refused) =
        IsTrackRefusal.by_images branches triangles is (anchored anchors)
        (list_same (IsImageOf target c.left_out (substitution site.map.images) c branches)
        (IsImageAt target path c branches) (length c.images) (length branches) (letters_of_words c.images) place
        image_on image_back
        (here (λ ts out. AreNoImages ts out (substitution site.map.images) c branches place) refused))

    module _ (images : AreImages (triangulation arena site.track.tri) site.track.left_out
        (substitution site.map.images) c branches) where
      images_here : AreImages target c.left_out (substitution site.map.images) c branches
      images_here = here (λ ts out. AreImages ts out (substitution site.map.images) c branches) images

      all_images : AllPass (length branches) (IsImageAt target path c branches)
      all_images j within = image_on j within (images_here.all j within)

      -- ---- 17

      pub refused_matrix : (rule place : ℕ) → IsRule 17 (IsMatrixRefusal branches c) rule place
          → IsTrackRefusal triples moves c rule place
      refused_matrix rule place (is, refused) =
          IsTrackRefusal.by_matrix branches triangles is (anchored anchors) images_here.one_each all_images
          images_here.few refused

      module _ (matrix : IsMatrix branches c) where
        joined : AreConnected target c.left_out triangles (carrying_of c)
        joined = anchors_connected target c.left_out triangles c (anchors_here anchors)

        sound_here : IsTriangulation target
        sound_here = subst IsTriangulation h.tri sound

        carried_track : IsCarriedTrack target path c
        carried_track = record {
          corners = h.mapped.corners;
          filling = h.mapped.filling;
          within_cap = h.mapped.within_cap;
          switches = switches_named target c.left_out triangles c.anchors (anchors_here anchors);
          few_to_connect = (anchors_here anchors).few;
          few_in_images = images_here.few;
          branches = branches;
          listed = h.mapped.listed;
          triangles = triangles;
          map = h.mapped.map;
          carried = record {
            one_label_each = joined.one_label_each;
            one_walk_each = joined.one_walk_each;
            one_path_each = images_here.one_each;
            labels = joined.labels;
            switches = joined.switches;
            walks = joined.walks;
            reduced = joined.reduced;
            paths = all_images;
          };
          rows = square branches c matrix;
          matrix =
              transition branches c matrix target c.left_out
              (tracks.lists target c.left_out branches sound_here h.mapped.filling.single h.mapped.listed);
        }

        -- ---- 18

        pub refused_growth : (rule place : ℕ) → IsRule 18 (IsGrowthRefusal (length c.matrix) c) rule place
            → IsTrackRefusal triples moves c rule place
        refused_growth rule place (is, refused) =
            IsTrackRefusal.by_growth is h.mapped.flipped carried_track matrix.exponent refused

        pub held : IsBounded c → IsPseudoAnosovCertificate triples moves c
        held bounded = record {
          positive = h.mapped.flipped.power.0;
          within_limit = h.mapped.flipped.power.1;
          few_flips = h.mapped.flipped.few_flips;
          flips = h.mapped.flipped.flips;
          track = carried_track;
          growth = growing branches c matrix bounded;
        }
