-- Where a rule refuses the certificate of a pseudo-Anosov word, it doesn't hold: what it holds by passes each of the
-- tests. A refusal names the branches of the track, which are one list, and where the path sends the triangles, which
-- is settled by the path.
use Rattle.std.proofs.Common.{◌≡◌, ◌<◌, ◌≤◌, ℕ, zero, suc, ℤ, pos, true, List, [], ◌∷◌, sym, ◌∙◌, ap, subst}
use Rattle.std.proofs.Common.{arith, length, map, max, min, slice_index_or}
use Rattle.std.specs.List.{repeat}
use Rattle.ideal_tri.specs.Flips.{flipped}
use Rattle.ideal_tri.specs.Triangulations.{IsLabel, IsTriangulation, IsWalk, triangle_of}
use Rattle.ideal_tri.specs.Words.{IsReduced}
use Rattle.tri_atlas.specs.FlipPaths.{CanBeFlipped, flips_along}
use Rattle.tri_atlas.specs.Maps.{IsMap, path_map}
use Rattle.tri_atlas.specs.Moves.{Move, ArePath}
use Rattle.train_track.specs.Branches.{IsBranchList, letter_at}
use Rattle.train_track.specs.Passes.{ArePassesOf}
use Rattle.train_track.specs.Tracks.{is_switch, switches_of}
use Rattle.cert_text.specs.Certificates.{CarriedTrack}
use Rattle.cert_text.specs.Limits.{letter_cap}
use Rattle.cert_text.specs.PseudoAnosov.{IsPseudoAnosovCertificate, carrying_of, letters_of_words}
use Rattle.cert_text.specs.PseudoAnosov.{track_path, track_triangles}
use Rattle.cert_checker.specs.TrackRefusals.{IsCornerRefusal, IsFlipRefusal, IsGrowthRefusal, IsListRefusal}
use Rattle.cert_checker.specs.TrackRefusals.{IsMatrixRefusal, IsTrackRefusal}
use Rattle.cert_checker.specs.TrackRules.{CanBeFlippedAt, IsAnchorAt, IsImageAt, IsRowAt, anchor_at}
use Rattle.cert_checker.proofs.AnchorsGiven.{label_at, one_label_each, one_switch_each, switch_at, walk_at}
use Rattle.cert_checker.proofs.BranchLists.{one_branch_list}
use Rattle.cert_checker.proofs.FillingCorners.{corners_from, open_from}
use Rattle.cert_checker.proofs.Known.{Known}
use Rattle.cert_checker.proofs.MatrixEntries.{entry_at}
use Rattle.cert_checker.proofs.NeverInner.{path_often}
use Rattle.cert_checker.proofs.SwitchLabels.{switch_label}
use Rattle.cert_checker.proofs.TransportedPowers.{carried_path, sound_target}
use Rattle.cert_checker.proofs.TriangleImages.{nonempty, unique}

-- ---- the tests of lists

-- a list refusal needs a test that fails, other lengths, or too many letters
no_list_refusal : (given wanted letters : ℕ) (Passes : ℕ → Type 0) (place : ℕ)
    → IsListRefusal given wanted letters Passes place → given ≡ wanted → letters ≤ letter_cap
    → ((i : ℕ) → i < given → Passes i) → ⊥
no_list_refusal given wanted letters Passes place (IsListRefusal.by_entry first) same few all =
    first.fails (all place (let inside : place < min given wanted = first.within in omega arith))
no_list_refusal given wanted letters Passes place (IsListRefusal.by_length is before other) same few all =
    other same
no_list_refusal given wanted letters Passes place (IsListRefusal.by_letters is before long many) same few all =
    omega arith

-- ---- 12

flippable_at : (triples : List (List ℤ)) (edges : List ℕ) (i : ℕ) → CanBeFlipped triples edges → i < length edges
    → CanBeFlippedAt triples edges i
flippable_at triples [] i h within = absurd (omega arith)
flippable_at triples (e ∷ edges) zero h within = h.0
flippable_at triples (e ∷ edges) (suc i) h within =
    flippable_at (flipped triples (pos e)) edges i h.1 (omega arith)

no_flip_refusal : (triples : List (List ℤ)) (moves : List Move) (c : CarriedTrack) (place : ℕ)
    → IsPseudoAnosovCertificate triples moves c → IsFlipRefusal triples c place → ⊥
no_flip_refusal triples moves c place h (IsFlipRefusal.by_power is none) = none (h.positive, h.within_limit)
no_flip_refusal triples moves c place h (IsFlipRefusal.by_number is power many) = many h.few_flips
no_flip_refusal triples moves c place h (IsFlipRefusal.by_flip i is power few first) =
    first.fails (flippable_at triples c.flips i h.flips first.within)

-- ---- what holds of the certificate's track, for the branches and triangles that a refusal names

module _ (known : Known) (triples : List (List ℤ)) (moves : List Move) (c : CarriedTrack)
    (sound : IsTriangulation triples) (closed : ArePath triples moves triples)
    (h : IsPseudoAnosovCertificate triples moves c) where
  abbrev target : List (List ℤ)
  target = track_triangles triples c

  abbrev path : List Move
  path = track_path triples moves c

  abbrev flips : List Move
  flips = flips_along triples c.flips

  abbrev switches : List ℤ
  switches = switches_of target c.left_out

  to_target : ArePath triples flips target
  to_target = known.maps.flips.path triples c.flips sound h.flips

  sound_there : IsTriangulation target
  sound_there = sound_target known triples target flips sound to_target

  round : ArePath target path target
  round =
      carried_path known triples target flips sound to_target (repeat c.power moves)
      (path_often known triples moves c.power closed)

  same_triangles : (triangles : ℕ → ℕ) → IsMap target target (path_map path) triangles → (t : ℕ)
      → t < length target → h.track.triangles t ≡ triangles t
  same_triangles triangles map t inside =
      unique known.surfaces target target (path_map path) h.track.triangles triangles sound_there h.track.map map
      (nonempty known.maps.paths target target path sound_there round) t inside

  same_branches : (branches : List (List ℤ)) → IsBranchList target c.left_out branches
      → h.track.branches ≡ branches
  same_branches branches listed =
      one_branch_list known.labels target c.left_out h.track.branches branches h.track.listed listed

  -- ---- 13

  no_corner_refusal : (place : ℕ) → IsCornerRefusal target c.left_out place → ⊥
  no_corner_refusal place (IsCornerRefusal.by_entry first) =
      first.fails
      (corners_from target c.left_out known.labels h.track.corners h.track.filling place first.within)
  no_corner_refusal place (IsCornerRefusal.by_vertex v is entries first) =
      first.fails
      (open_from target c.left_out known.labels (known.vertices.vertices target sound_there) h.track.filling v
      first.within)

  -- ---- 15

  one_anchor_each : length c.anchors ≡ length switches
  one_anchor_each = sym (one_switch_each c.anchors) ∙ ap (λ (xs : List ℤ). length xs) h.track.switches

  anchor_passes : (triangles : ℕ → ℕ) → IsMap target target (path_map path) triangles → (i : ℕ)
      → i < length c.anchors → IsAnchorAt target c.left_out triangles c.anchors i
  anchor_passes triangles map i within =
      let inside : i < length (carrying_of c).to = omega (arith, one_label_each c.anchors) in
      let s : ℤ = letter_at switches i in
      let to : letter_at (carrying_of c).to i ≡ (anchor_at c.anchors i).to = label_at c.anchors i within in
      let start : ℕ = triangle_of target s in
      let below : start < length target =
      (known.surfaces.triangles target sound_there).triangle s
      (switch_label target c.left_out i (omega (arith, one_anchor_each))) in
      record {
        named =
            sym (switch_at c.anchors i within) ∙ ap (λ (xs : List ℤ). letter_at xs i) h.track.switches;
        label = subst (IsLabel target) to (h.track.carried.labels i inside);
        to_switch =
            subst (λ (x : ℤ). is_switch target c.left_out x ≡ true) to (h.track.carried.switches i inside);
        walk =
            subst
            (λ (t : ℕ). IsWalk target t (anchor_at c.anchors i).connect (triangle_of target (anchor_at c.anchors i).to))
            (same_triangles triangles map start below)
            (subst
            (λ (w : List ℤ). IsWalk target (h.track.triangles start) w (triangle_of target (anchor_at c.anchors i).to))
            (walk_at c.anchors i within)
            (subst
            (λ (x : ℤ). IsWalk target (h.track.triangles start) (slice_index_or (carrying_of c).connect i [])
            (triangle_of target x)) to (h.track.carried.walks i inside)));
        reduced = subst IsReduced (walk_at c.anchors i within) (h.track.carried.reduced i inside);
      }

  -- ---- 16

  one_image_each : (branches : List (List ℤ)) → h.track.branches ≡ branches → length c.images ≡ length branches
  one_image_each branches same =
      h.track.carried.one_path_each ∙ ap (λ (bs : List (List ℤ)). length bs) same

  image_passes : (branches : List (List ℤ)) → h.track.branches ≡ branches → (j : ℕ) → j < length c.images
      → IsImageAt target path c branches j
  image_passes branches same j within =
      subst (λ (bs : List (List ℤ)). IsImageAt target path c bs j) same
      (h.track.carried.paths j (omega (arith, h.track.carried.one_path_each)))

  -- ---- 17

  abbrev size : ℕ
  size = length c.matrix

  one_row_each : (branches : List (List ℤ)) → h.track.branches ≡ branches → size ≡ length branches
  one_row_each branches same = h.track.matrix.size ∙ ap (λ (bs : List (List ℤ)). length bs) same

  row_passes : (branches : List (List ℤ)) → h.track.branches ≡ branches → (i : ℕ) → i < length branches
      → IsRowAt branches c i
  row_passes branches same i within =
      let inside : i < size = omega (arith, one_row_each branches same) in
      record {
        branch = within;
        row = inside;
        one_entry_each = h.track.rows i inside ∙ one_row_each branches same;
        counts = λ j below.
            (let there : j < size = omega (arith, one_row_each branches same) in
            let (passes, are, counts) = h.track.matrix.passes j there in (
              passes,
              subst (λ (bs : List (List ℤ)). ArePassesOf bs passes (slice_index_or c.images j [])) same are,
              sym (entry_at size c.matrix i j h.track.rows inside there) ∙ counts i inside,
            ));
      }

  no_matrix_refusal : (branches : List (List ℤ)) (place : ℕ) → h.track.branches ≡ branches
      → IsMatrixRefusal branches c place → ⊥
  no_matrix_refusal branches place same (IsMatrixRefusal.by_row first) =
      first.fails
      (row_passes branches same place
      (let inside : place < max (length branches) size = first.within in omega (arith, one_row_each branches same)))
  no_matrix_refusal branches place same (IsMatrixRefusal.by_exponent is rows none) =
      none (h.growth.some, h.growth.within_limit, h.growth.positive)

  -- ---- 18

  no_growth_refusal : (place : ℕ) → IsGrowthRefusal size c place → ⊥
  no_growth_refusal place (IsGrowthRefusal.by_length is other) = other h.growth.bounds.one_per_row
  no_growth_refusal place (IsGrowthRefusal.by_pairs is long none) =
      none (record { low = h.growth.low; high = h.growth.high; above_one = h.growth.bounds.grows })
  no_growth_refusal place (IsGrowthRefusal.by_entry long pairs first) =
      first.fails
      (record {
        entry = (h.growth.bounds.positive place first.within, h.growth.row place first.within);
        next = h.growth.next_row place first.within;
        at_least = h.growth.bounds.at_least place first.within;
        at_most = h.growth.bounds.at_most place first.within;
      })

  -- ---- all of them

  none_refused : (rule place : ℕ) → IsTrackRefusal triples moves c rule place → ⊥
  none_refused rule place (IsTrackRefusal.by_flips is refused) = no_flip_refusal triples moves c place h refused
  none_refused rule place (IsTrackRefusal.by_corners is flipped refused) = no_corner_refusal place refused
  none_refused rule place (IsTrackRefusal.by_cap is there flipped corners filling past) = past h.track.within_cap
  none_refused rule place (IsTrackRefusal.by_anchors branches triangles is mapped refused) =
      no_list_refusal (length c.anchors) (length switches) (letters_of_words (map (λ a. a.connect) c.anchors))
      (IsAnchorAt target c.left_out triangles c.anchors) place refused one_anchor_each h.track.few_to_connect
      (anchor_passes triangles mapped.map)
  none_refused rule place (IsTrackRefusal.by_images branches triangles is anchored refused) =
      let same : h.track.branches ≡ branches = same_branches branches anchored.mapped.listed in
      no_list_refusal (length c.images) (length branches) (letters_of_words c.images)
      (IsImageAt target path c branches) place refused (one_image_each branches same) h.track.few_in_images
      (image_passes branches same)
  none_refused rule place (IsTrackRefusal.by_matrix branches triangles is anchored one_each images few refused) =
      no_matrix_refusal branches place (same_branches branches anchored.mapped.listed) refused
  none_refused rule place (IsTrackRefusal.by_growth is flipped carried exponent refused) =
      no_growth_refusal place refused

pub excluded : Known → (triples : List (List ℤ)) (moves : List Move) (c : CarriedTrack) (rule place : ℕ)
    → IsTriangulation triples → ArePath triples moves triples → IsTrackRefusal triples moves c rule place
    → ¬ IsPseudoAnosovCertificate triples moves c
excluded known triples moves c rule place sound closed refused h =
    none_refused known triples moves c sound closed h rule place refused
