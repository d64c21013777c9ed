-- The path from the end of the flips to itself, in an arena, and what a map of it says of a certificate.
use Rattle.std.proofs.Common.{◌≡◌, ◌++◌, ℕ, ℤ, List, [], sym, ◌∙◌, ap, subst, map}
use Rattle.std.specs.List.{repeat}
use Rattle.std.proofs.lemmas.List.{append-nil, append_assoc, map-append}
use Rattle.ideal_tri.specs.Triangulations.{IsLabel}
use Rattle.tri_atlas.specs.Arena.{Arena, MoveHandle, IsArena, triangulation, step_of}
use Rattle.tri_atlas.specs.AtlasLaws.{AtlasLaws}
use Rattle.tri_atlas.specs.MapLaws.{MapLaws}
use Rattle.tri_atlas.specs.Maps.{IsMap, path_map}
use Rattle.tri_atlas.specs.Moves.{Move, back_along}
use Rattle.tri_atlas.specs.Paths.{MovePath, IsPathIn, Lead, moves_of, inverse_path}
use Rattle.free_groupoid.specs.GroupoidLaws.{GroupoidLaws}
use Rattle.free_groupoid.specs.GroupoidMaps.{GroupoidMap, IsMapIn, identity_map, substitution}
use Rattle.free_groupoid.specs.GroupoidMaps.{vertex_image}
use Rattle.free_groupoid.specs.Periodic.{IsWithin}
use Rattle.free_groupoid.specs.PeriodicLaws.{FoundLaws}
use Rattle.surface_lib.specs.Surfaces.{IsLoop}
use Rattle.train_track.specs.Branches.{TrainTrack, IsBranchList, IsTrackIn, words_of}
use Rattle.train_track.specs.Tracks.{ArePlaced, IsFilling}
use Rattle.carry_map.specs.AgreementLaws.{AllAgreementLaws}
use Rattle.cert_text.specs.Certificates.{CarriedTrack}
use Rattle.cert_text.specs.Limits.{letter_cap}
use Rattle.cert_text.specs.PseudoAnosov.{track_path, track_triangles}
use Rattle.cert_checker.specs.TrackRefusals.{IsFlipped, IsCornerRefusal, IsTrackRefusal, by_corners, by_cap}
use Rattle.cert_checker.specs.inside.Sites.{IsSite}
use Rattle.cert_checker.specs.inside.SiteSteps.{IsFlipPath, IsMapAlong, GoesOn, PassesOn, site_path}
use Rattle.cert_checker.specs.inside.Stops.{IsRule}
use Rattle.cert_checker.specs.declared.sites.Site.{Site}
use Rattle.cert_checker.proofs.MapsAlong.{lead_on}

-- it is one of the arena, and these are its moves
module _ (arena : Arena) (atlas : AtlasLaws) (sound : IsArena arena) (word flips : MovePath) (n : ℕ)
    (closed : IsLoop arena word) (within : IsPathIn arena flips) (start : flips.start ≡ 0) where
  -- the word so many times, from the base to the base
  often : Lead arena 0 (repeat n word.moves) 0
  often =
      subst (λ (t : ℕ). Lead arena t (repeat n word.moves) t) closed.start
      (atlas.ways.often arena word n sound closed.within (closed.end ∙ sym closed.start)).moves_lead

  pub site_path_in : (way : MovePath) → way ≡ inverse_path flips → IsPathIn arena way
      → IsPathIn arena (site_path word flips n)
  site_path_in way is way_in = record {
    start_in = within.end_in;
    end_in = within.end_in;
    moves_lead =
        lead_on arena (inverse_path flips).moves (repeat n word.moves ++ flips.moves) flips.end 0 flips.end
        (subst (Lead arena flips.end (inverse_path flips).moves) start (subst (IsPathIn arena) is way_in).moves_lead)
        (lead_on arena (repeat n word.moves) flips.moves 0 0 flips.end often
        (subst (λ (t : ℕ). Lead arena t flips.moves flips.end) start within.moves_lead));
  }

  pub site_moves : moves_of arena (site_path word flips n)
      ≡ back_along (moves_of arena flips) ++ (repeat n (moves_of arena word) ++ moves_of arena flips)
  site_moves =
      map-append (step_of arena) (inverse_path flips).moves (repeat n word.moves ++ flips.moves)
      ∙ ap (λ (ms : List Move). ms ++ map (step_of arena) (repeat n word.moves ++ flips.moves))
      (atlas.ways.back arena flips sound within)
      ∙ ap (λ (ms : List Move). back_along (moves_of arena flips) ++ ms)
      (map-append (step_of arena) (repeat n word.moves) flips.moves
      ∙ ap (λ (ms : List Move). ms ++ moves_of arena flips) (atlas.handles.repeated arena n word.moves))

-- the map of it, from the one that moves nothing on
module _ (arena : Arena) (word flips : MovePath) (n : ℕ) (within : IsPathIn arena (site_path word flips n))
    (none : GroupoidMap) (still : none ≡ identity_map arena flips.end) (way : MovePath)
    (is : way ≡ inverse_path flips) where
  abbrev back_moves : List MoveHandle
  back_moves = (inverse_path flips).moves

  abbrev word_moves : List MoveHandle
  word_moves = repeat n word.moves

  abbrev IsCappedPath : Type 0
  IsCappedPath =
      IsWithin (triangulation arena flips.end) (moves_of arena (site_path word flips n)) letter_cap

  starts : IsMapAlong arena flips.end [] none
  starts = record { map = still; within = tt }

  pub past_back : PassesOn arena none way.moves → ¬ IsCappedPath
  past_back passes capped =
      subst (λ (p : MovePath). PassesOn arena none p.moves) is passes flips.end flips.end []
      (word_moves ++ flips.moves) starts within capped

  module _ (back : GroupoidMap) (along_back : GoesOn arena none way.moves back) where
    behind_back : IsMapAlong arena flips.end back_moves back
    behind_back = subst (λ (p : MovePath). GoesOn arena none p.moves back) is along_back flips.end [] starts

    pub past_word : PassesOn arena back word_moves → ¬ IsCappedPath
    past_word passes capped =
        passes flips.end flips.end back_moves flips.moves behind_back within capped

    module _ (often : GroupoidMap) (along_word : GoesOn arena back word_moves often) where
      behind_word : IsMapAlong arena flips.end (back_moves ++ word_moves) often
      behind_word = along_word flips.end back_moves behind_back

      whole : (back_moves ++ word_moves) ++ (flips.moves ++ []) ≡ back_moves ++ (word_moves ++ flips.moves)
      whole =
          ap (λ (ms : List MoveHandle). (back_moves ++ word_moves) ++ ms) (append-nil flips.moves)
          ∙ append_assoc back_moves word_moves flips.moves

      pub past_flips : PassesOn arena often flips.moves → ¬ IsCappedPath
      past_flips passes capped =
          passes flips.end flips.end (back_moves ++ word_moves) [] behind_word
          (subst (λ (ms : List MoveHandle). IsPathIn arena (record {
            start = flips.end;
            end = flips.end;
            moves = ms;
          })) (sym whole) within)
          (subst (λ (ms : List MoveHandle). IsWithin (triangulation arena flips.end) (map (step_of arena) ms) letter_cap)
          (sym whole) capped)

      pub along_all : (all : GroupoidMap) → GoesOn arena often flips.moves all
          → IsMapAlong arena flips.end (site_path word flips n).moves all
      along_all all on =
          subst (λ (ms : List MoveHandle). IsMapAlong arena flips.end ms all)
          (append_assoc back_moves word_moves flips.moves)
          (on flips.end (back_moves ++ word_moves) behind_word)

-- ---- the certificate's

module _ (arena : Arena) (atlas : AtlasLaws) (sound : IsArena arena) (word flips : MovePath) (c : CarriedTrack)
    (closed : IsLoop arena word) (h : IsFlipPath arena c.flips flips) where
  abbrev base : List (List ℤ)
  base = triangulation arena 0

  abbrev path : MovePath
  path = site_path word flips c.power

  track_moves : moves_of arena path ≡ track_path base (moves_of arena word) c
  track_moves =
      site_moves arena atlas sound word flips c.power closed h.within h.start
      ∙ ap (λ (ms : List Move). back_along ms ++ (repeat c.power (moves_of arena word) ++ ms)) h.moves

  abbrev IsCapped : List (List ℤ) → List Move → Type 0
  IsCapped triples moves = IsWithin triples moves letter_cap

  -- the corners are refused
  pub corners_refused : (t : ℕ) (corners : List ℤ) → t ≡ flips.end → corners ≡ c.left_out → IsFlipped base c
      → (rule place : ℕ) → IsRule 13 (IsCornerRefusal (triangulation arena t) corners) rule place
      → IsTrackRefusal base (moves_of arena word) c rule place
  corners_refused t corners there are flipped rule place refused =
      by_corners refused.0 flipped
      (subst (λ (ts : List (List ℤ)). IsCornerRefusal ts c.left_out place) (ap (triangulation arena) there ∙ h.leads)
      (subst (λ (xs : List ℤ). IsCornerRefusal (triangulation arena t) xs place) are refused.1))

  -- the map passes the cap
  pub past_cap : (track : TrainTrack) → track.tri ≡ flips.end → track.left_out ≡ c.left_out
      → IsTrackIn arena track → IsFlipped base c
      → (rule place : ℕ)
      → IsRule 14 (λ (p : ℕ). (p ≡ 0) × ¬ IsCapped (triangulation arena flips.end) (moves_of arena path)) rule place
      → IsTrackRefusal base (moves_of arena word) c rule place
  past_cap track tri left_out here flipped rule place refused =
      let same : triangulation arena track.tri ≡ track_triangles base c = ap (triangulation arena) tri ∙ h.leads in
      by_cap refused.0 refused.1.0 flipped
      (subst (λ (ts : List (List ℤ)). ArePlaced ts c.left_out) same
      (subst (ArePlaced (triangulation arena track.tri)) left_out here.on.labels))
      (subst (λ (ts : List (List ℤ)). IsFilling ts c.left_out) same
      (subst (IsFilling (triangulation arena track.tri)) left_out here.on.filling))
      (λ capped.
      refused.1.1
      (subst (λ (ts : List (List ℤ)). IsCapped ts (moves_of arena path)) (sym h.leads)
      (subst (IsCapped (track_triangles base c)) (sym track_moves) capped)))

  module _ (s : Site) (tri : s.track.tri ≡ flips.end) (left_out : s.track.left_out ≡ c.left_out)
      (here : IsTrackIn arena s.track) (maps : IsMapIn arena s.map) (is : IsMapAlong arena flips.end path.moves s.map)
      (within : IsPathIn arena path) (laws : GroupoidLaws) where
    same : triangulation arena s.track.tri ≡ track_triangles base c
    same = ap (triangulation arena) tri ∙ h.leads

    source : s.map.source ≡ s.track.tri
    source =
        ap (λ (f : GroupoidMap). f.source) is.map
        ∙ laws.along.source arena (identity_map arena flips.end) path.moves
        ∙ sym tri

    target : s.map.target ≡ s.track.tri
    target =
        ap (λ (f : GroupoidMap). f.target) is.map
        ∙ laws.along.target arena (identity_map arena flips.end) path.moves flips.end within.moves_lead
        ∙ sym tri

    agrees : (x : ℤ) → IsLabel (triangulation arena s.track.tri) x
        → substitution s.map.images x ≡ path_map (track_path base (moves_of arena word) c) x
    agrees x label =
        ap (λ (f : GroupoidMap). substitution f.images x) is.map
        ∙ laws.images.path arena path x sound within (subst (λ (t : ℕ). IsLabel (triangulation arena t) x) tri label)
        ∙ ap (λ (ms : List Move). path_map ms x) track_moves

    -- it takes the triangulation of the track to itself
    to_itself : IsMap (triangulation arena s.track.tri) (triangulation arena s.track.tri) (substitution s.map.images)
        (vertex_image s.map)
    to_itself =
        subst (λ (t : ℕ). IsMap (triangulation arena s.track.tri) (triangulation arena t) (substitution s.map.images)
        (vertex_image s.map)) target
        (subst (λ (t : ℕ). IsMap (triangulation arena t) (triangulation arena s.map.target) (substitution s.map.images)
        (vertex_image s.map)) source maps.maps)

    abbrev IsMapOfPath : List (List ℤ) → Type 0
    IsMapOfPath ts = IsMap ts ts (path_map (track_path base (moves_of arena word) c)) (vertex_image s.map)

    map_of_path : AllAgreementLaws → MapLaws → IsMapOfPath (track_triangles base c)
    map_of_path agreement map_laws =
        subst IsMapOfPath same
        ((agreement (triangulation arena s.track.tri) c.left_out (substitution s.map.images)
        (path_map (track_path base (moves_of arena word) c)) agrees).maps (triangulation arena s.track.tri)
        (vertex_image s.map) to_itself (map_laws.paths.odd (track_path base (moves_of arena word) c)))

    abbrev branches : List (List ℤ)
    branches = words_of s.track.branches

    pub site_is : AllAgreementLaws → MapLaws → FoundLaws → IsFlipped base c → IsSite arena (moves_of arena word) c s
    site_is agreement map_laws found flipped = record {
      here = record { here = here; maps = maps; source = source; target = target };
      tri = same;
      left_out = left_out;
      agrees = agrees;
      mapped = record {
        flipped = flipped;
        corners =
            subst (λ (ts : List (List ℤ)). ArePlaced ts c.left_out) same
            (subst (ArePlaced (triangulation arena s.track.tri)) left_out here.on.labels);
        filling =
            subst (λ (ts : List (List ℤ)). IsFilling ts c.left_out) same
            (subst (IsFilling (triangulation arena s.track.tri)) left_out here.on.filling);
        within_cap =
            subst (λ (ts : List (List ℤ)). IsCapped ts (track_path base (moves_of arena word) c)) h.leads
            (subst (IsCapped (triangulation arena flips.end)) track_moves
            (found.within arena path letter_cap sound within is.within));
        listed =
            subst (λ (ts : List (List ℤ)). IsBranchList ts c.left_out branches) same
            (subst (λ (out : List ℤ). IsBranchList (triangulation arena s.track.tri) out branches) left_out
            here.on.branches);
        map = map_of_path agreement map_laws;
      };
    }
