-- What is kept of candidates, as the atlas grows.
--
-- Triangulations and moves of the atlas keep their numbers and what they do. So the map of a path is the same move by
-- move, with the same letters; a map or track of the atlas is one of the grown atlas; and so is all that is kept of a
-- cycle, by the same path of the word and over the same base.
use Rattle.std.proofs.Common.{◌≡◌, ◌≤◌, ◌+◌, ◌++◌, ℕ, ℤ, pos, List, [], ◌∷◌, length, map, refl, sym, ◌∙◌, ap, subst}
use Rattle.std.specs.List.{repeat, range_with_len}
use Rattle.ideal_tri.specs.Triangulations.{edge_count}
use Rattle.tri_atlas.specs.Arena.{Arena, MoveHandle, IsArena, triangulation, Grows, IsTriIn, source_of}
use Rattle.tri_atlas.specs.Arena.{target_of, step_of}
use Rattle.tri_atlas.specs.AtlasLaws.{GrowthLaws, HandleLaws}
use Rattle.tri_atlas.specs.Maps.{IsMap, image_of_letter}
use Rattle.tri_atlas.specs.Moves.{Move, back_along, triangle_image}
use Rattle.tri_atlas.specs.Paths.{MovePath, IsPathIn, Lead, moves_of}
use Rattle.surface_lib.specs.Surfaces.{IsLoop}
use Rattle.free_groupoid.specs.GroupoidMaps.{GroupoidMap, IsMapIn, identity_map, followed, followed_along}
use Rattle.free_groupoid.specs.GroupoidMaps.{letters_in, substitution, vertex_image, reduced_image}
use Rattle.free_groupoid.specs.MapRefusals.{StaysWithin}
use Rattle.free_groupoid.specs.PeriodicLaws.{map_along}
use Rattle.train_track.specs.Branches.{TrainTrack, IsTrackIn, IsTrackOn}
use Rattle.train_track.specs.Refusals.{free_corners}
use Rattle.cert_text.specs.Limits.{letter_cap}
use Rattle.cert_text.specs.PseudoAnosov.{conjugated}
use Rattle.cert_text.specs.declared.lines.TrackLine.{TrackLine}
use Rattle.cert_text.specs.declared.lines.TrackLine.TheVariants.{Cap}
use Rattle.multicurve_cert.specs.CurveAnswers.{vector_of}
use Rattle.verdict_plan.specs.FirstTracks.{depth_of, power_of}
use Rattle.cycle_stages.specs.Stages.{IsStage}
use Rattle.verdict_plan.specs.TrackTests.{IsTrackLine}
use Rattle.cycle_stages.specs.KeptStages.{there, IsKept, IsStageIn}
use Rattle.cycle_stages.specs.StageLaws.{StageLaws}
use Rattle.verdict_plan.specs.declared.series.Series.TheVariants.{First}
use Rattle.verdict_plan.specs.inside.Sites.{IsTrackAt, IsBackWay, IsProgress, IsStanding, IsSite, IsSiteOf}
use Rattle.verdict_plan.specs.inside.Sites.{AreSitesFrom, AreSites}
use Rattle.verdict_plan.specs.inside.Turns.{AreOtherSites}
use Rattle.verdict_plan.specs.inside.Ways.{IsWay}
use Rattle.verdict_plan.specs.declared.progress.Progress.{Progress}
use Rattle.verdict_plan.specs.declared.progress.Progress.TheVariants.{Taken, Past}
use Rattle.verdict_plan.specs.declared.sites.Site.{Site}
use Rattle.verdict_plan.specs.declared.sites.Standing.{Standing}
use Rattle.verdict_plan.specs.declared.sites.Standing.TheVariants.{Failed, Open}
use Rattle.cycle_stages.specs.declared.stages.Stage.{Stage}
use Rattle.verdict_plan.specs.declared.ways.Way.{Way}

module _ (old new : Arena) (growth : GrowthLaws) (grows : Grows old new) where
  -- a triangulation
  same : (t : ℕ) → IsTriIn old t → triangulation new t ≡ triangulation old t
  same t here = growth.triangulation old new t grows here

  -- ---- maps

  followed_same : (f : GroupoidMap) (m : MoveHandle) (s t : ℕ) (moves : List MoveHandle) → IsTriIn old s
      → IsTriIn old (target_of old m) → Lead old s (m ∷ moves) t → followed new f m ≡ followed old f m
  followed_same f m s t moves start end leads =
      let source : triangulation new (source_of new m) ≡ triangulation old (source_of old m) =
      ap (triangulation new) (growth.source old new m grows leads.0)
      ∙ same (source_of old m) (subst (IsTriIn old) (sym leads.1) start) in
      let target : target_of new m ≡ target_of old m = growth.target old new m grows leads.0 in
      let after : triangulation new (target_of new m) ≡ triangulation old (target_of old m) =
      ap (triangulation new) target ∙ same (target_of old m) end in
      let step : step_of new m ≡ step_of old m = growth.step old new m grows leads.0 in
      let made : ℕ → List (List ℤ) → List (List ℤ) → Move → GroupoidMap = λ end before after step. record {
        source = f.source;
        target = end;
        images = map (reduced_image (image_of_letter step)) f.images;
        triangles = map (triangle_image before after step) f.triangles;
      } in
      ap (λ (e : ℕ). made e (triangulation new (source_of new m)) (triangulation new (target_of new m)) (step_of new m))
      target
      ∙ ap (λ (ts : List (List ℤ)). made (target_of old m) ts (triangulation new (target_of new m)) (step_of new m))
      source
      ∙ ap (λ (ts : List (List ℤ)). made (target_of old m) (triangulation old (source_of old m)) ts (step_of new m))
      after
      ∙ ap (made (target_of old m) (triangulation old (source_of old m)) (triangulation old (target_of old m))) step

  identity_same : (t : ℕ) → IsTriIn old t → identity_map new t ≡ identity_map old t
  identity_same t here =
      let made : List (List ℤ) → GroupoidMap = λ ts. record {
        source = t;
        target = t;
        images = map (λ n. pos n ∷ []) (range_with_len 0 (edge_count ts));
        triangles = range_with_len 0 (length ts);
      } in
      ap made (same t here)

  module _ (handles : HandleLaws) (sound : IsArena old) where
    along_same : (f : GroupoidMap) (s t : ℕ) (moves : List MoveHandle) → IsTriIn old s → Lead old s moves t
        → followed_along new f moves ≡ followed_along old f moves
    along_same f s t [] start leads = refl
    along_same f s t (m ∷ moves) start leads =
        let end : IsTriIn old (target_of old m) = (handles.ends old m sound leads.0).1 in
        ap (λ (g : GroupoidMap). followed_along new g moves) (followed_same f m s t moves start end leads)
        ∙ along_same (followed old f m) (target_of old m) t moves end leads.2

    within_same : (f : GroupoidMap) (s t : ℕ) (moves : List MoveHandle) (cap : ℕ) → IsTriIn old s
        → Lead old s moves t → StaysWithin old f moves cap → StaysWithin new f moves cap
    within_same f s t [] cap start leads h = h
    within_same f s t (m ∷ moves) cap start leads h =
        let end : IsTriIn old (target_of old m) = (handles.ends old m sound leads.0).1 in
        let first : followed old f m ≡ followed new f m = sym (followed_same f m s t moves start end leads) in (
          subst (λ (g : GroupoidMap). letters_in g.images ≤ cap) first h.0,
          subst (λ (g : GroupoidMap). StaysWithin new g moves cap) first
              (within_same (followed old f m) (target_of old m) t moves cap end leads.2 h.1),
        )

    map_same : (path : MovePath) → IsPathIn old path → map_along new path ≡ map_along old path
    map_same path h =
        ap (λ (f : GroupoidMap). followed_along new f path.moves) (identity_same path.start h.start_in)
        ∙ along_same (identity_map old path.start) path.start path.end path.moves h.start_in h.moves_lead

    map_kept : (f : GroupoidMap) → IsMapIn old f → IsMapIn new f
    map_kept f h =
        let source : triangulation old f.source ≡ triangulation new f.source = sym (same f.source h.source_in) in
        let target : triangulation old f.target ≡ triangulation new f.target = sym (same f.target h.target_in) in
        record {
          source_in = growth.tri_in old new f.source grows h.source_in;
          target_in = growth.tri_in old new f.target grows h.target_in;
          one_per_edge = h.one_per_edge ∙ ap edge_count source;
          one_per_triangle = h.one_per_triangle ∙ ap (λ (ts : List (List ℤ)). length ts) source;
          reduced = h.reduced;
          maps = subst
              (λ (ts : List (List ℤ)). IsMap (triangulation new f.source) ts (substitution f.images) (vertex_image f))
              target
              (subst (λ (ts : List (List ℤ)). IsMap ts (triangulation old f.target) (substitution f.images)
              (vertex_image f)) source h.maps);
        }

    way_kept : (way : Way) → IsWay old way → IsWay new way
    way_kept way h = record {
      path = growth.path_in old new way.path grows h.path;
      maps = map_kept way.map h.maps;
      map = h.map ∙ sym (map_same way.path h.path);
      within = subst (λ (f : GroupoidMap). StaysWithin new f way.path.moves letter_cap)
          (sym (identity_same way.path.start h.path.start_in))
          (within_same (identity_map old way.path.start) way.path.start way.path.end way.path.moves letter_cap
          h.path.start_in h.path.moves_lead h.within);
    }

    track_kept : (track : TrainTrack) → IsTrackIn old track → IsTrackIn new track
    track_kept track h = record {
      tri = growth.tri_in old new track.tri grows h.tri;
      on = subst (λ (ts : List (List ℤ)). IsTrackOn ts track) (sym (same track.tri h.tri)) h.on;
    }

    -- ---- the word

    module _ (word : MovePath) (loop : IsLoop old word) where
      pub base_same : triangulation old 0 ≡ triangulation new 0
      base_same = sym (same 0 (subst (IsTriIn old) loop.start loop.within.start_in))

      pub word_same : moves_of old word ≡ moves_of new word
      word_same = sym (growth.moves old new word grows loop.within)

      pub loop_kept : IsLoop new word
      loop_kept = record {
        within = growth.path_in old new word grows loop.within;
        start = loop.start;
        end = loop.end;
      }

      -- what holds over the base by the word's moves
      pub here_too : (P : List (List ℤ) → List Move → Type 0) → P (triangulation old 0) (moves_of old word)
          → P (triangulation new 0) (moves_of new word)
      here_too P h =
          subst (P (triangulation new 0)) word_same
          (subst (λ (ts : List (List ℤ)). P ts (moves_of old word)) base_same h)

      pub here_before : (P : List (List ℤ) → List Move → Type 0) → P (triangulation new 0) (moves_of new word)
          → P (triangulation old 0) (moves_of old word)
      here_before P h =
          subst (P (triangulation old 0)) (sym word_same)
          (subst (λ (ts : List (List ℤ)). P ts (moves_of new word)) (sym base_same) h)

      -- ---- a stage

      module _ (s : Stage) (kept : IsKept old s) where
        there_same : there old s ≡ there new s
        there_same = sym (same s.coords.tri kept.here.tri_in)

        track_at_kept : (track : TrainTrack) → IsTrackAt old s track → IsTrackAt new s track
        track_at_kept track h = record {
          here = track_kept track h.here;
          tri = h.tri;
          corners = h.corners ∙ ap (λ (ts : List (List ℤ)). free_corners ts s.coords.numbers) there_same;
        }

        back_way_kept : (times : ℕ) (way : Way) → IsBackWay old word s times way → IsBackWay new word s times way
        back_way_kept times way h = record {
          kept = way_kept way h.kept;
          start = h.start;
          end = h.end;
          moves =
              growth.moves old new way.path grows h.kept.path ∙ h.moves
              ∙ ap (λ (ms : List Move). back_along ms ++ repeat times (moves_of old word))
              (sym (growth.moves old new s.path grows kept.path))
              ∙ ap (λ (ms : List Move). back_along (moves_of new s.path) ++ repeat times ms) word_same;
        }

        line_kept : (power : ℕ) (line : TrackLine)
            → IsTrackLine First (there old s) (conjugated (triangulation old 0) (moves_of old word) s.edges.items power)
            (free_corners (there old s) s.coords.numbers) line
            → IsTrackLine First (there new s) (conjugated (triangulation new 0) (moves_of new word) s.edges.items power)
            (free_corners (there new s) s.coords.numbers) line
        line_kept power line h =
            here_too (λ ts ms. IsTrackLine First (there new s) (conjugated ts ms s.edges.items power)
            (free_corners (there new s) s.coords.numbers) line)
            (subst (λ (ts : List (List ℤ)). IsTrackLine First ts
            (conjugated (triangulation old 0) (moves_of old word) s.edges.items power)
            (free_corners ts s.coords.numbers) line) there_same h)

        progress_kept : (power : ℕ) (progress : Progress) → IsProgress old word s power progress
            → IsProgress new word s power progress
        progress_kept power (Taken way times) h = (h.0, back_way_kept times way h.1)
        progress_kept power (Past letters) h = λ any enough. line_kept any (Cap letters) (h any enough)

        standing_kept : (power : ℕ) (standing : Standing) → IsStanding old word s power standing
            → IsStanding new word s power standing
        standing_kept power (Failed line) h = λ any. line_kept any line (h any)
        standing_kept power (Open track progress) h =
            (track_at_kept track h.0, progress_kept power progress h.1)

        pub stage_kept : (w : List ℕ) (depth : ℕ)
            → IsStageIn old (triangulation old 0) (moves_of old word) w depth s
            → IsStageIn new (triangulation new 0) (moves_of new word) w depth s
        stage_kept w depth h =
            here_too (λ ts ms. IsStageIn new ts ms w depth s)
            (subst (λ (ts : List (List ℤ)). IsStage (triangulation old 0) (moves_of old word) w depth s.edges.items ts
            s.coords.numbers) there_same h)

      -- ---- sites

      module _ (stages : StageLaws) where
        pub site_kept : (w : List ℕ) (depth power : ℕ) (site : Site) → IsSite old word w depth power site
            → IsSite new word w depth power site
        site_kept w depth power site h = record {
          kept = stages.kept old new site.stage grows h.kept;
          stage = stage_kept site.stage h.kept w depth h.stage;
          standing = standing_kept site.stage h.kept power site.standing h.standing;
        }

        module _ (cycles : List (List ℤ)) where
          pub site_of_kept : (n : ℕ) (site : Site) → IsSiteOf old word cycles n site → IsSiteOf new word cycles n site
          site_of_kept n site h =
              subst (λ (ts : List (List ℤ)). IsSite new word (vector_of ts cycles n) (depth_of cycles n)
              (power_of cycles n) site) base_same
              (site_kept (vector_of (triangulation old 0) cycles n) (depth_of cycles n) (power_of cycles n) site h)

          from_kept : (n : ℕ) (sites : List Site) → AreSitesFrom old word cycles n sites
              → AreSitesFrom new word cycles n sites
          from_kept n [] h = tt
          from_kept n (site ∷ sites) h = (site_of_kept n site h.0, from_kept (n + 1) sites h.1)

          pub sites_kept : (n : ℕ) (sites : List Site) → AreSites old word cycles n sites
              → AreSites new word cycles n sites
          sites_kept n sites h = record {
            first = h.first;
            from = from_kept h.first sites h.from;
            up_to = h.up_to;
            one_each = h.one_each;
          }

          pub others_kept : (n : ℕ) (sites : List Site) → AreOtherSites old word cycles n sites
              → AreOtherSites new word cycles n sites
          others_kept n sites h = record {
            first = h.first;
            from = from_kept h.first sites h.from;
            up_to = h.up_to;
            one_each = h.one_each;
          }
