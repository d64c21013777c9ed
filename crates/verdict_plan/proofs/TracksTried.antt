-- The candidates for a carried track, tried in order.
--
-- What holds of a candidate in the grown atlas holds of it by the word's moves over the base as they were, since both
-- are the same. A candidate whose site passes with some certificate has the power and the flips of that certificate;
-- there are at most 32 depths, so it has at most 31 flips, and a power from 1 to 4.
use Rattle.std.proofs.Common.{◌≡◌, ◌<◌, ◌≤◌, ◌+◌, ◌*◌, ◌/◌, ◌%◌, ◌++◌, ◌⊎◌, ℕ, ℤ, List, [], ◌∷◌, length}
use Rattle.std.proofs.Common.{IfSome, IfNone, Option, Some, None, Err, get_or, inl, inr, refl, sym, ◌∙◌, ap, subst, arith}
use Rattle.std.proofs.lemmas.Bool.{cases_eq}
use Rattle.std.proofs.lemmas.List.{length-append, length-map, get_or_append_left}
use Rattle.std.proofs.Math.Nat.{div-lt_iff_lt-mul}
use Rattle.std.proofs.Math.Seq.{get_or-append_seam}
use Rattle.tri_atlas.specs.Arena.{Arena, Grows, IsArena, triangulation}
use Rattle.tri_atlas.specs.AtlasLaws.{GrowthLaws, HandleLaws}
use Rattle.tri_atlas.specs.Moves.{Move}
use Rattle.tri_atlas.specs.Paths.{MovePath, moves_of}
use Rattle.tri_atlas.specs.FlipPaths.{CanBeFlipped, flipped_along}
use Rattle.free_groupoid.specs.Walks.{DualWalk}
use Rattle.surface_lib.specs.Surfaces.{IsLoop}
use Rattle.train_track.specs.Branches.{words_of}
use Rattle.multicurve_cert.specs.CurveAnswers.{vector_of}
use Rattle.multicurve_cert.specs.Cycles.{AreCycles}
use Rattle.cert_text.specs.Certificates.{CarriedTrack}
use Rattle.cert_text.specs.Limits.{flip_limit, power_limit}
use Rattle.cert_text.specs.PseudoAnosov.{IsPseudoAnosovCertificate, conjugated, track_path, track_triangles}
use Rattle.cert_text.specs.declared.lines.TrackLine.{TrackLine}
use Rattle.cert_text.specs.declared.lines.TrackLine.TheVariants.{NoBounds}
use Rattle.cycle_stages.specs.Stages.{AreGreatestFlips, made, ended, flip}
use Rattle.verdict_plan.specs.FirstTracks.{IsFirstTrack, AreNoTracks, IsLineAt, IsStageAt, PassesAt}
use Rattle.verdict_plan.specs.FirstTracks.{depth_of, power_of, track_count, track_kinds}
use Rattle.verdict_plan.specs.declared.series.Series.TheVariants.{First}
use Rattle.verdict_plan.specs.inside.Sites.{IsLineWith, IsSiteOf, IsStanding, corners_at}
use Rattle.cycle_stages.specs.KeptStages.{there, IsKept, IsStageIn}
use Rattle.verdict_plan.specs.inside.Trials.{IsSoundPass, PassLaw}
use Rattle.verdict_plan.specs.inside.Turns.{AreLines, AreSomeLines, IsPassAt, IsTold, IsToldAt, IsTrial}
use Rattle.verdict_plan.specs.inside.QuickAnswers.{AreFailing}
use Rattle.verdict_plan.specs.declared.sites.Site.{Site}
use Rattle.cycle_stages.specs.declared.stages.Stage.{Stage}
use Rattle.verdict_plan.specs.declared.trials.Trial.{Trial}
use Rattle.verdict_plan.proofs.Grown.{here_before}

-- as many flips as the depth, or fewer
few_flips : (triples after : List (List ℤ)) (w v edges : List ℕ) (depth : ℕ)
    → AreGreatestFlips triples w depth edges after v → length edges ≤ depth
few_flips _ _ _ _ _ _ (made triples w) = omega arith
few_flips _ _ _ _ _ _ (ended triples w depth over) = omega arith
few_flips _ _ _ _ _ _ (flip triples after w v edges e depth best small rest) =
    let fewer : length edges ≤ depth = few_flips _ _ _ _ _ _ rest in omega arith

-- ---- one candidate

module _ (arena : Arena) (word : MovePath) (cycles : List (List ℤ)) (n : ℕ) (site : Site)
    (at : IsSiteOf arena word cycles n site) where
  abbrev triples : List (List ℤ)
  triples = triangulation arena 0

  abbrev moves : List Move
  moves = moves_of arena word

  pub line_at : (line : TrackLine) → IsLineWith arena word site.stage (power_of cycles n) line
      → IsLineAt triples moves cycles n line
  line_at line fails = record {
    edges = site.stage.edges.items;
    there = there arena site.stage;
    vector = site.stage.coords.numbers;
    stage = at.stage;
    fails = fails;
  }

  module _ (c : CarriedTrack) (pass : IsPassAt arena word site.stage (power_of cycles n) c) where
    sound : IsSoundPass First (there arena site.stage) (conjugated triples moves c.flips c.power)
        (corners_at arena site.stage) c
    sound =
        subst (λ (p : ℕ). IsSoundPass First (there arena site.stage) (conjugated triples moves c.flips p)
        (corners_at arena site.stage) c) (sym pass.has_power)
        (subst (λ (es : List ℕ). IsSoundPass First (there arena site.stage)
        (conjugated triples moves es (power_of cycles n)) (corners_at arena site.stage) c) (sym pass.has_flips) pass.sound)

    pub passes_at : PassesAt triples moves cycles n c
    passes_at = record {
      there = there arena site.stage;
      vector = site.stage.coords.numbers;
      stage = subst (λ (es : List ℕ). IsStageAt triples moves cycles n es (there arena site.stage)
          site.stage.coords.numbers) (sym pass.has_flips) at.stage;
      power = pass.has_power;
      passing = sound.passing;
    }

    few : 0 < length cycles → n < track_kinds * length cycles → length c.flips ≤ flip_limit
    few some below =
        let round : n / length cycles < 128 = (div-lt_iff_lt-mul {k = length cycles} {x = n} {y = 128} some).1 below in
        let flips : length site.stage.edges.items ≤ depth_of cycles n =
        few_flips _ _ _ _ _ _ at.stage.flips in
        let same : length c.flips ≡ length site.stage.edges.items =
        ap (λ (es : List ℕ). length es) pass.has_flips in
        omega (arith, round, flips, same)

    pub holds_at : PassLaw → 0 < length cycles → n < track_kinds * length cycles
        → IsPseudoAnosovCertificate triples moves c
    holds_at law some below =
        let power : c.power ≡ 1 + (n / length cycles) % 4 = pass.has_power in
        let positive : 0 < c.power = omega (arith, power) in
        let within : c.power ≤ power_limit = omega (arith, power) in
        let flippable : CanBeFlipped triples c.flips =
        subst (CanBeFlipped triples) (sym pass.has_flips) at.kept.flippable in
        let leads : there arena site.stage ≡ track_triangles triples c =
        at.kept.leads ∙ ap (flipped_along triples) (sym pass.has_flips) in
        law First triples moves (corners_at arena site.stage) c positive within (few some below) flippable
        (subst (λ (ts : List (List ℤ)). IsSoundPass First ts (track_path triples moves c)
        (corners_at arena site.stage) c) leads sound)

-- its site once it is tried
pub site_tried : (arena : Arena) (word : MovePath) (walks : List DualWalk) (n : ℕ) (site : Site)
    → IsSiteOf arena word (words_of walks) n site → (trial : Trial)
    → IsTrial arena word site.stage (1 + (n / length walks) % 4) trial
    → IsSiteOf arena word (words_of walks) n trial.site
site_tried arena word walks n site at trial tried =
    let words : List (List ℤ) = words_of walks in
    let many : length words ≡ length walks = length-map walks (λ (v : DualWalk). v.letters) in
    let same : site.stage ≡ trial.site.stage = sym tried.stage in
    let stands : IsStanding arena word site.stage (power_of words n) trial.site.standing =
    subst (λ (m : ℕ). IsStanding arena word site.stage (1 + (n / m) % 4) trial.site.standing) (sym many)
    tried.standing in record {
      kept = subst (IsKept arena) same at.kept;
      stage = subst
          (IsStageIn arena (triangulation arena 0) (moves_of arena word)
          (vector_of (triangulation arena 0) words n) (depth_of words n)) same at.stage;
      standing = subst (λ (s : Stage). IsStanding arena word s (power_of words n) trial.site.standing) same stands;
    }

-- one that fails has a line, whether it is told or not
pub told_line : (arena : Arena) (word : MovePath) (s : Stage) (power : ℕ) (told : Option TrackLine)
    → IsToldAt arena word s power (Err told)
    → (line : TrackLine) × IsLineWith arena word s power line × ((told ≡ Some line) ⊎ (told ≡ None))
told_line arena word s power (Some line) h = (line, h, inl refl)
told_line arena word s power None (line, h) = (line, h, inr refl)

-- a line that is told makes the log longer by one
pub line_added : (n : ℕ) (log new : List TrackLine) (told : Option TrackLine) → IsTold (Err told) → length log ≡ n
    → IfSome told (λ x. new ≡ log ++ (x ∷ [])) → length new ≡ n + 1
line_added n log new (Some line) has long more =
    let longer : length new ≡ length (log ++ line ∷ []) = ap length more in
    omega (arith, longer, length-append log (line ∷ []), long)
line_added n log new None has long more = absurd has

-- ---- all candidates

module _ (triples : List (List ℤ)) (moves : List Move) (cycles : List (List ℤ)) where
  module _ (n : ℕ) (log : List TrackLine) (h : AreLines triples moves cycles n log) where
    -- one more line
    pub lines_more : (line : TrackLine) (more : List TrackLine) → IsLineAt triples moves cycles n line
        → more ≡ log ++ line ∷ [] → AreLines triples moves cycles (n + 1) more
    lines_more line more new pushed = subst (AreLines triples moves cycles (n + 1)) (sym pushed) (record {
      one_line_each = omega (arith, length-append log (line ∷ []), h.one_line_each);
      lines = λ k other inside. elim (cases_eq k (length log)) [
        | inl e ↦
            let here : k ≡ n = e ∙ h.one_line_each in
            subst (λ (i : ℕ). IsLineAt triples moves cycles i (get_or (log ++ line ∷ []) k other)) (sym here)
            (subst (IsLineAt triples moves cycles n)
            (sym (ap (λ (i : ℕ). get_or (log ++ line ∷ []) i other) e ∙ get_or-append_seam log line [] other)) new)
        | inr apart ↦
            let low : k < length log = omega (arith, length-append log (line ∷ []), apart) in
            subst (IsLineAt triples moves cycles k) (sym (get_or_append_left log (line ∷ []) other k low))
            (h.lines k other low)
      ];
    })

    module _ (are : AreCycles triples cycles) (budget : ℕ) where
      -- the first that passes
      pub first_track : (c : CarriedTrack) → n < track_count cycles budget → PassesAt triples moves cycles n c
          → IsFirstTrack triples moves budget n c
      first_track c within passes = record {
        cycles = cycles;
        are_cycles = are;
        within = within;
        passes = passes;
        before = λ k low. (
          get_or log k NoBounds,
          h.lines k NoBounds (omega (arith, h.one_line_each, low)),
        );
      }

      -- or none
      pub no_tracks : n ≡ track_count cycles budget → AreNoTracks triples moves budget log
      no_tracks full = record {
        cycles = cycles;
        are_cycles = are;
        one_line_each = h.one_line_each ∙ full;
        lines = h.lines;
      }

  -- one candidate more, whose line is told or not
  pub some_more : (n : ℕ) (log new : List TrackLine) (told : Option TrackLine) (line : TrackLine)
      → AreSomeLines triples moves cycles n log → IsLineAt triples moves cycles n line
      → (told ≡ Some line) ⊎ (told ≡ None) → IfSome told (λ x. new ≡ log ++ (x ∷ []))
      → IfNone told (new ≡ log) → AreSomeLines triples moves cycles (n + 1) new
  some_more n log new told line h fails which more same = record {
    lines = h.lines ++ line ∷ [];
    are = lines_more n h.lines h.are line (h.lines ++ line ∷ []) fails refl;
    few = elim which [
      | inl e ↦
          let is : new ≡ log ++ line ∷ [] = rw e at more in
          let long : length new ≡ length (log ++ line ∷ []) = ap length is in
          omega (arith, long, length-append log (line ∷ []), h.few)
      | inr e ↦
          let is : new ≡ log = rw e at same in
          let long : length new ≡ length log = ap length is in
          omega (arith, long, h.few)
    ];
    whole = λ full. elim which [
      | inl e ↦
          let is : new ≡ log ++ line ∷ [] = rw e at more in
          let long : length new ≡ length (log ++ line ∷ []) = ap length is in
          is ∙ ap (λ (ls : List TrackLine). ls ++ line ∷ [])
          (h.whole (omega (arith, long, length-append log (line ∷ []), full)))
      | inr e ↦
          let is : new ≡ log = rw e at same in
          let long : length new ≡ length log = ap length is in
          absurd (omega (arith, long, h.few, full))
    ];
  }

  -- so many candidates, all that there are, fail
  pub all_failing : (budget count : ℕ) (log : List TrackLine) → AreCycles triples cycles
      → AreSomeLines triples moves cycles count log → count ≡ track_count cycles budget
      → AreFailing triples moves budget (track_count cycles budget) log
  all_failing budget count log are h full = record {
    lines = h.lines;
    are = no_tracks count h.lines h.are are budget full;
    many = h.are.one_line_each ∙ full;
    whole = λ long. h.whole (long ∙ sym full);
  }

-- ---- the turn of a candidate, in the grown atlas

module _ (old new : Arena) (growth : GrowthLaws) (grows : Grows old new) (handles : HandleLaws)
    (sound_old : IsArena old) (word : MovePath) (loop : IsLoop old word) (walks : List DualWalk) (n : ℕ) (site : Site)
    (at : IsSiteOf new word (words_of walks) n site) where
  abbrev words : List (List ℤ)
  words = words_of walks

  many : length words ≡ length walks
  many = length-map walks (λ (v : DualWalk). v.letters)

  pub line_tried : (line : TrackLine) → IsLineWith new word site.stage (1 + (n / length walks) % 4) line
      → IsLineAt (triangulation old 0) (moves_of old word) words n line
  line_tried line h =
      here_before old new growth grows handles sound_old word loop (λ ts ms. IsLineAt ts ms words n line)
      (line_at new word words n site at line
      (subst (λ (m : ℕ). IsLineWith new word site.stage (1 + (n / m) % 4) line) (sym many) h))

  module _ (c : CarriedTrack) (pass : IsPassAt new word site.stage (1 + (n / length walks) % 4) c) where
    pass_there : IsPassAt new word site.stage (power_of words n) c
    pass_there = subst (λ (m : ℕ). IsPassAt new word site.stage (1 + (n / m) % 4) c) (sym many) pass

    pub passes_tried : PassesAt (triangulation old 0) (moves_of old word) words n c
    passes_tried =
        here_before old new growth grows handles sound_old word loop (λ ts ms. PassesAt ts ms words n c)
        (passes_at new word words n site at c pass_there)

    pub holds_tried : PassLaw → 0 < length walks → n < track_kinds * length walks
        → IsPseudoAnosovCertificate (triangulation old 0) (moves_of old word) c
    holds_tried law some below =
        here_before old new growth grows handles sound_old word loop (λ ts ms. IsPseudoAnosovCertificate ts ms c)
        (holds_at new word words n site at c pass_there law (subst (λ (m : ℕ). 0 < m) (sym many) some)
        (subst (λ (m : ℕ). n < track_kinds * m) (sym many) below))
