-- What an anchor rule answers of the map of a path, told of the path.
--
-- The map that is kept and the substitution of the path agree on the labels of the triangulation. So the places of the
-- switches, those that either rule chooses, the train paths and the tests of these are the same for both, and what is
-- said of the one holds of the other.
use Rattle.std.proofs.Common.{◌≡◌, ◌<◌, ◌≤◌, ℕ, ℤ, pos, List, [], length, map, sym, ◌∙◌, ap, subst}
use Rattle.std.proofs.Common.{get_or, refl}
use Rattle.std.specs.List.{All, range_with_len}
use Rattle.std.proofs.lemmas.List.Elements.{All-filter, All-map}
use Rattle.std.proofs.lemmas.Simd.{map-map}
use Rattle.ideal_tri.specs.Triangulations.{IsLabel, edge_count}
use Rattle.tri_atlas.specs.Arena.{Arena, IsArena, triangulation}
use Rattle.tri_atlas.specs.MapLaws.{PathLaws}
use Rattle.tri_atlas.specs.Maps.{IsMap, IsOdd, path_map}
use Rattle.tri_atlas.specs.Moves.{Move}
use Rattle.tri_atlas.specs.Paths.{MovePath, moves_of}
use Rattle.free_groupoid.specs.GroupoidLaws.{ImageLaws}
use Rattle.free_groupoid.specs.GroupoidMaps.{GroupoidMap, substitution, vertex_image}
use Rattle.free_groupoid.specs.Walks.{DualWalk, IsWalkOn}
use Rattle.train_track.specs.Branches.{TrainTrack, IsTrackOn, words_of, letter_at}
use Rattle.train_track.specs.Tracks.{is_switch, switches_of}
use Rattle.carry_map.specs.AgreementLaws.{AgreeOn, AgreementLaws, AllAgreementLaws, BranchAgreement}
use Rattle.carry_map.specs.AnchorAnswers.{AllFitBy, IsAnswerBy, PassesCap}
use Rattle.carry_map.specs.AnchorAnswers.{letters_together, walk_by, walks_by}
use Rattle.carry_map.specs.Anchors.{Place}
use Rattle.carry_map.specs.CarriedMaps.{IsCarried}
use Rattle.carry_map.specs.CarryingWalks.{CarryingWalks, carrying_of}
use Rattle.carry_map.specs.declared.carry.AnchorError.TheVariants as refused
use Rattle.cert_text.specs.Limits.{letter_cap}
use Rattle.cert_text.specs.declared.lines.TrackLine.TheVariants.{Illegal, NoCommon, PathsCap}
use Rattle.verdict_plan.specs.TrackTests.{AreAnchorsIn, IsAnchoredBy, IsFitting, IsMapped, IsTrackLine, train_paths}
use Rattle.verdict_plan.specs.inside.Trials.{IsAnswerIn, IsCarriedAlong, IsMapAlong, IsRefusedIn}
use Rattle.verdict_plan.specs.declared.series.Series.{Series}
use Rattle.verdict_plan.specs.declared.series.Series.TheVariants.{First, Further}

-- ---- the map of a path and the substitution of its moves

agree : (arena : Arena) (track : TrainTrack) (path : MovePath) (psi : GroupoidMap) → ImageLaws → IsArena arena
    → IsMapAlong arena track path psi
    → AgreeOn (triangulation arena track.tri) (substitution psi.images) (path_map (moves_of arena path))
agree arena track path psi images is_arena h x label =
    ap (λ (f : GroupoidMap). substitution f.images x) h.is
    ∙ images.path arena path x is_arena h.along.leads
    (subst (λ (t : ℕ). IsLabel (triangulation arena t) x) (sym h.along.start) label)

-- ---- where they agree

module _ (triples : List (List ℤ)) (track : TrainTrack) (psi : GroupoidMap) (path : List Move) (on : IsTrackOn triples track)
    (small : IsMapped triples path track.left_out)
    (same : AgreementLaws triples track.left_out (substitution psi.images) (path_map path)) where
  abbrev branches : List (List ℤ)
  branches = words_of track.branches

  abbrev both : BranchAgreement triples track.left_out branches (substitution psi.images) (path_map path)
  both = same.branches branches on.branches

  -- the rule of the series chooses these
  abbrev AreChosen : Series → List Place → Type 0
  AreChosen series anchors = AreAnchorsIn series triples track.left_out branches (substitution psi.images) anchors

  chosen : (series : Series) (anchors : List Place) → AreChosen series anchors
      → AreAnchorsIn series triples track.left_out branches (path_map path) anchors
  chosen First anchors h = same.anchors anchors h
  chosen Further anchors h = same.middles branches on.branches anchors h

  anchored : (series : Series) (anchors : List Place) → AreChosen series anchors
      → IsAnchoredBy series triples path track.left_out branches anchors
  anchored series anchors h = record { mapped = small; listed = on.branches; chosen = chosen series anchors h }

  fitting : (series : Series) (anchors : List Place) → AreChosen series anchors → AllFitBy triples track psi anchors
      → IsFitting series triples path track.left_out branches anchors
  fitting series anchors h fit = record {
    anchored = anchored series anchors h;
    fit = λ j below. both.fit anchors fit j [] below;
  }

  paths_are : (anchors : List Place)
      → words_of (walks_by triples track psi anchors) ≡ train_paths triples path track.left_out branches anchors
  paths_are anchors =
      ap words_of (both.walks anchors)
      ∙ map-map (λ (w : DualWalk). w.letters) (walk_by triples track.left_out (path_map path) anchors) branches

  pub no_common : (series : Series) (e : ℤ) (n : ℕ)
      → IsRefusedIn series triples track psi letter_cap (refused.NoCommonPart e) → (e ≡ pos n)
      → IsTrackLine series triples path track.left_out (NoCommon n)
  no_common First e n (i, without, is) number = (small, (i, same.without i without, sym number ∙ is))
  no_common Further e n (i, without, is) number = (small, (i, same.without i without, sym number ∙ is))

  pub illegal : (series : Series) (j : ℕ) → IsRefusedIn series triples track psi letter_cap (refused.Illegal j)
      → IsTrackLine series triples path track.left_out (Illegal j)
  illegal First j (anchors, h, unfit) = (branches, anchors, anchored First anchors h, both.unfit anchors j unfit)
  illegal Further j (anchors, h, unfit) = (branches, anchors, anchored Further anchors h, both.unfit anchors j unfit)

  over : (series : Series) (letters : ℕ) (anchors : List Place) → AreChosen series anchors
      → AllFitBy triples track psi anchors
      → PassesCap (map (λ (p : Place). p.connect) anchors) (words_of (walks_by triples track psi anchors)) letter_cap
      letters
      → IsTrackLine series triples path track.left_out (PathsCap letters)
  over series letters anchors h fit past = (
    branches,
    anchors,
    fitting series anchors h fit,
    subst (λ (ws : List (List ℤ)). PassesCap (map (λ (p : Place). p.connect) anchors) ws letter_cap letters)
        (paths_are anchors) past,
  )

  pub paths_cap : (series : Series) (letters : ℕ)
      → IsRefusedIn series triples track psi letter_cap (refused.CapPassed letters)
      → IsTrackLine series triples path track.left_out (PathsCap letters)
  paths_cap First letters (anchors, h, (fit, past)) = over First letters anchors h fit past
  paths_cap Further letters (anchors, h, (fit, past)) = over Further letters anchors h fit past

  carried_by : (series : Series) (c : CarryingWalks) → IsOdd (path_map path)
      → IsMap triples triples (substitution psi.images) (vertex_image psi) → (anchors : List Place)
      → AreChosen series anchors → IsAnswerBy triples track psi anchors letter_cap c
      → IsCarried triples track.left_out branches (substitution psi.images) (vertex_image psi) (carrying_of c)
      → All (IsWalkOn triples) c.images → IsCarriedAlong series triples path track c
  carried_by series c odd is_map anchors h answer carries walks = record {
    on = on;
    walks = walks;
    anchors = anchors;
    fitting = fitting series anchors h answer.fit;
    few_between =
        subst (λ (ws : List (List ℤ)). letters_together ws ≤ letter_cap) answer.connect answer.few_between;
    few_along = answer.few_along;
    to = answer.to;
    connect = answer.connect;
    images = ap words_of answer.images ∙ paths_are anchors;
    triangles = vertex_image psi;
    map = same.maps triples (vertex_image psi) is_map odd;
    carried = both.carried (vertex_image psi) (carrying_of c) carries;
  }

  pub carried_along : (series : Series) (c : CarryingWalks) → IsOdd (path_map path)
      → IsMap triples triples (substitution psi.images) (vertex_image psi)
      → IsAnswerIn series triples track psi letter_cap c
      → IsCarried triples track.left_out branches (substitution psi.images) (vertex_image psi) (carrying_of c)
      → All (IsWalkOn triples) c.images → IsCarriedAlong series triples path track c
  carried_along First c odd is_map h = carried_by First c odd is_map h.anchors h.first h.answer
  carried_along Further c odd is_map h = carried_by Further c odd is_map h.anchors h.chosen h.answer

-- ---- told of a path

-- a switch is listed by a label that isn't negative
is_number : (triples : List (List ℤ)) (left_out : List ℤ) (i : ℕ) → i < length (switches_of triples left_out)
    → (n : ℕ) × (letter_at (switches_of triples left_out) i ≡ pos n)
is_number triples left_out i below =
    All-filter (is_switch triples left_out) IsNumber (map pos edges)
    (All-map IsNumber pos edges (λ k d within. (get_or edges k d, refl))) i (pos 0) below
  where
    IsNumber : ℤ → Type 0
    IsNumber x = (n : ℕ) × (x ≡ pos n)

    edges : List ℕ
    edges = range_with_len 0 (edge_count triples)

module _ (arena : Arena) (is_arena : IsArena arena) (images : ImageLaws) (laws : AllAgreementLaws) (track : TrainTrack)
    (psi : GroupoidMap) (path : MovePath) (h : IsMapAlong arena track path psi) where
  abbrev triples : List (List ℤ)
  triples = triangulation arena track.tri

  abbrev moves : List Move
  moves = moves_of arena path

  abbrev on_it : IsTrackOn triples track
  on_it = h.along.on.on

  abbrev short : IsMapped triples moves track.left_out
  short = record { filling = on_it.filling; within_cap = h.within_cap }

  abbrev agreement : AgreementLaws triples track.left_out (substitution psi.images) (path_map moves)
  agreement =
      laws triples track.left_out (substitution psi.images) (path_map moves)
      (agree arena track path psi images is_arena h)

  number_of : (e : ℤ) (i : ℕ) → i < length (switches_of triples track.left_out)
      → e ≡ letter_at (switches_of triples track.left_out) i → (m : ℕ) × (e ≡ pos m)
  number_of e i within is = (let (m, which) = is_number triples track.left_out i within in (m, is ∙ which))

  refused_number : (series : Series) (e : ℤ)
      → IsRefusedIn series triples track psi letter_cap (refused.NoCommonPart e) → (m : ℕ) × (e ≡ pos m)
  refused_number First e (i, without, is) = number_of e i without.within is
  refused_number Further e (i, without, is) = number_of e i without.within is

  pub told_no_common : (series : Series) (e : ℤ) (n : ℕ)
      → IsRefusedIn series triples track psi letter_cap (refused.NoCommonPart e)
      → ((m : ℕ) → e ≡ pos m → n ≡ m) → IsTrackLine series triples moves track.left_out (NoCommon n)
  told_no_common series e n refusal number =
      let (m, edge) = refused_number series e refusal in
      no_common triples track psi moves on_it short agreement series e n refusal
      (edge ∙ ap pos (sym (number m edge)))

  pub told_illegal : (series : Series) (j : ℕ) → IsRefusedIn series triples track psi letter_cap (refused.Illegal j)
      → IsTrackLine series triples moves track.left_out (Illegal j)
  told_illegal = illegal triples track psi moves on_it short agreement

  pub told_paths_cap : (series : Series) (letters : ℕ)
      → IsRefusedIn series triples track psi letter_cap (refused.CapPassed letters)
      → IsTrackLine series triples moves track.left_out (PathsCap letters)
  told_paths_cap = paths_cap triples track psi moves on_it short agreement

  pub told_carried : PathLaws → (series : Series) (c : CarryingWalks)
      → IsAnswerIn series triples track psi letter_cap c
      → IsCarried triples track.left_out (words_of track.branches) (substitution psi.images) (vertex_image psi)
      (carrying_of c)
      → All (IsWalkOn triples) c.images → IsCarriedAlong series triples moves track c
  told_carried paths series c is carries walks =
      carried_along triples track psi moves on_it short agreement series c (paths.odd moves)
      (subst (λ (t : ℕ). IsMap (triangulation arena t) triples (substitution psi.images) (vertex_image psi))
      h.map.source
      (subst (λ (t : ℕ). IsMap (triangulation arena psi.source) (triangulation arena t) (substitution psi.images)
      (vertex_image psi)) h.map.target h.map.maps.maps))
      is carries walks
