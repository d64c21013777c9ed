-- The further candidates in order.
--
-- The first track of candidate n lies at the stage of depth n mod 56. Of so many stages, where the flips end early, the
-- last is that of all deeper ones; so where n mod 56 is the number of stages or more, candidate n begins where the one
-- before did, with the same power, and has its line.
use Rattle.std.proofs.Common.{◌≡◌, ◌<◌, ◌≤◌, ◌+◌, ◌-◌, ◌/◌, ◌%◌, ◌++◌, ◌⊎◌, ℕ, suc, ℤ, List, [], ◌∷◌, length, map}
use Rattle.std.proofs.Common.{All, get_or, min, inl, inr, refl, sym, ◌∙◌, ap, subst, arith}
use Rattle.std.proofs.lemmas.Bool.{cases_lt}
use Rattle.std.proofs.lemmas.List.{length-append, length-map, get_or-map, get_or_append_left}
use Rattle.std.proofs.Math.Seq.{get_or-append_seam}
use Rattle.tri_atlas.specs.Arena.{Arena, Grows, IsTriIn, triangulation}
use Rattle.tri_atlas.specs.AtlasLaws.{GrowthLaws}
use Rattle.tri_atlas.specs.Moves.{Move}
use Rattle.tri_atlas.specs.Paths.{MovePath, moves_of}
use Rattle.surface_lib.specs.Surfaces.{IsLoop}
use Rattle.cycle_stages.specs.KeptStages.{there, IsKept}
use Rattle.cycle_stages.specs.StageLaws.{StageLaws}
use Rattle.cycle_stages.specs.StageLists.{AreStages, place_of}
use Rattle.cycle_stages.specs.Stages.{IsStage}
use Rattle.cycle_stages.specs.declared.stages.Stage.{Stage}
use Rattle.cert_text.specs.Certificates.{CarriedTrack}
use Rattle.cert_text.specs.declared.lines.TrackLine.{TrackLine}
use Rattle.cert_text.specs.declared.lines.TrackLine.TheVariants.{NoCommon, NotPrimitive}
use Rattle.verdict_plan.specs.FurtherTracks.{Site, AreFurtherLines, AreSitesOf, CanBeRepaired, IsFirstFurther}
use Rattle.verdict_plan.specs.FurtherTracks.{IsFurtherLine, IsLineThere, PassesFurther, PassesThere, depths}
use Rattle.verdict_plan.specs.FurtherTracks.{further_count, further_depth, further_power, last_site, most_tracks}
use Rattle.verdict_plan.specs.FurtherTracks.{site_at}
use Rattle.verdict_plan.specs.inside.FurtherSites.{IsLineFrom, IsReached, PassesFrom, site_of}
use Rattle.verdict_plan.proofs.GrownBase.{onward, backward}
use Rattle.verdict_plan.specs.inside.FurtherStages.{AreLinesFrom, AreShortStages, AreStarts, sites_of, start_of}

-- ---- places

place_inside : (count depth : ℕ) → depth < count → place_of count depth ≡ depth
place_inside count depth less = omega (arith, less)

place_behind : (count depth : ℕ) → 0 < count → count ≤ depth + 1 → place_of count depth ≡ count - 1
place_behind count depth some far = omega (arith, some, far)

place_within : (count depth : ℕ) → 0 < count → place_of count depth < count
place_within count depth some = omega (arith, some)

-- where a stage of the list is
pub site_there : (arena : Arena) (stages : List Stage) (i : ℕ) (other : Stage) → i < length stages
    → site_at (sites_of arena stages) i ≡ site_of arena (get_or stages i other)
site_there arena stages i other within = get_or-map (site_of arena) stages i other _ within

-- ---- where candidates begin

module _ (arena : Arena) (stages : List Stage) (n : ℕ) where
  -- at the stage of the depth
  pub start_inside : (other : Stage) → further_depth n < length stages
      → start_of (sites_of arena stages) n ≡ site_of arena (get_or stages (further_depth n) other)
  start_inside other less =
      ap (λ (k : ℕ). site_at (sites_of arena stages) k)
      (ap (λ (c : ℕ). place_of c (further_depth n)) (length-map stages (site_of arena))
      ∙ place_inside (length stages) (further_depth n) less)
      ∙ site_there arena stages (further_depth n) other less

-- where the one before does
module _ (sites : List Site) (n before : ℕ) (next : before + 1 ≡ n) (some : 0 < length sites)
    (behind : length sites ≤ further_depth n) where
  same_power : further_power before ≡ further_power n
  same_power = omega (arith, next, some, behind)

  one_less : further_depth before + 1 ≡ further_depth n
  one_less = omega (arith, next, some, behind)

  same_start : start_of sites before ≡ start_of sites n
  same_start =
      ap (site_at sites)
      (place_behind (length sites) (further_depth before) some (omega (arith, one_less, behind))
      ∙ sym (place_behind (length sites) (further_depth n) some (omega (arith, behind))))

  pub line_again : (triples : List (List ℤ)) (moves : List Move) (line : TrackLine)
      → IsLineFrom triples moves (further_power before) (start_of sites before) line
      → IsLineFrom triples moves (further_power n) (start_of sites n) line
  line_again triples moves line h =
      subst (λ (p : ℕ). IsLineFrom triples moves p (start_of sites n) line) same_power
      (subst (λ (s : Site). IsLineFrom triples moves (further_power before) s line) same_start h)

pub starts : (arena : Arena) (triples : List (List ℤ)) (moves : List Move) (w : List ℕ) (stages : List Stage)
    → AreStages arena triples moves w stages → AreStarts triples moves w (sites_of arena stages)
starts arena triples moves w [] h n = absurd (omega (arith, h.some))
starts arena triples moves w (s ∷ rest) h n =
    let depth : ℕ = further_depth n in
    let place : ℕ = place_of (length (s ∷ rest)) depth in
    let there_is : start_of (sites_of arena (s ∷ rest)) n ≡ site_of arena (get_or (s ∷ rest) place s) =
    ap (λ (c : ℕ). site_at (sites_of arena (s ∷ rest)) (place_of c depth)) (length-map (s ∷ rest) (site_of arena))
    ∙ site_there arena (s ∷ rest) place s (place_within (length (s ∷ rest)) depth h.some) in
    subst (λ (a : Site). IsStage triples moves w depth a.edges a.triangles a.vector) (sym there_is)
    (h.each depth s (omega arith))

-- ---- the stages as the atlas grows

pub sites_grown : StageLaws → (old new : Arena) → Grows old new → (stages : List Stage) → All (IsKept old) stages
    → sites_of new stages ≡ sites_of old stages
sites_grown laws old new grows [] kept = refl
sites_grown laws old new grows (s ∷ rest) kept =
    let here : there new s ≡ there old s = laws.there old new s grows (kept 0 s (omega arith)) in
    let first : site_of new s ≡ site_of old s =
    λ i. record { edges = s.edges.items; triangles = here i; vector = s.coords.numbers } in
    let others : sites_of new rest ≡ sites_of old rest =
    sites_grown laws old new grows rest (λ k d within. kept (suc k) d (omega (arith, within))) in
    λ i. first i ∷ others i

pub short_grown : StageLaws → (old new : Arena) → Grows old new → (stages : List Stage)
    → AreShortStages old stages → AreShortStages new stages
short_grown laws old new grows stages h = record {
  some = h.some;
  kept = λ k d within. laws.kept old new (get_or stages k d) grows (h.kept k d within);
  short = h.short;
}

-- what is said of the base, the word's moves and the sites
module _ (stage_laws : StageLaws) (laws : GrowthLaws) (old new : Arena) (word : MovePath) (grows : Grows old new)
    (base : IsTriIn old 0) (loop : IsLoop old word) (stages : List Stage) (kept : All (IsKept old) stages)
    (P : List (List ℤ) → List Move → List Site → Type 0) where
  pub said_now : P (triangulation old 0) (moves_of old word) (sites_of old stages)
      → P (triangulation new 0) (moves_of new word) (sites_of new stages)
  said_now h =
      subst (P (triangulation new 0) (moves_of new word)) (sym (sites_grown stage_laws old new grows stages kept))
      (onward laws old new word grows base loop (λ ts ms. P ts ms (sites_of old stages)) h)

  pub said_before : P (triangulation new 0) (moves_of new word) (sites_of new stages)
      → P (triangulation old 0) (moves_of old word) (sites_of old stages)
  said_before h =
      backward laws old new word grows base loop (λ ts ms. P ts ms (sites_of old stages))
      (subst (P (triangulation new 0) (moves_of new word)) (sites_grown stage_laws old new grows stages kept) h)

-- ---- lines and passes by the definitions

module _ (triples : List (List ℤ)) (moves : List Move) (w : List ℕ) (sites : List Site)
    (begin : AreStarts triples moves w sites) where
  module _ (n : ℕ) (last : Site) (repairs : ℕ) (few : repairs < most_tracks)
      (h : IsReached triples moves (further_power n) (start_of sites n) repairs last) where
    last_is : last_site h.sites ≡ last
    last_is = ap (site_at h.sites) (omega (arith, h.as_many)) ∙ h.to

    sites_are : AreSitesOf triples moves w n h.sites
    sites_are = record {
      some = omega (arith, h.as_many);
      few = omega (arith, h.as_many, few);
      stage = subst
          (λ (a : Site). IsStage triples moves w (further_depth n) a.edges a.triangles a.vector) (sym h.from)
          (begin n);
      repaired = h.repaired;
    }

  pub further_line : (n : ℕ) (line : TrackLine)
      → IsLineFrom triples moves (further_power n) (start_of sites n) line
      → IsFurtherLine triples moves w n line
  further_line n line h =
      let is : last_site h.reached.sites ≡ h.last = last_is n h.last h.repairs h.few h.reached in record {
        sites = h.reached.sites;
        are_sites = sites_are n h.last h.repairs h.few h.reached;
        fails = subst (λ (a : Site). IsLineThere triples moves (further_power n) a line) (sym is) h.fails;
        ended = λ edge names. elim h.ended [
          | inl all ↦ inl (omega (arith, all, h.reached.as_many))
          | inr last ↦ inr (λ can. last (edge, names, subst (λ (a : Site). CanBeRepaired a edge) is can))
        ];
      }

  pub further_pass : (n : ℕ) (c : CarriedTrack)
      → PassesFrom triples moves (further_power n) (start_of sites n) c → PassesFurther triples moves w n c
  further_pass n c h =
      let is : last_site h.reached.sites ≡ h.last = last_is n h.last h.repairs h.few h.reached in record {
        sites = h.reached.sites;
        are_sites = sites_are n h.last h.repairs h.few h.reached;
        passes = subst (λ (a : Site). PassesThere triples moves (further_power n) a c) (sym is) h.passes;
      }

  pub first_further : (n : ℕ) (log : List TrackLine) (c : CarriedTrack) → n < further_count
      → AreLinesFrom triples moves sites n log
      → PassesFrom triples moves (further_power n) (start_of sites n) c → IsFirstFurther triples moves w n c
  first_further n log c within h passes = record {
    within = within;
    passes = further_pass n c passes;
    before = λ k less. (
      get_or log k NotPrimitive,
      further_line k (get_or log k NotPrimitive) (h.lines k NotPrimitive (omega (arith, less, h.one_line_each))),
    );
  }

  pub further_lines : (log : List TrackLine) → AreLinesFrom triples moves sites further_count log
      → AreFurtherLines triples moves w log
  further_lines log h = record {
    one_line_each = h.one_line_each;
    lines = λ n line within. further_line n (get_or log n line) (h.lines n line within);
  }

-- ---- one line more

pub no_lines : (triples : List (List ℤ)) (moves : List Move) (sites : List Site) (log : List TrackLine) → log ≡ []
    → AreLinesFrom triples moves sites 0 log
no_lines triples moves sites log none = record {
  one_line_each = ap length none;
  lines = λ k line within. absurd (omega (arith, within, ap length none));
}

pub lines_more : (triples : List (List ℤ)) (moves : List Move) (sites : List Site) (n : ℕ) (line : TrackLine)
    (log more : List TrackLine) → more ≡ log ++ line ∷ [] → AreLinesFrom triples moves sites n log
    → IsLineFrom triples moves (further_power n) (start_of sites n) line
    → AreLinesFrom triples moves sites (n + 1) more
lines_more triples moves sites n line log more pushed h last =
    subst (AreLinesFrom triples moves sites (n + 1)) (sym pushed) (record {
      one_line_each = omega (arith, h.one_line_each, length-append log (line ∷ []));
      lines = λ k any within. elim (cases_lt k (length log)) [
        | inl before ↦
            subst (IsLineFrom triples moves (further_power k) (start_of sites k))
            (sym (get_or_append_left log (line ∷ []) any k before)) (h.lines k any before)
        | inr not_before ↦
            let here : k ≡ length log =
            omega (arith, within, not_before, length-append log (line ∷ [])) in
            let is : get_or (log ++ line ∷ []) k any ≡ line =
            ap (λ (j : ℕ). get_or (log ++ line ∷ []) j any) here ∙ get_or-append_seam log line [] any in
            subst (IsLineFrom triples moves (further_power k) (start_of sites k)) (sym is)
            (subst (λ (j : ℕ). IsLineFrom triples moves (further_power j) (start_of sites j) line)
            (sym (here ∙ h.one_line_each)) last)
      ];
    })
