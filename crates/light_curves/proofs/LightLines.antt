-- The lines of the candidates about light edges, one after another, and what they say of the stages of a cycle.
use Rattle.std.proofs.Common.{◌≡◌, ◌<◌, ◌≤◌, ◌+◌, ◌-◌, ◌++◌, inl, inr, ℕ, List, [], ◌∷◌, length, get_or, ap, sym}
use Rattle.std.proofs.Common.{◌∙◌, subst, arith}
use Rattle.std.proofs.lemmas.Bool.{cases_eq}
use Rattle.std.proofs.lemmas.List.{length-append, get_or_append_left}
use Rattle.std.proofs.Math.Seq.{get_or-append_seam}
use Rattle.ideal_tri.specs.Vectors.{IsMulticurve}
use Rattle.tri_atlas.specs.Arena.{Arena, triangulation}
use Rattle.tri_atlas.specs.MovedVectors.{vector_along}
use Rattle.tri_atlas.specs.Moves.{Move, back_along}
use Rattle.tri_atlas.specs.FlipPaths.{flips_along}
use Rattle.ideal_tri.specs.PeripheralParts.{stripped}
use Rattle.edge_coords.specs.Coordinates.{Coordinates}
use Rattle.edge_coords.specs.declared.lines.CurveLine.{CurveLine}
use Rattle.edge_coords.specs.declared.lines.CurveLine.TheVariants.{NotMulticurve}
use Rattle.multicurve_cert.specs.LastTests.{IsLastLine}
use Rattle.cycle_stages.specs.KeptStages.{there, IsStageIn}
use Rattle.cycle_stages.specs.StageLists.{AreStages, depth_count, place_of}
use Rattle.cycle_stages.specs.declared.stages.Stage.{Stage}
use Rattle.light_curves.specs.LightCurves.{AreLightLines, IsFirstLight, IsLightLine, PassesLight}
use Rattle.light_curves.specs.inside.StageCurves.{AreLinesSoFar, IsLineHere, PassesHere}
use Rattle.light_curves.specs.inside.Touched.{IsCurveAbout}

-- ---- one candidate

-- a line of the last tests
pub last_line_here : (arena : Arena) (moves : List Move) (s : Stage) (curves : Coordinates) (made : List ℕ)
    (line : CurveLine) → IsCurveAbout arena s.coords curves
    → made ≡ vector_along (back_along (flips_along (triangulation arena 0) s.edges.items)) curves.numbers
    → IsLastLine (triangulation arena 0) moves (stripped (triangulation arena 0) made) line
    → IsLineHere arena moves s line
last_line_here arena moves s curves made line about is last = record {
  b = curves.numbers;
  about = about.about;
  fails = inr (
    subst (λ (t : ℕ). IsMulticurve (triangulation arena t) curves.numbers) about.tri about.here.multicurve,
    subst (λ (ns : List ℕ). IsLastLine (triangulation arena 0) moves (stripped (triangulation arena 0) ns) line) is last,
  );
}

-- ---- one line more

-- the place of a depth among the stages
own_place : (count depth : ℕ) → depth < count → place_of count depth ≡ depth
own_place count depth within = omega (arith, within)

last_place : (count depth : ℕ) → 0 < count → count ≤ depth → place_of count depth ≡ place_of count (depth - 1)
last_place count depth some past = omega (arith, some, past)

module _ (arena : Arena) (moves : List Move) (stages : List Stage) where
  pub no_lines : (log : List CurveLine) → log ≡ [] → AreLinesSoFar arena moves stages 0 log
  no_lines log none = record {
    one_each = ap length none;
    lines = λ k other line within. absurd (omega (arith, within));
  }

  module _ (n : ℕ) (log more : List CurveLine) (line : CurveLine) (so_far : AreLinesSoFar arena moves stages n log)
      (pushed : more ≡ log ++ line ∷ []) where
    line_more : ((other : Stage) → IsLineHere arena moves (get_or stages (place_of (length stages) n) other) line)
        → AreLinesSoFar arena moves stages (n + 1) more
    line_more here = record {
      one_each =
          let long = length-append log (line ∷ []) in
          ap length pushed ∙ omega (arith, long, so_far.one_each);
      lines = λ k other d within. elim (cases_eq k n) [
        | inl last ↦
            subst (λ (j : ℕ). IsLineHere arena moves (get_or stages (place_of (length stages) j) other) (get_or more j d))
            (sym last)
            (subst (IsLineHere arena moves (get_or stages (place_of (length stages) n) other))
            (sym (ap (λ (ls : List CurveLine). get_or ls n d) pushed
            ∙ ap (λ (j : ℕ). get_or (log ++ line ∷ []) j d) (sym so_far.one_each)
            ∙ get_or-append_seam log line [] d))
            (here other))
        | inr apart ↦
            let low : k < n = omega (arith, within, apart) in
            let inside : k < length log = omega (arith, low, so_far.one_each) in
            subst (IsLineHere arena moves (get_or stages (place_of (length stages) k) other))
            (sym (ap (λ (ls : List CurveLine). get_or ls k d) pushed
            ∙ get_or_append_left log (line ∷ []) d k inside))
            (so_far.lines k other d low)
      ];
    }

    -- of a stage of its own
    pub own_line : (s : Stage) → n < length stages → ((other : Stage) → get_or stages n other ≡ s)
        → IsLineHere arena moves s line → AreLinesSoFar arena moves stages (n + 1) more
    own_line s within is here =
        line_more (λ other.
        subst (λ (p : ℕ). IsLineHere arena moves (get_or stages p other) line)
        (sym (own_place (length stages) n within))
        (subst (λ (t : Stage). IsLineHere arena moves t line) (sym (is other)) here))

    -- that of the last stage
    pub same_line : 0 < length stages → length stages ≤ n → ((d : CurveLine) → get_or log (n - 1) d ≡ line)
        → AreLinesSoFar arena moves stages (n + 1) more
    same_line some past is =
        line_more (λ other.
        subst (λ (p : ℕ). IsLineHere arena moves (get_or stages p other) line)
        (sym (last_place (length stages) n some past))
        (subst (IsLineHere arena moves (get_or stages (place_of (length stages) (n - 1)) other)) (is line)
        (so_far.lines (n - 1) other line (omega (arith, some, past)))))

-- ---- the stages of a cycle

first_of : (stages : List Stage) → 0 < length stages → Stage
first_of [] some = absurd (omega (arith, some))
first_of (s ∷ stages) some = s

light_line : (arena : Arena) (moves : List Move) (w : List ℕ) (n : ℕ) (s : Stage) (line : CurveLine)
    → IsStageIn arena (triangulation arena 0) moves w n s → IsLineHere arena moves s line
    → IsLightLine (triangulation arena 0) moves w n line
light_line arena moves w n s line stage here = record {
  edges = s.edges.items;
  there = there arena s;
  b = here.b;
  vector = record { vector = s.coords.numbers; stage = stage; about = here.about };
  fails = here.fails;
}

light_passes : (arena : Arena) (moves : List Move) (w : List ℕ) (n : ℕ) (s : Stage) (c : Coordinates)
    → IsStageIn arena (triangulation arena 0) moves w n s → PassesHere arena moves s c
    → PassesLight (triangulation arena 0) moves w n c.numbers
light_passes arena moves w n s c stage here = record {
  edges = s.edges.items;
  there = there arena s;
  b = here.b;
  vector = record { vector = s.coords.numbers; stage = stage; about = here.about };
  multicurve = here.multicurve;
  are_numbers = here.numbers;
  passes = here.passes;
}

module _ (arena : Arena) (moves : List Move) (w : List ℕ) (stages : List Stage)
    (are : AreStages arena (triangulation arena 0) moves w stages) (n : ℕ) (log : List CurveLine)
    (so_far : AreLinesSoFar arena moves stages n log) where
  line_so_far : n ≤ depth_count → (k : ℕ) (line : CurveLine) → k < n
      → IsLightLine (triangulation arena 0) moves w k (get_or log k line)
  line_so_far few k line within =
      light_line arena moves w k (get_or stages (place_of (length stages) k) (first_of stages are.some))
      (get_or log k line) (are.each k (first_of stages are.some) (omega (arith, few, within)))
      (so_far.lines k (first_of stages are.some) line within)

  pub all_lines : n ≡ depth_count → AreLightLines (triangulation arena 0) moves w log
  all_lines all = record {
    one_line_each = so_far.one_each ∙ all;
    lines = λ k line within. line_so_far (omega (arith, all)) k line (omega (arith, within, so_far.one_each));
  }

  -- candidate n passes
  pub first_light : (s : Stage) (c : Coordinates) → n < depth_count → n < length stages
      → ((other : Stage) → get_or stages n other ≡ s) → PassesHere arena moves s c
      → IsFirstLight (triangulation arena 0) moves w n c.numbers
  first_light s c few within is here = record {
    within = few;
    passes = light_passes arena moves w n s c
        (subst (IsStageIn arena (triangulation arena 0) moves w n)
        (ap (λ (p : ℕ). get_or stages p s) (own_place (length stages) n within) ∙ is s)
        (are.each n s few)) here;
    before = λ k low. (get_or log k NotMulticurve, line_so_far (omega (arith, few)) k NotMulticurve low);
  }
