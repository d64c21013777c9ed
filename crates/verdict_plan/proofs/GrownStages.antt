-- The stages of the further candidates stay what they are as the atlas grows, and within a smaller budget.
use Rattle.std.proofs.Common.{◌≡◌, ◌<◌, ◌≤◌, ℕ, ℤ, List, length, slice_index_or, inl, inr, sym, ap, subst, arith}
use Rattle.tri_atlas.specs.Arena.{Arena, Grows, IsTriIn, triangulation}
use Rattle.tri_atlas.specs.AtlasLaws.{GrowthLaws}
use Rattle.tri_atlas.specs.Moves.{Move}
use Rattle.tri_atlas.specs.Paths.{MovePath, moves_of}
use Rattle.surface_lib.specs.Surfaces.{IsLoop}
use Rattle.cycle_stages.specs.KeptStages.{there, IsKept, IsStageIn}
use Rattle.cycle_stages.specs.OpenCycles.{IsOpenCycle}
use Rattle.cycle_stages.specs.StageLaws.{StageLaws}
use Rattle.cycle_stages.specs.StageLists.{AreStages, depth_count, place_of}
use Rattle.cycle_stages.specs.Stages.{IsStage}
use Rattle.cycle_stages.specs.declared.stages.Stage.{Stage}
use Rattle.verdict_plan.specs.AllCandidates.{AreNoFurther, further_budget}
use Rattle.verdict_plan.specs.inside.OpenStages.{AreFurtherStages, AreOpenStages}
use Rattle.verdict_plan.proofs.GrownBase.{onward}

-- ---- the atlas grows

module _ (growth : GrowthLaws) (laws : StageLaws) (old new : Arena) (word : MovePath) (grows : Grows old new)
    (base : IsTriIn old 0) (loop : IsLoop old word) where
  -- the stages of a cycle
  pub stages_on : (w : List ℕ) (stages : List Stage)
      → AreStages old (triangulation old 0) (moves_of old word) w stages
      → AreStages new (triangulation new 0) (moves_of new word) w stages
  stages_on w stages h = record {
    some = h.some;
    few = h.few;
    kept = λ k d within. laws.kept old new (slice_index_or stages k d) grows (h.kept k d within);
    short = h.short;
    each = λ depth other below.
        let s : Stage = slice_index_or stages (place_of (length stages) depth) other in
        let some : 0 < length stages = h.some in
        let inside : place_of (length stages) depth < length stages = omega arith in
        let kept : IsKept old s = h.kept (place_of (length stages) depth) other inside in
        onward growth old new word grows base loop
        (λ (ts : List (List ℤ)) (ms : List Move). IsStageIn new ts ms w depth s)
        (subst (λ (at : List (List ℤ)). IsStage (triangulation old 0) (moves_of old word) w depth s.edges.items at
        s.coords.numbers) (sym (laws.there old new s grows kept)) (h.each depth other below));
  }

  -- those of the first nonperipheral cycle
  pub open_stages_on : (stages : List Stage) → AreOpenStages old word stages → AreOpenStages new word stages
  open_stages_on stages h = record {
    vector = h.vector;
    open_cycle = onward growth old new word grows base loop
        (λ (ts : List (List ℤ)) (ms : List Move). IsOpenCycle ts h.vector) h.open_cycle;
    are_stages = stages_on h.vector stages h.are_stages;
  }

  -- or none
  pub further_stages_on : (budget : ℕ) (stages : List Stage) → AreFurtherStages old word budget stages
      → AreFurtherStages new word budget stages
  further_stages_on budget stages (inl none) =
      inl (
        none.0,
        onward growth old new word grows base loop
            (λ (ts : List (List ℤ)) (ms : List Move). AreNoFurther ts budget) none.1,
      )
  further_stages_on budget stages (inr h) = inr (open_stages_on stages h)

-- ---- a smaller budget

-- where there are no further candidates within a budget, there are none within a smaller one
pub none_within_less : (triples : List (List ℤ)) (budget most : ℕ) → budget ≤ most → AreNoFurther triples most
    → AreNoFurther triples budget
none_within_less triples budget most less (inl few) = inl (omega arith)
none_within_less triples budget most less (inr none) = inr none

pub stages_within_less : (arena : Arena) (word : MovePath) (budget most : ℕ) (stages : List Stage) → budget ≤ most
    → AreFurtherStages arena word most stages → AreFurtherStages arena word budget stages
stages_within_less arena word budget most stages less (inl none) =
    inl (none.0, none_within_less (triangulation arena 0) budget most less none.1)
stages_within_less arena word budget most stages less (inr h) = inr h

-- ---- whether there are any

-- an empty list says that there are no further candidates
pub none_of_empty : (arena : Arena) (word : MovePath) (budget : ℕ) (stages : List Stage) → length stages ≡ 0
    → AreFurtherStages arena word budget stages → AreNoFurther (triangulation arena 0) budget
none_of_empty arena word budget stages empty (inl none) = none.1
none_of_empty arena word budget stages empty (inr h) =
    absurd (let some : 0 < length stages = h.are_stages.some in omega arith)

-- and one that isn't empty is that of the stages
pub open_of_some : (arena : Arena) (word : MovePath) (budget : ℕ) (stages : List Stage) → 0 < length stages
    → AreFurtherStages arena word budget stages → AreOpenStages arena word stages
open_of_some arena word budget stages some (inl none) =
    absurd (let empty : length stages ≡ 0 = ap (λ (ss : List Stage). length ss) none.0 in omega arith)
open_of_some arena word budget stages some (inr h) = h
