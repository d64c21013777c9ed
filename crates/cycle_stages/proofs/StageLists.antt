-- The list of the stages of a cycle.
--
-- A stage of depth d has at most d flips. Where the flip of the greatest edge would give it too great a number, or no
-- edge can be flipped, the stage is that of all greater depths too. So where the list of the stages of the first
-- depths ends with such a stage, or has all of them, it stands for all depths.
use Rattle.std.proofs.Common.{◌≡◌, ◌<◌, ◌≤◌, ◌+◌, ◌-◌, ◌++◌, inl, inr, ℕ, zero, suc, ℤ, List, [], ◌∷◌, length, min}
use Rattle.std.proofs.Common.{get_or, refl, sym, ◌∙◌, ap, subst, arith}
use Rattle.std.proofs.lemmas.Bool.{cases_eq, cases_lt}
use Rattle.std.proofs.lemmas.List.{length-append, get_or_append_left}
use Rattle.std.proofs.Math.Seq.{get_or-append_seam}
use Rattle.tri_atlas.specs.Arena.{Arena, Grows}
use Rattle.tri_atlas.specs.Moves.{Move}
use Rattle.edge_coords.specs.Coordinates.{Coordinates}
use Rattle.cycle_stages.specs.KeptStages.{there, IsKept, IsStageIn, IsSame}
use Rattle.cycle_stages.specs.StageLaws.{StageLaws}
use Rattle.cycle_stages.specs.StageLists.{AreStages, depth_count, place_of}
use Rattle.cycle_stages.specs.Stages.{AreGreatestFlips, made, ended, flip, HasNoNext, IsStage}
use Rattle.cycle_stages.specs.declared.stages.Stage.{Stage}
use Rattle.cycle_stages.specs.inside.StagesSoFar.{AreFirstStages}
use Rattle.cycle_stages.proofs.GreatestFlips.{stage_no_more}
use Rattle.cycle_stages.proofs.StageSteps.{kept_the_same}

-- ---- one stage

few_flips : (ts there : List (List ℤ)) (u v edges : List ℕ) (depth : ℕ) → AreGreatestFlips ts u depth edges there v
    → length edges ≤ depth
few_flips _ _ _ _ _ _ (made ts u) = omega arith
few_flips _ _ _ _ _ _ (ended ts u depth over) = omega arith
few_flips _ _ _ _ _ _ (flip ts after u v edges e depth best small rest) =
    let few : length edges ≤ depth = few_flips _ _ _ _ _ _ rest in
    omega arith

-- the stage of so many greater depths
stage_on : (triples there : List (List ℤ)) (moves : List Move) (w v edges : List ℕ) (depth more : ℕ)
    → IsStage triples moves w depth edges there v → HasNoNext there v
    → IsStage triples moves w (depth + more) edges there v
stage_on triples there moves w v edges depth zero h none =
    subst (λ (d : ℕ). IsStage triples moves w d edges there v) (omega arith) h
stage_on triples there moves w v edges depth (suc more) h none =
    subst (λ (d : ℕ). IsStage triples moves w d edges there v) (omega arith)
    (stage_no_more triples there moves w v edges (depth + more)
    (stage_on triples there moves w v edges depth more h none) none)

-- the same stage, and its end
pub stage_the_same : (arena : Arena) (triples : List (List ℤ)) (moves : List Move) (w : List ℕ) (depth : ℕ)
    (s t : Stage) → IsStageIn arena triples moves w depth s → IsSame s t
    → IsStageIn arena triples moves w depth t
stage_the_same arena triples moves w depth s t h same =
    subst (λ (es : List ℕ). IsStage triples moves w depth es (there arena t) t.coords.numbers) (sym same.edges)
    (subst (λ (c : Coordinates). IsStage triples moves w depth s.edges.items
    (there arena (record { path = t.path; edges = t.edges; coords = c })) c.numbers) (sym same.coords) h)

pub end_the_same : (arena : Arena) (s t : Stage) → HasNoNext (there arena s) s.coords.numbers → IsSame s t
    → HasNoNext (there arena t) t.coords.numbers
end_the_same arena s t none same =
    subst (λ (c : Coordinates). HasNoNext (there arena (record { path = t.path; edges = t.edges; coords = c })) c.numbers)
    (sym same.coords) none

-- ---- one stage more

each_more : (P : ℕ → Stage → Type 0) (stages : List Stage) (s : Stage) (n : ℕ) → length stages ≡ n
    → ((i : ℕ) (other : Stage) → i < n → P i (get_or stages i other)) → P n s
    → (i : ℕ) (other : Stage) → i < n + 1 → P i (get_or (stages ++ s ∷ []) i other)
each_more P stages s n many before new i other inside = elim (cases_eq i n) [
  | inl e ↦
      subst (λ (k : ℕ). P k (get_or (stages ++ s ∷ []) i other)) (sym e)
      (subst (P n)
      (sym (ap (λ (k : ℕ). get_or (stages ++ s ∷ []) k other) (e ∙ sym many) ∙ get_or-append_seam stages s [] other))
      new)
  | inr apart ↦
      let low : i < length stages = omega (arith, many, apart) in
      subst (P i) (sym (get_or_append_left stages (s ∷ []) other i low)) (before i other (omega (arith, many, low)))
]

module _ (arena : Arena) (triples : List (List ℤ)) (moves : List Move) (w : List ℕ) where
  pub no_stages : (stages : List Stage) → stages ≡ [] → AreFirstStages arena triples moves w 0 stages
  no_stages stages none = record {
    one_each = ap length none;
    kept = subst (λ (ss : List Stage). (i : ℕ) (other : Stage) → i < length ss → IsKept arena (get_or ss i other))
        (sym none) (λ i other inside. absurd (omega arith));
    each = λ depth other inside. absurd (omega arith);
  }

  module _ (n : ℕ) (stages : List Stage) (h : AreFirstStages arena triples moves w n stages) where
    pub stage_pushed : (s : Stage) (more : List Stage) → IsKept arena s
        → IsStageIn arena triples moves w n s → more ≡ stages ++ s ∷ []
        → AreFirstStages arena triples moves w (n + 1) more
    stage_pushed s more kept stage pushed = subst (AreFirstStages arena triples moves w (n + 1)) (sym pushed) (record {
      one_each = omega (arith, length-append stages (s ∷ []), h.one_each);
      kept = λ i other inside. each_more (λ k t. IsKept arena t) stages s n h.one_each
          (λ k t low. h.kept k t (omega (arith, h.one_each, low))) kept i other
          (omega (arith, length-append stages (s ∷ []), h.one_each, inside));
      each = each_more (λ k t. IsStageIn arena triples moves w k t) stages s n h.one_each h.each stage;
    })

    short : (limit i : ℕ) (other : Stage) → n ≤ limit → i < length stages
        → length (get_or stages i other).edges.items < limit
    short limit i other within inside =
        let low : i < n = omega (arith, h.one_each, inside) in
        let few : length (get_or stages i other).edges.items ≤ i =
        few_flips _ _ _ _ _ _ (h.each i other low).flips in
        omega arith

    -- all of them
    pub all_stages : n ≡ depth_count → AreStages arena triples moves w stages
    all_stages all = record {
      some = omega (arith, h.one_each, all);
      few = omega (arith, h.one_each, all);
      kept = h.kept;
      short = λ i other inside. short depth_count i other (omega (arith, all)) inside;
      each = λ depth other low.
          let place : place_of (length stages) depth ≡ depth = omega (arith, h.one_each, all, low) in
          subst (λ (k : ℕ). IsStageIn arena triples moves w depth (get_or stages k other)) (sym place)
          (h.each depth other (omega (arith, all, low)));
    }

    -- or the last one stands for the others
    pub stages_to_end : 0 < n → n ≤ depth_count
        → ((other : Stage) → HasNoNext (there arena (get_or stages (n - 1) other))
        (get_or stages (n - 1) other).coords.numbers)
        → AreStages arena triples moves w stages
    stages_to_end some within none = record {
      some = omega (arith, h.one_each, some);
      few = omega (arith, h.one_each, within);
      kept = h.kept;
      short = λ i other inside. short depth_count i other within inside;
      each = λ depth other low. elim (cases_lt depth n) [
        | inl early ↦
            let place : place_of (length stages) depth ≡ depth = omega (arith, h.one_each, early) in
            subst (λ (k : ℕ). IsStageIn arena triples moves w depth (get_or stages k other)) (sym place)
            (h.each depth other early)
        | inr late ↦
            let place : place_of (length stages) depth ≡ n - 1 = omega (arith, h.one_each, late) in
            let deep : (n - 1) + (depth - (n - 1)) ≡ depth = omega (arith, late) in
            subst (λ (k : ℕ). IsStageIn arena triples moves w depth (get_or stages k other)) (sym place)
            (subst (λ (d : ℕ). IsStageIn arena triples moves w d (get_or stages (n - 1) other)) deep
            (stage_on triples _ moves w _ _ (n - 1) (depth - (n - 1)) (h.each (n - 1) other (omega (arith, some)))
            (none other)))
      ];
    }

-- ---- as the atlas grows

module _ (old new : Arena) (laws : StageLaws) (grows : Grows old new) (triples : List (List ℤ)) (moves : List Move)
    (w : List ℕ) where
  pub stage_grown : (depth : ℕ) (s : Stage) → IsKept old s → IsStageIn old triples moves w depth s
      → IsStageIn new triples moves w depth s
  stage_grown depth s kept h =
      subst (λ (ts : List (List ℤ)). IsStage triples moves w depth s.edges.items ts s.coords.numbers)
      (sym (laws.there old new s grows kept)) h

  pub stages_grown : (n : ℕ) (stages : List Stage) → AreFirstStages old triples moves w n stages
      → AreFirstStages new triples moves w n stages
  stages_grown n stages h = record {
    one_each = h.one_each;
    kept = λ i other inside. laws.kept old new (get_or stages i other) grows (h.kept i other inside);
    each = λ depth other low. stage_grown depth (get_or stages depth other)
        (h.kept depth other (omega (arith, h.one_each, low))) (h.each depth other low);
  }

  -- the list with a copy of a stage after which there is no flip
  pub ended_stages : (n : ℕ) (stages more : List Stage) (s t : Stage) → AreFirstStages old triples moves w n stages
      → IsKept old s → IsStageIn old triples moves w n s → IsSame s t → more ≡ stages ++ t ∷ []
      → HasNoNext (there old s) s.coords.numbers → n + 1 ≤ depth_count → AreStages new triples moves w more
  ended_stages n stages more s t listed kept stage same pushed none few =
      let kept_too : IsKept old t = kept_the_same old s t kept same in
      let no_more : HasNoNext (there new t) t.coords.numbers =
      subst (λ (ts : List (List ℤ)). HasNoNext ts t.coords.numbers) (sym (laws.there old new t grows kept_too))
      (end_the_same old s t none same) in
      let last : (k : ℕ) → k ≡ n → (other : Stage) → get_or more k other ≡ t =
      λ k is other. ap (λ (us : List Stage). get_or us k other) pushed
      ∙ ap (λ (i : ℕ). get_or (stages ++ t ∷ []) i other) (is ∙ sym listed.one_each)
      ∙ get_or-append_seam stages t [] other in
      stages_to_end new triples moves w (n + 1) more
      (stages_grown (n + 1) more
      (stage_pushed old triples moves w n stages listed t more kept_too
      (stage_the_same old triples moves w n s t stage same) pushed))
      (omega arith) few
      (λ other. subst (λ (u : Stage). HasNoNext (there new u) u.coords.numbers)
      (sym (last ((n + 1) - 1) (omega arith) other)) no_more)
