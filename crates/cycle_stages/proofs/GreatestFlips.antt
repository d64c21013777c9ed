-- Flips of greatest edges: one more at the end.
--
-- Flips of greatest edges are defined step by step from the front; the stages of a cycle grow at the end. Let d flips,
-- fewer where they ended, lead from (T, w) to (S, v). By induction over them: where the greatest edge e of S has a new
-- number below the limit, d + 1 flips lead to S with e flipped (if they had ended before, the new number of that very
-- edge would reach the limit); where it reaches the limit, or no edge can be flipped, d + 1 flips lead to (S, v) too,
-- and end there.
use Rattle.std.proofs.Common.{◌≡◌, ◌++◌, ◌+◌, ℕ, zero, suc, ℤ, pos, List, [], ◌∷◌}
use Rattle.std.proofs.Common.{sym, subst, add-one}
use Rattle.ideal_tri.specs.Flips.{flipped}
use Rattle.tri_atlas.specs.Arena.{flip_of}
use Rattle.tri_atlas.specs.Moves.{Move}
use Rattle.tri_atlas.specs.MovedVectors.{vector_after}
use Rattle.multicurve_cert.specs.Candidates.{image_number}
use Rattle.cycle_stages.specs.Stages.{AreGreatestFlips, made, ended, flip, IsStage}
use Rattle.cycle_stages.specs.Stages.{HasNoNext}
use Rattle.cycle_stages.specs.inside.NextFlips.{IsLastImage, IsNext}

-- ---- one more at the end

pub flip_more : (triples there : List (List ℤ)) (w v edges : List ℕ) (depth e : ℕ)
    → AreGreatestFlips triples w depth edges there v → IsNext there v e
    → AreGreatestFlips triples w (suc depth) (edges ++ e ∷ []) (flipped there (pos e))
    (vector_after (flip_of there (pos e)) v)
flip_more _ _ _ _ _ _ e (made triples w) more =
    flip triples (flipped triples (pos e)) w (vector_after (flip_of triples (pos e)) w) [] e zero more.greatest
    more.small (made (flipped triples (pos e)) (vector_after (flip_of triples (pos e)) w))
flip_more _ _ _ _ _ _ e (ended triples w depth over) more = absurd (more.small (over e more.greatest))
flip_more _ _ _ _ _ _ e (flip triples after w v edges f depth best small rest) more =
    flip triples (flipped after (pos e)) w (vector_after (flip_of after (pos e)) v) (edges ++ e ∷ []) f (suc depth)
    best small (flip_more _ _ _ _ _ _ e rest more)

-- or none
pub flip_no_more : (triples there : List (List ℤ)) (w v edges : List ℕ) (depth : ℕ)
    → AreGreatestFlips triples w depth edges there v → HasNoNext there v
    → AreGreatestFlips triples w (suc depth) edges there v
flip_no_more _ _ _ _ _ _ (made triples w) none = ended triples w zero none
flip_no_more _ _ _ _ _ _ (ended triples w depth over) none = ended triples w (suc depth) over
flip_no_more _ _ _ _ _ _ (flip triples after w v edges f depth best small rest) none =
    flip triples after w v edges f (suc depth) best small (flip_no_more _ _ _ _ _ _ rest none)

-- ---- the stage

-- without flips
pub stage_first : (triples there : List (List ℤ)) (moves : List Move) (w v edges : List ℕ)
    → IsLastImage triples moves w v → edges ≡ [] → there ≡ triples → IsStage triples moves w 0 edges there v
stage_first triples there moves w v edges last none here = record {
  times = last.times;
  last = last.last;
  flips = subst (λ (es : List ℕ). AreGreatestFlips triples (image_number triples moves w last.times) 0 es there v)
      (sym none)
      (subst (λ (ts : List (List ℤ)). AreGreatestFlips triples (image_number triples moves w last.times) 0 [] ts v)
      (sym here)
      (subst (λ (u : List ℕ). AreGreatestFlips triples u 0 [] triples v) last.numbers (made triples v)));
}

-- one flip deeper, or as it was
module _ (triples there : List (List ℤ)) (moves : List Move) (w v edges : List ℕ) (depth : ℕ)
    (h : IsStage triples moves w depth edges there v) where
  pub stage_more : (e : ℕ) → IsNext there v e
      → IsStage triples moves w (depth + 1) (edges ++ e ∷ []) (flipped there (pos e))
      (vector_after (flip_of there (pos e)) v)
  stage_more e more = record {
    times = h.times;
    last = h.last;
    flips = subst (λ (n : ℕ). AreGreatestFlips triples (image_number triples moves w h.times) n (edges ++ e ∷ [])
        (flipped there (pos e)) (vector_after (flip_of there (pos e)) v)) (sym (add-one depth))
        (flip_more _ _ _ _ _ _ e h.flips more);
  }

  pub stage_no_more : HasNoNext there v → IsStage triples moves w (depth + 1) edges there v
  stage_no_more none = record {
    times = h.times;
    last = h.last;
    flips = subst (λ (n : ℕ). AreGreatestFlips triples (image_number triples moves w h.times) n edges there v)
        (sym (add-one depth)) (flip_no_more _ _ _ _ _ _ h.flips none);
  }
