-- How often a closed legal walk passes each branch is one number: the passes are turned where the walk is.
use Rattle.std.proofs.Common.{ℤ, List, sym, ◌∙◌, refl}
use Rattle.ideal_tri.specs.Words.{IsRotation}
use Rattle.ideal_tri.specs.WordLaws.{RotationLaws}
use Rattle.carry_map.specs.Iterates.{passed}
use Rattle.carry_map.specs.IterateLaws.{LoopLaws}
use Rattle.carry_map.proofs.PassFacts.{PassFacts}
use Rattle.carry_map.proofs.PassCounts.{passed-rotation}

pub loop_counts : RotationLaws → (triples : List (List ℤ)) (left_out : List ℤ) (branches : List (List ℤ))
    → PassFacts triples left_out branches → LoopLaws triples left_out branches
loop_counts rotations triples left_out branches facts = record {
  exists = facts.loop_exists;
  counted = λ w h.
      (let (turned, rotation, passes, round) = facts.begun w h in (
        passed passes,
        record {
          turned = turned;
          rotation = rotation;
          passes = passes;
          round = round;
          counts = λ i within. refl;
        },
      ));
  only = λ w y y' h c d i within.
      (let between : IsRotation c.turned d.turned =
      rotations.along c.turned w d.turned (rotations.back w c.turned c.rotation) d.rotation in
      c.counts i within
      ∙ passed-rotation c.passes d.passes i
      (facts.turned c.turned d.turned c.passes d.passes (facts.loop_rotation w c.turned c.rotation h) between c.round
      d.round)
      ∙ sym (d.counts i within));
}
