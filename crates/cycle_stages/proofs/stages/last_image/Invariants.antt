use Rattle.cycle_stages.proofs.LastImages.{IsSmallImage}
use Rattle.cycle_stages.proofs.stages.last_image.Given as goal

abbrev pub invariant-loop : goal.invariant-loop
invariant-loop l = IsSmallImage l.atlas l.word l.w l.counter l.image
