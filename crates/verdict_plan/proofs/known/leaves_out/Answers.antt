use Rattle.std.proofs.lemmas.Bool.Decides.{Decides-int_eq}
use Rattle.std.proofs.lemmas.Slice.Eq.{slice_eq-Decides}
use Rattle.verdict_plan.proofs.known.leaves_out.Goals as goal

pub returns : goal.returns
returns c = rw (← c.as_slice.ensures.value) (slice_eq-Decides Decides-int_eq _ _ _ c.eq.ensures)
