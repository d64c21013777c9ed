use Rattle.std.proofs.Common.{take}
use Rattle.ideal_tri.proofs.WrittenImages.{AreWritten}
use Rattle.ideal_tri.proofs.images.inverse_images.Given as goal

abbrev pub invariant-loop-n : goal.invariant-loop-n
invariant-loop-n l = AreWritten (take l.edges l.images) l.inverse l.n
